-- A call made in place, on a segment and queues that are held apart: the laws that `admit`, `begin`, `probe`, `step` and `playing::calls` go by.
-- Assumes nothing.
use Prim.Native.Nat.{ℕ, ◌+◌, ◌-◌, ◌≤◌, ◌<◌}
use mathlib.Core.Path.{◌≡◌, refl, sym, ap, ap₂, ◌∙◌, subst}
use mathlib.Core.Bool.{Bool, true, false, ◌&&◌, cond}
use mathlib.Core.List.{List}
use native.Mathlib.Omega.{arith}
use lib.Dec.{ltb, eqb}
use lib.ListN.{length, get_or, set, replicate}
use borrow.Author.Tests.{eqb-true}
use Rattle.std.specs.Prelude.{Result, Ok, Err}
use mathlib.Core.Bool.{true≢false}
use denote.Enum.Bare as Bare
use Rattle.bus.specs.contracts.Event as event
use Rattle.rules.specs.Lists.{keep}
use Rattle.rules.specs.Bus.{Bus, last_slot, most_stations}
use Rattle.rules.specs.Standing.{Standing}
use Rattle.rules.specs.Admission as Rules
use Rattle.rules.specs.Admission.{admission_refusal, turned_after}
use Rattle.rules.specs.Begin.{begin, drops_of}
use Rattle.rules.specs.Refusals.{number_of}
use Rattle.rules.specs.declared.Refusal.{Refusal}
use Rattle.rules.specs.declared.Refusal.TheVariants.{Discipline, ParameterSpace, AddressSpace, LaxityStep, StationCount, AddressRange, AddressTaken, CapabilityRange, CapabilityTaken, NoStation, ValueRange, LengthRange, Late, Filled, AllNumbered, ClockEnd, CutShort, UnknownKind, OutOfPlace, TimeBefore, TooLong, UnderWay, NoneUnderWay}
use Rattle.rules.specs.Probe.{probe, refused_answer}
use Rattle.rules.specs.Step.{opened}
use Rattle.rules.specs.Engine as Engine
use Rattle.rules.specs.Engine.{machine, Call, next}
use Rattle.rules.proofs.Keeps.{begin_stands}
use Rattle.rules.proofs.Laws.{clash, true-and}
use Rattle.rules.proofs.Tests as Tests
use Rattle.rules.proofs.Standing.{stands_exactly}
use Rattle.window.specs.declared.Side.{Side}
use Rattle.window.specs.declared.Side.TheVariants.{Left, Right}
use Rattle.rules.specs.SetUp.{discipline_of}
use Rattle.bus.specs.Types.{Address, Settings, Segment, Queues, State, Arrival}
use Rattle.word.specs.Word.{count_of}
use Rattle.state.specs.State.{Held, meaning, form, queue_at, standing}
use Rattle.bus.specs.Coded.{Answer, Event, Idle, Collision, Success, succeeded, Stepped, Admission, arrival_of, coded_admit, coded_step, coded, admission_result, step_result, state_turned}
use Rattle.bus.specs.Stretch.{Arrivals, Report, no_arrival, most_calls, no_report, asks, due, arrival_report, step_report, in_row, may_be_more}
use Rattle.bus.specs.Parts.{refusal_at, asked_if, Moved, transmitters_in, moved_by, with_moved, queue_form, stays, Sent, Progress, progress_of, unheard_on, won_on, collided_on, Sole, sole_of, heard_in}
use Rattle.state.proofs.Form.{form_meaning, standing_fits, held_form, parts_padded}
use Rattle.state.proofs.Stands.{form_stands}
use Rattle.bus.proofs.Coded.{coded_next, next_stands}
use Rattle.state.proofs.Stands.{Lent, lent_held}
use Rattle.bus.proofs.Admitting.{refusal_is, refused_in, gives_1, gives_refusal, joined_at, within_row, room_at, joined_in_place, address_place}
use Rattle.bus.proofs.SingleCalls.{next_same}
use Rattle.bus.proofs.Steps as Steps
use Rattle.bus.proofs.Steps.{gives_17, goes_on, begins, probes}
use Rattle.bus.specs.Parts.{stepped, open_of}
use Rattle.bus.proofs.ClosingUp.{LeftIn}
use Rattle.bus.proofs.BeginningLaws.{in_time_at, begun_is}
use Rattle.bus.proofs.ProbedSlot.{Probed, probed, queues_after, slot_with, winner_there, probed_is}
use Rattle.bus.proofs.HeardLaws.{answer_moved, segment_moved, winner_moved, sole_short, sole_counted}
use Rattle.bus.proofs.Stretched.{So-far, at_first, row_due, took, stepped_on}
use Rattle.bus.specs.Parts.{with_queue, begun_with}

-- the state of these parts
abbrev pub whole : Segment → Queues → State
whole g queues = record { segment = g; queues = queues }

-- ---- a state that stands stands after each call

pub lent_form : (b : Bus) → Standing b → Lent (form b)
lent_form b h = lent_held (form b) (held_form b) (form_stands b h)

-- the test that refusal 1 goes by is passed
pub passed : (s : State) → Lent s → standing s ≡ true
passed s r = true-and (parts_padded s r.zeros) (Tests.told (stands_exactly (meaning s)) r.stands)

lent_next : (s : State) → Lent s → (c : Call) → Lent (next coded s c)
lent_next s r c =
    let b = meaning s in
    let next! : next coded s c ≡ form (next machine b c) =
    ap (λ t. next coded t c) (sym (form_meaning s r.held (parts_padded s r.zeros))) ∙ coded_next b (standing_fits b r.stands) c in
    let held = subst Held (sym next!) (held_form (next machine b c)) in
    lent_held (next coded s c) held (next_stands s c (passed s r))

-- ---- a call on a state that stands, or does not

-- what is known of a state that a call is lent, by whether it stands
abbrev pub Sound : Bool → State → Type 0
Sound true s = Lent s
Sound false s = Held s × (standing s ≡ false)

pub sound_of : (s : State) (t : Bool) → Held s → (standing s ≡ true → Lent s) → t ≡ standing s → Sound t s
sound_of s true held lent e = lent (sym e)
sound_of s false held lent e = (held, sym e)

pub sound_next : (t : Bool) (s : State) → Sound t s → (c : Call) → Sound t (next coded s c)
sound_next true s r c = lent_next s r c
sound_next false s r c = subst (Sound false) (sym (next_same s r.0 r.1 c)) r

pub held_of : (t : Bool) (s : State) → Sound t s → Held s
held_of true s r = r.held
held_of false s r = r.0

pub told_of : (t : Bool) (s : State) → Sound t s → t ≡ standing s
told_of true s r = sym (passed s r)
told_of false s r = sym r.1

-- each refusal has a number
pub numbered : (r : Refusal) → ¬ (number_of r ≡ 0)
numbered Refusal.Standing z = omega arith
numbered Discipline z = omega arith
numbered ParameterSpace z = omega arith
numbered AddressSpace z = omega arith
numbered LaxityStep z = omega arith
numbered StationCount z = omega arith
numbered AddressRange z = omega arith
numbered AddressTaken z = omega arith
numbered CapabilityRange z = omega arith
numbered CapabilityTaken z = omega arith
numbered NoStation z = omega arith
numbered ValueRange z = omega arith
numbered LengthRange z = omega arith
numbered Late z = omega arith
numbered Filled z = omega arith
numbered AllNumbered z = omega arith
numbered ClockEnd z = omega arith
numbered CutShort z = omega arith
numbered UnknownKind z = omega arith
numbered OutOfPlace z = omega arith
numbered TimeBefore z = omega arith
numbered TooLong z = omega arith
numbered UnderWay z = omega arith
numbered NoneUnderWay z = omega arith

-- ---- an answer that is one or the other

abbrev err_or : Result (ℕ × ℕ) ℕ → ℕ → ℕ
err_or (Ok o) n = n
err_or (Err m) n = m

abbrev ok_or : Result (ℕ × ℕ) ℕ → ℕ × ℕ → ℕ × ℕ
ok_or (Ok p) o = p
ok_or (Err m) o = o

err≢ok : {n : ℕ} {o : ℕ × ℕ} → ◌≡◌ {A = Result (ℕ × ℕ) ℕ} (Err n) (Ok o) → ⊥
err≢ok e = cc

err_same : {n m : ℕ} → ◌≡◌ {A = Result (ℕ × ℕ) ℕ} (Err n) (Err m) → n ≡ m
err_same {n} e = ap (λ (x : Result (ℕ × ℕ) ℕ). err_or x n) e

ok_same : {o p : ℕ × ℕ} → ◌≡◌ {A = Result (ℕ × ℕ) ℕ} (Ok o) (Ok p) → o ≡ p
ok_same {o} e = ap (λ (x : Result (ℕ × ℕ) ℕ). ok_or x o) e

-- ---- an admission in place

module _ (s : State) (address : Address) (value len : ℕ) where
  abbrev arrival : Rules.Arrival
  arrival = arrival_of address value len

  -- what is answered, by whether the state stands
  abbrev pub asked_of : Bool → Result (ℕ × ℕ) ℕ
  asked_of t = asked_if t s.segment.settings s.segment.listed s.segment.clock s.segment.admitted s.queues.lengths address value len

  module _ (r : Lent s) where
    abbrev refusal : ℕ
    refusal =
        refusal_at s.segment.settings s.segment.clock s.segment.admitted s.queues.lengths (address_place s address) value len

    of_rules : refusal ≡ admission_refusal (meaning s) arrival
    of_rules = refusal_is s r (address_place s address) address refl value len

  -- the call is refused
  pub asked_away :
      (t : Bool) → Sound t s → (n : ℕ) → Err n ≡ asked_of t → (count : ℕ) → count ≡ turned_after n s.segment.turned
      → ◌≡◌ {A = Admission} (record { answer = record { refusal = n; number = 0 }; state = state_turned s count })
      (admission_result (coded_admit s arrival))
  asked_away t r n e count k =
      ap (λ (m : ℕ). record { answer = record { refusal = n; number = 0 }; state = state_turned s m }) k ∙ go t r e
    where
      tested :
          (r : Lent s) (u : Bool) → eqb (refusal r) 0 ≡ u
          → ◌≡◌ {A = Result (ℕ × ℕ) ℕ} (Err n) (cond u (Ok (address_place s address, s.segment.admitted + 1)) (Err (refusal r)))
          → (n ≡ refusal r) × (¬ (refusal r ≡ 0))
      tested r true u e = absurd (err≢ok e)
      tested r false u e = (err_same e, λ z. true≢false (sym (ap (λ (k : ℕ). eqb k 0) z) ∙ u))

      go :
          (t : Bool) → Sound t s → Err n ≡ asked_of t
          → ◌≡◌ {A = Admission} (record { answer = record { refusal = n; number = 0 }; state = (refused_in s n).state })
          (admission_result (coded_admit s arrival))
      go true r e =
          let h = tested r (eqb (refusal r) 0) refl e in
          ap (λ (m : ℕ). record { answer = record { refusal = m; number = 0 }; state = (refused_in s m).state }) h.0
          ∙ gives_refusal s r arrival (refusal r) (of_rules r) h.1
      go false r e =
          ap (λ (m : ℕ). record { answer = record { refusal = m; number = 0 }; state = (refused_in s m).state }) (err_same e)
          ∙ gives_1 s r.0 arrival r.1

  -- or the packet has its place
  pub record Taken (o : ℕ × ℕ) : Type 0 where
    pub within_row : o.0 < 64
    pub room : get_or s.queues.lengths o.0 0 < 16
    pub is :
        ◌≡◌ {A = Admission} (record { answer = record { refusal = 0; number = o.1 }; state = joined_at s o.0 o.1 value len })
        (admission_result (coded_admit s arrival))

  taken_at : (r : Lent s) → refusal r ≡ 0 → Taken (address_place s address, s.segment.admitted + 1)
  taken_at r z =
      let none! : admission_refusal (meaning s) arrival ≡ 0 = sym (of_rules r) ∙ z in
      let place = address_place s address in
      record {
        within_row = within_row s r place address refl value len none!;
        room = room_at s r place address refl value len none!;
        is = joined_in_place s r place address refl value len none! (s.segment.admitted + 1) refl;
      }

  pub asked_in : (t : Bool) → Sound t s → (o : ℕ × ℕ) → Ok o ≡ asked_of t → Taken o
  asked_in true r o e = go (eqb (refusal r) 0) refl e
    where
      go :
          (u : Bool) → eqb (refusal r) 0 ≡ u
          → ◌≡◌ {A = Result (ℕ × ℕ) ℕ} (Ok o) (cond u (Ok (address_place s address, s.segment.admitted + 1)) (Err (refusal r))) → Taken o
      go true u e = subst Taken (sym (ok_same e)) (taken_at r (eqb-true (refusal r) 0 u))
      go false u e = absurd (err≢ok (sym e))
  asked_in false r o e = absurd (err≢ok (sym e))

-- ---- a step is refused, or is not

-- 'a step tries 1, then 17', by whether the state stands
abbrev pub step_refused : Bool → State → ℕ
step_refused t s = cond t (cond (ltb last_slot s.segment.clock.0) 17 0) 1

pub step_away :
    (t : Bool) (s : State) → Sound t s → (refusal : ℕ) → refusal ≡ step_refused t s → ¬ (refusal ≡ 0)
    → step_result (refused_answer refusal, s) ≡ step_result (coded_step s)
step_away true s r refusal e n = go (ltb last_slot s.segment.clock.0) refl
  where
    go : (u : Bool) → ltb last_slot s.segment.clock.0 ≡ u → step_result (refused_answer refusal, s) ≡ step_result (coded_step s)
    go true f = ap (λ (k : ℕ). step_result (refused_answer k, s)) (e ∙ ap (λ (u : Bool). cond u 17 0) f) ∙ gives_17 s r f
    go false f = absurd (n (e ∙ ap (λ (u : Bool). cond u 17 0) f))
step_away false s r refusal e n = ap (λ (k : ℕ). step_result (refused_answer k, s)) e ∙ Steps.gives_1 s r.0 r.1

pub step_on :
    (t : Bool) (s : State) → Sound t s → (refusal : ℕ) → refusal ≡ step_refused t s → refusal ≡ 0
    → (Lent s) × (ltb last_slot s.segment.clock.0 ≡ false)
step_on true s r refusal e z = (r, go (ltb last_slot s.segment.clock.0) refl)
  where
    go : (u : Bool) → ltb last_slot s.segment.clock.0 ≡ u → ltb last_slot s.segment.clock.0 ≡ false
    go true f = let given = sym (e ∙ ap (λ (u : Bool). cond u 17 0) f) ∙ z in absurd (omega arith)
    go false f = f
step_on false s r refusal e z = absurd (omega arith)

-- ---- the contention is under way, or has just begun

-- a step from s probes x, where so many packets have been dropped
pub record Begun (s x : State) (drops : ℕ) : Type 0 where
  pub is : opened (meaning s) ≡ open_of x drops
  pub ready : Lent x
  pub begun : x.segment.contention.begun ≡ true
  pub clock : x.segment.clock ≡ s.segment.clock

pub had_begun : (s : State) → Lent s → s.segment.contention.begun ≡ true → Begun s s 0
had_begun s r e = record { is = goes_on s e; ready = r; begun = e; clock = refl }

pub just_begun : (s : State) → Lent s → s.segment.contention.begun ≡ false → Begun s (form (begin (meaning s))) (drops_of (meaning s))
just_begun s r e =
    record {
      is = begins s r e;
      ready = lent_form (begin (meaning s)) (begin_stands (meaning s) r.stands);
      begun = refl;
      clock = refl;
    }

-- the same, of equal things
pub begun_as : {s x x' : State} {drops drops' : ℕ} → x' ≡ x → drops' ≡ drops → Begun s x drops → Begun s x' drops'
begun_as {s} {x} {x'} {drops} a b o = subst (Begun s x') (sym b) (subst (λ (y : State). Begun s y drops) (sym a) o)

-- the same of its parts, which have their settings and stations as they were
pub record Opened (s : State) (g : Segment) (queues : Queues) (drops : ℕ) : Type 0 where
  pub is : opened (meaning s) ≡ open_of (whole g queues) drops
  pub ready : Lent (whole g queues)
  pub begun : g.contention.begun ≡ true
  pub clock : g.clock ≡ s.segment.clock
  pub settings : g.settings ≡ s.segment.settings
  pub listed : g.listed ≡ s.segment.listed

-- a contention begun in place, where late packets have left the queues, is the one that a step probes
module _ (s : State) (r : Lent s) (between : s.segment.contention.begun ≡ false) (rest : Queues)
    (kept : LeftIn (in_time_at s) s.queues 0 s.segment.settings.n rest) (ls : length rest.lengths ≡ 64) (ps : length rest.packets ≡ 1024) where
  pub begun_open :
      (drops : ℕ) → drops ≡ drops_of (meaning s) → (g : Segment) → g ≡ begun_with s.segment rest drops → Opened s g rest drops
  begun_open drops e g f =
      let b = begun_as (ap (λ (x : Segment). whole x rest) f ∙ begun_is s r rest kept drops e ls ps) e (just_begun s r between) in
      record {
        is = b.is;
        ready = b.ready;
        begun = b.begun;
        clock = b.clock;
        settings = ap (λ (x : Segment). x.settings) f;
        listed = ap (λ (x : Segment). x.listed) f;
      }

-- ---- a probe in place

-- a contention that goes on has no winner
module _ (g : Settings) (pr : Progress) (drops count : ℕ) (sole : Sole) where
  abbrev by : Bool → Bool → Side → Moved
  by none one side =
      cond
      none
      (unheard_on pr drops side)
      (cond one (won_on (discipline_of g.discipline) pr drops sole.listed sole.packet) (collided_on g.a pr drops))

  unended_by : (none one : Bool) (side : Side) → (by none one side).answer.ended ≡ false → (by none one side).answer.event ≡ Success → ⊥
  unended_by true one Left f k = clash (ap succeeded k) refl
  unended_by true one Right f k = clash refl f
  unended_by false true side f k = clash refl f
  unended_by false false side f k = clash (ap succeeded k) refl

  pub unended :
      (m : Moved) → m ≡ moved_by g pr drops count sole.listed sole.packet → m.answer.ended ≡ false → ¬ (m.answer.event ≡ Success)
  unended m e f k =
      unended_by (eqb count 0) (eqb count 1) pr.contention.window.side
      (sym (ap (λ (o : Moved). o.answer.ended) e) ∙ f)
      (sym (ap (λ (o : Moved). o.answer.event) e) ∙ k)

-- as the code compares it
same_success : (e : Event) → Bare.sameb event.the_type e Success ≡ succeeded e
same_success Idle = refl
same_success Collision = refl
same_success Success = refl

success_only : (e : Event) → succeeded e ≡ true → e ≡ Success
success_only Idle yes! = clash yes! refl
success_only Collision yes! = clash yes! refl
success_only Success yes! = refl

module _ (e : Event) {t : Bool} where
  pub is_success : t ≡ Bare.sameb event.the_type e Success → t ≡ true → e ≡ Success
  is_success f yes! = success_only e (sym (same_success e) ∙ sym f ∙ yes!)

  pub none_success : t ≡ Bare.sameb event.the_type e Success → t ≡ false → ¬ (e ≡ Success)
  none_success f no! k = clash (ap succeeded k) (sym (same_success e) ∙ sym f ∙ no!)

not_succeeded : (e : Event) → ¬ (e ≡ Success) → succeeded e ≡ false
not_succeeded Idle n = refl
not_succeeded Collision n = refl
not_succeeded Success n = absurd (n refl)

-- what has been moved, and the segment and the queues after it
module _ (g : Segment) (m : Moved) where
  abbrev after : Queues → Stepped
  after rest = record { answer = m.answer; state = whole (with_moved g m) rest }

-- it is what the machine's probe makes of the bus
module _ (g : Segment) (queues : Queues) (drops : ℕ) (ready : Lent (whole g queues)) (begun : g.contention.begun ≡ true) (sole : Sole)
    (h : sole ≡ sole_of g (heard_in g)) (m : Moved)
    (e : m ≡ moved_by g.settings (progress_of g) drops (count_of (transmitters_in g)) sole.listed sole.packet) where
  whole_moved : m ≡ moved_by g.settings (progress_of g) drops (count_of (transmitters_in g)) (sole_of g (heard_in g)).listed (sole_of g (heard_in g)).packet
  whole_moved = e ∙ ap (λ (x : Sole). moved_by g.settings (progress_of g) drops (count_of (transmitters_in g)) x.listed x.packet) h

  abbrev p : Probed
  p = probed g drops

  answer! : m.answer ≡ p.answer
  answer! = ap (λ (o : Moved). o.answer) whole_moved ∙ sym (answer_moved g drops)

  segment! : with_moved g m ≡ p.segment
  segment! = ap (with_moved g) whole_moved ∙ sym (segment_moved g drops)

  -- the queues by whether a packet was sent
  after_is :
      (sent : Bool) → succeeded p.answer.event ≡ sent → (rest : Queues) → rest ≡ cond sent (queues_after (whole g queues) p) queues
      → after g m rest ≡ stepped (probe (open_of (whole g queues) drops))
  after_is sent f rest k =
      ap₂ (λ (answer : Answer) (q : Queues). record { answer = answer; state = whole (with_moved g m) q }) answer! k
      ∙ ap (λ (x : Segment). record { answer = p.answer; state = whole x (cond sent (queues_after (whole g queues) p) queues) }) segment!
      ∙ ap (λ (t : Bool). slot_with p (cond t (queues_after (whole g queues) p) queues)) (sym f)
      ∙ probed_is (whole g queues) ready begun drops p refl

  -- no packet was sent
  pub probed_unsent : ¬ (m.answer.event ≡ Success) → after g m queues ≡ stepped (probe (open_of (whole g queues) drops))
  probed_unsent n =
      after_is false (not_succeeded p.answer.event (λ k. n (ap (λ (x : Answer). x.event) answer! ∙ k))) queues refl

  -- the winner is a station
  winner! : m.answer.event ≡ Success → sole.place ≡ p.winner
  winner! k = ap (λ (x : Sole). x.place) h ∙ sym (winner_moved g drops (ap (λ (x : Moved). x.answer.event) (sym whole_moved) ∙ k))

  pub winner_placed : m.answer.event ≡ Success → sole.place < most_stations
  winner_placed k = omega (arith, winner! k, winner_there (whole g queues) ready drops p refl)

  -- the winner's packet leaves its queue
  pub probed_sent :
      m.answer.event ≡ Success → (rest : Queues)
      → rest ≡ with_queue queues sole.place (queue_form (keep (stays (Sent m.answer.number)) (queue_at queues sole.place)))
      → after g m rest ≡ stepped (probe (open_of (whole g queues) drops))
  probed_sent k rest f =
      after_is true
      (ap succeeded (sym (ap (λ (x : Answer). x.event) answer!) ∙ k))
      rest
      (f
      ∙ ap₂
      (λ (i : ℕ) (number : ℕ). with_queue queues i (queue_form (keep (stays (Sent number)) (queue_at queues i))))
      (winner! k)
      (ap (λ (x : Answer). x.number) answer!))

-- what is moved, by the sole winner as the code finds it
module _ (s : State) (r : Lent s) (begun : s.segment.contention.begun ≡ true) where
  -- `moved` may be called
  pub may_move :
      (sole : Sole) → sole ≡ sole_of s.segment (heard_in s.segment) → (count : ℕ) → count ≡ count_of (transmitters_in s.segment)
      → (s.segment.clock.0 ≤ 1073741824) × ((sole.packet.length ≤ 4096) × (count ≡ 1 → s.segment.sent < 4294967295))
  may_move sole sole! count count! = (
    r.stands.clock_in,
    (omega (arith, ap (λ (x : Sole). x.packet.length) sole!, sole_short s r begun), λ one. sole_counted s r begun (sym count! ∙ one)),
  )

-- ---- what a stretch has come to, in place

pub record Going (stands : Bool) (s : State) (x : Arrivals) (steps : ℕ) (g : Segment) (queues : Queues) (reports : List Report) (made taken left : ℕ) : Type 0 where
  pub so_far : So-far s (in_row x) (may_be_more x) steps (whole g queues) reports made taken left
  pub sound : Sound stands (whole g queues)
  pub few : made ≤ 512
  pub here : taken ≤ length (in_row x)

pub at_outset : (stands : Bool) (s : State) (x : Arrivals) (steps : ℕ) → Sound stands s → Going stands s x steps s.segment s.queues (replicate most_calls no_report) 0 0 steps
at_outset stands s x steps r =
    record { so_far = at_first s (in_row x) (may_be_more x) steps; sound = r; few = omega arith; here = omega arith }

module _ (stands : Bool) (x : Arrivals) (places : length x.row ≡ 64) (s : State) (steps : ℕ) (g : Segment) (queues : Queues) (reports : List Report) (made taken left : ℕ)
    (y : Going stands s x steps g queues reports made taken left) (m : made < 512) (t : taken < 64) (l : 0 < left) where
  abbrev coming : Arrival
  coming = get_or x.row taken no_arrival

  pub with_one_arrival :
      (ltb taken x.length && due g.clock.0 coming) ≡ true → (admission : Admission)
      → admission ≡ admission_result (coded_admit (whole g queues) (asks coming)) → (r : Report)
      → r ≡ arrival_report (whole g queues) coming admission.answer
      → Going stands s x steps admission.state.segment admission.state.queues (set reports made r) (made + 1) (taken + 1) left
  with_one_arrival e admission f r h =
      record {
        so_far = took x places s steps (whole g queues) reports made taken left y.so_far m t l e admission f r h;
        sound = subst (λ (o : Admission). Sound stands o.state) (sym f) (sound_next stands (whole g queues) y.sound (Engine.admission (asks coming)));
        few = omega arith;
        here = omega (arith, row_due x places taken (due g.clock.0 coming) t e);
      }

  pub with_step :
      (ltb taken x.length && due g.clock.0 coming) ≡ false → (o : Stepped) → o ≡ step_result (coded_step (whole g queues)) → (r : Report)
      → r ≡ step_report (whole g queues) o.answer
      → Going stands s x steps o.state.segment o.state.queues (set reports made r) (made + 1) taken (left - 1)
  with_step e o f r h =
      record {
        so_far = stepped_on x places s steps (whole g queues) reports made taken left y.so_far m t l e o f r h;
        sound = subst (λ (u : Stepped). Sound stands u.state) (sym f) (sound_next stands (whole g queues) y.sound Engine.one-step);
        few = omega arith;
        here = y.here;
      }
