-- No step of a run is refused: the clock of an accepted scenario does not come past its last slot. Assumes nothing.
use Prim.Native.Nat.{ℕ, zero, suc, ◌+◌, ◌*◌, ◌≤◌}
use mathlib.Core.Path.{◌≡◌, refl, sym, ap, ap₂, ◌∙◌, subst, subst₂}
use mathlib.Core.Bool.{Bool, true, false, not, cond}
use mathlib.Core.Option.{some}
use mathlib.Core.List.{List, [], ◌∷◌}
use native.Mathlib.Omega.{arith}
use lib.Dec.{eqb}
use borrow.Author.Tests.{le-ltb}
use Rattle.rules.specs.Lists.{first_of, Among, at_head, All}
use Rattle.rules.specs.Bus.{longest_packet, clock_end, last_slot, Contention, Bus}
use Rattle.rules.specs.Standing.{OfferStands, Standing}
use Rattle.rules.specs.declared.Admitted.{Admitted}
use Rattle.rules.specs.SetUp.{Request, set_up}
use Rattle.rules.specs.Admission as Rules
use Rattle.rules.specs.Admission.{admission_refusal, with_packet, handed_back, admit}
use Rattle.rules.specs.Probe.{Contender, Answer, Open, contenders, transmits, transmitters, unheard, heard}
use Rattle.rules.specs.Step.{opened, step_refusal, step}
use Rattle.rules.specs.Engine.{admission}
use Rattle.rules.proofs.Laws.{all_cons, all_nil, keep_from}
use Rattle.rules.proofs.Tests.{told}
use Rattle.rules.proofs.Standing.{stands_exactly, accepted_set_up, step_is}
use Rattle.rules.proofs.TurnedAway.{back_cases}
use Rattle.rules.proofs.Refusals.{probe_number}
use Rattle.rules.proofs.Contenders.{contender_from}
use Rattle.rules.proofs.Keeps.{keeps_standing, opened_stands, opened_contention, opened_same}
use Rattle.rules.proofs.Reach.{next_stands, step_stands}
use Rattle.window.specs.declared.Side.{Side}
use Rattle.window.specs.declared.Side.TheVariants as Is
use Rattle.state.specs.declared.Arrival.{Arrival}
use Rattle.bus.specs.Stretch.{asks, due}
use Rattle.scenario.specs.Reading.{accepted, reading}
use Rattle.scenario.specs.Writing.{Bytes}
use Rattle.scenario.proofs.Sound.{Sound, sound}
use Rattle.scenario.proofs.Written.{accepted_only}
use Rattle.listing.specs.Text.{refusal_text}
use Rattle.listing.specs.Run.{Left, after, admit_due, answers_of}

-- ---- the clock

-- a packet that is sent is no longer than the longest
sent_short :
    (b : Bus) (c : Contention) (x : Contender) → Standing b → b.contention ≡ some c → Among x (transmitters b c)
    → x.packet.length ≤ longest_packet
sent_short b c x h e i =
    let from = contender_from b.stations (keep_from (transmits b c) (contenders b.stations) i).0 in
    let stands = h.each_station from.station from.listed in
    let offer = subst₂ (OfferStands b from.station) e from.offered stands.offered in
    subst (λ (y : Contender). y.packet.length ≤ longest_packet) (sym from.is) (stands.packets from.offer.packet offer.0).most

-- a probe that nobody hears takes a slot
unheard_clock : (o : Open) (side : Side) → (unheard o side).1.clock ≤ o.bus.clock + longest_packet
unheard_clock o Is.Left = omega arith
unheard_clock o Is.Right = omega arith

-- any probe takes as many slots as the longest packet at the most
heard_clock :
    (o : Open) (xs : List Contender) → ((x : Contender) → Among x xs → x.packet.length ≤ longest_packet)
    → (heard o xs).1.clock ≤ o.bus.clock + longest_packet
heard_clock o [] short = unheard_clock o o.contention.window.side
heard_clock o (x ∷ []) short = let h = short x (at_head refl) in omega arith
heard_clock o (x ∷ y ∷ more) short = omega arith

-- an admission takes none
admit_clock : (b : Bus) (a : Rules.Arrival) → (admit b a).1.clock ≡ b.clock
admit_clock b a = go (eqb (admission_refusal b a) 0)
  where
    taken : Admitted × Bus
    taken = (record { refusal = 0; number = suc b.admitted }, with_packet b a)

    refused : Admitted × Bus
    refused = (record { refusal = admission_refusal b a; number = 0 }, handed_back b (admission_refusal b a))

    go : (t : Bool) → (cond t taken refused).1.clock ≡ b.clock
    go true = refl
    go false = back_cases (λ (m : Bus). m.clock ≡ b.clock) b (admission_refusal b a) (λ e. refl) (λ e. refl)

-- ---- steps

-- a step of a bus that stands is accepted, if the clock is not above the last slot
step_fine : (b : Bus) → Standing b → b.clock ≤ last_slot → step_refusal b ≡ 0
step_fine b h t =
    ap₂ (λ s u. first_of 0 ((1, not s) ∷ (17, u) ∷ [])) (told (stands_exactly b) h) (le-ltb last_slot b.clock t)

-- its answer says so
step_answer : (b : Bus) → step_refusal b ≡ 0 → (step b).0.refusal ≡ 0
step_answer b z = ap (λ (o : Answer × Bus). o.0.refusal) (step_is b z) ∙ probe_number (opened b)

-- and the clock moves on by no more than the longest packet
step_clock : (b : Bus) → Standing b → step_refusal b ≡ 0 → (step b).1.clock ≤ b.clock + longest_packet
step_clock b h z =
    let same : o.bus.clock ≡ b.clock = opened_same (λ (m : Bus). m.clock) b refl in
    rw (step_is b z) (omega (arith, heard_clock o (transmitters o.bus o.contention) short, same))
  where
    o : Open
    o = opened b

    short : (x : Contender) → Among x (transmitters o.bus o.contention) → x.packet.length ≤ longest_packet
    short x i = sent_short o.bus o.contention x (opened_stands b h) (opened_contention b) i

-- ---- the run

-- the arrivals that are due leave the bus standing, and its clock as it was
pub due_stands :
    (arrivals : List Arrival) (b : Bus) → Standing b
    → Standing (admit_due b arrivals).bus × ((admit_due b arrivals).bus.clock ≡ b.clock)
due_stands [] b h = (h, refl)
due_stands (a ∷ later) b h =
    let kept = due_stands later (admit b (asks a)).1 (next_stands b h (admission (asks a))) in
    go (due b.clock a) refl (kept.0, kept.1 ∙ admit_clock b (asks a))
  where
    admitted : Left
    admitted = admit_due (admit b (asks a)).1 later

    text : List ℕ
    text = refusal_text b.clock a.address.0 (admit b (asks a)).0.refusal

    waits : Left
    waits = record { text = []; bus = b; arrivals = a ∷ later }

    Kept : Left → Type 0
    Kept x = Standing x.bus × (x.bus.clock ≡ b.clock)

    go : (t : Bool) → due b.clock a ≡ t → Kept admitted → Kept (admit_due b (a ∷ later))
    go true e kept = let same : admit_due b (a ∷ later) ≡ after text admitted = simp e in subst Kept (sym same) kept
    go false e kept = let same : admit_due b (a ∷ later) ≡ waits = simp e in subst Kept (sym same) (h, refl)

-- no step of a run is refused, if the clock has room for its steps
run_fine :
    (steps : ℕ) (b : Bus) (arrivals : List Arrival) → Standing b → b.clock + longest_packet * steps ≤ clock_end
    → All (λ a. a.refusal ≡ 0) (answers_of steps b arrivals)
run_fine zero b arrivals h room = all_nil (λ a. a.refusal ≡ 0)
run_fine (suc steps) b arrivals h room =
    let x = admit_due b arrivals in
    let kept = due_stands arrivals b h in
    let same : x.bus.clock ≡ b.clock = kept.1 in
    let fine = step_fine x.bus kept.0 (omega (arith, same)) in
    let moved = step_clock x.bus kept.0 fine in
    all_cons
    (step x.bus).0
    (step_answer x.bus fine)
    (run_fine steps (step x.bus).1 x.arrivals (step_stands x.bus kept.0) (omega (arith, same, moved)))

-- No step of an accepted scenario's run is refused: 65,535 steps of 4,096 slots do not come to the clock's end.
pub never_refused :
    (input : List ℕ) (r : Request) (arrivals : List Arrival) (steps : ℕ) → reading input ≡ accepted r arrivals steps → steps ≤ 65_535
    → All (λ a. a.refusal ≡ 0) (answers_of steps (set_up r).1 arrivals)
never_refused input r arrivals steps e few =
    let fine : (set_up r).0.refusal ≡ 0 = (subst (Sound input) e (sound input)).0 in
    let start : (set_up r).1.clock ≡ 0 = ap (λ (b : Bus). b.clock) (accepted_set_up r fine) in
    run_fine steps (set_up r).1 arrivals (keeps_standing.set_up_call r fine) (omega (arith, start))

-- And so none is where the input is bytes.
pub never_refused_bytes :
    (input : List ℕ) (r : Request) (arrivals : List Arrival) (steps : ℕ) → reading input ≡ accepted r arrivals steps → Bytes input
    → All (λ a. a.refusal ≡ 0) (answers_of steps (set_up r).1 arrivals)
never_refused_bytes input r arrivals steps e h =
    let good = (accepted_only input r arrivals steps h e).1 in never_refused input r arrivals steps e (omega (arith, good.few))
