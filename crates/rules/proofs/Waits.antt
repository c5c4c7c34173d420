-- Waits, counted from replies: each packet that waits was admitted at its admission slot, by the admission that answered its number, and a
-- success waited from there to the slot probed. Assumes nothing.
use Prim.Native.Nat.{ℕ, zero, suc, ◌+◌, ◌≤◌, ◌<◌}
use mathlib.Core.Path.{◌≡◌, refl, sym, ◌∙◌, subst, subst₂}
use mathlib.Core.Logic.{◌⊎◌, inl, inr}
use mathlib.Core.Bool.{Bool, true, false, not, cond}
use mathlib.Core.Option.{Option, none, some}
use mathlib.Core.List.{List, [], ◌∷◌, map}
use native.Mathlib.Omega.{arith}
use lib.Dec.{eqb}
use lib.ListN.{take}
use borrow.Author.Tests.{ne_eqb, eq-eqb}
use Rattle.window.specs.declared.Side.{Side}
use Rattle.window.specs.declared.Side.TheVariants.{Left, Right}
use Rattle.rules.specs.Lists.{keep, total, count_up, Among, at_head, in_tail, All, Some}
use Rattle.rules.specs.Bus.{Packet, Station, Contention, Bus, nothing}
use Rattle.rules.specs.SetUp.{Asked, Request, set_up_verdict, fresh_station, fresh_bus, set_up}
use Rattle.rules.specs.Standing.{Standing}
use Rattle.rules.specs.Admission.{Arrival, named, new_packet, queued, joined, with_packet}
use Rattle.rules.specs.Begin.{entered}
use Rattle.rules.specs.Probe.{Contender, Answer, Open, transmitters, success, left, withdrawn, unheard, heard, probe}
use Rattle.rules.specs.Step.{opened_by, opened, step_refusal}
use Rattle.rules.specs.Engine.{Engine, machine, Call, Reply, next, after, replies, reach}
use Rattle.rules.specs.Demands.{Demand2, adds_admitted, numbers_answered, slots_before, Waited, WaitsAreTrue, transmitters_at}
use Rattle.rules.proofs.Laws.{among_append, among_none, map_from, keep_from}
use Rattle.rules.proofs.Keeps.{opened_stands, opened_contention, opened_same, Sender, sender}
use Rattle.rules.proofs.Standing.{step_accepted}
use Rattle.rules.proofs.Reach.{outcome, answer_cases, demand2_machine, replies_agree, answers_agree}
use Rattle.rules.proofs.Counts.{step_rise, fresh_zero, counts_are_true}
use Rattle.rules.proofs.Numbering.{calls_counted}
use Rattle.rules.proofs.Least.{silent_idle}

-- ---- packets that wait

-- p waits in some queue
abbrev pub Held : Packet → List Station → Type 0
Held p stations = Some (λ s. Among p s.queue) stations

-- where each station has no packet but those it had, none waits but those that did
held_from :
    {p : Packet} (f : Station → Station) (stations : List Station) → ((s : Station) → Among p (f s).queue → Among p s.queue)
    → Held p (map f stations) → Held p stations
held_from {p} f stations old h =
    let from = map_from f stations h.1 in
    (from.0, from.1, old from.0 (subst (λ (s : Station). Among p s.queue) from.2 h.2))

-- beginning a contention, and a probe, bring no packet
opened_held : {p : Packet} (b : Bus) (c : Option Contention) → Held p (opened_by b c).bus.stations → Held p b.stations
opened_held b none h = held_from (entered b) b.stations (λ s i. (keep_from _ s.queue i).0) h
opened_held b (some c) h = h

left_held : {p : Packet} (x : Contender) (s : Station) → Among p (left x s).queue → Among p s.queue
left_held {p} x s = go (eqb x.address s.address)
  where
    go : (t : Bool) → Among p (cond t (keep (λ q. not (eqb x.packet.number q.number)) s.queue) s.queue) → Among p s.queue
    go true i = (keep_from _ s.queue i).0
    go false i = i

heard_held : {p : Packet} (o : Open) (xs : List Contender) → Held p (heard o xs).1.stations → Held p o.bus.stations
heard_held {p} o [] h = go o.contention.window.side h
  where
    go : (side : Side) → Held p (unheard o side).1.stations → Held p o.bus.stations
    go Left k = k
    go Right k = held_from withdrawn o.bus.stations (λ s i. i) k
heard_held o (x ∷ []) h = held_from (left x) o.bus.stations (left_held x) h
heard_held o (x ∷ y ∷ more) h = h

-- an admission brings the new packet alone
joined-held : {p : Packet} (b : Bus) (a : Arrival) → Held p (with_packet b a).stations → Held p b.stations ⊎ (p ≡ new_packet b a)
joined-held {p} b a h = let from = map_from (joined b a) b.stations h.1 in
    go from.0 from.1 (named a from.0) (subst (λ (s : Station). Among p s.queue) from.2 h.2)
  where
    there : (s : Station) → Among s b.stations → Among p s.queue ⊎ Among p (new_packet b a ∷ []) → Held p b.stations ⊎ (p ≡ new_packet b a)
    there s i (inl old) = inl (s, i, old)
    there s i (inr (at_head e)) = inr e
    there s i (inr (in_tail none_left)) = absurd (among_none none_left)

    go :
        (s : Station) → Among s b.stations → (t : Bool) → Among p (cond t (queued (new_packet b a) s) s).queue
        → Held p b.stations ⊎ (p ≡ new_packet b a)
    go s i true j = there s i (among_append s.queue j)
    go s i false j = inl (s, i, j)

-- ---- when a packet was admitted

-- of these replies, to calls from a clock on, one answered the packet's number, and the clock was its admission slot then
abbrev pub Since : ℕ → List Reply → Packet → Type 0
Since clock rs p = Among p.number (numbers_answered rs) × (p.admission.0 ≡ clock + slots_before p.number rs)

-- of m numbers counted from n on each lies there
pub counted_in : {k : ℕ} (n m : ℕ) → Among k (count_up n m) → (n ≤ k) × (k < n + m)
counted_in n zero i = absurd (among_none i)
counted_in n (suc m) (at_head e) = omega arith
counted_in n (suc m) (in_tail i) = let later = counted_in (suc n) m i in omega arith

-- the replies to calls answer numbers above the count of packets admitted before them
pub above_admitted : {k : ℕ} (b : Bus) (calls : List Call) → Among k (numbers_answered (replies machine b calls)) → b.admitted < k
above_admitted {k} b calls i = (counted_in (suc b.admitted) (total adds_admitted (replies machine b calls)) (subst (Among k) (calls_counted b calls) i)).0

-- one call before those replies: a packet admitted later
since_later :
    (p : Packet) (b : Bus) (c : Call) (calls : List Call) → Since (next machine b c).clock (replies machine (next machine b c) calls) p
    → Since b.clock (replies machine b (c ∷ calls)) p
since_later p b c calls =
    outcome b (λ r b'. Since b'.clock (replies machine b' calls) p → Since b.clock (r ∷ replies machine b' calls) p)
    (record {
      refuses = λ n z e. rw (ne_eqb n 0 z) (λ h. h);
      turns = λ n z e. rw (ne_eqb n 0 z) (λ h. h);
      admits = λ a z h.
          let later = above_admitted (with_packet b a) calls h.0 in
          let other = ne_eqb (suc b.admitted) p.number (λ (e : suc b.admitted ≡ p.number). omega arith) in
          (in_tail h.0, rw other h.1);
      refuses_begin = λ n z h. h;
      begins = λ z h. h;
      refuses_probe = λ n z. rw (ne_eqb n 0 z) (λ h. (h.0, omega (arith, h.1)));
      probes_one = λ z h. let on = (step_rise b).in_clock in (h.0, omega (arith, h.1));
    })
    c

-- a packet that waits after one call waited before it, or was admitted by it
pub held_next :
    {p : Packet} (b : Bus) (c : Call) (calls : List Call) → Held p (next machine b c).stations
    → Held p b.stations ⊎ Since b.clock (replies machine b (c ∷ calls)) p
held_next {p} b c calls =
    outcome b (λ r b'. Held p b'.stations → Held p b.stations ⊎ Since b.clock (r ∷ replies machine b' calls) p)
    (record {
      refuses = λ n z e h. inl h;
      turns = λ n z e h. inl h;
      admits = λ a z h.
          elim (joined-held b a h) [
            | inl old ↦ inl old
            | inr new ↦ inr (rw new (rw (eq-eqb (suc b.admitted) (suc b.admitted) refl) (at_head refl, omega arith)))
          ];
      refuses_begin = λ n z h. inl h;
      begins = λ z h. inl (opened_held b none h);
      refuses_probe = λ n z h. inl h;
      probes_one = λ z h. inl (opened_held b b.contention (heard_held (opened b) (transmitters_at b) h));
    })
    c

-- a packet that waits after calls waited before them, or was admitted among them
pub held_since :
    {p : Packet} (b : Bus) (calls : List Call) → Held p (after machine b calls).stations
    → Held p b.stations ⊎ Since b.clock (replies machine b calls) p
held_since b [] h = inl h
held_since {p} b (c ∷ calls) h =
    elim (held_since (next machine b c) calls h) [ inl old ↦ held_next b c calls old | inr later ↦ inr (since_later p b c calls later) ]

-- no packet waits after set-up
fresh_held : {p : Packet} (r : Request) → Held p (set_up r).1.stations → ⊥
fresh_held {p} r h = go (eqb (set_up_verdict r).refusal 0) h
  where
    none_waits : (row : List Asked) → Held p (map fresh_station row) → ⊥
    none_waits row k = let from = map_from fresh_station row k.1 in among_none (subst (λ (s : Station). Among p s.queue) from.2 k.2)

    go : (t : Bool) → Held p (cond t (fresh_bus r) nothing).stations → ⊥
    go true k = none_waits (take r.N r.row) k
    go false k = among_none k.1

-- so each packet that waits was admitted since, at its admission slot
pub reached_since : {p : Packet} (r : Request) (calls : List Call) → Held p (reach machine r calls).stations → Since 0 (replies machine (set_up r).1 calls) p
reached_since {p} r calls h =
    subst (λ n. Since n (replies machine (set_up r).1 calls) p) (fresh_zero (λ (b : Bus). b.clock) r refl)
    (elim (held_since (set_up r).1 calls h) [ inl old ↦ absurd (fresh_held r old) | inr since ↦ since ])

-- ---- the answer to a step

-- a packet waits whose number, wait and slot a success names
pub record Names (b : Bus) (a : Answer) : Type 0 where
  pub packet : Packet
  pub waits : Held packet b.stations
  pub number : a.number ≡ packet.number
  pub slot : a.slot ≡ b.clock
  pub wait : a.slot ≡ packet.admission.0 + a.wait

pub success_names : (b : Bus) → step_refusal b ≡ 0 → (probe (opened b)).0.event ≡ success → Names b (probe (opened b)).0
success_names b ok =
    go (transmitters_at b) (λ x i. sender (opened b).bus (opened b).contention x stands (opened_contention b) i)
  where
    stands : Standing (opened b).bus
    stands = opened_stands b (step_accepted b ok).standing

    clock : (opened b).bus.clock ≡ b.clock
    clock = opened_same (λ (m : Bus). m.clock) b refl

    go : (ts : List Contender) → All (Sender (opened b).bus (opened b).contention) ts → (heard (opened b) ts).0.event ≡ success → Names b (heard (opened b) ts).0
    go [] k s = let i = silent_idle (opened b) (opened b).contention.window.side in absurd (omega arith)
    go (x ∷ []) k s =
        let own = k x (at_head refl) in
        let on_time = ((stands.each_station own.station own.listed).packets x.packet own.queued).admission in
        record {
          packet = x.packet;
          waits = opened_held b b.contention (own.station, own.listed, own.queued);
          number = refl;
          slot = clock;
          wait = omega arith;
        }
    go (x ∷ y ∷ more) k s = absurd (omega arith)

-- and in an answer without success the wait is 0
otherwise_none : (o : Open) → ¬ ((probe o).0.event ≡ success) → (probe o).0.wait ≡ 0
otherwise_none o = told (transmitters o.bus o.contention)
  where
    silent : (side : Side) → (unheard o side).0.wait ≡ 0
    silent Left = refl
    silent Right = refl

    told : (ts : List Contender) → ¬ ((heard o ts).0.event ≡ success) → (heard o ts).0.wait ≡ 0
    told [] n = silent o.contention.window.side
    told (x ∷ []) n = absurd (n refl)
    told (x ∷ y ∷ more) n = refl

-- what the replies since set-up tell of a success
success_waited :
    (r : Request) (calls : List Call) → step_refusal (reach machine r calls) ≡ 0 → (probe (opened (reach machine r calls))).0.event ≡ success
    → Waited (replies machine (set_up r).1 calls) (probe (opened (reach machine r calls))).0
success_waited r calls ok won =
    let h = success_names (reach machine r calls) ok won in
    let since = reached_since r calls h.waits in
    let counted = counts_are_true machine demand2_machine r calls in
    record {
      answered = subst (λ k. Among k (numbers_answered (replies machine (set_up r).1 calls))) (sym h.number) since.0;
      probed = h.slot ∙ counted.clock;
      waited = rw h.number (omega (arith, h.wait, since.1));
    }

pub waits_are_true : (E : Engine) → Demand2 E → WaitsAreTrue E
waits_are_true E d =
    record {
      succeeds = λ r calls c.
          subst₂ (λ (rs : List Reply) (said : List Answer). All (λ a. a.event ≡ success → Waited rs a) said) (sym (replies_agree E d r [] calls))
          (sym (answers_agree E d r calls (c ∷ [])))
          (answer_cases (reach machine r calls) (λ a. a.event ≡ success → Waited (replies machine (set_up r).1 calls) a)
          (λ n z won. absurd (omega arith))
          (success_waited r calls)
          c);
      otherwise = λ r calls c.
          subst (All (λ a. ¬ (a.event ≡ success) → a.wait ≡ 0)) (sym (answers_agree E d r calls (c ∷ [])))
          (answer_cases (reach machine r calls) (λ a. ¬ (a.event ≡ success) → a.wait ≡ 0) (λ n z e. refl)
          (λ z. otherwise_none (opened (reach machine r calls)))
          c);
    }
