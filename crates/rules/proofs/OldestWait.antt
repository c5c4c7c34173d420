-- How old a circuit's packet can be when it wins, the oldest of its queue or a later one: from demand 3, and from the waits that replies tell.
-- Assumes nothing.
use Prim.Native.Nat.{ℕ, ◌+◌, ◌≤◌}
use mathlib.Core.Path.{◌≡◌, refl, sym, ap, ◌∙◌, subst}
use mathlib.Core.Logic.{◌⊎◌, inl, inr}
use mathlib.Core.Bool.{Bool, true, false, cond}
use mathlib.Core.List.{List, [], ◌∷◌}
use native.Mathlib.Omega.{arith}
use borrow.Author.Tests.{eqb-true, ne_eqb}
use Rattle.rules.specs.Lists.{total, Among, at_head}
use Rattle.rules.specs.Bus.{Packet, Station, Bus, nothing}
use Rattle.rules.specs.SetUp.{Request, set_up}
use Rattle.rules.specs.Standing.{Standing}
use Rattle.rules.specs.Admission.{with_packet, turned_away}
use Rattle.rules.specs.Begin.{begin}
use Rattle.rules.specs.Probe.{Answer, refused_answer, Contender, Open, transmitters, success, heard, probe}
use Rattle.rules.specs.Step.{opened, step_refusal}
use Rattle.rules.specs.Engine.{Engine, machine, Call, next, replies, reach, probe_in, answers}
use Rattle.rules.specs.Demands.{Demand2, slots_of, slots_in, adds_admitted, slots_before, sends, up_to, WaitOfTheOldest, WaitsInTurn, WaitInTurn}
use Rattle.rules.proofs.Laws.{clash, and-true, among_cases, among_none, among_right}
use Rattle.rules.proofs.Reach.{outcome, standing_reached, demand2_machine, answers_agree}
use Rattle.rules.proofs.Counts.{step_rise, call_rise, counts_are_true}
use Rattle.rules.proofs.Numbering.{numbers_are_answers}
use Rattle.rules.proofs.Least.{silent_idle}
use Rattle.rules.proofs.Waits.{Held, counted_in, above_admitted, held_next, reached_since, success_names}
use Rattle.rules.proofs.Demand3.{sooner_in_turn}

-- a probe in which a packet was sent took the packet's slots
sent_slots : (o : Open) → (probe o).0.event ≡ success → slots_of (probe o).0 ≡ (probe o).0.length
sent_slots o = told (transmitters o.bus o.contention)
  where
    told : (ts : List Contender) → (heard o ts).0.event ≡ success → slots_of (heard o ts).0 ≡ (heard o ts).0.length
    told [] won = let i = silent_idle o o.contention.window.side in absurd (omega arith)
    told (x ∷ []) won = refl
    told (x ∷ y ∷ more) won = absurd (omega arith)

module _ (s : Station) (p : Packet) where
  -- the number of p has been given, and who waits with it was admitted when p was
  record Known (b : Bus) : Type 0 where
    given : p.number ≤ b.admitted
    alike : (q : Packet) → Held q b.stations → q.number ≡ p.number → q.admission.0 ≡ p.admission.0

  known_next : (b : Bus) (c : Call) → Known b → Known (next machine b c)
  known_next b c k =
      record {
        given = omega (arith, k.given, (call_rise b c).in_admitted);
        alike = λ q h e.
            elim (held_next b c [] h) [
              | inl old ↦ k.alike q old e
              | inr new ↦ let later = above_admitted b (c ∷ []) new.0 in let was = k.given in absurd (omega arith)
            ];
      }

  -- the answer that p was sent, this many slots after a clock, its own slots among them
  record Ended (clock slots : ℕ) (a : Answer) : Type 0 where
    waited : a.slot ≡ p.admission.0 + a.wait
    ended : a.slot + a.length ≡ clock + slots

  sent_now :
      (b : Bus) → Known b → step_refusal b ≡ 0 → sends s p (probe (opened b)).0 ≡ true
      → Ended b.clock (slots_of (probe (opened b)).0 + 0) (probe (opened b)).0
  sent_now b k ok says =
      let parts = and-true _ _ says in
      let won = eqb-true _ _ (and-true _ _ parts.0).0 in
      let h = success_names b ok won in
      let since = k.alike h.packet h.waits (sym h.number ∙ eqb-true _ _ parts.1) in
      record { waited = omega (arith, h.wait, since); ended = omega (arith, h.slot, sent_slots (opened b) won) }

  -- an answer, and those after it
  ended_after :
      (clock clock' : ℕ) (x : Answer) (said : List Answer) → clock' ≡ clock + slots_of x → (sends s p x ≡ true → Ended clock (slots_of x + 0) x)
      → (a : Answer) → sends s p a ≡ true → (Among a (up_to (sends s p) said) → Ended clock' (slots_in (up_to (sends s p) said)) a)
      → Among a (up_to (sends s p) (x ∷ said)) → Ended clock (slots_in (up_to (sends s p) (x ∷ said))) a
  ended_after clock clock' x said on now a says later i = go (sends s p x) refl (among_cases i)
    where
      rest : List Answer
      rest = up_to (sends s p) said

      go : (t : Bool) → sends s p x ≡ t → (a ≡ x) ⊎ Among a (cond t [] rest) → Ended clock (slots_in (x ∷ cond t [] rest)) a
      go true e (inl same) = subst (Ended clock (slots_of x + 0)) (sym same) (now e)
      go true e (inr j) = absurd (among_none j)
      go false e (inl same) = clash (ap (sends s p) (sym same) ∙ says) e
      go false e (inr j) = let h = later j in record { waited = h.waited; ended = omega (arith, h.ended) }

  sent_ended :
      (b : Bus) (later : List Call) → Known b → (a : Answer) → sends s p a ≡ true → Among a (up_to (sends s p) (answers machine b later))
      → Ended b.clock (slots_in (up_to (sends s p) (answers machine b later))) a
  sent_ended b [] k a says = λ i. absurd (among_none i)
  sent_ended b (c ∷ later) k a says =
      outcome b
      (λ r b'.
      Known b' → Among a (up_to (sends s p) (probe_in r (answers machine b' later)))
      → Ended b.clock (slots_in (up_to (sends s p) (probe_in r (answers machine b' later)))) a)
      (record {
        refuses = λ n z e k'. sent_ended b later k' a says;
        turns = λ n z e k'. sent_ended (turned_away b) later k' a says;
        admits = λ x z k'. sent_ended (with_packet b x) later k' a says;
        refuses_begin = λ n z k'. sent_ended b later k' a says;
        begins = λ z k'. sent_ended (begin b) later k' a says;
        refuses_probe = λ n z k'.
            let none : slots_of (refused_answer n) ≡ 0 = rw (ne_eqb n 0 z) in
            ended_after b.clock b.clock (refused_answer n) (answers machine b later) (omega arith) (λ e. clash e refl) a says (sent_ended b later k' a says);
        probes_one = λ z k'.
            let on = (step_rise b).in_clock in
            ended_after b.clock (probe (opened b)).1.clock (probe (opened b)).0 (answers machine (probe (opened b)).1 later) (omega arith)
            (sent_now b k z)
            a
            says
            (sent_ended (probe (opened b)).1 later k' a says);
      })
      c
      (known_next b c k)

-- a packet that waits after any calls is known
known_reached : (s : Station) (p : Packet) (r : Request) (calls : List Call) → Held p (reach machine r calls).stations → Known s p (reach machine r calls)
known_reached s p r calls h =
    let since = reached_since r calls h in
    let within = counted_in 1 (total adds_admitted (replies machine (set_up r).1 calls)) (subst (Among p.number) (numbers_are_answers machine demand2_machine r calls) since.0) in
    record {
      given = omega (arith, (counts_are_true machine demand2_machine r calls).admitted);
      alike = λ q i e.
          (reached_since r calls i).1 ∙ ap (λ k. 0 + slots_before k (replies machine (set_up r).1 calls)) e ∙ sym since.1;
    }

-- the wait of a circuit's j-th packet
machine_in_turn : WaitInTurn machine
machine_in_turn r calls later s ahead p h a i says =
    let held : Held p (reach machine r calls).stations = (s, h.listed, rw h.queue (among_right ahead (at_head refl))) in
    let e = sent_ended s p (reach machine r calls) later (known_reached s p r calls held) a says i in
    let slots = (sooner_in_turn machine demand2_machine r calls later s ahead p h).slots in
    let since : p.admission.0 ≤ (reach machine r calls).clock = go held (standing_reached r calls) in
    omega (arith, e.waited, e.ended)
  where
    go : Held p (reach machine r calls).stations → Standing (reach machine r calls) ⊎ (reach machine r calls ≡ nothing) → p.admission.0 ≤ (reach machine r calls).clock
    go k (inl stands) = ((stands.each_station k.0 k.1).packets p k.2).admission
    go k (inr e) = absurd (among_none (subst (λ (b : Bus). Among k.0 b.stations) e k.1))

pub wait_in_turn : (E : Engine) → Demand2 E → WaitInTurn E
wait_in_turn E d r calls later = subst (WaitsInTurn (reach machine r calls)) (sym (answers_agree E d r calls later)) (machine_in_turn r calls later)

-- and of its oldest, which has none ahead
pub wait_of_the_oldest : (E : Engine) → Demand2 E → WaitOfTheOldest E
wait_of_the_oldest E d r calls later s p h a i says = omega (arith, wait_in_turn E d r calls later s [] p h a i says)
