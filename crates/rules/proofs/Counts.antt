-- Counted over all answers since set-up, admitted = sent + lost + waiting, and the machine's own counts and clock are those; so is what an engine
-- closes with. Assumes nothing.
use Prim.Native.Nat.{ℕ, suc, ◌+◌, ◌-◌, ◌≤◌}
use mathlib.Core.Path.{◌≡◌, refl, sym, ap, ◌∙◌, subst}
use mathlib.Core.Logic.{◌⊎◌, inl, inr}
use mathlib.Core.Bool.{Bool, true, false, cond}
use mathlib.Core.Option.{Option, none, some}
use mathlib.Core.List.{List, [], ◌∷◌}
use native.Mathlib.Omega.{arith}
use lib.Dec.{ltb, eqb}
use borrow.Author.Tests.{ne_eqb, ltb-true, ltb-false}
use Rattle.window.specs.declared.Side.{Side}
use Rattle.window.specs.declared.Side.TheVariants.{Left, Right}
use Rattle.rules.specs.Lists.{total}
use Rattle.rules.specs.Bus.{most_turned, Bus, Contention, nothing, waiting}
use Rattle.rules.specs.SetUp.{Request, set_up, set_up_verdict, fresh_bus}
use Rattle.rules.specs.Standing.{Standing}
use Rattle.rules.specs.Admission.{turns_away, one_higher, turned_away}
use Rattle.rules.specs.Begin.{begin}
use Rattle.rules.specs.Probe.{Answer, Contender, refused_answer, Open, transmitters, unheard, heard, probe}
use Rattle.rules.specs.Step.{refused_begun, begun_answer, opened_by, opened}
use Rattle.rules.specs.Closing.{totals, refused_totals, closing_call}
use Rattle.rules.specs.Engine.{Engine, machine, Call, Reply, admitted, begun, probed, reply, next, after, replies, reach}
use Rattle.rules.specs.Demands.{Demand2, slots_of, adds_admitted, adds_sent, adds_lost, adds_turned, adds_slots, up_to_the_stop, Counted, CountsAreTrue, totals_from, ClosesAsCounted}
use Rattle.rules.proofs.Tests.{told as stood}
use Rattle.rules.proofs.Standing.{stands_exactly}
use Rattle.rules.proofs.Keeps.{opened_same}
use Rattle.rules.proofs.Step.{heard_drops}
use Rattle.rules.proofs.Reach.{outcome, refused_nothing, reached_stands, standing_reached, replies_agree, closing_agrees}

-- from b to b' the counts and the clock rise by what the replies say
pub record Rise (b b' : Bus) (rs : List Reply) : Type 0 where
  pub in_admitted : b'.admitted ≡ b.admitted + total adds_admitted rs
  pub in_sent : b'.sent ≡ b.sent + total adds_sent rs
  pub in_lost : b'.lost ≡ b.lost + total adds_lost rs
  pub in_turned : b.turned ≤ most_turned → b'.turned ≡ up_to_the_stop (b.turned + total adds_turned rs)
  pub in_clock : b'.clock ≡ b.clock + total adds_slots rs

-- a probe, whoever transmits
record Told (o : Open) (out : Answer × Bus) : Type 0 where
  of_admitted : out.1.admitted ≡ o.bus.admitted
  of_sent : out.1.sent ≡ o.bus.sent + adds_sent (probed out.0)
  of_lost : out.1.lost ≡ o.bus.lost
  of_turned : out.1.turned ≡ o.bus.turned
  of_clock : out.1.clock ≡ o.bus.clock + slots_of out.0

told : (o : Open) (xs : List Contender) → Told o (heard o xs)
told o [] = go o.contention.window.side
  where
    go : (s : Side) → Told o (unheard o s)
    go Left = record { of_admitted = refl; of_sent = omega arith; of_lost = refl; of_turned = refl; of_clock = omega arith }
    go Right = record { of_admitted = refl; of_sent = omega arith; of_lost = refl; of_turned = refl; of_clock = omega arith }
told o (x ∷ []) = record { of_admitted = refl; of_sent = omega arith; of_lost = refl; of_turned = refl; of_clock = omega arith }
told o (x ∷ y ∷ more) = record { of_admitted = refl; of_sent = omega arith; of_lost = refl; of_turned = refl; of_clock = omega arith }

-- what beginning a contention adds to the lost is what it drops
opened_lost : (b : Bus) (c : Option Contention) → (opened_by b c).bus.lost ≡ b.lost + (opened_by b c).drops
opened_lost b none = refl
opened_lost b (some c) = omega arith

pub step_rise : (b : Bus) → Rise b (probe (opened b)).1 (probed (probe (opened b)).0 ∷ [])
step_rise b =
    let h = told (opened b) (transmitters (opened b).bus (opened b).contention) in
    let admitted = opened_same (λ (m : Bus). m.admitted) b refl in
    let sent = opened_same (λ (m : Bus). m.sent) b refl in
    let lost = opened_lost b b.contention in
    let turned = opened_same (λ (m : Bus). m.turned) b refl in
    let drops = heard_drops (opened b) (transmitters (opened b).bus (opened b).contention) in
    let clock = opened_same (λ (m : Bus). m.clock) b refl in
    record { in_admitted = omega arith; in_sent = omega arith; in_lost = omega arith; in_turned = λ l. omega arith; in_clock = omega arith }

-- a begin counts what it drops, and takes no slot
begin_rise : (b : Bus) → Rise b (begin b) (begun (begun_answer b) ∷ [])
begin_rise b = record { in_admitted = omega arith; in_sent = omega arith; in_lost = omega arith; in_turned = λ l. omega arith; in_clock = omega arith }

-- a reply that adds nothing
nothing_rises : (b : Bus) (r : Reply) → adds_admitted r ≡ 0 → adds_sent r ≡ 0 → adds_lost r ≡ 0 → adds_turned r ≡ 0 → adds_slots r ≡ 0 → Rise b b (r ∷ [])
nothing_rises b r a s l t c = record { in_admitted = omega arith; in_sent = omega arith; in_lost = omega arith; in_turned = λ l. omega arith; in_clock = omega arith }

-- a packet turned away is counted, up to the stop
turned_rise : (b : Bus) (n : ℕ) → ¬ (n ≡ 0) → turns_away n ≡ true → Rise b (turned_away b) (admitted (record { refusal = n; number = 0 }) ∷ [])
turned_rise b n z e =
    let none_admitted : adds_admitted (admitted (record { refusal = n; number = 0 })) ≡ 0 = rw (ne_eqb n 0 z) in
    let one : adds_turned (admitted (record { refusal = n; number = 0 })) ≡ 1 = rw e in
    record {
      in_admitted = omega arith;
      in_sent = omega arith;
      in_lost = omega arith;
      in_turned = λ l. counted_on b.turned l ∙ ap (λ k. up_to_the_stop (b.turned + (k + 0))) (sym one);
      in_clock = omega arith;
    }
  where
    counted_on : (count : ℕ) → count ≤ most_turned → one_higher count ≡ up_to_the_stop (count + 1)
    counted_on count l = go (ltb count most_turned) refl
      where
        go : (t : Bool) → ltb count most_turned ≡ t → cond t (suc count) count ≡ up_to_the_stop (count + 1)
        go true e = omega (arith, ltb-true count most_turned e)
        go false e = omega (arith, ltb-false count most_turned e)

-- any call, refused or not
pub call_rise : (b : Bus) (c : Call) → Rise b (next machine b c) (reply machine b c ∷ [])
call_rise b =
    outcome b (λ r b'. Rise b b' (r ∷ []))
    (record {
      refuses = λ n z e. nothing_rises b (admitted (record { refusal = n; number = 0 })) (rw (ne_eqb n 0 z)) refl refl (rw e) refl;
      turns = λ n z e. turned_rise b n z e;
      admits = λ a z. record { in_admitted = omega arith; in_sent = omega arith; in_lost = omega arith; in_turned = λ l. omega arith; in_clock = omega arith };
      refuses_begin = λ n z. nothing_rises b (begun (refused_begun n)) refl refl refl refl refl;
      begins = λ z. begin_rise b;
      refuses_probe = λ n z. nothing_rises b (probed (refused_answer n)) refl refl refl refl (rw (ne_eqb n 0 z));
      probes_one = λ z. step_rise b;
    })

-- many calls
calls_rise : (b : Bus) (calls : List Call) → Rise b (after machine b calls) (replies machine b calls)
calls_rise b [] = record { in_admitted = omega arith; in_sent = omega arith; in_lost = omega arith; in_turned = λ l. omega arith; in_clock = omega arith }
calls_rise b (c ∷ calls) =
    let h = call_rise b c in
    let k = calls_rise (next machine b c) calls in
    record {
      in_admitted = omega arith;
      in_sent = omega arith;
      in_lost = omega arith;
      in_turned = λ l. let first = h.in_turned l in k.in_turned (omega arith) ∙ stop_twice b.turned _ _ _ first;
      in_clock = omega arith;
    }
  where
    stop_twice : (count more later count' : ℕ) → count' ≡ up_to_the_stop (count + (more + 0)) → up_to_the_stop (count' + later) ≡ up_to_the_stop (count + (more + later))
    stop_twice count more later count' e = omega arith

-- all of them are 0 after set-up, accepted or refused
pub fresh_zero : {X : Type 0} (f : Bus → X) (r : Request) → f (fresh_bus r) ≡ f nothing → f (set_up r).1 ≡ f nothing
fresh_zero f r e = go (eqb (set_up_verdict r).refusal 0)
  where
    go : (t : Bool) → f (cond t (fresh_bus r) nothing) ≡ f nothing
    go true = e
    go false = refl

-- the machine's own counts balance
abbrev Balanced : Bus → Type 0
Balanced b = b.admitted ≡ b.sent + b.lost + waiting b.stations

balanced : (r : Request) (calls : List Call) → Balanced (reach machine r calls)
balanced r calls = go (standing_reached r calls)
  where
    go : Standing (reach machine r calls) ⊎ (reach machine r calls ≡ nothing) → Balanced (reach machine r calls)
    go (inl h) = h.counts
    go (inr e) = subst Balanced (sym e) refl

machine_counts : CountsAreTrue machine
machine_counts r calls =
    let admitted = fresh_zero (λ (m : Bus). m.admitted) r refl in
    let sent = fresh_zero (λ (m : Bus). m.sent) r refl in
    let lost = fresh_zero (λ (m : Bus). m.lost) r refl in
    let turned = fresh_zero (λ (m : Bus). m.turned) r refl in
    let clock = fresh_zero (λ (m : Bus). m.clock) r refl in
    let k = calls_rise (set_up r).1 calls in
    let e = balanced r calls in
    let none_yet = k.in_turned (omega arith) in
    record { balance = omega arith; admitted = omega arith; sent = omega arith; lost = omega arith; turned = omega arith; clock = omega arith }

pub counts_are_true : (E : Engine) → Demand2 E → CountsAreTrue E
counts_are_true E d r calls = subst (Counted (reach machine r calls)) (sym (replies_agree E d r [] calls)) (machine_counts r calls)

-- ---- what a listing closes with

closed : (b : Bus) (rs : List Reply) → Counted b rs → totals b ≡ totals_from rs
closed b rs h =
    let left : waiting b.stations ≡ total adds_admitted rs - (total adds_sent rs + total adds_lost rs) = omega (arith, h.balance) in
    λ i.
    record {
      refusal = 0;
      clock = h.clock i;
      admitted = h.admitted i;
      sent = h.sent i;
      lost = h.lost i;
      waiting = left i;
      turned = h.turned i;
    }

pub closes_as_counted : (E : Engine) → Demand2 E → ClosesAsCounted E
closes_as_counted E d =
    record {
      accepted = λ r calls z.
          closing_agrees E d r calls
          ∙ ap (λ t. cond t (totals (reach machine r calls)) (refused_totals 1))
          (stood (stands_exactly (reach machine r calls)) (reached_stands r calls (sym (ap (λ v. v.refusal) (d.set_ups r)) ∙ z)))
          ∙ closed (reach machine r calls) _ (counts_are_true E d r calls);
      refused = λ r calls n. closing_agrees E d r calls ∙ ap closing_call (refused_nothing r calls (λ z. n (ap (λ v. v.refusal) (d.set_ups r) ∙ z)));
    }
