-- A step is a begin, where no contention is under way, and a probe. Assumes nothing.
use Prim.Native.Nat.{ℕ, ◌+◌}
use mathlib.Core.Path.{◌≡◌, refl, sym, ap, ap₂, ◌∙◌}
use mathlib.Core.Bool.{Bool, true, false, not, cond}
use mathlib.Core.Option.{Option, none, some}
use mathlib.Core.List.{List, [], ◌∷◌}
use native.Mathlib.Omega.{arith}
use lib.Dec.{ltb, eqb}
use borrow.Author.Tests.{eqb-true, eqb-false, eq-eqb, le-ltb}
use Rattle.window.specs.declared.Side.{Side}
use Rattle.window.specs.declared.Side.TheVariants.{Left, Right}
use Rattle.rules.specs.Lists.{verdict}
use Rattle.rules.specs.Bus.{last_slot, Contention, Bus}
use Rattle.rules.specs.Standing.{Standing, stands}
use Rattle.rules.specs.Begin.{begin, drops_of, opening}
use Rattle.rules.specs.Probe.{Answer, Contender, Open, transmitters, refused_answer, dropping, unheard, heard, probe}
use Rattle.rules.specs.Step.{Begun, begun_answer, begin_call, probe_refusal, open_under_way, probed_in, probe_call, opened_by, opened, step}
use Rattle.rules.specs.Engine.{Engine, machine, probed_after, begun_then, probed_first, step_of}
use Rattle.rules.specs.Demands.{StepIsBoth, BeginTells, BeginsAtAnyClock}
use Rattle.rules.proofs.Laws.{clash}
use Rattle.rules.proofs.Tests.{tells, told}
use Rattle.rules.proofs.Standing.{stands_exactly, begun_as, begin_accepts, begin_is, probe_step, accepted_step, step_accepted, step_is}
use Rattle.rules.proofs.Refusals.{probe_number}
use Rattle.rules.proofs.Keeps.{begin_stands}

-- the ways that the step of an engine can go: it is its probe; or its begin, or the probe after that, is refused; or both are accepted
pub step_ways :
    (E : Engine) (s : E.State) (P : Answer × E.State → Type 0) → (eqb (E.probe s).0.refusal 26 ≡ false → P (E.probe s))
    → (¬ ((E.begin s).0.refusal ≡ 0) → P (refused_answer (E.begin s).0.refusal, s))
    → (¬ ((E.probe (E.begin s).1).0.refusal ≡ 0) → P (refused_answer (E.probe (E.begin s).1).0.refusal, s))
    → ((E.begin s).0.refusal ≡ 0 → (E.probe (E.begin s).1).0.refusal ≡ 0
    → P (dropping (E.begin s).0.drops (E.probe (E.begin s).1).0, (E.probe (E.begin s).1).1))
    → P (step_of E s)
step_ways E s P first unbegun unprobed both = by_first (eqb (E.probe s).0.refusal 26) refl
  where
    after : Answer × E.State
    after = E.probe (E.begin s).1

    by_second : (E.begin s).0.refusal ≡ 0 → (t : Bool) → eqb after.0.refusal 0 ≡ t → P (cond t (dropping (E.begin s).0.drops after.0, after.1) (refused_answer after.0.refusal, s))
    by_second z true e = both z (eqb-true _ _ e)
    by_second z false e = unprobed (eqb-false _ _ e)

    by_begin :
        (t : Bool) → eqb (E.begin s).0.refusal 0 ≡ t
        → P (cond t (probed_after s (E.begin s).0.drops (E.probe (E.begin s).1)) (refused_answer (E.begin s).0.refusal, s))
    by_begin true e = by_second (eqb-true _ _ e) (eqb after.0.refusal 0) refl
    by_begin false e = unbegun (eqb-false _ _ e)

    by_first : (t : Bool) → eqb (E.probe s).0.refusal 26 ≡ t → P (cond t (begun_then E s (E.begin s)) (E.probe s))
    by_first true e = by_begin (eqb (E.begin s).0.refusal 0) refl
    by_first false e = first e

-- two engines, whose states R relates
module _ (E E' : Engine) (R : E.State → E'.State → Type 0) where
  -- answers alike, and states that R relates
  abbrev Alike : Answer × E.State → Answer × E'.State → Type 0
  Alike x y = (x.0 ≡ y.0) × R x.1 y.1

  -- Their steps are alike, where their probes, their begins' answers, and the probes after the begins are.
  pub step_alike :
      (s : E.State) (s' : E'.State) → R s s' → Alike (E.probe s) (E'.probe s') → (E.begin s).0 ≡ (E'.begin s').0
      → Alike (E.probe (E.begin s).1) (E'.probe (E'.begin s').1) → Alike (step_of E s) (step_of E' s')
  step_alike s s' same probes begins both =
      first (eqb (E.probe s).0.refusal 26) (eqb (E'.probe s').0.refusal 26) (ap (λ (a : Answer). eqb a.refusal 26) probes.0)
    where
      third :
          (t u : Bool) → t ≡ u
          → Alike
          (cond t (dropping (E.begin s).0.drops (E.probe (E.begin s).1).0, (E.probe (E.begin s).1).1) (refused_answer (E.probe (E.begin s).1).0.refusal, s))
          (cond u (dropping (E'.begin s').0.drops (E'.probe (E'.begin s').1).0, (E'.probe (E'.begin s').1).1) (refused_answer (E'.probe (E'.begin s').1).0.refusal, s'))
      third true true e = (ap₂ dropping (ap (λ (o : Begun). o.drops) begins) both.0, both.1)
      third true false e = clash refl e
      third false true e = clash e refl
      third false false e = (ap (λ (a : Answer). refused_answer a.refusal) both.0, same)

      second :
          (t u : Bool) → t ≡ u
          → Alike
          (cond t (probed_after s (E.begin s).0.drops (E.probe (E.begin s).1)) (refused_answer (E.begin s).0.refusal, s))
          (cond u (probed_after s' (E'.begin s').0.drops (E'.probe (E'.begin s').1)) (refused_answer (E'.begin s').0.refusal, s'))
      second true true e =
          third (eqb (E.probe (E.begin s).1).0.refusal 0) (eqb (E'.probe (E'.begin s').1).0.refusal 0)
          (ap (λ (a : Answer). eqb a.refusal 0) both.0)
      second true false e = clash refl e
      second false true e = clash e refl
      second false false e = (ap (λ (o : Begun). refused_answer o.refusal) begins, same)

      first : (t u : Bool) → t ≡ u → Alike (cond t (begun_then E s (E.begin s)) (E.probe s)) (cond u (begun_then E' s' (E'.begin s')) (E'.probe s'))
      first true true e =
          second (eqb (E.begin s).0.refusal 0) (eqb (E'.begin s').0.refusal 0) (ap (λ (o : Begun). eqb o.refusal 0) begins)
      first true false e = clash refl e
      first false true e = clash e refl
      first false false e = probes

-- an open bus with other drops
abbrev with_drops : Open → ℕ → Open
with_drops o n = record { bus = o.bus; contention = o.contention; drops = n }

-- the drops are told in the answer, and nowhere else
drops_told : (o : Open) (n : ℕ) → (dropping n (probe o).0, (probe o).1) ≡ probe (with_drops o n)
drops_told o n = go (transmitters o.bus o.contention)
  where
    silent : (side : Side) → (dropping n (unheard o side).0, (unheard o side).1) ≡ unheard (with_drops o n) side
    silent Left = refl
    silent Right = refl

    go : (xs : List Contender) → (dropping n (heard o xs).0, (heard o xs).1) ≡ heard (with_drops o n) xs
    go [] = silent o.contention.window.side
    go (x ∷ []) = refl
    go (x ∷ y ∷ more) = refl

-- a contention under way is no none
is_some : {c : Contention} {m : Option Contention} → m ≡ some c → ¬ (m ≡ none)
is_some e f = let z : ◌≡◌ {A = ℕ} 0 1 = cc in omega arith

-- a step is never refused with 26
never_26 : (b : Bus) → eqb (step b).0.refusal 26 ≡ false
never_26 b = go (not (stands b)) (ltb last_slot b.clock)
  where
    go :
        (t u : Bool)
        → (let n = verdict t 1 (verdict u 17 0) in eqb (cond (eqb n 0) (probe (opened b)) (refused_answer n, b)).0.refusal 26) ≡ false
    go true u = refl
    go false true = refl
    go false false = ap (λ n. eqb n 26) (probe_number (opened b))

-- where none is under way, on a bus that stands
module _ (b : Bus) (h : Standing b) (between : b.contention ≡ none) where
  -- the contention as it has begun
  abbrev now : Open
  now = record { bus = begin b; contention = opening b; drops = 0 }

  stands! : stands b ≡ true
  stands! = told (stands_exactly b) h

  begun-stands! : stands (begin b) ≡ true
  begun-stands! = told (stands_exactly (begin b)) (begin_stands b h)

  begun! : begin_call b ≡ (begun_answer b, begin b)
  begun! = begin_is b (begin_accepts b h between)

  -- the begin is accepted, and the probe after it unless the clock is at its end
  refused_probe : ltb last_slot b.clock ≡ true → probe_call (begin b) ≡ (refused_answer 17, begin b)
  refused_probe late = probe_step (begin b) (is_some refl) ∙ rw (begun-stands!, late)

  first_probe : ltb last_slot b.clock ≡ false → probe_call (begin b) ≡ probe now
  first_probe early = probe_step (begin b) (is_some refl) ∙ step_is (begin b) (rw (begun-stands!, early))

  -- and it is the step, with the drops of the begin
  first_step : ltb last_slot b.clock ≡ false → (dropping (drops_of b) (probe now).0, (probe now).1) ≡ step b
  first_step early =
      drops_told now (drops_of b)
      ∙ sym (ap (λ c. probe (opened_by b c)) between)
      ∙ sym (step_is b (rw (stands!, early)))

  -- what is made of the two is the step
  then_probed : (late : Bool) → ltb last_slot b.clock ≡ late → probed_after b (drops_of b) (probe_call (begin b)) ≡ step b
  then_probed true e = ap (probed_after b (drops_of b)) (refused_probe e) ∙ sym (rw (stands!, e))
  then_probed false e =
      ap (probed_after b (drops_of b)) (first_probe e)
      ∙ ap
      (λ t. cond t (dropping (drops_of b) (probe now).0, (probe now).1) (refused_answer (probe now).0.refusal, b))
      (eq-eqb (probe now).0.refusal 0 (probe_number now))
      ∙ first_step e

  made_begun : step_of machine b ≡ step b
  made_begun =
      ap (probed_first machine b) (refused_26 b.contention between)
      ∙ ap (begun_then machine b) begun!
      ∙ then_probed (ltb last_slot b.clock) refl
    where
      refused_26 : (c : Option Contention) → c ≡ none → probe_call b ≡ (refused_answer 26, b)
      refused_26 c e = rw (stands!, between)

-- the step of paper 01 is made of the machine's begin and probe
pub step_made : (b : Bus) → step_of machine b ≡ step b
step_made b = by (stands b) refl b.contention refl
  where
    by : (t : Bool) → stands b ≡ t → (c : Option Contention) → b.contention ≡ c → step_of machine b ≡ step b
    by t s (some c) e =
        ap (probed_first machine b) (probe_step b (is_some e))
        ∙ ap (λ u. cond u (begun_then machine b (begin_call b)) (step b)) (never_26 b)
    by true s none e = made_begun b (tells (stands_exactly b) s) e
    by false s none e = rw s

-- the drops of a probe are those of the open bus
pub heard_drops : (o : Open) (xs : List Contender) → (heard o xs).0.drops ≡ o.drops
heard_drops o [] = silent o.contention.window.side
  where
    silent : (side : Side) → (unheard o side).0.drops ≡ o.drops
    silent Left = refl
    silent Right = refl
heard_drops o (x ∷ []) = refl
heard_drops o (x ∷ y ∷ more) = refl

no_drops : (b : Bus) → (probe_call b).0.drops ≡ 0
no_drops b = go (eqb (probe_refusal b) 0)
  where
    result : Bool → Answer × Bus
    result t = cond t (probed_in b b.contention) (refused_answer (probe_refusal b), b)

    accepted : (c : Option Contention) → (probed_in b c).0.drops ≡ 0
    accepted none = refl
    accepted (some c) = heard_drops (open_under_way b c) (transmitters b c)

    go : (t : Bool) → (result t).0.drops ≡ 0
    go true = accepted b.contention
    go false = refl

pub step_is_both : StepIsBoth
step_is_both =
    record {
      begins = λ b between z.
          let ok = accepted_step b z in
          let h = step_accepted b ok in
          let early : ltb last_slot b.clock ≡ false = le-ltb last_slot b.clock h.on_time in
          let begun = begun! b h.standing between in
          let probed = first_probe b h.standing between early in (
            ap (λ (o : Begun × Bus). o.0.refusal) begun,
            ap (λ (o : Begun × Bus). (probe_call o.1).0.refusal) begun ∙ ap (λ (p : Answer × Bus). p.0.refusal) probed ∙ probe_number (now b h.standing between),
            sym
                (ap (λ (o : Begun × Bus). (dropping o.0.drops (probe_call o.1).0, (probe_call o.1).1)) begun
                ∙ ap (λ (p : Answer × Bus). (dropping (drops_of b) p.0, p.1)) probed
                ∙ first_step b h.standing between early),
          );
      goes_on = λ b under_way. sym (probe_step b under_way);
      made = step_made;
      no_drops = no_drops;
    }

pub begins_at_any_clock : BeginsAtAnyClock
begins_at_any_clock b h between =
    let begun = begun! b h between in (ap (λ (o : Begun × Bus). o.0.refusal) begun, ap (λ (o : Begun × Bus). o.1.clock) begun)

pub begin_tells : BeginTells
begin_tells =
    record {
      drops = λ b z. ap (λ (o : Begun × Bus). o.1.lost) (begun_as b z) ∙ sym (ap (λ (o : Begun × Bus). b.lost + o.0.drops) (begun_as b z));
      slot = λ b z. ap (λ (o : Begun × Bus). o.0.slot) (begun_as b z);
      window = λ b z. (
        ap (λ (o : Begun × Bus). o.0.start) (begun_as b z),
        ap (λ (o : Begun × Bus). o.0.size) (begun_as b z),
        ap (λ (o : Begun × Bus). o.1.contention) (begun_as b z),
      );
    }
