-- A step in the code's terms: what a refused one gives back, and the bus that it probes, whether a contention is under way or begins.
-- Assumes nothing.
use Prim.Native.Nat.{ℕ}
use mathlib.Core.Path.{◌≡◌, refl, sym, ap, ◌∙◌}
use mathlib.Core.Bool.{Bool, true, false, ◌&&◌, cond}
use mathlib.Core.Option.{none, some}
use native.Mathlib.Omega.{arith}
use lib.Dec.{ltb}
use Rattle.rules.specs.Bus.{Bus, last_slot}
use Rattle.rules.specs.Standing.{stands}
use Rattle.rules.specs.Begin.{begin, drops_of, opening}
use Rattle.rules.specs.Probe.{Answer, Open, probe, refused_answer}
use Rattle.rules.specs.Step.{opened_by, opened, step_refusal, step}
use Rattle.rules.proofs.Tests.{told}
use Rattle.rules.proofs.Standing.{stands_exactly, step_is}
use Rattle.rules.proofs.Keeps.{begin_stands}
use Rattle.bus.specs.Types.{State}
use Rattle.state.specs.State.{Held, tie_of, meaning, form, padded, standing}
use Rattle.bus.specs.Coded.{on_meaning, coded_step, step_result}
use Rattle.state.proofs.Form.{form_meaning, parts_padded, Fits, standing_fits, meaning_form}
use Rattle.bus.proofs.Coded.{coded_step_form, hands_back_step, step_bears, standing_exactly_step}
use Rattle.state.proofs.Stands.{Lent, lent_held}
use Rattle.bus.specs.Parts.{open_of}

-- ---- a refused step gives its number, and the state as lent

is_handed_back :
    (s : State) → Held s → (refusal : ℕ) → (coded_step s).0.refusal ≡ refusal → ¬ (refusal ≡ 0)
    → step_result (refused_answer refusal, s) ≡ step_result (coded_step s)
is_handed_back s held refusal e given =
    sym (ap step_result (hands_back_step s held (λ z. given (sym e ∙ z))) ∙ ap (λ n. step_result (refused_answer n, s)) e)

pub gives_1 : (s : State) → Held s → standing s ≡ false → step_result (refused_answer 1, s) ≡ step_result (coded_step s)
gives_1 s held e = is_handed_back s held 1 ((standing_exactly_step s).1 e) (λ z. omega arith)

-- the bus that is probed, by whether a contention is under way
abbrev opened_from : State → Bool → Open
opened_from s begun =
    opened_by
    (meaning s)
    (cond begun (some (record { window = s.segment.contention.window; tie = tie_of s.segment.contention })) none)

-- where a contention is under way, it goes on
pub goes_on : (s : State) → s.segment.contention.begun ≡ true → opened (meaning s) ≡ open_of s 0
goes_on s e = ap (opened_from s) e

module _ (s : State) (r : Lent s) where
  -- it is the step of the rules
  of_rules : coded_step s ≡ ((step (meaning s)).0, form (step (meaning s)).1)
  of_rules =
      ap coded_step (sym (form_meaning s r.held (parts_padded s r.zeros))) ∙ coded_step_form (meaning s) (standing_fits (meaning s) r.stands)

  pub gives_17 : ltb last_slot s.segment.clock.0 ≡ true → step_result (refused_answer 17, s) ≡ step_result (coded_step s)
  gives_17 late! =
      is_handed_back
      s
      r.held
      17
      (ap (λ (o : Answer × State). o.0.refusal) of_rules
      ∙ step_bears (meaning s)
      ∙ rw (told (stands_exactly (meaning s)) r.stands, late!))
      (λ z. omega arith)

  -- ---- any other probes a slot

  pub probes :
      ltb last_slot s.segment.clock.0 ≡ false → (o : Open) → opened (meaning s) ≡ o
      → step_result ((probe o).0, form (probe o).1) ≡ step_result (coded_step s)
  probes on_time o e =
      let none! : step_refusal (meaning s) ≡ 0 = rw (told (stands_exactly (meaning s)) r.stands, on_time) in
      sym
      (ap step_result of_rules ∙ ap (λ (x : Answer × Bus). step_result (x.0, form x.1)) (step_is (meaning s) none! ∙ ap probe e))

  -- the state in which a contention has begun
  begun_fits : Fits (begin (meaning s))
  begun_fits = standing_fits (begin (meaning s)) (begin_stands (meaning s) r.stands)

  pub begins : s.segment.contention.begun ≡ false → opened (meaning s) ≡ open_of (form (begin (meaning s))) (drops_of (meaning s))
  begins e =
      let same = meaning_form (begin (meaning s)) begun_fits in
      ap (opened_from s) e ∙ (λ i. record { bus = sym same i; contention = opening (meaning s); drops = drops_of (meaning s) })

-- on any state in the code, a step is paper 01's on what it means
pub step_of_paper : (s : State) → Held s → coded_step s ≡ on_meaning step (refused_answer 1) s
step_of_paper s held = go (standing s) refl
  where
    result : Bool → Answer × State
    result t = cond t ((step (meaning s)).0, form (step (meaning s)).1) (refused_answer 1, s)

    -- paper 01's step of a state that does not stand
    refused : (t : Bool) → padded s ≡ t → (t && stands (meaning s)) ≡ false → (refused_answer 1, s) ≡ result t
    refused true e n = sym (rw n (ap (λ lent. (refused_answer 1, lent)) (form_meaning s held e)))
    refused false e n = refl

    go : (t : Bool) → standing s ≡ t → coded_step s ≡ result (padded s)
    go true e =
        let r = lent_held s held e in
        of_rules s r ∙ sym (ap result (parts_padded s r.zeros))
    go false e =
        let one = (standing_exactly_step s).1 e in
        hands_back_step s held (λ z. omega (arith, z, one)) ∙ ap (λ n. (refused_answer n, s)) one ∙ refused (padded s) refl e
