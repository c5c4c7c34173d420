-- Each refusal number is given exactly when its condition holds and none tried earlier does, and what a refusal hands back.
-- Assumes nothing.
use Prim.Native.Nat.{ℕ}
use mathlib.Core.Path.{◌≡◌, refl, sym, ap, ◌∙◌}
use mathlib.Core.Bool.{Bool, true, false, cond}
use mathlib.Core.Option.{Option, none, some}
use mathlib.Core.List.{List, [], ◌∷◌}
use native.Mathlib.Omega.{arith}
use lib.Dec.{eqb}
use borrow.Author.Tests.{ne_eqb, eqb-true}
use Rattle.window.specs.declared.Side.{Side}
use Rattle.window.specs.declared.Side.TheVariants.{Left, Right}
use Rattle.rules.specs.Bus.{Contention, Bus, nothing}
use Rattle.rules.specs.SetUp.{fine, set_up_verdict, fresh_bus}
use Rattle.rules.specs.Admission.{Arrival, Admitted, admission_refusal, handed_back, admit}
use Rattle.rules.specs.Probe.{Answer, Contender, Open, refused_answer, transmitters, unheard, heard, probe}
use Rattle.rules.specs.Step.{Begun, refused_begun, begin_refusal, probe_refusal, open_under_way, probed_in, opened, step_refusal}
use Rattle.rules.specs.Conditions.{RefusalsExact}
use Rattle.rules.specs.Demands.{HandsBack}
use Rattle.rules.proofs.Tests.{given}
use Rattle.rules.proofs.TurnedAway.{as_lent, but_for_the_count, turned_refused}
use Rattle.rules.proofs.Standing.{set_up_tried, admission_tried, begin_tried, probe_tried, probe_accepted, step_tried}

pub refusals_exact : RefusalsExact
refusals_exact =
    record {
      set_up_call = λ r. given fine (set_up_tried r);
      admission = λ b a. given 0 (admission_tried b a);
      begin = λ b. given 0 (begin_tried b);
      probe = λ b. given 0 (probe_tried b);
      step = λ b. given 0 (step_tried b);
    }

-- a probe's answer is no refusal
unheard_number : (o : Open) (side : Side) → (unheard o side).0.refusal ≡ 0
unheard_number o Left = refl
unheard_number o Right = refl

heard_number : (o : Open) (xs : List Contender) → (heard o xs).0.refusal ≡ 0
heard_number o [] = unheard_number o o.contention.window.side
heard_number o (x ∷ []) = refl
heard_number o (x ∷ y ∷ more) = refl

-- a probe's own answer bears 0
pub probe_number : (o : Open) → (probe o).0.refusal ≡ 0
probe_number o = heard_number o (transmitters o.bus o.contention)

-- and so does that of a probe of the contention under way
pub probed_number : (b : Bus) → probe_refusal b ≡ 0 → (probed_in b b.contention).0.refusal ≡ 0
probed_number b e = go b.contention (probe_accepted b e).0
  where
    go : (c : Option Contention) → ¬ (c ≡ none) → (probed_in b c).0.refusal ≡ 0
    go none n = absurd (n refl)
    go (some c) n = probe_number (open_under_way b c)

-- Of a call whose own answer bears 0 and whose refusals bear their numbers: an answer that does not bear 0 is the refusal of its number.
handed :
    {X : Type 0} (number : X → ℕ) (n : ℕ) (own : X) (refused : ℕ → X) → (n ≡ 0 → number own ≡ 0) → ((k : ℕ) → number (refused k) ≡ k)
    → ¬ (number (cond (eqb n 0) own (refused n)) ≡ 0) → cond (eqb n 0) own (refused n) ≡ refused (number (cond (eqb n 0) own (refused n)))
handed number n own refused zero-own bears = go (eqb n 0) refl
  where
    go : (t : Bool) → eqb n 0 ≡ t → ¬ (number (cond t own (refused n)) ≡ 0) → cond t own (refused n) ≡ refused (number (cond t own (refused n)))
    go true e h = absurd (h (zero-own (eqb-true n 0 e)))
    go false e h = ap refused (sym (bears n))

pub handed_admission :
    (b : Bus) (a : Arrival) → ¬ ((admit b a).0.refusal ≡ 0)
    → admit b a ≡ (record { refusal = (admit b a).0.refusal; number = 0 }, handed_back b (admit b a).0.refusal)
handed_admission b a =
    handed (λ (x : Admitted × Bus). x.0.refusal) (admission_refusal b a) _ (λ k. (record { refusal = k; number = 0 }, handed_back b k)) (λ z. refl)
    (λ k. refl)

pub hands_back : HandsBack
hands_back =
    record {
      set_up_call = λ r h. ap (λ t. cond t (fresh_bus r) nothing) (ne_eqb (set_up_verdict r).refusal 0 h);
      admission = λ b a h other. handed_admission b a h ∙ ap (λ (x : Bus). (record { refusal = (admit b a).0.refusal; number = 0 }, x)) (as_lent b _ other);
      turning_away =
          λ b a t.
          handed_admission b a (turned_refused _ t)
          ∙ ap (λ (x : Bus). (record { refusal = (admit b a).0.refusal; number = 0 }, x)) (but_for_the_count b _ t);
      begin = λ b. handed (λ (x : Begun × Bus). x.0.refusal) (begin_refusal b) _ (λ k. (refused_begun k, b)) (λ z. refl) (λ k. refl);
      probe = λ b. handed (λ (x : Answer × Bus). x.0.refusal) (probe_refusal b) _ (λ k. (refused_answer k, b)) (probed_number b) (λ k. refl);
      step =
          λ b.
          handed (λ (x : Answer × Bus). x.0.refusal) (step_refusal b) _ (λ k. (refused_answer k, b)) (λ z. probe_number (opened b)) (λ k. refl);
      caught = λ h. let e : ◌≡◌ {A = ℕ} 3 0 = h.passes in omega arith;
    }
