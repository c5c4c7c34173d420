-- The arrivals of what a layout says are those of its lines, put in order of time. Assumes nothing.
use Prim.Native.Nat.{ℕ, suc, ◌≤◌}
use mathlib.Core.Path.{◌≡◌, refl, sym, ap, subst, ◌∙◌}
use mathlib.Core.Bool.{Bool, true, false, cond}
use mathlib.Core.List.{List, [], ◌∷◌}
use native.Mathlib.Omega.{arith}
use borrow.Author.Tests.{eqb-true}
use lib.Dec.{eqb}
use Rattle.rules.specs.SetUp.{Request}
use Rattle.state.specs.declared.Arrival.{Arrival}
use Rattle.words.specs.Words.{lines_of}
use Rattle.layout.specs.Layout.{after_run, place_fault, Plan, start, request_in, inserted_all, Taken, take_line}
use Rattle.layout.specs.Layout.{Saying, wrong, says, ended, read_lines, layout_says}
use Rattle.layout.specs.Said.{arrivals_of, arrivals_in, arrivals_said, at_time}
use Rattle.layout.proofs.Order.{all_then, all_last}
use Rattle.layout.proofs.Steps.{Step, by_nothing, by_bus, by_station, by_arrivals, by_run, line_is_taken}

module _ {p : Plan} {line : List ℕ} {after : Plan} where
  -- the discipline stays, once there is one
  step_keeps : Step p line after → 1 ≤ p.stage → (1 ≤ after.stage) × (after.settings.discipline ≡ p.settings.discipline)
  step_keeps step b = go step
    where
      kept : (a : Plan) → after ≡ a → (1 ≤ a.stage) × (a.settings.discipline ≡ p.settings.discipline)
          → (1 ≤ after.stage) × (after.settings.discipline ≡ p.settings.discipline)
      kept a e = subst (λ a. (1 ≤ a.stage) × (a.settings.discipline ≡ p.settings.discipline)) (sym e)

      go : Step p line after → (1 ≤ after.stage) × (after.settings.discipline ≡ p.settings.discipline)
      go (by_nothing e q) = kept _ e (b, refl)
      go (by_bus g e z n q) = absurd (omega arith)
      go (by_station s e z l v q) = kept _ e (b, refl)
      go (by_arrivals more e m f l q) = kept _ e (omega arith, refl)
      go (by_run steps e m l q) = kept _ e (omega arith, refl)

  -- a step inserts the arrivals that its line says
  step_inserts :
      (d : ℕ) → Step p line after → (1 ≤ p.stage → p.settings.discipline ≡ d) → after.arrivals ≡ inserted_all (arrivals_of d line) p.arrivals
  step_inserts d step h = go step
    where
      these : (a : Plan) (more : List Arrival) → after ≡ a → a.arrivals ≡ inserted_all more p.arrivals → arrivals_of d line ≡ more
          → after.arrivals ≡ inserted_all (arrivals_of d line) p.arrivals
      these a more e k q = ap (λ a. a.arrivals) e ∙ k ∙ ap (λ more. inserted_all more p.arrivals) (sym q)

      go : Step p line after → after.arrivals ≡ inserted_all (arrivals_of d line) p.arrivals
      go (by_nothing e q) = these _ [] e refl (q d)
      go (by_bus g e z n q) = these _ [] e refl (q d)
      go (by_station s e z l v q) = these _ [] e refl (q d)
      go (by_arrivals more e m f l q) = these _ more e refl (ap (λ d. arrivals_of d line) (sym (h m.begun)) ∙ q)
      go (by_run steps e m l q) = these _ [] e refl (q d)

-- what is told of what lines say after a plan
abbrev Told : Plan → List (List ℕ) → Saying → Type 0
Told p lines (wrong line fault) = Unit {0}
Told p lines (says r xs steps) =
    (1 ≤ p.stage → p.settings.discipline ≡ r.discipline) × (xs ≡ inserted_all (arrivals_in r.discipline lines) p.arrivals)

ended_told : (line : ℕ) (p : Plan) → Told p [] (ended line p)
ended_told line p = go (eqb p.stage after_run)
  where
    go : (t : Bool) → Told p [] (cond t (says (request_in p) p.arrivals p.steps) (wrong line (place_fault p.stage p.settings.n 0)))
    go true = (λ h. refl, refl)
    go false = tt

step_told :
    {p : Plan} {line : List ℕ} {after : Plan} (rest : List (List ℕ)) (s : Saying) → Step p line after → Told after rest s
    → Told p (line ∷ rest) s
step_told rest (wrong line fault) step h = tt
step_told {p} {line} rest (says r xs steps) step h =
    let kept : 1 ≤ p.stage → p.settings.discipline ≡ r.discipline = λ b. let k = step_keeps step b in sym k.1 ∙ h.0 k.0 in (
      kept,
      h.1
          ∙ ap (inserted_all (arrivals_in r.discipline rest)) (step_inserts r.discipline step kept)
          ∙ sym (all_then (arrivals_of r.discipline line) (arrivals_in r.discipline rest) p.arrivals),
    )

lines_told : (line : ℕ) (p : Plan) (lines : List (List ℕ)) → Told p lines (read_lines line p lines)
lines_told line p [] = ended_told line p
lines_told line p (text ∷ rest) = go (eqb x.fault 0) refl (lines_told (suc line) x.plan rest)
  where
    x : Taken
    x = take_line p text

    go :
        (t : Bool) → eqb x.fault 0 ≡ t → Told x.plan rest (read_lines (suc line) x.plan rest)
        → Told p (text ∷ rest) (cond t (read_lines (suc line) x.plan rest) (wrong (suc line) x.fault))
    go true e more = step_told rest (read_lines (suc line) x.plan rest) (line_is_taken p text (eqb-true x.fault 0 e)) more
    go false e more = tt

-- The arrivals of what a layout says are those of its lines, inserted one after the other;
pub arrivals_inserted :
    (text : List ℕ) (r : Request) (arrivals : List Arrival) (steps : ℕ) → layout_says text ≡ says r arrivals steps
    → arrivals ≡ inserted_all (arrivals_said r.discipline text) []
arrivals_inserted text r arrivals steps e = (subst (Told start (lines_of text)) e (lines_told 0 start (lines_of text))).1

-- so those of one time are the same, in the same order.
pub same_at_time :
    (text : List ℕ) (r : Request) (arrivals : List Arrival) (steps : ℕ) → layout_says text ≡ says r arrivals steps → (t : ℕ)
    → at_time t arrivals ≡ at_time t (arrivals_said r.discipline text)
same_at_time text r arrivals steps e t =
    ap (at_time t) (arrivals_inserted text r arrivals steps e) ∙ all_last t (arrivals_said r.discipline text) [] tt
