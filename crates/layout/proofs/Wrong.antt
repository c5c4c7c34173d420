-- A layout that is wrong has a fault, in one of its lines. Assumes nothing.
use Prim.Native.Nat.{ℕ, suc, ◌+◌, ◌≤◌, ◌<◌}
use mathlib.Core.Path.{◌≡◌, refl, subst}
use mathlib.Core.Bool.{Bool, true, false, cond}
use mathlib.Core.List.{List, [], ◌∷◌}
use native.Mathlib.Omega.{arith}
use borrow.Author.Tests.{eqb-false}
use lib.Dec.{eqb}
use lib.ListN.{length}
use Rattle.rules.specs.Lists.{verdict}
use Rattle.words.specs.Words.{in_line, onto, lines_of}
use Rattle.layout.specs.Layout.{no_bus, has_no_station, no_record, no_arrival_fault, past_run, after_run, place_fault, Plan, start, request_in, Taken, take_line}
use Rattle.layout.specs.Layout.{Saying, wrong, says, ended, read_lines, layout_says}

-- a text has a line
pub some_line : (text : List ℕ) → 1 ≤ length (lines_of text)
some_line [] = omega arith
some_line (b ∷ rest) = go (in_line b)
  where
    onto_some : (lines : List (List ℕ)) → 1 ≤ length (onto b lines)
    onto_some [] = omega arith
    onto_some (line ∷ lines) = omega arith

    go : (t : Bool) → 1 ≤ length (cond t (onto b (lines_of rest)) ([] ∷ lines_of rest))
    go true = onto_some (lines_of rest)
    go false = omega arith

-- what is told of what lines say that come after so many
abbrev Named : ℕ → List (List ℕ) → Saying → Type 0
Named before lines (wrong line fault) = (before ≤ line) × (1 ≤ length lines → before < line) × (line ≤ before + length lines) × (1 ≤ fault)
Named before lines (says r arrivals steps) = Unit {0}

-- where no line comes before the run, there is a fault
pub end_missing : (stage n : ℕ) → 1 ≤ place_fault stage n 0
end_missing stage n = missing (eqb stage 0) (eqb stage 1) (eqb stage 2) (eqb n 0)
  where
    missing : (z o w n : Bool) → 1 ≤ verdict z no_bus (verdict o (cond n has_no_station no_record) (verdict w no_arrival_fault past_run))
    missing true o w n = omega arith
    missing false true w true = omega arith
    missing false true w false = omega arith
    missing false false true n = omega arith
    missing false false false n = omega arith

ended_named : (line : ℕ) (p : Plan) → Named line [] (ended line p)
ended_named line p = go (eqb p.stage after_run)
  where
    go : (t : Bool) → Named line [] (cond t (says (request_in p) p.arrivals p.steps) (wrong line (place_fault p.stage p.settings.n 0)))
    go true = tt
    go false = (omega arith, λ h. absurd (omega arith), omega arith, end_missing p.stage p.settings.n)

step_named : (before : ℕ) (text : List ℕ) (rest : List (List ℕ)) (s : Saying) → Named (suc before) rest s → Named before (text ∷ rest) s
step_named before text rest (wrong line fault) h = (omega arith, λ k. omega arith, omega arith, h.3)
step_named before text rest (says r arrivals steps) h = tt

lines_named : (line : ℕ) (p : Plan) (lines : List (List ℕ)) → Named line lines (read_lines line p lines)
lines_named line p [] = ended_named line p
lines_named line p (text ∷ rest) = go (eqb x.fault 0) refl (lines_named (suc line) x.plan rest)
  where
    x : Taken
    x = take_line p text

    go :
        (t : Bool) → eqb x.fault 0 ≡ t → Named (suc line) rest (read_lines (suc line) x.plan rest)
        → Named line (text ∷ rest) (cond t (read_lines (suc line) x.plan rest) (wrong (suc line) x.fault))
    go true e more = step_named line text rest (read_lines (suc line) x.plan rest) more
    go false e more = let z : x.fault ≡ 0 → ⊥ = eqb-false x.fault 0 e in (omega arith, λ h. omega arith, omega arith, omega arith)

-- A layout that is wrong names one of its lines, and a fault.
pub wrong_named :
    (text : List ℕ) (line fault : ℕ) → layout_says text ≡ wrong line fault → (1 ≤ line) × (line ≤ length (lines_of text)) × (1 ≤ fault)
wrong_named text line fault e =
    let told = subst (Named 0 (lines_of text)) e (lines_named 0 start (lines_of text)) in (told.1 (some_line text), omega (arith, told.2), told.3)
