-- The lines of a text: written one after another, and read from an offset on. Assumes nothing.
use Prim.Native.Nat.{ℕ, suc, ◌+◌, ◌-◌, ◌≤◌, ◌<◌}
use mathlib.Core.Path.{◌≡◌, refl, ap, ap₂, ◌∙◌}
use mathlib.Core.Bool.{Bool, true, false, cond}
use mathlib.Core.List.{List, [], ◌∷◌, ◌++◌}
use native.Mathlib.Omega.{arith}
use lib.ListN.{length, take, drop, length-drop}
use lib.Seq.{drop-drop}
use Rattle.text.specs.Text.{newline}
use Rattle.words.specs.Words.{while, in_line, first_line, onto, lines_of}
use Rattle.words.proofs.Runs.{while_few, while_taken, passes_first, passes_others}

-- ---- as they are written

-- a line and its newline before other lines
pub lines_then : (line rest : List ℕ) → while in_line line ≡ line → lines_of (line ++ (newline ∷ rest)) ≡ line ∷ lines_of rest
lines_then [] rest h = refl
lines_then (b ∷ line) rest h =
    ap₂
    (λ t (lines : List (List ℕ)). cond t (onto b lines) ([] ∷ lines_of (line ++ (newline ∷ rest))))
    (passes_first in_line b line h)
    (lines_then line rest (passes_others in_line b line h))

-- a line alone
pub lines-one : (line : List ℕ) → while in_line line ≡ line → lines_of line ≡ line ∷ []
lines-one [] h = refl
lines-one (b ∷ line) h =
    ap₂
    (λ t (lines : List (List ℕ)). cond t (onto b lines) ([] ∷ lines_of line))
    (passes_first in_line b line h)
    (lines-one line (passes_others in_line b line h))

-- ---- as they are read

-- the first line is before its newline and the other lines, or is all
lines_more :
    (text : List ℕ) → length (first_line text) < length text → lines_of text ≡ first_line text ∷ lines_of (drop (suc (length (first_line text))) text)
lines_more [] h = absurd (omega arith)
lines_more (b ∷ rest) h = go (in_line b) h (lines_more rest)
  where
    go :
        (t : Bool) → length (cond t (b ∷ first_line rest) []) < suc (length rest)
        → (length (first_line rest) < length rest → lines_of rest ≡ first_line rest ∷ lines_of (drop (suc (length (first_line rest))) rest))
        → cond t (onto b (lines_of rest)) ([] ∷ lines_of rest)
        ≡ cond t (b ∷ first_line rest) [] ∷ lines_of (drop (length (cond t (b ∷ first_line rest) [])) rest)
    go true h more = ap (onto b) (more (omega arith))
    go false h more = refl

lines_last : (text : List ℕ) → length text ≤ length (first_line text) → lines_of text ≡ first_line text ∷ []
lines_last [] h = refl
lines_last (b ∷ rest) h = go (in_line b) h (lines_last rest)
  where
    go :
        (t : Bool) → suc (length rest) ≤ length (cond t (b ∷ first_line rest) [])
        → (length rest ≤ length (first_line rest) → lines_of rest ≡ first_line rest ∷ [])
        → cond t (onto b (lines_of rest)) ([] ∷ lines_of rest) ≡ cond t (b ∷ first_line rest) [] ∷ []
    go true h more = ap (onto b) (more (omega arith))
    go false h more = absurd (omega arith)

-- the line that stands from an offset on, and where it ends
module _ (text : List ℕ) (at end : ℕ) (h : at ≤ length text) (e : end ≡ at + length (first_line (drop at text))) where
  pub end_within : end ≤ length text
  end_within = omega (arith, while_few in_line (drop at text), length-drop at text)

  pub line_taken : take (end - at) (drop at text) ≡ first_line (drop at text)
  line_taken =
      let long : end - at ≡ length (first_line (drop at text)) = omega arith in
      ap (λ n. take n (drop at text)) long ∙ while_taken in_line (drop at text)

  pub lines_on : end < length text → lines_of (drop at text) ≡ first_line (drop at text) ∷ lines_of (drop (suc end) text)
  lines_on more =
      let next : at + suc (length (first_line (drop at text))) ≡ suc end = omega arith in
      lines_more (drop at text) (omega (arith, length-drop at text))
      ∙ ap
      (λ (l : List ℕ). first_line (drop at text) ∷ lines_of l)
      (drop-drop (suc (length (first_line (drop at text)))) at text ∙ ap (λ n. drop n text) next)

  pub lines_end : length text ≤ end → lines_of (drop at text) ≡ first_line (drop at text) ∷ []
  lines_end over = lines_last (drop at text) (omega (arith, length-drop at text))
