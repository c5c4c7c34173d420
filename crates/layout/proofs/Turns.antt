-- One line of a text after the other. Assumes nothing.
use Prim.Native.Nat.{ℕ, suc, ◌+◌, ◌-◌, ◌≤◌, ◌<◌}
use mathlib.Core.Path.{◌≡◌, refl, sym, ap, ◌∙◌}
use mathlib.Core.Bool.{Bool, true, false, cond}
use mathlib.Core.List.{List, [], ◌∷◌}
use native.Mathlib.Numerals.{add-one}
use native.Mathlib.Omega.{arith}
use borrow.Author.Tests.{eq-eqb, ne_eqb, ltb-true, ltb-false}
use lib.Dec.{ltb, eqb}
use lib.ListN.{length, take, drop}
use Rattle.words.specs.Words.{lines_of, first_line}
use Rattle.words.proofs.Lines.{end_within, line_taken, lines_on, lines_end}
use Rattle.layout.specs.Layout.{Plan, Taken, take_line, wrong, read_lines}

-- what a line that was taken makes of the lines from it on
module _ (line : ℕ) (p : Plan) (text : List ℕ) (rest : List (List ℕ)) (t : Taken) (e : t ≡ take_line p text) where
  pub turn_right : t.fault ≡ 0 → read_lines (line + 1) t.plan rest ≡ read_lines line p (text ∷ rest)
  turn_right h =
      ap (λ n. read_lines n t.plan rest) (add-one line)
      ∙ ap (λ u. cond u (read_lines (suc line) t.plan rest) (wrong (suc line) t.fault)) (sym (eq-eqb t.fault 0 h))
      ∙ ap (λ (t : Taken). cond (eqb t.fault 0) (read_lines (suc line) t.plan rest) (wrong (suc line) t.fault)) e

  pub turn_wrong : (t.fault ≡ 0 → ⊥) → wrong (line + 1) t.fault ≡ read_lines line p (text ∷ rest)
  turn_wrong h =
      ap (λ n. wrong n t.fault) (add-one line)
      ∙ ap (λ u. cond u (read_lines (suc line) t.plan rest) (wrong (suc line) t.fault)) (sym (ne_eqb t.fault 0 h))
      ∙ ap (λ (t : Taken). cond (eqb t.fault 0) (read_lines (suc line) t.plan rest) (wrong (suc line) t.fault)) e

-- from an offset on there is a first line, whatever comes after it
pub lines-first :
    (text : List ℕ) (at end : ℕ) → at ≤ length text → end ≡ at + length (first_line (drop at text))
    → (rest : List (List ℕ)) × (lines_of (drop at text) ≡ first_line (drop at text) ∷ rest)
lines-first text at end h e = go (ltb end (length text)) refl
  where
    go : (t : Bool) → ltb end (length text) ≡ t → (rest : List (List ℕ)) × (lines_of (drop at text) ≡ first_line (drop at text) ∷ rest)
    go true f = (lines_of (drop (suc end) text), lines_on text at end h e (ltb-true end (length text) f))
    go false f = ([], lines_end text at end h e (ltb-false end (length text) f))

-- the first line of what is left of a text, where `end` is what `line_end` answers
module _ (rest : List ℕ) (end : ℕ) (e : end ≡ 0 + length (first_line rest)) where
  pub ends_within : end ≤ length rest
  ends_within = end_within rest 0 end (omega arith) e

  pub taken_first : take end rest ≡ first_line rest
  taken_first = let whole : end ≡ end - 0 = omega arith in ap (λ n. take n rest) whole ∙ line_taken rest 0 end (omega arith) e

  pub lines_later : end < length rest → lines_of rest ≡ first_line rest ∷ lines_of (drop (end + 1) rest)
  lines_later h = lines_on rest 0 end (omega arith) e h ∙ ap (λ n. first_line rest ∷ lines_of (drop n rest)) (sym (add-one end))

  pub lines_over : length rest ≤ end → lines_of rest ≡ first_line rest ∷ []
  lines_over = lines_end rest 0 end (omega arith) e
