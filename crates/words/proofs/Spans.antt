-- The words of a line: where the first from an offset on begins and ends, and what stands there. Assumes nothing.
use Prim.Native.Nat.{ℕ, ◌-◌, ◌≤◌}
use mathlib.Core.Path.{◌≡◌, sym, ap, ◌∙◌}
use mathlib.Core.List.{List}
use native.Mathlib.Omega.{arith}
use lib.ListN.{length, take, drop, length-drop}
use lib.Seq.{drop-drop}
use Rattle.words.specs.Words.{blank, in_word, blanks, unblanked, first_word, after_word, word_span}
use Rattle.words.proofs.Runs.{while_few, while_taken}

module _ (line : List ℕ) (at : ℕ) where
  -- it begins at the offset or past it, and ends there or past that
  pub span_begins : at ≤ (word_span line at).from
  span_begins = omega arith

  pub span_ends : (word_span line at).from ≤ (word_span line at).to
  span_ends = omega arith

  -- within the line
  pub span_within : at ≤ length line → (word_span line at).to ≤ length line
  span_within h =
      let rest = drop at line in
      omega (arith, while_few blank rest, while_few in_word (unblanked rest), length-drop at line, length-drop (length (blanks rest)) rest)

  -- what is left from where it begins
  pub span_from : drop (word_span line at).from line ≡ unblanked (drop at line)
  span_from = sym (drop-drop (length (blanks (drop at line))) at line)

  -- it is the first word
  pub span_word :
      take ((word_span line at).to - (word_span line at).from) (drop (word_span line at).from line) ≡ first_word (drop at line)
  span_word =
      let long : (word_span line at).to - (word_span line at).from ≡ length (first_word (drop at line)) = omega arith in
      ap (λ n. take n (drop (word_span line at).from line)) long
      ∙ ap (take (length (first_word (drop at line)))) span_from
      ∙ while_taken in_word (unblanked (drop at line))

  -- and what comes after it is what is left of the line
  pub span_after : drop (word_span line at).to line ≡ after_word (drop at line)
  span_after =
      sym (drop-drop (length (first_word (drop at line))) (word_span line at).from line) ∙ ap (drop (length (first_word (drop at line)))) span_from
