-- What is proved of lines, words and numbers, in one place. The definitions that the contracts of src/ cite are in specs/Words.antt; that each
-- contract says all of its result is proofs/Unique.antt. That all bytes of a word or a line pass its test is said as `while test xs ≡ xs`:
-- of a quoted word that holds by computing, and of one text after another by proofs/Runs.antt. Assumes nothing.
use Prim.Native.Nat.{ℕ, suc, ◌+◌, ◌-◌, ◌≤◌, ◌<◌}
use mathlib.Core.Path.{◌≡◌}
use mathlib.Core.Bool.{true}
use Rattle.std.specs.Prelude.{Some}
use mathlib.Core.List.{List, [], ◌∷◌, ◌++◌}
use lib.ListN.{length, take, drop}
use Rattle.text.specs.Text.{newline, decimal}
use Rattle.words.specs.Words.{while, in_line, in_word, first_line, lines_of, first_word, after_word, word_span, same, number_end, number_of, label}
use Rattle.words.proofs.Lines as Lines
use Rattle.words.proofs.Spans as Spans
use Rattle.words.proofs.Written as Written
use Rattle.words.proofs.Comparing as Comparing
use Rattle.words.proofs.Numbers as Numbers
use Rattle.words.proofs.Figures as Figures

-- ---- lines that are written

-- a line with its newline before other lines, and a line alone
pub lines_then : (line rest : List ℕ) → while in_line line ≡ line → lines_of (line ++ (newline ∷ rest)) ≡ line ∷ lines_of rest
lines_then = Lines.lines_then

pub lines-one : (line : List ℕ) → while in_line line ≡ line → lines_of line ≡ line ∷ []
lines-one = Lines.lines-one

-- ---- lines that are read: `end` is what `line_end` answers

module _ (text : List ℕ) (at end : ℕ) (h : at ≤ length text) (e : end ≡ at + length (first_line (drop at text))) where
  pub end_within : end ≤ length text
  end_within = Lines.end_within text at end h e

  pub line_taken : take (end - at) (drop at text) ≡ first_line (drop at text)
  line_taken = Lines.line_taken text at end h e

  -- where a newline is there, the other lines are past it; where there is none, there are no others
  pub lines_on : end < length text → lines_of (drop at text) ≡ first_line (drop at text) ∷ lines_of (drop (suc end) text)
  lines_on = Lines.lines_on text at end h e

  pub lines_end : length text ≤ end → lines_of (drop at text) ≡ first_line (drop at text) ∷ []
  lines_end = Lines.lines_end text at end h e

-- ---- words that are read: `word_span line at` is what `word_at` answers

pub span_ends : (line : List ℕ) (at : ℕ) → (word_span line at).from ≤ (word_span line at).to
span_ends = Spans.span_ends

pub span_within : (line : List ℕ) (at : ℕ) → at ≤ length line → (word_span line at).to ≤ length line
span_within = Spans.span_within

-- the word's bytes, and what is left after it
pub span_word :
    (line : List ℕ) (at : ℕ)
    → take ((word_span line at).to - (word_span line at).from) (drop (word_span line at).from line) ≡ first_word (drop at line)
span_word = Spans.span_word

pub span_after : (line : List ℕ) (at : ℕ) → drop (word_span line at).to line ≡ after_word (drop at line)
span_after = Spans.span_after

-- ---- words that are written

-- before a space
pub word_space : (w rest : List ℕ) → 0 < length w → while in_word w ≡ w → first_word (w ++ (32 ∷ rest)) ≡ w
word_space = Written.word_space

pub after_space : (w rest : List ℕ) → 0 < length w → while in_word w ≡ w → after_word (w ++ (32 ∷ rest)) ≡ 32 ∷ rest
after_space = Written.after_space

-- before nothing
pub word_alone : (w : List ℕ) → 0 < length w → while in_word w ≡ w → first_word w ≡ w
word_alone = Written.word_alone

pub after_alone : (w : List ℕ) → 0 < length w → while in_word w ≡ w → after_word w ≡ []
after_alone = Written.after_alone

-- after a space, and where nothing is left
pub space_word : (rest : List ℕ) → first_word (32 ∷ rest) ≡ first_word rest
space_word = Written.space_word

pub space_after : (rest : List ℕ) → after_word (32 ∷ rest) ≡ after_word rest
space_after = Written.space_after

pub no_word : first_word [] ≡ []
no_word = Written.no_word

-- ---- words that are compared

-- the answer says whether they are equal
pub same_equal : (xs ys : List ℕ) → same xs ys ≡ true → xs ≡ ys
same_equal = Comparing.same_equal

pub equal_same : (xs ys : List ℕ) → xs ≡ ys → same xs ys ≡ true
equal_same = Comparing.equal_same

pub same_self : (xs : List ℕ) → same xs xs ≡ true
same_self = Comparing.same_self

-- ---- numbers

-- one that is known is not too large
pub number_small : (w : List ℕ) (n : ℕ) → number_of w ≡ Some n → n < number_end
number_small = Numbers.number_small

-- in decimal it is a word of a line, and reads back
pub decimal_back : (n : ℕ) → n < 4_294_967_296 → number_of (decimal n) ≡ Some n
decimal_back = Figures.decimal_back

pub decimal_some : (n : ℕ) → 0 < length (decimal n)
decimal_some = Figures.decimal_some

pub decimal_word : (n : ℕ) → while in_word (decimal n) ≡ decimal n
decimal_word = Figures.decimal_word

pub decimal_line : (n : ℕ) → while in_line (decimal n) ≡ decimal n
decimal_line = Figures.decimal_line

-- and so is its label
pub label_back : (n : ℕ) → n < 65_536 → number_of (label n) ≡ Some n
label_back = Figures.label_back

pub label_word : (n : ℕ) → while in_word (label n) ≡ label n
label_word = Figures.label_word

pub label_line : (n : ℕ) → while in_line (label n) ≡ label n
label_line = Figures.label_line
