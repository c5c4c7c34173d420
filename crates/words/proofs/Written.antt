-- Words that are written, with spaces between them, and how they read back. Assumes nothing.
use Prim.Native.Nat.{ℕ, ◌<◌}
use mathlib.Core.Path.{◌≡◌, refl, sym, ap, ap₂, ◌∙◌}
use mathlib.Core.Bool.{Bool, true, false, not, cond, ◌||◌}
use mathlib.Core.List.{List, [], ◌∷◌, ◌++◌, append-nil}
use native.Mathlib.Omega.{arith}
use borrow.Author.Tests.{ne_eqb}
use lib.Dec.{eqb}
use lib.ListN.{length, drop}
use lib.Seq.{drop-append_seam}
use Rattle.words.specs.Words.{while, in_line, blank, in_word, blanks, unblanked, first_word, after_word}
use Rattle.words.proofs.Runs.{while_append, passes_first}

-- ---- bytes

-- past '#' every byte goes on with a word, and past a newline with a line
pub word_byte : (b : ℕ) → 35 < b → in_word b ≡ true
word_byte b h =
    simp (ne_eqb b 32 (λ e. omega arith), ne_eqb b 9 (λ e. omega arith), ne_eqb b 13 (λ e. omega arith), ne_eqb b 35 (λ e. omega arith))

pub line_byte : (b : ℕ) → 10 < b → in_line b ≡ true
line_byte b h = ap not (ne_eqb b 10 (λ e. omega arith))

-- a byte of a word is no blank
word_no_blank : (b : ℕ) → in_word b ≡ true → blank b ≡ false
word_no_blank b h = go (blank b) h
  where
    go : (t : Bool) → not (t || eqb b 35) ≡ true → t ≡ false
    go true h = sym h
    go false h = refl

-- ---- words

-- no blanks stand before a word
word_unblanked : (w rest : List ℕ) → 0 < length w → while in_word w ≡ w → unblanked (w ++ rest) ≡ w ++ rest
word_unblanked [] rest one h = absurd (omega arith)
word_unblanked (b ∷ w) rest one h =
    ap
    (λ t. drop (length (cond t (b ∷ blanks (w ++ rest)) [])) (b ∷ (w ++ rest)))
    (word_no_blank b (passes_first in_word b w h))

-- a word before what does not go on with it
pub word_then :
    (w rest : List ℕ) → 0 < length w → while in_word w ≡ w → while in_word rest ≡ [] → first_word (w ++ rest) ≡ w
word_then w rest one h stops =
    ap (while in_word) (word_unblanked w rest one h) ∙ while_append in_word w rest h ∙ ap (λ (l : List ℕ). w ++ l) stops ∙ append-nil w

pub after_then :
    (w rest : List ℕ) → 0 < length w → while in_word w ≡ w → while in_word rest ≡ [] → after_word (w ++ rest) ≡ rest
after_then w rest one h stops =
    ap₂ (λ (x y : List ℕ). drop (length x) y) (word_then w rest one h stops) (word_unblanked w rest one h) ∙ drop-append_seam w rest

-- before a space
pub word_space : (w rest : List ℕ) → 0 < length w → while in_word w ≡ w → first_word (w ++ (32 ∷ rest)) ≡ w
word_space w rest one h = word_then w (32 ∷ rest) one h refl

pub after_space : (w rest : List ℕ) → 0 < length w → while in_word w ≡ w → after_word (w ++ (32 ∷ rest)) ≡ 32 ∷ rest
after_space w rest one h = after_then w (32 ∷ rest) one h refl

-- before nothing
pub word_alone : (w : List ℕ) → 0 < length w → while in_word w ≡ w → first_word w ≡ w
word_alone w one h = ap first_word (sym (append-nil w)) ∙ word_then w [] one h refl

pub after_alone : (w : List ℕ) → 0 < length w → while in_word w ≡ w → after_word w ≡ []
after_alone w one h = ap after_word (sym (append-nil w)) ∙ after_then w [] one h refl

-- after a space, and where nothing is left
pub space_word : (rest : List ℕ) → first_word (32 ∷ rest) ≡ first_word rest
space_word rest = refl

pub space_after : (rest : List ℕ) → after_word (32 ∷ rest) ≡ after_word rest
space_after rest = refl

pub no_word : first_word [] ≡ []
no_word = refl
