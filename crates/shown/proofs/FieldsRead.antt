-- The words of a line with their numbers, as they are shown, read back: each number, and no fault. Assumes nothing.
use Prim.Native.Nat.{ℕ, ◌<◌}
use mathlib.Core.Path.{◌≡◌, refl, ap, ap₂, ◌∙◌}
use mathlib.Core.Bool.{Bool, true, false, cond}
use Rattle.std.specs.Prelude.{Some}
use mathlib.Core.List.{List, [], ◌∷◌, ◌++◌}
use native.Mathlib.Omega.{arith}
use lib.Dec.{eqb}
use lib.ListN.{length}
use Rattle.text.specs.Text.{space, decimal}
use Rattle.words.specs.Words.{while, in_line, in_word, first_word, after_word, same, number_end, number_of, label}
use Rattle.words.proofs.Runs.{passes_one, passes_append}
use Rattle.words.proofs.Comparing.{same_self}
use Rattle.words.proofs.Written.{word_then, after_then, word_space, after_space}
use Rattle.words.proofs.Figures.{decimal_word, decimal_line, decimal_some, decimal_back, label_word, label_line, label_back}
use Rattle.layout.specs.Layout.{address_label, label_bytes, word_missing, Fields, faulty, field_in, fields_in}
use Rattle.shown.specs.Shown.{number_text, fields_text}

-- ---- a number

-- a number that is shown is below this: an address, and any other
abbrev limit : Bool → ℕ
limit address = cond address 65_536 number_end

-- as it is shown, it is a word, all in one line, and reads back
record Written (text : List ℕ) (n : ℕ) : Type 0 where
  some_bytes : 0 < length text
  word : while in_word text ≡ text
  line : while in_line text ≡ text
  back : number_of text ≡ Some n

number_written : (address : Bool) (n : ℕ) → n < limit address → Written (cond address (label n) (decimal n)) n
number_written true n h = record { some_bytes = omega arith; word = label_word n; line = label_line n; back = label_back n h }
number_written false n h = record { some_bytes = decimal_some n; word = decimal_word n; line = decimal_line n; back = decimal_back n h }

-- ---- words with their numbers

-- a word of the table: it is not empty, is one word, and stands in one line
abbrev pub Worded : ℕ → Type 0
Worded word = (0 < length (label_bytes word)) × (while in_word (label_bytes word) ≡ label_bytes word) × (while in_line (label_bytes word) ≡ label_bytes word)

-- there is a number for each word, below its limit
abbrev pub Readable : List ℕ → List ℕ → Type 0
Readable [] [] = Unit {0}
Readable [] (n ∷ ns) = ⊥
Readable (word ∷ words) [] = ⊥
Readable (word ∷ words) (n ∷ ns) = Worded word × (n < limit (eqb word address_label)) × Readable words ns

-- a word before them ends there
pub fields-stop : (words ns : List ℕ) → while in_word (fields_text words ns) ≡ []
fields-stop [] ns = refl
fields-stop (word ∷ words) [] = refl
fields-stop (word ∷ words) (n ∷ ns) = refl

-- they stand in one line
pub fields_line : (words ns : List ℕ) → Readable words ns → while in_line (fields_text words ns) ≡ fields_text words ns
fields_line [] ns h = refl
fields_line (word ∷ words) [] h = refl
fields_line (word ∷ words) (n ∷ ns) h =
    let number = number_written (eqb word address_label) n h.1 in
    passes_append in_line (space ∷ label_bytes word) _ (passes_one in_line space _ refl h.0.2)
    (passes_append in_line (space ∷ number_text word n) _ (passes_one in_line space _ refl number.line) (fields_line words ns h.2))

-- they are read as they were
pub fields_read : (words ns : List ℕ) → Readable words ns → fields_in words (fields_text words ns) ≡ record { fault = 0; values = ns }
fields_read [] [] h = refl
fields_read [] (n ∷ ns) h = absurd h
fields_read (word ∷ words) [] h = absurd h
fields_read (word ∷ words) (n ∷ ns) h =
    ap₂ (λ w more. by w (first_word more) (after_word more)) (word_space (label_bytes word) after h.0.0 h.0.1)
    (after_space (label_bytes word) after h.0.0 h.0.1)
    ∙ ap₂ (by (label_bytes word))
    (word_then (number_text word n) later number.some_bytes number.word (fields-stop words ns))
    (after_then (number_text word n) later number.some_bytes number.word (fields-stop words ns))
    ∙ ap (λ t. cond t (field_in word (number_of (number_text word n)) (fields_in words later)) (faulty (word_missing word))) (same_self (label_bytes word))
    ∙ ap₂ (field_in word) number.back (fields_read words ns h.2)
  where
    number : Written (number_text word n) n
    number = number_written (eqb word address_label) n h.1

    later : List ℕ
    later = fields_text words ns

    after : List ℕ
    after = number_text word n ++ later

    by : List ℕ → List ℕ → List ℕ → Fields
    by w next more = cond (same w (label_bytes word)) (field_in word (number_of next) (fields_in words more)) (faulty (word_missing word))
