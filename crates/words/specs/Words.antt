-- Lines, words and numbers of a text that a person writes (docs/LAYOUT.md). Assumes nothing.
use Rattle.std.specs.Prelude.{ℕ, Option, Some, None, ◌+◌, ◌*◌, ◌-◌, ◌/◌, ◌%◌, Bool, true, false, not, ◌&&◌, ◌||◌, cond, List, [], ◌∷◌, ltb, leb, eqb, length, drop}
use Rattle.text.specs.Text.{newline}
pub use Rattle.words.specs.declared.Span.{Span}

-- ---- bytes that go together

-- the bytes at the start of a text that pass a test, up to the first that does not
abbrev pub while : (ℕ → Bool) → List ℕ → List ℕ
while test [] = []
while test (b ∷ rest) = cond (test b) (b ∷ while test rest) []

-- a line goes on up to its newline
abbrev pub in_line : ℕ → Bool
in_line b = not (eqb b newline)

-- what parts words: a space, a tab, and the carriage return before a newline
abbrev pub blank : ℕ → Bool
blank b = eqb b 32 || (eqb b 9 || eqb b 13)

-- a word goes on up to a blank or to '#', which begins a comment
abbrev pub in_word : ℕ → Bool
in_word b = not (blank b || eqb b 35)

-- ---- lines

abbrev pub first_line : List ℕ → List ℕ
first_line text = while in_line text

abbrev pub onto : ℕ → List (List ℕ) → List (List ℕ)
onto b [] = (b ∷ []) ∷ []
onto b (line ∷ lines) = (b ∷ line) ∷ lines

-- the lines of a text: newlines part them, so that there is one more of them than of newlines
abbrev pub lines_of : List ℕ → List (List ℕ)
lines_of [] = [] ∷ []
lines_of (b ∷ rest) = cond (in_line b) (onto b (lines_of rest)) ([] ∷ lines_of rest)

-- ---- words

-- the blanks before the first word of what is left of a line, that word, and what comes after it; where a comment or the end comes first,
-- the word is empty
abbrev pub blanks : List ℕ → List ℕ
blanks rest = while blank rest

abbrev pub unblanked : List ℕ → List ℕ
unblanked rest = drop (length (blanks rest)) rest

abbrev pub first_word : List ℕ → List ℕ
first_word rest = while in_word (unblanked rest)

abbrev pub after_word : List ℕ → List ℕ
after_word rest = drop (length (first_word rest)) (unblanked rest)

-- where the first word from an offset of a line on begins and ends
abbrev pub word_span : List ℕ → ℕ → Span
word_span line at =
    record {
      from = at + length (blanks (drop at line));
      to = at + length (blanks (drop at line)) + length (first_word (drop at line));
    }

-- whether two words are the same, byte by byte
abbrev pub same : List ℕ → List ℕ → Bool
same [] [] = true
same [] (b ∷ rest) = false
same (a ∷ word) [] = false
same (a ∷ word) (b ∷ rest) = cond (eqb a b) (same word rest) false

-- ---- numbers

-- 'a number is at most 4,294,967,295'
abbrev pub number_end : ℕ
number_end = 4_294_967_296

-- the digit that a byte is: 0 to 9, then a to f or A to F; any other byte is none, said as 16
abbrev pub digit_of : ℕ → ℕ
digit_of b =
    cond
    (leb 48 b && leb b 57)
    (b - 48)
    (cond (leb 97 b && leb b 102) (b - 87) (cond (leb 65 b && leb b 70) (b - 55) 16))

-- the number that digits go on to from another, by a base of 10 or 16, as long as it is not too large
abbrev pub number_from : ℕ → ℕ → List ℕ → Option ℕ
number_from base n [] = Some n
number_from base n (b ∷ rest) =
    cond
    (ltb (digit_of b) base && ltb (n * base + digit_of b) number_end)
    (number_from base (n * base + digit_of b) rest)
    None

-- '0x' and digits
abbrev pub hexadecimal : List ℕ → Option ℕ
hexadecimal [] = None
hexadecimal (b ∷ rest) = number_from 16 0 (b ∷ rest)

-- after a 0 comes nothing, or the rest of '0x'
abbrev pub after_zero : List ℕ → Option ℕ
after_zero [] = Some 0
after_zero (b ∷ rest) = cond (eqb b 120) (hexadecimal rest) None

-- the number that a word is: decimal, with no 0 before other digits, or hexadecimal after '0x'
abbrev pub number_of : List ℕ → Option ℕ
number_of [] = None
number_of (b ∷ rest) = cond (eqb b 48) (after_zero rest) (number_from 10 0 (b ∷ rest))

-- the ASCII code of a hexadecimal digit, with capital letters
abbrev pub hex_digit : ℕ → ℕ
hex_digit d = cond (ltb d 10) (48 + d) (55 + d)

-- a number as plants label addresses: '0x' and four hexadecimal digits
abbrev pub label : ℕ → List ℕ
label n =
    48 ∷ 120 ∷ hex_digit (n / 4096 % 16) ∷ hex_digit (n / 256 % 16) ∷ hex_digit (n / 16 % 16) ∷ hex_digit (n % 16) ∷ []
