-- What the private functions of src/ are held to; for readers of those alone. Assumes nothing.
use Rattle.std.specs.Prelude.{ℕ, Bool, List, Option, Some, None, cond, ltb}
use Rattle.words.specs.declared.Class.{Class}
use Rattle.words.specs.declared.Class.TheVariants.{Line, Blank, Word}
use Rattle.words.specs.Words.{while, in_line, blank, in_word, digit_of}

-- the test of a class
abbrev pub in_class : Class → ℕ → Bool
in_class Line = in_line
in_class Blank = blank
in_class Word = in_word

-- the bytes of a class at the start of a text
abbrev pub bytes_in : Class → List ℕ → List ℕ
bytes_in class text = while (in_class class) text

-- the digit that a byte is, if it is one
abbrev pub digit_in : ℕ → Option ℕ
digit_in byte = cond (ltb (digit_of byte) 16) (Some (digit_of byte)) None
