-- Numbers, fields and lines as bytes of ASCII (paper 01, 'The scenario and its listing'). 'Fields are decimal, one space apart, each line
-- closed by one newline.' Assumes nothing.
use Rattle.std.specs.Prelude.{ℕ, zero, suc, ◌+◌, ◌/◌, ◌%◌, cond, List, [], ◌∷◌, ◌++◌, ltb}
use Prim.Native.Char.{code}
use Prim.Native.String.{String, len, char_at, slice}

-- ---- quoted texts

-- the characters of a text, from its first on, by their codes; of a text in ASCII, as all are here, its bytes
abbrev pub codes : ℕ → String → List ℕ
codes zero text = []
codes (suc turns) text = code (char_at text 0) ∷ codes turns (slice text 1 (len text))

abbrev pub bytes : String → List ℕ
bytes text = codes (len text) text

-- ---- numbers

-- the ASCII code of a digit
abbrev pub digit : ℕ → ℕ
digit d = 48 + d

-- a number in decimal, its last digit last; each turn takes off a digit, so that as many turns as the number says are enough
abbrev pub decimal_in : ℕ → ℕ → List ℕ
decimal_in zero n = []
decimal_in (suc turns) n = cond (ltb n 10) (digit n ∷ []) (decimal_in turns (n / 10) ++ (digit (n % 10) ∷ []))

unfoldable pub decimal : ℕ → List ℕ
decimal n = decimal_in (suc n) n

-- ---- fields and lines

abbrev pub space : ℕ
space = 32

abbrev pub newline : ℕ
newline = 10

-- fields, each after one space
abbrev pub fields : List ℕ → List ℕ
fields [] = []
fields (n ∷ ns) = (space ∷ decimal n) ++ fields ns

-- a line that opens with a word
abbrev pub word_line : List ℕ → List ℕ → List ℕ
word_line word ns = (word ++ fields ns) ++ (newline ∷ [])

-- 'REFUSED'
abbrev pub REFUSED : List ℕ
REFUSED = 82 ∷ 69 ∷ 70 ∷ 85 ∷ 83 ∷ 69 ∷ 68 ∷ []
