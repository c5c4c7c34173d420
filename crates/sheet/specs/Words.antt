-- A number as two words, and multiplication in halves (change request P4): 'P2's comparison stays exact and refuses no run, also past 64
-- bits.' Assumes nothing.
use Rattle.std.specs.Prelude.{ℕ, ◌+◌, ◌*◌, ◌/◌, ◌%◌}

-- two words that stay below a size
pub record Words : Type 0 where
  pub high : ℕ
  pub low : ℕ

-- what a word of 64 bits stays below
abbrev pub word : ℕ
word = 18_446_744_073_709_551_616

-- and what a half of it does
abbrev pub half : ℕ
half = 4_294_967_296

-- a number as two words that stay below `size`
abbrev pub words : ℕ → ℕ → Words
words size n = record { high = n / size; low = n % size }

-- the number that two such words are
abbrev pub number : ℕ → Words → ℕ
number size w = w.high * size + w.low

-- ---- multiplication in halves

-- Two numbers, each with a high half and a low half below `base`, are multiplied as by hand with two digits each. The columns: the low halves;
-- a high half with a low one and what the first column carries; what is left of that, with the other two halves.
abbrev pub first : ℕ → ℕ → ℕ → ℕ
first base a b = a % base * (b % base)

abbrev pub middle : ℕ → ℕ → ℕ → ℕ
middle base a b = a / base * (b % base) + first base a b / base

abbrev pub next : ℕ → ℕ → ℕ → ℕ
next base a b = middle base a b % base + a % base * (b / base)

-- the two words that they make
abbrev pub in_halves : ℕ → ℕ → ℕ → Words
in_halves base a b =
    record {
      high = a / base * (b / base) + middle base a b / base + next base a b / base;
      low = next base a b % base * base + first base a b % base;
    }
