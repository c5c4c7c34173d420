-- Up to 64 stations as one word, 'station i in listed order at bit i' (P10). A word means the list of the stations whose bits are set
-- (`members`); each function of src/lib.rt is held to that meaning. Numbers here have no width; a word has 64 bits. Assumes nothing.
use Rattle.std.specs.Prelude.{ℕ, zero, suc, ◌+◌, ◌*◌, ◌/◌, ◌%◌, ◌^◌, Bool, true, false, not, ◌&&◌, ◌||◌, List, [], ◌∷◌, eqb, length}

-- how many stations a word has room for
abbrev pub bits : ℕ
bits = 64

-- whether the bit at a place is set
unfoldable pub bit_at : ℕ → ℕ → Bool
bit_at word place = eqb (word / 2 ^ place % 2) 1

-- a place in front of others, if the test holds
abbrev pub placed : Bool → ℕ → List ℕ → List ℕ
placed true place places = place ∷ places
placed false place places = places

-- those of the k places from i on for which the test holds, in rising order
abbrev pub places_from : (ℕ → Bool) → ℕ → ℕ → List ℕ
places_from test i zero = []
places_from test i (suc k) = placed (test i) i (places_from test (suc i) k)

-- the stations whose bits are set, in listed order: what a word means
abbrev pub members : ℕ → List ℕ
members word = places_from (bit_at word) 0 bits

-- 1 for a test that holds, 0 for one that does not
abbrev pub bit_of : Bool → ℕ
bit_of true = 1
bit_of false = 0

-- the word of those of the first k places for which the test holds
unfoldable pub word_of : (ℕ → Bool) → ℕ → ℕ
word_of test zero = 0
word_of test (suc k) = word_of test k + bit_of (test k) * 2 ^ k

-- the word with the bit at a place set, and with it clear; a place past the last changes nothing
abbrev pub set_at : ℕ → ℕ → ℕ
set_at word place = word_of (λ i. eqb i place || bit_at word i) bits

abbrev pub clear_at : ℕ → ℕ → ℕ
clear_at word place = word_of (λ i. not (eqb i place) && bit_at word i) bits

-- the first of some places; the number of bits where there is none
abbrev pub first_or : List ℕ → ℕ
first_or [] = bits
first_or (place ∷ places) = place

-- how many bits are set, and the lowest of them
abbrev pub count_of : ℕ → ℕ
count_of word = length (members word)

abbrev pub lowest_of : ℕ → ℕ
lowest_of word = first_or (members word)
