-- Numbers that are written, in decimal and as labels, and how they read back. Assumes nothing.
use Prim.Native.Nat.{ℕ, zero, suc, ◌+◌, ◌*◌, ◌/◌, ◌%◌, ◌≤◌, ◌<◌}
use mathlib.Core.Path.{◌≡◌, refl, sym, ap, ◌∙◌}
use mathlib.Core.Bool.{Bool, true, false, cond, ◌&&◌}
use Rattle.std.specs.Prelude.{Some, None}
use mathlib.Core.List.{List, [], ◌∷◌, ◌++◌}
use native.Mathlib.Omega.{arith}
use borrow.Author.Tests.{ltb-true, ltb-false, le-leb, lt-leb}
use lib.Dec.{ltb}
use lib.ListN.{length, drop, get_or, length-append, get_or-append}
use Rattle.text.specs.Text.{digit, decimal_in, decimal}
use Rattle.words.specs.Words.{while, in_line, in_word, number_end, digit_of, number_from, number_of, hex_digit, label}
use Rattle.words.proofs.Runs.{passes_one, passes_append}
use Rattle.words.proofs.Numbers.{digit_on, no_zero}
use Rattle.words.proofs.Written.{word_byte, line_byte}

-- ---- numbers in decimal

-- what a turn gives, by whether the number is below ten
abbrev turned : ℕ → ℕ → Bool → List ℕ
turned turns n small = cond small (digit n ∷ []) (decimal_in turns (n / 10) ++ (digit (n % 10) ∷ []))

-- all digits pass a test that each does
turns_pass :
    (test : ℕ → Bool) → ((b : ℕ) → 48 ≤ b → test b ≡ true) → (turns n : ℕ) → while test (decimal_in turns n) ≡ decimal_in turns n
turns_pass test each zero n = refl
turns_pass test each (suc turns) n = go (ltb n 10) (turns_pass test each turns (n / 10))
  where
    one : (d : ℕ) → while test (digit d ∷ []) ≡ digit d ∷ []
    one d = passes_one test (digit d) [] (each (digit d) (omega arith)) refl

    go : (t : Bool) → while test (decimal_in turns (n / 10)) ≡ decimal_in turns (n / 10) → while test (turned turns n t) ≡ turned turns n t
    go true more = one n
    go false more = passes_append test (decimal_in turns (n / 10)) (digit (n % 10) ∷ []) more (one (n % 10))

pub decimal_word : (n : ℕ) → while in_word (decimal n) ≡ decimal n
unfolding decimal
decimal_word n = turns_pass in_word (λ b h. word_byte b (omega arith)) (suc n) n

pub decimal_line : (n : ℕ) → while in_line (decimal n) ≡ decimal n
unfolding decimal
decimal_line n = turns_pass in_line (λ b h. line_byte b (omega arith)) (suc n) n

-- there is a digit
turns_some : (turns n : ℕ) → 0 < length (decimal_in (suc turns) n)
turns_some turns n = go (ltb n 10)
  where
    go : (t : Bool) → 0 < length (turned turns n t)
    go true = omega arith
    go false = omega (arith, length-append (decimal_in turns (n / 10)) (digit (n % 10) ∷ []))

pub decimal_some : (n : ℕ) → 0 < length (decimal n)
unfolding decimal
decimal_some n = turns_some n n

-- the first is no 0, unless the number is
turns_first : (turns n : ℕ) → 0 < n → n < turns → get_or (decimal_in turns n) 0 0 ≡ 48 → ⊥
turns_first zero n h l e = omega arith
turns_first (suc zero) n h l e = omega arith
turns_first (suc (suc turns)) n h l e = go (ltb n 10) refl (turns_first (suc turns) (n / 10)) e
  where
    go :
        (t : Bool) → ltb n 10 ≡ t → (0 < n / 10 → n / 10 < suc turns → get_or (decimal_in (suc turns) (n / 10)) 0 0 ≡ 48 → ⊥)
        → get_or (turned (suc turns) n t) 0 0 ≡ 48 → ⊥
    go true e more first = omega arith
    go false e more first =
        let many = ltb-false n 10 e in
        more (omega arith) (omega arith)
        (sym (get_or-append (decimal_in (suc turns) (n / 10)) (digit (n % 10) ∷ []) 0 0 (turns_some turns (n / 10))) ∙ first)

-- digits after digits
from_then :
    (base m n : ℕ) (xs ys : List ℕ) → number_from base m xs ≡ Some n → number_from base m (xs ++ ys) ≡ number_from base n ys
from_then base m n [] ys h = let same : m ≡ n = cc in ap (λ k. number_from base k ys) same
from_then base m n (b ∷ xs) ys h =
    go (ltb (digit_of b) base && ltb (m * base + digit_of b) number_end) h (from_then base (m * base + digit_of b) n xs ys)
  where
    go :
        (t : Bool) → cond t (number_from base (m * base + digit_of b) xs) None ≡ Some n
        → (number_from base (m * base + digit_of b) xs ≡ Some n → number_from base (m * base + digit_of b) (xs ++ ys) ≡ number_from base n ys)
        → cond t (number_from base (m * base + digit_of b) (xs ++ ys)) None ≡ number_from base n ys
    go true h more = more h
    go false h more = cc

digit_back : (d : ℕ) → d < 10 → digit_of (digit d) ≡ d
digit_back d h = simp (le-leb 48 (48 + d) (omega arith), le-leb (48 + d) 57 (omega arith)) (omega arith)

-- enough turns give digits that go on to the number
turns_back : (turns n : ℕ) → n < turns → n < number_end → number_from 10 0 (decimal_in turns n) ≡ Some n
turns_back zero n l h = absurd (omega arith)
turns_back (suc turns) n l h = go (ltb n 10) refl (turns_back turns (n / 10))
  where
    go :
        (t : Bool) → ltb n 10 ≡ t → (n / 10 < turns → n / 10 < number_end → number_from 10 0 (decimal_in turns (n / 10)) ≡ Some (n / 10))
        → number_from 10 0 (turned turns n t) ≡ Some n
    go true e more =
        let few = ltb-true n 10 e in
        digit_on 10 0 n (digit n) [] (sym (digit_back n few)) few (omega arith) ∙ ap Some (omega arith)
    go false e more =
        let many = ltb-false n 10 e in
        from_then 10 0 (n / 10) (decimal_in turns (n / 10)) (digit (n % 10) ∷ []) (more (omega arith) (omega arith))
        ∙ digit_on 10 (n / 10) (n % 10) (digit (n % 10)) [] (sym (digit_back (n % 10) (omega arith))) (omega arith) (omega arith)
        ∙ ap Some (omega arith)

-- the number reads back
pub decimal_back : (n : ℕ) → n < number_end → number_of (decimal n) ≡ Some n
unfolding decimal
decimal_back zero h = refl
decimal_back (suc n) h =
    no_zero (decimal_in (suc (suc n)) (suc n)) (turns_some (suc n) (suc n)) (turns_first (suc (suc n)) (suc n) (omega arith) (omega arith))
    ∙ turns_back (suc (suc n)) (suc n) (omega arith) h

-- ---- labels

-- a hexadecimal digit is at or past '0', and is the digit that it says
hex_byte : (d : ℕ) → 48 ≤ hex_digit d
hex_byte d = go (ltb d 10)
  where
    go : (t : Bool) → 48 ≤ cond t (48 + d) (55 + d)
    go true = omega arith
    go false = omega arith

hex_back : (d : ℕ) → d < 16 → d ≡ digit_of (hex_digit d)
hex_back d h = go (ltb d 10) refl
  where
    go : (t : Bool) → ltb d 10 ≡ t → d ≡ digit_of (cond t (48 + d) (55 + d))
    go true e = sym (digit_back d (ltb-true d 10 e))
    go false e =
        let many = ltb-false d 10 e in
        simp (
          le-leb 48 (55 + d) (omega arith),
          lt-leb (55 + d) 57 (omega arith),
          lt-leb 97 (55 + d) (omega arith),
          le-leb 65 (55 + d) (omega arith),
          le-leb (55 + d) 70 (omega arith),
        )
        (omega arith)

-- its bytes pass a test that each does that is at or past '0'
label_pass : (test : ℕ → Bool) → ((b : ℕ) → 48 ≤ b → test b ≡ true) → (n : ℕ) → while test (label n) ≡ label n
label_pass test each n =
    passes_one test 48 _ (each 48 (omega arith))
    (passes_one test 120 _ (each 120 (omega arith)) (one (n / 4096 % 16) _ (one (n / 256 % 16) _ (one (n / 16 % 16) _ (one (n % 16) [] refl)))))
  where
    one : (d : ℕ) (rest : List ℕ) → while test rest ≡ rest → while test (hex_digit d ∷ rest) ≡ hex_digit d ∷ rest
    one d rest = passes_one test (hex_digit d) rest (each (hex_digit d) (hex_byte d))

pub label_word : (n : ℕ) → while in_word (label n) ≡ label n
label_word = label_pass in_word (λ b h. word_byte b (omega arith))

pub label_line : (n : ℕ) → while in_line (label n) ≡ label n
label_line = label_pass in_line (λ b h. line_byte b (omega arith))

-- one digit more
hex_on :
    (m d n : ℕ) (rest : List ℕ) → d < 16 → m * 16 + d ≡ n → n < number_end → number_from 16 m (hex_digit d ∷ rest) ≡ number_from 16 n rest
hex_on m d n rest few e h = digit_on 16 m d (hex_digit d) rest (hex_back d few) few (omega arith) ∙ ap (λ k. number_from 16 k rest) e

-- the number reads back
pub label_back : (n : ℕ) → n < 65_536 → number_of (label n) ≡ Some n
label_back n h =
    hex_on 0 (n / 4096 % 16) (n / 4096) (drop 3 (label n)) (omega arith) (omega arith) (omega arith)
    ∙ hex_on (n / 4096) (n / 256 % 16) (n / 256) (drop 4 (label n)) (omega arith) (omega arith) (omega arith)
    ∙ hex_on (n / 256) (n / 16 % 16) (n / 16) (drop 5 (label n)) (omega arith) (omega arith) (omega arith)
    ∙ hex_on (n / 16) (n % 16) n [] (omega arith) (omega arith) (omega arith)
