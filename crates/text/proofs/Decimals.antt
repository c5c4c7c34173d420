-- A number in decimal: its digits from the highest place down, and how many they are. Assumes nothing.
use Prim.Native.Nat.{ℕ, zero, suc, ◌+◌, ◌*◌, ◌/◌, ◌%◌, ◌^◌, ◌≤◌, ◌<◌}
use mathlib.Core.Path.{◌≡◌, refl, sym, ap, ap₂, ◌∙◌}
use mathlib.Core.Logic.{◌⊎◌, inl, inr, ⊎_elim}
use mathlib.Core.Bool.{Bool, true, false, cond}
use mathlib.Core.List.{List, [], ◌∷◌, ◌++◌}
use native.Mathlib.Nat.{div-one, div-div-eq-div-mul, pow-suc, pow-succ', one-le-pow}
use native.Mathlib.Numerals.{add-one}
use native.Mathlib.Omega.{arith}
use borrow.Author.Tests.{lt-ltb, le-ltb, ltb-true}
use lib.Dec.{ltb}
use lib.ListN.{length, length-append}
use Rattle.text.specs.Text.{digit, decimal_in, decimal}

-- p is 10 ^ k for the k that has a number n below ten times it and, unless it is 1, not below it
abbrev pub power_for : ℕ → ℕ → Type 0
power_for n p = (k : ℕ) × (p ≡ 10 ^ k) × (n / 10 < p) × ((k ≡ 0) ⊎ (p ≤ n))

-- ---- digits from the highest place down

-- the digits of a number at the k lowest places, the highest first
abbrev pub digits : ℕ → ℕ → List ℕ
digits zero n = []
digits (suc k) n = digit (n / 10 ^ k % 10) ∷ digits k n

-- the last digit joins those of a tenth
pub digits_last : (k n : ℕ) → digits k (n / 10) ++ (digit (n % 10) ∷ []) ≡ digits (suc k) n
digits_last zero n = ap (λ m. digit (m % 10) ∷ []) (sym (div-one n))
digits_last (suc k) n =
    ap₂
    (λ m more. digit (m % 10) ∷ more)
    (div-div-eq-div-mul n 10 (10 ^ k) ∙ ap (λ p. n / p) (sym (pow-succ' 10 k)))
    (digits_last k n)

-- what a turn gives, by whether the number is below ten
abbrev turned : ℕ → ℕ → Bool → List ℕ
turned turns n small = cond small (digit n ∷ []) (decimal_in turns (n / 10) ++ (digit (n % 10) ∷ []))

-- enough turns give the digits from the highest that is not 0, or the only one, down
turns_digits :
    (turns k n : ℕ) → n < turns → n / 10 < 10 ^ k → (k ≡ 0) ⊎ (10 ^ k ≤ n) → decimal_in turns n ≡ digits (suc k) n
turns_digits zero k n l below above = absurd (omega arith)
turns_digits (suc turns) zero n l below above =
    ap (turned turns n) (lt-ltb n 10 (omega arith))
    ∙ ap (λ m. digit m ∷ []) (omega (arith, div-one n))
turns_digits (suc turns) (suc k) n l below above =
    let some = one-le-pow k 10 (omega arith) in
    let ten = pow-suc 10 k in
    let high : 10 ^ suc k ≤ n = ⊎_elim (λ e. absurd (omega arith)) (λ h. h) above in
    ap (turned turns n) (le-ltb n 10 (omega arith))
    ∙ ap (λ more. more ++ (digit (n % 10) ∷ [])) (turns_digits turns k (n / 10) (omega arith) (omega arith) (inr (omega arith)))
    ∙ digits_last (suc k) n

-- a number in decimal is its digits from the place of its highest power of ten down
pub decimal-digits : (n p : ℕ) (h : power_for n p) → decimal n ≡ digits (suc h.0) n
unfolding decimal
decimal-digits n p h = turns_digits (suc n) h.0 n (omega arith) (rw h.1 at h.2) (rw h.1 at h.3)

-- ---- how many digits

-- there are as many digits as places
digits_length : (k n : ℕ) → length (digits k n) ≡ k
digits_length zero n = refl
digits_length (suc k) n = ap suc (digits_length k n)

-- a number has a digit for each place up to that of its highest power of ten
pub power_length : (n p : ℕ) (h : power_for n p) → length (decimal n) ≡ suc h.0
power_length n p h = ap length (decimal-digits n p h) ∙ digits_length (suc h.0) n

-- a number that is not below 10 ^ k, and below 10 times it, has k + 1 digits; 0 has one
pub decimal_size : (n k : ℕ) → 10 ^ k ≤ n → n < 10 * 10 ^ k → k + 1 ≡ length (decimal n)
decimal_size n k low high = omega (arith, power_length n (10 ^ k) (k, refl, omega arith, inr low))

pub decimal_zero : (n : ℕ) → n ≡ 0 → 1 ≡ length (decimal n)
decimal_zero n e = rw e (sym (power_length 0 1 (0, refl, omega arith, inl refl)))

-- any turns give the digits at as many places as they are
turns_places : (turns n : ℕ) → decimal_in turns n ≡ digits (length (decimal_in turns n)) n
turns_places zero n = refl
turns_places (suc turns) n = go (ltb n 10) refl (turns_places turns (n / 10))
  where
    go : (t : Bool) → ltb n 10 ≡ t → decimal_in turns (n / 10) ≡ digits (length (decimal_in turns (n / 10))) (n / 10)
        → turned turns n t ≡ digits (length (turned turns n t)) n
    go true e more = ap (λ m. digit m ∷ []) (omega (arith, ltb-true, div-one n))
    go false e more =
        let tenth = decimal_in turns (n / 10) in
        ap (λ (l : List ℕ). l ++ (digit (n % 10) ∷ [])) more
        ∙ digits_last (length tenth) n
        ∙ ap (λ k. digits k n) (sym (length-append tenth (digit (n % 10) ∷ []) ∙ add-one (length tenth)))

-- a number in decimal is its digits at as many places as they are
pub decimal_places : (n : ℕ) → decimal n ≡ digits (length (decimal n)) n
unfolding decimal
decimal_places n = turns_places (suc n) n

-- any turns give no more digits than the power of ten above the number tells
turns_length : (turns k n : ℕ) → n < 10 ^ suc k → length (decimal_in turns n) ≤ suc k
turns_length zero k n h = omega arith
turns_length (suc turns) zero n h = let small = lt-ltb n 10 (omega arith) in rw small (omega arith)
turns_length (suc turns) (suc k) n h = go (ltb n 10) (turns_length turns k (n / 10) (omega (arith, pow-suc 10 (suc k))))
  where
    go : (t : Bool) → length (decimal_in turns (n / 10)) ≤ suc k → length (turned turns n t) ≤ suc (suc k)
    go true few = omega arith
    go false few = omega (arith, length-append (decimal_in turns (n / 10)) (digit (n % 10) ∷ []))

-- a number below 10 ^ (k + 1) has no more than k + 1 digits
pub decimal_length : (k n : ℕ) → n < 10 ^ suc k → length (decimal n) ≤ suc k
unfolding decimal
decimal_length k n = turns_length (suc n) k n

-- one below 2 ^ 32 no more than ten, and one below 2 ^ 64 no more than twenty
pub decimal_short : (n : ℕ) → n < 2 ^ 32 → length (decimal n) ≤ 10
decimal_short n h = decimal_length 9 n (omega arith)

pub decimal_long : (n : ℕ) → n < 2 ^ 64 → length (decimal n) ≤ 20
decimal_long n h = decimal_length 19 n (omega arith)
