-- Laws of powers of two that windows rest on: their order, their parts, and their count of ones. Assumes nothing.
use Prim.Native.Nat.{ℕ, zero, suc, ◌-◌, ◌*◌, ◌/◌, ◌%◌, ◌^◌, ◌≤◌, ◌<◌}
use mathlib.Core.Path.{◌≡◌, refl, sym, ap, ◌∙◌, subst}
use mathlib.Core.Bool.{Bool, true, false}
use mathlib.Core.Logic.{◌⊎◌, inl, inr}
use native.Mathlib.Nat.{le_of_suc-le-suc, lt_of_not-le, not-le_of_lt, le_antisymm, le_of_eq, sub-add_cancel, lt_of_mul-lt-mul_right, mul-lt-mul_of_pos_right, pow-suc, one-mul, add-zero, eq-zero-or-pos}
use native.Mathlib.Omega.{arith}
use borrow.Author.Tests.{eqb-true, eqb-false, eq-eqb, ne_eqb}
use lib.Arith.{bin_ind}
use lib.Count.{ones, ones_step, ones_cat}
use lib.Dec.{eqb}
use lib.Pow.{pow_pos, pow-lt, pow-add}

-- A power that is no larger has an exponent that is no larger.
pub pow_le : (a b : ℕ) → 2 ^ a ≤ 2 ^ b → a ≤ b
pow_le a b h = le_of_suc-le-suc (lt_of_not-le (λ (g : suc b ≤ a). not-le_of_lt (pow-lt g) h))

-- Equal powers have equal exponents.
pub pow_same : (a b : ℕ) → 2 ^ a ≡ 2 ^ b → a ≡ b
pow_same a b e = le_antisymm (pow_le a b (le_of_eq e)) (pow_le b a (le_of_eq (sym e)))

-- To compare two powers is to compare their exponents.
pub pow_eqb : (a b : ℕ) → eqb (2 ^ a) (2 ^ b) ≡ eqb a b
pow_eqb a b = go (eqb a b) refl
  where
    go : (t : Bool) → eqb a b ≡ t → eqb (2 ^ a) (2 ^ b) ≡ t
    go true e = eq-eqb _ _ (ap (λ (x : ℕ). 2 ^ x) (eqb-true a b e))
    go false e = ne_eqb _ _ (λ q. eqb-false a b e (pow_same a b q))

-- A larger power is a number of parts, itself a power, each as large as the smaller one.
pub pow_parts : (l k : ℕ) → l ≤ k → 2 ^ k ≡ 2 ^ (k - l) * 2 ^ l
pow_parts l k h = ap (λ (x : ℕ). 2 ^ x) (sym (sub-add_cancel h)) ∙ pow-add 2 (k - l) l

-- A part that starts inside the larger power has a number below the number of parts.
pub part_below : (m l k : ℕ) → l ≤ k → m * 2 ^ l < 2 ^ k → m < 2 ^ (k - l)
part_below m l k h p = lt_of_mul-lt-mul_right (2 ^ l) (subst (λ (x : ℕ). m * 2 ^ l < x) (pow_parts l k h) p)

-- A part with a number below the number of parts starts inside.
pub part_inside : (m l k : ℕ) → l ≤ k → m < 2 ^ (k - l) → m * 2 ^ l < 2 ^ k
part_inside m l k h p = rw (pow_parts l k h) (mul-lt-mul_of_pos_right p (pow_pos l))

-- The parts of a larger power are even in number, so after an even part there is another.
pub after_even : (m k : ℕ) → 0 < k → m % 2 ≡ 0 → m < 2 ^ k → suc m < 2 ^ k
after_even m zero p e h = absurd (omega arith)
after_even m (suc k) p e h = omega (arith, pow-suc 2 k)

-- A number with no ones is 0.
ones_none : (n : ℕ) → ones n ≡ 0 → n ≡ 0
ones_none = bin_ind (λ (n : ℕ). ones n ≡ 0 → n ≡ 0) (λ _. refl) step
  where
    step : (n : ℕ) → (ones (n / 2) ≡ 0 → n / 2 ≡ 0) → ones n ≡ 0 → n ≡ 0
    step n ih e =
        let s = ones_step n in
        let z : n / 2 ≡ 0 = ih (omega arith) in
        omega arith

-- A number with one one is a power of two.
pub one_one : (n : ℕ) → ones n ≡ 1 → (k : ℕ) × (n ≡ 2 ^ k)
unfolding ones
one_one = bin_ind (λ (n : ℕ). ones n ≡ 1 → (k : ℕ) × (n ≡ 2 ^ k)) (λ e. (0, absurd (no e))) step
  where
    no : ◌≡◌ {A = ℕ} 0 1 → ⊥
    no e = omega arith

    step : (n : ℕ) → (ones (n / 2) ≡ 1 → (k : ℕ) × (n / 2 ≡ 2 ^ k)) → ones n ≡ 1 → (k : ℕ) × (n ≡ 2 ^ k)
    step n ih e = go (eq-zero-or-pos (n % 2))
      where
        go : (n % 2 ≡ 0) ⊎ (0 < n % 2) → (k : ℕ) × (n ≡ 2 ^ k)
        go (inl z) =
            let s = ones_step n in
            let r = ih (omega arith) in
            (suc r.0, omega (arith, pow-suc 2 r.0, r.1))
        go (inr p) =
            let s = ones_step n in
            let z : n / 2 ≡ 0 = ones_none (n / 2) (omega arith) in
            (0, omega arith)

-- A power of two has one one.
pub ones_pow : (k : ℕ) → ones (2 ^ k) ≡ 1
unfolding ones
ones_pow k = ap ones (sym (one-mul (2 ^ k)) ∙ sym (add-zero (1 * 2 ^ k))) ∙ ones_cat k 1 0 (pow_pos k)
