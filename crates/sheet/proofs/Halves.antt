-- Multiplication in halves is multiplication, whatever the base of the halves. Assumes nothing.
use Prim.Native.Nat.{ℕ, ◌+◌, ◌*◌, ◌/◌, ◌%◌, ◌<◌}
use mathlib.Core.Path.{◌≡◌, refl, sym, ap, ap₂, ◌∙◌}
use native.Mathlib.Nat.{add_assoc, add_comm, add_left_comm, mul_assoc, mul_comm, mul_left_comm, mul-add, add-mul, mod-lt, div-add-mod'}
use native.Mathlib.Omega.{arith}
use lib.Arith.{digits_lt, digits_div, digits_mod}
use Rattle.sheet.specs.Words.{words, number, first, middle, next, in_halves}

-- a number's two words are it
pub words_number : (size n : ℕ) → number size (words size n) ≡ n
words_number size n = div-add-mod' n size

-- and two words are those of the number that they are, where the low one stays below `size`
words_of : (size high low : ℕ) → low < size → words size (high * size + low) ≡ record { high = high; low = low }
words_of size high low h = ap₂ (λ x y. record { high = x; low = y }) (digits_div high h) (digits_mod high h)

-- a column with what it was handed, one place up
moved : (base x c q r : ℕ) → x + c ≡ q * base + r → x * base + c * base ≡ q * (base * base) + r * base
moved base x c q r e =
    sym (add-mul x c base) ∙ ap (λ n. n * base) e ∙ add-mul (q * base) r base ∙ ap (λ n. n + r * base) (mul_assoc q base base)

-- the four products of halves
halves : (base a b a' b' : ℕ) → (a * base + a') * (b * base + b') ≡ a * b * (base * base) + a * b' * base + a' * b * base + a' * b'
halves base a b a' b' = simp (mul-add, add-mul, mul_assoc, mul_comm, mul_left_comm, add_assoc, add_comm, add_left_comm) refl

-- the product by its columns, given what each carries and leaves
columns :
    (base a b a' b' q r q₁ r₁ q₂ r₂ : ℕ) → a' * b' ≡ q * base + r → a * b' + q ≡ q₁ * base + r₁ → r₁ + a' * b ≡ q₂ * base + r₂
    → (a * base + a') * (b * base + b') ≡ (a * b + q₁ + q₂) * (base * base) + (r₂ * base + r)
columns base a b a' b' q r q₁ r₁ q₂ r₂ e f g =
    let whole = halves base a b a' b' in
    let second = moved base (a * b') q q₁ r₁ f in
    let third = moved base r₁ (a' * b) q₂ r₂ g in
    omega (arith, add-mul (a * b + q₁) q₂ (base * base), add-mul (a * b) q₁ (base * base))

-- The law, over the width: for halves of any base, the two words that multiplication in halves makes are those of the product.
pub in_halves_exact : (base a b : ℕ) → 0 < base → in_halves base a b ≡ words (base * base) (a * b)
in_halves_exact base a b h =
    sym (words_of (base * base) (in_halves base a b).high (in_halves base a b).low (digits_lt (mod-lt (next base a b) h) (mod-lt (first base a b) h)))
    ∙ ap (words (base * base)) (sym made ∙ ap₂ ◌*◌ (div-add-mod' a base) (div-add-mod' b base))
  where
    digits : (n : ℕ) → n ≡ n / base * base + n % base
    digits n = sym (div-add-mod' n base)

    made : (a / base * base + a % base) * (b / base * base + b % base) ≡ (in_halves base a b).high * (base * base) + (in_halves base a b).low
    made =
        columns base (a / base) (b / base) (a % base) (b % base)
        (first base a b / base) (first base a b % base)
        (middle base a b / base) (middle base a b % base)
        (next base a b / base) (next base a b % base)
        (digits (first base a b)) (digits (middle base a b)) (digits (next base a b))
