-- The laws of words: a word below 2 ^ k is the word of its first k bits, what the masks do to the bits, what the list of set places is, and
-- that the count of ones and of trailing zeros are the length and the head of that list. Each is proved over any number of digits.
-- Assumes nothing.
use Prim.Native.Nat.{ℕ, zero, suc, ◌+◌, ◌-◌, ◌*◌, ◌/◌, ◌%◌, ◌^◌, ◌≤◌, ◌<◌}
use mathlib.Core.Path.{◌≡◌, refl, sym, ap, ap₂, ◌∙◌, subst}
use mathlib.Core.Bool.{Bool, true, false, not, ◌&&◌, ◌||◌, cond, false≢true, and-false}
use mathlib.Core.List.{List, [], ◌∷◌, ◌++◌}
use mathlib.Core.Logic.{◌⊎◌, inl, inr}
use native.Mathlib.Decide.{dec_le}
use native.Mathlib.Nat.{le_refl, lt_of_lt_of_le, lt_of_not-le, not-suc-le-zero, mod-lt, mod-eq_of_lt, div-eq_of_lt, div-one, zero-mul, one-mul, mul_assoc, add-zero, add_comm, zero-add, suc-add, add-suc, add-mul-div_right, pow-suc}
use native.Mathlib.Numerals.{add-one, one-add}
use native.Mathlib.Omega.{arith}
use borrow.Author.Tests.{eqb-true, eq-eqb, ne_eqb, lt-ltb, le-ltb}
use lib.Arith.{lt-one}
use lib.Bits as Bits
use lib.Bits.{bit_and, bit_or, and_shr, or_shr, and_mod, or_mod, and_lt, or_lt, block_odd}
use lib.Count.{ones, ones_step, count_trailing_zeros, trailing_le, under}
use lib.Dec.{eqb, ltb}
use lib.ListN.{length}
use lib.Pow.{pow_pos, pow_mono, pow-add, high, shr-shr, shr_lt, mod-pow-add}
use Rattle.word.specs.Word.{bits, bit_at, placed, places_from, members, bit_of, word_of, set_at, first_or, count_of, lowest_of}

-- ---- one digit

-- a digit is 0 or 1
digit : (n : ℕ) → (n % 2 ≡ 0) ⊎ (n % 2 ≡ 1)
digit n = go (dec_le 1 (n % 2))
  where
    go : Dec (1 ≤ n % 2) → (n % 2 ≡ 0) ⊎ (n % 2 ≡ 1)
    go (yes p) = inr (omega (arith, mod-lt n (pow_pos 1)))
    go (no f) = inl (lt-one (lt_of_not-le f))

-- a test is the digit that says it
bit_of_test : (t : Bool) → eqb (bit_of t) 1 ≡ t
bit_of_test true = refl
bit_of_test false = refl

-- a digit is that of the test of it
of_bit : (n : ℕ) → bit_of (eqb (n % 2) 1) ≡ n % 2
of_bit n = go (digit n)
  where
    go : (n % 2 ≡ 0) ⊎ (n % 2 ≡ 1) → bit_of (eqb (n % 2) 1) ≡ n % 2
    go (inl e) = rw e
    go (inr e) = rw e

-- a digit of a test is below 2
bit_lt : (t : Bool) → bit_of t < 2
bit_lt true = omega arith
bit_lt false = omega arith

-- the next digit's place
next : (w i : ℕ) → w / 2 ^ i / 2 ≡ w / 2 ^ suc i
next w i = shr-shr w i 1 ∙ ap (λ (n : ℕ). w / 2 ^ n) (add-one i)

-- ---- the word of a test

pub word_lt : (test : ℕ → Bool) (k : ℕ) → word_of test k < 2 ^ k
unfolding word_of
word_lt test zero = omega arith
word_lt test (suc k) = go (test k) (word_lt test k)
  where
    go : (t : Bool) → word_of test k < 2 ^ k → word_of test k + bit_of t * 2 ^ k < 2 ^ suc k
    go true h = omega (arith, pow-suc 2 k, one-mul (2 ^ k))
    go false h = omega (arith, pow-suc 2 k, zero-mul (2 ^ k), pow_pos k)

-- digits put from place k on leave the digit at a place below as it is
low_digit : (a k r i : ℕ) → i < k → eqb ((r + a * 2 ^ k) / 2 ^ i % 2) 1 ≡ eqb (r / 2 ^ i % 2) 1
low_digit a k r i h = ap (λ (n : ℕ). eqb (n % 2) 1) moved ∙ ap (λ (n : ℕ). eqb n 1) (block_odd a (k - suc i) (r / 2 ^ i))
  where
    split : k ≡ suc (k - suc i) + i
    split = omega arith

    moved : (r + a * 2 ^ k) / 2 ^ i ≡ a * 2 ^ suc (k - suc i) + r / 2 ^ i
    moved =
        ap (λ (n : ℕ). (r + a * 2 ^ n) / 2 ^ i) split
        ∙ ap (λ (n : ℕ). (r + n) / 2 ^ i) (ap (λ (n : ℕ). a * n) (pow-add 2 (suc (k - suc i)) i) ∙ sym (mul_assoc a (2 ^ suc (k - suc i)) (2 ^ i)))
        ∙ add-mul-div_right r (a * 2 ^ suc (k - suc i)) (pow_pos i) ∙ add_comm (r / 2 ^ i) (a * 2 ^ suc (k - suc i))

-- a digit put at place k is the digit there
top_digit : (t : Bool) (k r : ℕ) → r < 2 ^ k → eqb ((r + bit_of t * 2 ^ k) / 2 ^ k % 2) 1 ≡ t
top_digit t k r h =
    ap (λ (n : ℕ). eqb (n / 2 ^ k % 2) 1) (add_comm r (bit_of t * 2 ^ k)) ∙ ap (λ (n : ℕ). eqb (n % 2) 1) (high (bit_of t) k h)
    ∙ ap (λ (n : ℕ). eqb n 1) (mod-eq_of_lt (bit_lt t)) ∙ bit_of_test t

-- station i stands at bit i: the one law that opens `bit_at`, on which the others stand
pub bit_word : (test : ℕ → Bool) (k i : ℕ) → i < k → bit_at (word_of test k) i ≡ test i
unfolding word_of bit_at
bit_word test zero i h = absurd (not-suc-le-zero h)
bit_word test (suc k) i h = go (bit_word test k i) (dec_le (suc i) k)
  where
    go : (i < k → bit_at (word_of test k) i ≡ test i) → Dec (i < k) → bit_at (word_of test k + bit_of (test k) * 2 ^ k) i ≡ test i
    go below (yes l) = low_digit (bit_of (test k)) k (word_of test k) _ (omega arith) ∙ below l
    go below (no f) =
        let e : i ≡ k = omega (arith, lt_of_not-le f) in
        ap (bit_at (word_of test k + bit_of (test k) * 2 ^ k)) e ∙ top_digit (test k) k (word_of test k) (word_lt test k) ∙ ap test (sym e)

pub word_same : (f g : ℕ → Bool) (k : ℕ) → ((i : ℕ) → i < k → f i ≡ g i) → word_of f k ≡ word_of g k
unfolding word_of
word_same f g zero e = refl
word_same f g (suc k) e =
    ap₂ (λ (x : ℕ) (t : Bool). x + bit_of t * 2 ^ k) (word_same f g k (λ i h. e i (omega arith))) (e k (le_refl (suc k)))

-- the word of a number's first k digits is what 2 ^ k leaves of it
word_digits : (k w : ℕ) → word_of (λ i. eqb (w / 2 ^ i % 2) 1) k ≡ w % 2 ^ k
unfolding word_of
word_digits zero w = omega (arith, mod-lt w (pow_pos 0))
word_digits (suc k) w =
    ap₂ (λ (x y : ℕ). x + y * 2 ^ k) (word_digits k w) (of_bit (w / 2 ^ k)) ∙ add_comm (w % 2 ^ k) (w / 2 ^ k % 2 * 2 ^ k)
    ∙ sym (ap (λ (n : ℕ). w % 2 ^ n) (sym (one-add k)) ∙ mod-pow-add w 1 k)

-- a number is below its power
below_power : (n : ℕ) → n < 2 ^ n
below_power zero = omega arith
below_power (suc n) = omega (arith, below_power n, pow-suc 2 n)

-- the bit at a place is the digit there
bit_at_remainder : (w i : ℕ) → bit_at w i ≡ eqb (w / 2 ^ i % 2) 1
bit_at_remainder w i =
    ap (λ (n : ℕ). bit_at n i) (sym (word_digits (suc i + w) w ∙ mod-eq_of_lt (lt_of_lt_of_le (below_power w) (pow_mono (omega arith)))))
    ∙ bit_word (λ j. eqb (w / 2 ^ j % 2) 1) (suc i + w) i (omega arith)

bit_digit : (w i : ℕ) → bit_of (bit_at w i) ≡ w / 2 ^ i % 2
bit_digit w i = ap bit_of (bit_at_remainder w i) ∙ of_bit (w / 2 ^ i)

bit_is : (w i d : ℕ) → w / 2 ^ i % 2 ≡ d → bit_at w i ≡ eqb d 1
bit_is w i d e = bit_at_remainder w i ∙ ap (λ (n : ℕ). eqb n 1) e

pub bit_past : (k w i : ℕ) → w < 2 ^ k → k ≤ i → bit_at w i ≡ false
bit_past k w i h l = bit_at_remainder w i ∙ ap (λ (n : ℕ). eqb (n % 2) 1) (div-eq_of_lt (lt_of_lt_of_le h (pow_mono l)))

pub word_bits : (k w : ℕ) → w < 2 ^ k → word_of (bit_at w) k ≡ w
word_bits k w h = word_same (bit_at w) (λ i. eqb (w / 2 ^ i % 2) 1) k (λ i l. bit_at_remainder w i) ∙ word_digits k w ∙ mod-eq_of_lt h

pub same_bits : (k v w : ℕ) → v < 2 ^ k → w < 2 ^ k → ((i : ℕ) → i < k → bit_at v i ≡ bit_at w i) → v ≡ w
same_bits k v w hv hw e = sym (word_bits k v hv) ∙ word_same (bit_at v) (bit_at w) k e ∙ word_bits k w hw

-- a word of fewer bits, bit by bit
pub bit_of_word : (f : ℕ → Bool) (k i : ℕ) → bit_at (word_of f k) i ≡ (ltb i k && f i)
bit_of_word f k i = go (dec_le (suc i) k)
  where
    go : Dec (i < k) → bit_at (word_of f k) i ≡ (ltb i k && f i)
    go (yes l) = bit_word f k i l ∙ sym (ap (λ (t : Bool). t && f i) (lt-ltb i k l))
    go (no n) =
        let l : k ≤ i = omega (arith, lt_of_not-le n) in
        bit_past k (word_of f k) i (word_lt f k) l ∙ sym (ap (λ (t : Bool). t && f i) (le-ltb i k l))

pub word_stays : (f : ℕ → Bool) (k : ℕ) → f k ≡ false → word_of f (suc k) ≡ word_of f k
unfolding word_of
word_stays f k e = ap (λ (t : Bool). word_of f k + bit_of t * 2 ^ k) e ∙ ap (λ (n : ℕ). word_of f k + n) (zero-mul (2 ^ k)) ∙ add-zero (word_of f k)

pub word_none : (k : ℕ) → word_of (λ i. false) k ≡ 0
unfolding word_of
word_none zero = refl
word_none (suc k) = word_stays (λ i. false) k refl ∙ word_none k

pub bit_none : (i : ℕ) → bit_at 0 i ≡ false
bit_none i = bit_past 0 0 i (omega arith) (omega arith)

-- the word of a set place and of those before it
set_next_in : (n : ℕ) (f : ℕ → Bool) (k : ℕ) → k < n → f k ≡ true → word_of (λ i. eqb i k || bit_at (word_of f k) i) n ≡ word_of f (suc k)
set_next_in n f k h e =
    same_bits n (word_of (λ i. eqb i k || bit_at (word_of f k) i) n) (word_of f (suc k)) (word_lt (λ i. eqb i k || bit_at (word_of f k) i) n)
    (lt_of_lt_of_le (word_lt f (suc k)) (pow_mono h))
    (λ i l. bit_word (λ i. eqb i k || bit_at (word_of f k) i) n i l ∙ go i (dec_le i k) (dec_le k i))
  where
    go : (i : ℕ) → Dec (i ≤ k) → Dec (k ≤ i) → (eqb i k || bit_at (word_of f k) i) ≡ bit_at (word_of f (suc k)) i
    go i (yes p) (yes q) =
        let same : i ≡ k = omega arith in
        ap (λ (t : Bool). t || bit_at (word_of f k) i) (eq-eqb i k same) ∙ sym (bit_word f (suc k) i (omega arith) ∙ ap f same ∙ e)
    go i (yes p) (no g) =
        let l : i < k = lt_of_not-le g in
        ap (λ (t : Bool). t || bit_at (word_of f k) i) (ne_eqb i k (omega arith)) ∙ bit_word f k i l ∙ sym (bit_word f (suc k) i (omega arith))
    go i (no g) d =
        let l : k < i = lt_of_not-le g in
        ap (λ (t : Bool). t || bit_at (word_of f k) i) (ne_eqb i k (omega arith)) ∙ bit_past k (word_of f k) i (word_lt f k) (omega arith)
        ∙ sym (bit_past (suc k) (word_of f (suc k)) i (word_lt f (suc k)) l)

pub set_next : (f : ℕ → Bool) (k : ℕ) → k < bits → f k ≡ true → set_at (word_of f k) k ≡ word_of f (suc k)
set_next = set_next_in bits

-- ---- masks

-- a mask that works on each digit apart, and on two digits as a test works on two tests
module _ (op : ℕ → ℕ → ℕ) (on : Bool → Bool → Bool)
    (one : (s t : Bool) → eqb (op (bit_of s) (bit_of t)) 1 ≡ on s t)
    (shr : (v w k : ℕ) → op v w / 2 ^ k ≡ op (v / 2 ^ k) (w / 2 ^ k))
    (rem : (v w k : ℕ) → op v w % 2 ^ k ≡ op (v % 2 ^ k) (w % 2 ^ k))
    (bound : (k v w : ℕ) → v < 2 ^ k → w < 2 ^ k → op v w < 2 ^ k) where
  mask_bits : (v w i : ℕ) → bit_at (op v w) i ≡ on (bit_at v i) (bit_at w i)
  mask_bits v w i =
      bit_at_remainder (op v w) i ∙ ap (λ (n : ℕ). eqb (n % 2) 1) (shr v w i)
      ∙ ap (λ (n : ℕ). eqb n 1) (rem (v / 2 ^ i) (w / 2 ^ i) 1 ∙ ap₂ op (sym (bit_digit v i)) (sym (bit_digit w i))) ∙ one (bit_at v i) (bit_at w i)

  mask_of : (f g : ℕ → Bool) (k : ℕ) → op (word_of f k) (word_of g k) ≡ word_of (λ i. on (f i) (g i)) k
  mask_of f g k =
      same_bits k (op (word_of f k) (word_of g k)) (word_of (λ i. on (f i) (g i)) k)
      (bound k (word_of f k) (word_of g k) (word_lt f k) (word_lt g k)) (word_lt (λ i. on (f i) (g i)) k)
      (λ i h. mask_bits (word_of f k) (word_of g k) i ∙ ap₂ on (bit_word f k i h) (bit_word g k i h) ∙ sym (bit_word (λ i. on (f i) (g i)) k i h))

-- `and` and `or` of two digits
and_one : (s t : Bool) → eqb (bit_and (bit_of s) (bit_of t)) 1 ≡ (s && t)
and_one true true = refl
and_one true false = refl
and_one false true = refl
and_one false false = refl

or_one : (s t : Bool) → eqb (bit_or (bit_of s) (bit_of t)) 1 ≡ (s || t)
or_one true true = refl
or_one true false = refl
or_one false true = refl
or_one false false = refl

pub both_bits : (v w i : ℕ) → bit_at (bit_and v w) i ≡ (bit_at v i && bit_at w i)
both_bits = mask_bits bit_and ◌&&◌ and_one and_shr and_mod and_lt

pub either_bits : (v w i : ℕ) → bit_at (bit_or v w) i ≡ (bit_at v i || bit_at w i)
either_bits = mask_bits bit_or ◌||◌ or_one or_shr or_mod or_lt

pub both_of : (f g : ℕ → Bool) (k : ℕ) → bit_and (word_of f k) (word_of g k) ≡ word_of (λ i. f i && g i) k
both_of = mask_of bit_and ◌&&◌ and_one and_shr and_mod and_lt

pub either_of : (f g : ℕ → Bool) (k : ℕ) → bit_or (word_of f k) (word_of g k) ≡ word_of (λ i. f i || g i) k
either_of = mask_of bit_or ◌||◌ or_one or_shr or_mod or_lt

pub both_with : (k w : ℕ) (g : ℕ → Bool) → w < 2 ^ k → bit_and w (word_of g k) ≡ word_of (λ i. bit_at w i && g i) k
both_with k w g h = ap (λ (n : ℕ). bit_and n (word_of g k)) (sym (word_bits k w h)) ∙ both_of (bit_at w) g k

-- a word and the word of the other places make all ones
whole : (f : ℕ → Bool) (k : ℕ) → suc (word_of (λ i. not (f i)) k + word_of f k) ≡ 2 ^ k
unfolding word_of
whole f zero = refl
whole f (suc k) = go (f k) (whole f k)
  where
    go : (t : Bool) → suc (word_of (λ i. not (f i)) k + word_of f k) ≡ 2 ^ k → suc (word_of (λ i. not (f i)) k + bit_of (not t) * 2 ^ k + (word_of f k + bit_of t * 2 ^ k)) ≡ 2 ^ suc k
    go true e = omega (arith, pow-suc 2 k, one-mul (2 ^ k), zero-mul (2 ^ k))
    go false e = omega (arith, pow-suc 2 k, one-mul (2 ^ k), zero-mul (2 ^ k))

-- the other places' word is all ones less the word
pub flip_of : (f : ℕ → Bool) (k : ℕ) → 2 ^ k - 1 - word_of f k ≡ word_of (λ i. not (f i)) k
flip_of f k = omega (arith, whole f k)

-- the word of one place alone
pub single : (p k : ℕ) → word_of (λ i. eqb i p) k ≡ cond (ltb p k) (2 ^ p) 0
unfolding word_of
single p zero = sym (ap (λ (t : Bool). cond t (2 ^ p) 0) (le-ltb p 0 (omega arith)))
single p (suc k) = go (single p k) (dec_le k p) (dec_le p k)
  where
    go : word_of (λ i. eqb i p) k ≡ cond (ltb p k) (2 ^ p) 0 → Dec (k ≤ p) → Dec (p ≤ k) → word_of (λ i. eqb i p) k + bit_of (eqb k p) * 2 ^ k ≡ cond (ltb p (suc k)) (2 ^ p) 0
    go before (yes a) (yes b) =
        let e : k ≡ p = omega arith in
        ap₂ (λ (n : ℕ) (t : Bool). n + bit_of t * 2 ^ k) (before ∙ ap (λ (t : Bool). cond t (2 ^ p) 0) (le-ltb p k a)) (eq-eqb k p e)
        ∙ zero-add (1 * 2 ^ k) ∙ one-mul (2 ^ k) ∙ ap (λ (n : ℕ). 2 ^ n) e ∙ sym (ap (λ (t : Bool). cond t (2 ^ p) 0) (lt-ltb p (suc k) (omega arith)))
    go before (yes a) (no g) =
        let l : k < p = lt_of_not-le g in
        ap₂ (λ (n : ℕ) (t : Bool). n + bit_of t * 2 ^ k) (before ∙ ap (λ (t : Bool). cond t (2 ^ p) 0) (le-ltb p k a)) (ne_eqb k p (omega arith))
        ∙ zero-add (0 * 2 ^ k) ∙ zero-mul (2 ^ k) ∙ sym (ap (λ (t : Bool). cond t (2 ^ p) 0) (le-ltb p (suc k) l))
    go before (no g) d =
        let l : p < k = lt_of_not-le g in
        ap₂ (λ (n : ℕ) (t : Bool). n + bit_of t * 2 ^ k) (before ∙ ap (λ (t : Bool). cond t (2 ^ p) 0) (lt-ltb p k l)) (ne_eqb k p (omega arith))
        ∙ ap (λ (n : ℕ). 2 ^ p + n) (zero-mul (2 ^ k)) ∙ add-zero (2 ^ p) ∙ sym (ap (λ (t : Bool). cond t (2 ^ p) 0) (lt-ltb p (suc k) (omega arith)))

-- ---- a place set, cleared and tested in a word of k bits

pub set_mask : (k w p : ℕ) → w < 2 ^ k → bit_or w (cond (ltb p k) (2 ^ p) 0) ≡ word_of (λ i. eqb i p || bit_at w i) k
set_mask k w p h =
    Bits.or_comm w (cond (ltb p k) (2 ^ p) 0) ∙ ap₂ bit_or (sym (single p k)) (sym (word_bits k w h)) ∙ either_of (λ i. eqb i p) (bit_at w) k

pub clear_mask : (k w p : ℕ) → w < 2 ^ k → bit_and w (2 ^ k - 1 - cond (ltb p k) (2 ^ p) 0) ≡ word_of (λ i. not (eqb i p) && bit_at w i) k
clear_mask k w p h =
    Bits.and_comm w (2 ^ k - 1 - cond (ltb p k) (2 ^ p) 0)
    ∙ ap₂ bit_and (ap (λ (n : ℕ). 2 ^ k - 1 - n) (sym (single p k)) ∙ flip_of (λ i. eqb i p) k) (sym (word_bits k w h))
    ∙ both_of (λ i. not (eqb i p)) (bit_at w) k

pub test_mask : (k w p : ℕ) → w < 2 ^ k → not (eqb (bit_and w (cond (ltb p k) (2 ^ p) 0)) 0) ≡ bit_at w p
test_mask k w p h = ap (λ (n : ℕ). not (eqb n 0)) met ∙ go (bit_at w p) refl
  where
    met : bit_and w (cond (ltb p k) (2 ^ p) 0) ≡ word_of (λ i. bit_at w i && eqb i p) k
    met = ap (bit_and w) (sym (single p k)) ∙ both_with k w (λ i. eqb i p) h

    none : bit_at w p ≡ false → (i : ℕ) (t : Bool) → eqb i p ≡ t → (bit_at w i && t) ≡ false
    none e i true q = ap (λ (n : ℕ). bit_at w n && true) (eqb-true i p q) ∙ ap (λ (t : Bool). t && true) e
    none e i false q = and-false (bit_at w i)

    within : bit_at w p ≡ true → Dec (p < k) → p < k
    within e (yes l) = l
    within e (no g) = absurd (false≢true (sym (bit_past k w p h (omega (arith, lt_of_not-le g))) ∙ e))

    go : (t : Bool) → bit_at w p ≡ t → not (eqb (word_of (λ i. bit_at w i && eqb i p) k) 0) ≡ t
    go false e = ap (λ (n : ℕ). not (eqb n 0)) (word_same (λ i. bit_at w i && eqb i p) (λ i. false) k (λ i l. none e i (eqb i p) refl) ∙ word_none k)
    go true e =
        ap not
        (ne_eqb (word_of (λ i. bit_at w i && eqb i p) k) 0
        (λ z. false≢true
        (sym (bit_none p) ∙ ap (λ (n : ℕ). bit_at n p) (sym z) ∙ bit_word (λ i. bit_at w i && eqb i p) k p (within e (dec_le (suc p) k))
        ∙ ap₂ ◌&&◌ e (eq-eqb p p refl))))

-- ---- the list of set places

pub places_same : (f g : ℕ → Bool) (i k : ℕ) → ((j : ℕ) → i ≤ j → j < i + k → f j ≡ g j) → places_from f i k ≡ places_from g i k
places_same f g i zero e = refl
places_same f g i (suc k) e =
    ap₂ (λ (t : Bool) (l : List ℕ). placed t i l) (e i (le_refl i) (omega arith)) (places_same f g (suc i) k (λ j a b. e j (omega arith) (omega arith)))

pub places_none : (f : ℕ → Bool) (i k : ℕ) → ((j : ℕ) → i ≤ j → j < i + k → f j ≡ false) → places_from f i k ≡ []
places_none f i zero e = refl
places_none f i (suc k) e =
    ap₂ (λ (t : Bool) (l : List ℕ). placed t i l) (e i (le_refl i) (omega arith)) (places_none f (suc i) k (λ j a b. e j (omega arith) (omega arith)))

placed_append : (t : Bool) (i : ℕ) (xs ys : List ℕ) → placed t i (xs ++ ys) ≡ placed t i xs ++ ys
placed_append true i xs ys = refl
placed_append false i xs ys = refl

pub places_split : (f : ℕ → Bool) (i j k : ℕ) → places_from f i (j + k) ≡ places_from f i j ++ places_from f (i + j) k
places_split f i zero k = ap₂ (λ (a b : ℕ). places_from f a b) (sym (add-zero i)) (zero-add k)
places_split f i (suc j) k =
    ap (places_from f i) (suc-add j k) ∙ ap (placed (f i) i) (places_split f (suc i) j k)
    ∙ placed_append (f i) i (places_from f (suc i) j) (places_from f (suc i + j) k)
    ∙ ap (λ (n : ℕ). placed (f i) i (places_from f (suc i) j) ++ places_from f n k) (suc-add i j ∙ sym (add-suc i j))

-- a word of k bits has the places of its test
places_word : (k : ℕ) (f : ℕ → Bool) → places_from (bit_at (word_of f k)) 0 k ≡ places_from f 0 k
places_word k f = places_same (bit_at (word_of f k)) f 0 k (λ j a b. bit_word f k j (omega arith))

pub members_word : (f : ℕ → Bool) → members (word_of f bits) ≡ places_from f 0 bits
members_word = places_word bits

-- ---- counts

-- a place in front counts by its digit
length-placed : (t : Bool) (i : ℕ) (l : List ℕ) → length (placed t i l) ≡ bit_of t + length l
length-placed true i l = sym (one-add (length l))
length-placed false i l = sym (zero-add (length l))

-- the ones from place i on
ones_places : (k i w : ℕ) → w / 2 ^ i < 2 ^ k → ones (w / 2 ^ i) ≡ length (places_from (bit_at w) i k)
unfolding ones
ones_places zero i w h = ap ones (lt-one h)
ones_places (suc k) i w h =
    ones_step (w / 2 ^ i)
    ∙ ap₂ ◌+◌ (sym (bit_digit w i)) (ap ones (next w i) ∙ ones_places k (suc i) w below)
    ∙ sym (length-placed (bit_at w i) i (places_from (bit_at w) (suc i) k))
  where
    below : w / 2 ^ suc i < 2 ^ k
    below = subst (λ (n : ℕ). n < 2 ^ k) (next w i) (shr_lt k 1 (subst (λ (n : ℕ). w / 2 ^ i < 2 ^ n) (sym (add-one k)) h))

ones_all : (k w : ℕ) → w < 2 ^ k → ones w ≡ length (places_from (bit_at w) 0 k)
ones_all k w h = ap ones (sym (div-one w)) ∙ ones_places k 0 w (subst (λ (n : ℕ). n < 2 ^ k) (sym (div-one w)) h)

pub ones_members : (w : ℕ) → w < 2 ^ bits → ones w ≡ count_of w
ones_members = ones_all bits

-- the first of some places, or another number where there is none
abbrev pub first_else : ℕ → List ℕ → ℕ
first_else n [] = n
first_else n (place ∷ places) = place

-- the zeros below the lowest one from place i on
trailing_places : (k i w : ℕ) → i + count_trailing_zeros k (w / 2 ^ i) ≡ first_else (i + k) (places_from (bit_at w) i k)
unfolding count_trailing_zeros
trailing_places zero i w = refl
trailing_places (suc k) i w = go (trailing_places k (suc i) w) (digit (w / 2 ^ i))
  where
    go :
        suc i + count_trailing_zeros k (w / 2 ^ suc i) ≡ first_else (suc i + k) (places_from (bit_at w) (suc i) k)
        → (w / 2 ^ i % 2 ≡ 0) ⊎ (w / 2 ^ i % 2 ≡ 1)
        → i + under (w / 2 ^ i % 2) (count_trailing_zeros k (w / 2 ^ i / 2)) ≡ first_else (i + suc k) (placed (bit_at w i) i (places_from (bit_at w) (suc i) k))
    go rest (inl e) =
        ap (λ (d : ℕ). i + under d (count_trailing_zeros k (w / 2 ^ i / 2))) e ∙ add-suc i (count_trailing_zeros k (w / 2 ^ i / 2))
        ∙ ap (λ (n : ℕ). suc (i + count_trailing_zeros k n)) (next w i) ∙ sym (suc-add i (count_trailing_zeros k (w / 2 ^ suc i))) ∙ rest
        ∙ ap (λ (n : ℕ). first_else n (places_from (bit_at w) (suc i) k)) (suc-add i k ∙ sym (add-suc i k))
        ∙ ap (λ (t : Bool). first_else (i + suc k) (placed t i (places_from (bit_at w) (suc i) k))) (sym (bit_is w i 0 e))
    go rest (inr e) =
        ap (λ (d : ℕ). i + under d (count_trailing_zeros k (w / 2 ^ i / 2))) e ∙ add-zero i
        ∙ ap (λ (t : Bool). first_else (i + suc k) (placed t i (places_from (bit_at w) (suc i) k))) (sym (bit_is w i 1 e))

trailing_all : (k w : ℕ) → count_trailing_zeros k w ≡ first_else k (places_from (bit_at w) 0 k)
trailing_all k w =
    ap (count_trailing_zeros k) (sym (div-one w)) ∙ sym (zero-add (count_trailing_zeros k (w / 2 ^ 0))) ∙ trailing_places k 0 w
    ∙ ap (λ (n : ℕ). first_else n (places_from (bit_at w) 0 k)) (zero-add k)

pub first_or_else : (l : List ℕ) → first_else bits l ≡ first_or l
first_or_else [] = refl
first_or_else (place ∷ places) = refl

pub trailing_lowest : (w : ℕ) → count_trailing_zeros bits w ≡ lowest_of w
trailing_lowest w = trailing_all bits w ∙ first_or_else (members w)

pub lowest_le : (w : ℕ) → lowest_of w ≤ bits
lowest_le w = subst (λ (n : ℕ). n ≤ bits) (trailing_lowest w) (trailing_le bits w)
