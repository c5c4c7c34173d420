-- What the members of a word are: which places are among them, how a place set or cleared changes them, that they tell the word, and that the
-- lowest place is the first of them. Assumes nothing.
use Prim.Native.Nat.{ℕ, zero, suc, ◌+◌, ◌^◌, ◌≤◌, ◌<◌}
use mathlib.Core.Path.{◌≡◌, refl, sym, ap, ap₂, ◌∙◌, subst}
use mathlib.Core.Bool.{Bool, true, false, not, ◌&&◌, ◌||◌, false≢true}
use mathlib.Core.List.Memᴰ.{cases_cons as head_or_tail}
use mathlib.Core.List.Memᴰ.{head as at_head}
use mathlib.Core.List.Memᴰ.{not-nil}
use mathlib.Core.List.Memᴰ.{tail as in_Tail}
use mathlib.Core.List.{[], Memᴰ as Among}
use mathlib.Core.Logic.{◌⊎◌, inl, inr, ◌↔◌}
use native.Mathlib.Decide.{dec_le}
use native.Mathlib.Nat.{lt_irrefl, eq-or-lt_of_le, lt_of_lt_of_le, lt_of_not-le}
use native.Mathlib.Omega.{arith}
use borrow.Author.Tests.{eqb-true, eqb-false, eq-eqb, ne_eqb}
use lib.Bits.{bit_and}
use lib.Dec.{eqb}
use Rattle.word.specs.Word.{bits, bit_at, placed, places_from, members, set_at, clear_at, lowest_of}
use Rattle.word.proofs.Laws.{word_lt, bit_word, same_bits, both_bits, places_none, first_else, first_or_else, lowest_le}

-- ---- a place is among those for which a test holds exactly when it is one of the places asked and the test holds for it

pub among_places : (f : ℕ → Bool) (i k p : ℕ) → Among p (places_from f i k) → (i ≤ p) × (p < i + k) × (f p ≡ true)
among_places f i zero p m = absurd (not-nil m)
among_places f i (suc k) p m = go (f i) refl (among_places f (suc i) k p) m
  where
    later : (suc i ≤ p) × (p < suc i + k) × (f p ≡ true) → (i ≤ p) × (p < i + suc k) × (f p ≡ true)
    later r = (omega arith, omega arith, r.2)

    first : f i ≡ true → (p ≡ i) ⊎ ((suc i ≤ p) × (p < suc i + k) × (f p ≡ true)) → (i ≤ p) × (p < i + suc k) × (f p ≡ true)
    first e (inl q) = (omega arith, omega arith, ap f q ∙ e)
    first e (inr r) = later r

    rest : (Among p (places_from f (suc i) k) → (suc i ≤ p) × (p < suc i + k) × (f p ≡ true))
        → (p ≡ i) ⊎ Among p (places_from f (suc i) k) → (p ≡ i) ⊎ ((suc i ≤ p) × (p < suc i + k) × (f p ≡ true))
    rest below (inl q) = inl q
    rest below (inr n) = inr (below n)

    go :
        (t : Bool) → f i ≡ t → (Among p (places_from f (suc i) k) → (suc i ≤ p) × (p < suc i + k) × (f p ≡ true))
        → Among p (placed t i (places_from f (suc i) k)) → (i ≤ p) × (p < i + suc k) × (f p ≡ true)
    go true e below n = first e (rest below (head_or_tail n))
    go false e below n = later (below n)

pub places_among : (f : ℕ → Bool) (i k p : ℕ) → i ≤ p → p < i + k → f p ≡ true → Among p (places_from f i k)
places_among f i zero p h l e = absurd (omega arith)
places_among f i (suc k) p h l e = go (f i) refl (λ (m : i < p). places_among f (suc i) k p m (omega arith) e) (eq-or-lt_of_le h)
  where
    go : (t : Bool) → f i ≡ t → (i < p → Among p (places_from f (suc i) k)) → (i ≡ p) ⊎ (i < p) → Among p (placed t i (places_from f (suc i) k))
    go true q below (inl s) = at_head (sym s)
    go true q below (inr m) = in_Tail (below m)
    go false q below (inl s) = absurd (false≢true (sym q ∙ ap f s ∙ e))
    go false q below (inr m) = below m

-- a place is a member exactly when it is one of the places and its bit is set
pub member : (w p : ℕ) → Among p (members w) ↔ ((p < bits) × (bit_at w p ≡ true))
member w p = (
  (λ (m : Among p (members w)). let r = among_places (bit_at w) 0 bits p m in (omega arith, r.2)),
  (λ (r : (p < bits) × (bit_at w p ≡ true)). places_among (bit_at w) 0 bits p (omega arith) (omega arith) r.1),
)

-- ---- two words with the same members are equal

-- two tests that hold together are the same
together : (a b : Bool) → (a ≡ true → b ≡ true) → (b ≡ true → a ≡ true) → a ≡ b
together true b p q = sym (p refl)
together false true p q = q refl
together false false p q = refl

pub same_members : (v w : ℕ) → v < 2 ^ bits → w < 2 ^ bits → ((p : ℕ) → Among p (members v) ↔ Among p (members w)) → v ≡ w
same_members v w hv hw same =
    same_bits
    bits
    v
    w
    hv
    hw
    (λ i l. together (bit_at v i) (bit_at w i) (over v w i l (same i).0) (over w v i l (same i).1))
  where
    over : (v w i : ℕ) → i < bits → (Among i (members v) → Among i (members w)) → bit_at v i ≡ true → bit_at w i ≡ true
    over v w i l same b = ((member w i).0 (same ((member v i).1 (l, b)))).1

-- ---- what a place set and a place cleared do

pub bit_set : (w p i : ℕ) → i < bits → bit_at (set_at w p) i ≡ (eqb i p || bit_at w i)
bit_set w p = bit_word (λ i. eqb i p || bit_at w i) bits

pub bit_clear : (w p i : ℕ) → i < bits → bit_at (clear_at w p) i ≡ (not (eqb i p) && bit_at w i)
bit_clear w p = bit_word (λ i. not (eqb i p) && bit_at w i) bits

pub set_lt : (w p : ℕ) → set_at w p < 2 ^ bits
set_lt w p = word_lt (λ i. eqb i p || bit_at w i) bits

pub clear_lt : (w p : ℕ) → clear_at w p < 2 ^ bits
clear_lt w p = word_lt (λ i. not (eqb i p) && bit_at w i) bits

-- a test for a place or another that holds, and one that leaves a place out
either : (i p : ℕ) (t : Bool) → (eqb i p || t) ≡ true → (i ≡ p) ⊎ (t ≡ true)
either i p t e = go (eqb i p) refl e
  where
    go : (a : Bool) → eqb i p ≡ a → (a || t) ≡ true → (i ≡ p) ⊎ (t ≡ true)
    go true q r = inl (eqb-true i p q)
    go false q r = inr r

other : (i p : ℕ) (t : Bool) → (not (eqb i p) && t) ≡ true → (i ≡ p → ⊥) × (t ≡ true)
other i p t e = go (eqb i p) refl e
  where
    go : (a : Bool) → eqb i p ≡ a → (not a && t) ≡ true → (i ≡ p → ⊥) × (t ≡ true)
    go true q r = absurd (false≢true r)
    go false q r = (eqb-false i p q, r)

pub members-set : (w p q : ℕ) → Among q (members (set_at w p)) ↔ (((q ≡ p) × (q < bits)) ⊎ Among q (members w))
members-set w p q = (down, up)
  where
    pick : q < bits → (q ≡ p) ⊎ (bit_at w q ≡ true) → ((q ≡ p) × (q < bits)) ⊎ Among q (members w)
    pick l (inl e) = inl (e, l)
    pick l (inr b) = inr ((member w q).1 (l, b))

    down : Among q (members (set_at w p)) → ((q ≡ p) × (q < bits)) ⊎ Among q (members w)
    down m = let r = (member (set_at w p) q).0 m in pick r.0 (either q p (bit_at w q) (sym (bit_set w p q r.0) ∙ r.1))

    or_right : (a : Bool) → (a || true) ≡ true
    or_right true = refl
    or_right false = refl

    up : ((q ≡ p) × (q < bits)) ⊎ Among q (members w) → Among q (members (set_at w p))
    up (inl s) = (member (set_at w p) q).1 (s.1, bit_set w p q s.1 ∙ ap (λ (t : Bool). t || bit_at w q) (eq-eqb q p s.0))
    up (inr m) =
        let r = (member w q).0 m in
        (member (set_at w p) q).1 (r.0, bit_set w p q r.0 ∙ ap (λ (t : Bool). eqb q p || t) r.1 ∙ or_right (eqb q p))

pub members_clear : (w p q : ℕ) → Among q (members (clear_at w p)) ↔ ((q ≡ p → ⊥) × Among q (members w))
members_clear w p q = (down, up)
  where
    down : Among q (members (clear_at w p)) → (q ≡ p → ⊥) × Among q (members w)
    down m =
        let r = (member (clear_at w p) q).0 m in
        let o = other q p (bit_at w q) (sym (bit_clear w p q r.0) ∙ r.1) in
        (o.0, (member w q).1 (r.0, o.1))

    up : (q ≡ p → ⊥) × Among q (members w) → Among q (members (clear_at w p))
    up s =
        let r = (member w q).0 s.1 in
        (member (clear_at w p) q).1 (r.0, bit_clear w p q r.0 ∙ ap₂ (λ (a b : Bool). not a && b) (ne_eqb q p s.0) r.1)

-- ---- what two words have in common

pub members_both : (v w q : ℕ) → Among q (members (bit_and v w)) ↔ (Among q (members v) × Among q (members w))
members_both v w q = (down, up)
  where
    sides : (a b : Bool) → (a && b) ≡ true → (a ≡ true) × (b ≡ true)
    sides true b e = (refl, e)
    sides false b e = absurd (false≢true e)

    down : Among q (members (bit_and v w)) → Among q (members v) × Among q (members w)
    down m =
        let r = (member (bit_and v w) q).0 m in
        let s = sides (bit_at v q) (bit_at w q) (sym (both_bits v w q) ∙ r.1) in
        ((member v q).1 (r.0, s.0), (member w q).1 (r.0, s.1))

    up : Among q (members v) × Among q (members w) → Among q (members (bit_and v w))
    up s =
        let a = (member v q).0 s.0 in
        let b = (member w q).0 s.1 in
        (member (bit_and v w) q).1 (a.0, both_bits v w q ∙ ap₂ ◌&&◌ a.1 b.1)

-- ---- the lowest place

-- below the first place for which a test holds it holds for none
first_below : (f : ℕ → Bool) (d i k j : ℕ) → i ≤ j → j < i + k → j < first_else d (places_from f i k) → f j ≡ false
first_below f d i zero j h l m = absurd (omega arith)
first_below f d i (suc k) j h l m = go (f i) refl (λ (n : i < j). first_below f d (suc i) k j n (omega arith)) (eq-or-lt_of_le h) m
  where
    go :
        (t : Bool) → f i ≡ t → (i < j → j < first_else d (places_from f (suc i) k) → f j ≡ false) → (i ≡ j) ⊎ (i < j)
        → j < first_else d (placed t i (places_from f (suc i) k)) → f j ≡ false
    go true e below s n = absurd (omega arith)
    go false e below (inl q) n = ap f (sym q) ∙ e
    go false e below (inr g) n = below g n

-- for the first place itself it holds
first_own : (f : ℕ → Bool) (d i k : ℕ) → first_else d (places_from f i k) < d → f (first_else d (places_from f i k)) ≡ true
first_own f d i zero l = absurd (lt_irrefl d l)
first_own f d i (suc k) l = go (f i) refl (first_own f d (suc i) k) l
  where
    go :
        (t : Bool) → f i ≡ t → (first_else d (places_from f (suc i) k) < d → f (first_else d (places_from f (suc i) k)) ≡ true)
        → first_else d (placed t i (places_from f (suc i) k)) < d → f (first_else d (placed t i (places_from f (suc i) k))) ≡ true
    go true e below n = e
    go false e below n = below n

pub lowest_below : (w i : ℕ) → i < lowest_of w → bit_at w i ≡ false
lowest_below w i h =
    first_below (bit_at w) bits 0 bits i (omega arith) (omega (arith, lt_of_lt_of_le h (lowest_le w))) (subst (λ (n : ℕ). i < n) (sym (first_or_else (members w))) h)

pub lowest_own : (w : ℕ) → lowest_of w < bits → bit_at w (lowest_of w) ≡ true
lowest_own w h =
    subst (λ (n : ℕ). bit_at w n ≡ true) (first_or_else (members w))
    (first_own (bit_at w) bits 0 bits (subst (λ (n : ℕ). n < bits) (sym (first_or_else (members w))) h))

-- it is a member, and no member stands below it
pub lowest_member : (w : ℕ) → lowest_of w < bits → Among (lowest_of w) (members w)
lowest_member w h = (member w (lowest_of w)).1 (h, lowest_own w h)

pub lowest_first : (w p : ℕ) → Among p (members w) → lowest_of w ≤ p
lowest_first w p m = go (dec_le (lowest_of w) p)
  where
    go : Dec (lowest_of w ≤ p) → lowest_of w ≤ p
    go (yes l) = l
    go (no f) = absurd (false≢true (sym (lowest_below w p (lt_of_not-le f)) ∙ ((member w p).0 m).1))

-- where no place is below the number of bits, the word has no member
pub lowest_none : (w : ℕ) → lowest_of w ≡ bits → members w ≡ []
lowest_none w e = places_none (bit_at w) 0 bits (λ j a b. lowest_below w j (subst (λ (n : ℕ). j < n) (sym e) (omega arith)))
