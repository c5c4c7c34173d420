-- Tests and the conditions that they test: `Whether C t` says that the test t holds exactly when the condition C does; and lists of
-- them, as refusals are tried. Assumes nothing.
use Prim.Native.Nat.{ℕ, ◌≤◌, ◌<◌}
use mathlib.Core.Path.{◌≡◌, refl, sym, subst}
use mathlib.Core.Logic.{◌⊎◌, inl, inr}
use mathlib.Core.Bool.{Bool, true, false, not, ◌&&◌, ◌||◌, cond}
use mathlib.Core.List.{List, [], ◌∷◌}
use native.Mathlib.Nat.{not-le_of_lt}
use native.Mathlib.Omega.{arith}
use lib.Dec.{leb, ltb, eqb}
use borrow.Author.Tests.{ltb-true, ltb-false, leb-true, leb-false, eqb-true, eqb-false}
use Rattle.rules.specs.Lists.{some_of, each_of, Among, at_head, in_tail, All, Some, distinct, Distinct, outside, first_of, Given}
use Rattle.rules.specs.Conditions.{Outside}
use Rattle.rules.proofs.Laws.{clash, and-true, among_cases, among_none, all_cons, all_nil}

pub data Whether (C : Type 0) : Bool → Type 0 where
  holds : C → Whether C true
  fails : ¬ C → Whether C false

-- what is not refuted holds, where a test decides
pub stable : {C : Type 0} {t : Bool} → Whether C t → ¬ ¬ C → C
stable (holds c) h = c
stable (fails n) h = absurd (h n)

-- the test tells of the condition, and the condition of the test
pub tells : {C : Type 0} {t : Bool} → Whether C t → t ≡ true → C
tells (holds c) e = c
tells (fails n) e = clash e refl

pub told : {C : Type 0} {t : Bool} → Whether C t → C → t ≡ true
told (holds c) h = refl
told (fails n) h = absurd (n h)

-- from what the test tells when it holds and when it does not
pub decides : {C : Type 0} (t : Bool) → (t ≡ true → C) → (t ≡ false → ¬ C) → Whether C t
decides true f g = holds (f refl)
decides false f g = fails (g refl)

-- the same condition in other words
pub in_words : {A B : Type 0} {t : Bool} → (A → B) → (B → A) → Whether A t → Whether B t
in_words f g (holds a) = holds (f a)
in_words f g (fails n) = fails (λ b. n (g b))

-- ---- tests of tests

pub negated : {A : Type 0} {t : Bool} → Whether A t → Whether (¬ A) (not t)
negated (holds a) = fails (λ n. n a)
negated (fails n) = holds n

pub negated_twice : {A : Type 0} {t : Bool} → Whether A t → Whether A (not (not t))
negated_twice (holds a) = holds a
negated_twice (fails n) = fails n

pub both : {A B : Type 0} {s t : Bool} → Whether A s → Whether B t → Whether (A × B) (s && t)
both (holds a) (holds b) = holds (a, b)
both (holds a) (fails n) = fails (λ p. n p.1)
both (fails n) w = fails (λ p. n p.0)

pub one_of : {A B : Type 0} {s t : Bool} → Whether A s → Whether B t → Whether (A ⊎ B) (s || t)
one_of (holds a) w = holds (inl a)
one_of (fails n) (holds b) = holds (inr b)
one_of {A} {B} (fails n) (fails m) = fails neither
  where
    neither : A ⊎ B → ⊥
    neither (inl a) = n a
    neither (inr b) = m b

-- one test where C holds, another where it does not
pub by_case : {C A B : Type 0} {c s t : Bool} → Whether C c → Whether A s → Whether B t → Whether ((C × A) ⊎ ((¬ C) × B)) (cond c s t)
by_case {C} {A} {B} (holds c) w v = in_words (λ a. inl (c, a)) back w
  where
    back : (C × A) ⊎ ((¬ C) × B) → A
    back (inl p) = p.1
    back (inr p) = absurd (p.0 c)
by_case {C} {A} {B} (fails n) w v = in_words (λ b. inr (n, b)) back v
  where
    back : (C × A) ⊎ ((¬ C) × B) → B
    back (inl p) = absurd (n p.0)
    back (inr p) = p.1

-- ---- tests of numbers

pub below : (a b : ℕ) → Whether (a < b) (ltb a b)
below a b = decides (ltb a b) (ltb-true a b) (λ e h. not-le_of_lt h (ltb-false a b e))

pub at_most : (a b : ℕ) → Whether (a ≤ b) (leb a b)
at_most a b = decides (leb a b) (leb-true a b) (λ e. not-le_of_lt (leb-false a b e))

pub equal : (a b : ℕ) → Whether (a ≡ b) (eqb a b)
equal a b = decides (eqb a b) (eqb-true a b) (eqb-false a b)

pub out_of : (least most n : ℕ) → Whether (Outside least most n) (outside least most n)
out_of least most n = go (at_most least n) (at_most n most)
  where
    within : least ≤ n → n ≤ most → (n < least) ⊎ (most < n) → ⊥
    within p q (inl o) = omega arith
    within p q (inr o) = omega arith

    go : {s t : Bool} → Whether (least ≤ n) s → Whether (n ≤ most) t → Whether (Outside least most n) (not (s && t))
    go (holds p) (holds q) = fails (within p q)
    go (holds p) (fails q) = holds (inr (omega arith))
    go (fails p) w = holds (inl (omega arith))

pub inside : {least most n : ℕ} → ¬ Outside least most n → (least ≤ n) × (n ≤ most)
inside {least} {most} {n} h = let p : ¬ (n < least) = λ k. h (inl k) in let q : ¬ (most < n) = λ k. h (inr k) in omega arith

-- ---- tests of lists

module _ {X : Type 0} {P : X → Type 0} {t : X → Bool} where
  pub for_each : ((x : X) → Whether (P x) (t x)) → (xs : List X) → Whether (All P xs) (each_of t xs)
  for_each w [] = holds (all_nil P)
  for_each w (x ∷ xs) =
      in_words (λ p. all_cons x p.0 p.1) (λ h. (h x (at_head refl), λ y i. h y (in_tail i))) (both (w x) (for_each w xs))

  pub for_some : ((x : X) → Whether (P x) (t x)) → (xs : List X) → Whether (Some P xs) (some_of t xs)
  for_some w [] = fails (λ s. among_none s.1)
  for_some w (x ∷ xs) = in_words forth (λ s. back s.0 s.2 (among_cases s.1)) (one_of (w x) (for_some w xs))
    where
      forth : P x ⊎ Some P xs → Some P (x ∷ xs)
      forth (inl p) = (x, at_head refl, p)
      forth (inr s) = (s.0, in_tail s.1, s.2)

      back : (y : X) → P y → (y ≡ x) ⊎ Among y xs → P x ⊎ Some P xs
      back y p (inl e) = inl (subst P e p)
      back y p (inr i) = inr (y, i, p)

  pub for_none : ((x : X) → Whether (P x) (t x)) → (xs : List X) → Whether (All (λ x. ¬ P x) xs) (not (some_of t xs))
  for_none w xs = in_words (λ h x i p. h (x, i, p)) (λ h s. h s.0 s.1 s.2) (negated (for_some w xs))

pub is_among : {X : Type 0} {x : X} {t : X → Bool} → ((y : X) → Whether (x ≡ y) (t y)) → (xs : List X) → Whether (Among x xs) (some_of t xs)
is_among {x} w xs = in_words (λ s. subst (λ y. Among y xs) (sym s.2) s.1) (λ i. (x, i, refl)) (for_some w xs)

pub none_twice : (ns : List ℕ) → Whether (Distinct ns) (distinct ns)
none_twice [] = holds tt
none_twice (n ∷ ns) = both (negated (is_among (equal n) ns)) (none_twice ns)

-- ---- lists of tests

-- tests beside the conditions that they test, with the same verdicts
pub data Tried {Out : Type 0} : List (Out × Bool) → List (Out × Type 0) → Type 1 where
  done : Tried [] []
  ◌then◌ :
      {v : Out} {t : Bool} {C : Type 0} {ts : List (Out × Bool)} {cs : List (Out × Type 0)} → Whether C t → Tried ts cs
      → Tried ((v, t) ∷ ts) ((v, C) ∷ cs)

infixr 5 ◌then◌
-- none of the conditions holds
abbrev pub NoneHolds : {Out : Type 0} → List (Out × Type 0) → Type 0
NoneHolds [] = Unit {0}
NoneHolds (c ∷ cs) = (¬ c.1) × NoneHolds cs

module _ {Out : Type 0} (accepted : Out) where
  -- the first test that holds gives the verdict of the first condition that does
  pub given : {ts : List (Out × Bool)} {cs : List (Out × Type 0)} → Tried ts cs → Given accepted cs (first_of accepted ts)
  given done = refl
  given (holds c then more) = inl (c, refl)
  given (fails n then more) = inr (n, given more)

  -- where every refusal has a number from 1 on and the verdict given has 0, none of the conditions holds
  pub none_held :
      (number : Out → ℕ) {ts : List (Out × Bool)} {cs : List (Out × Type 0)} → Tried ts cs → each_of (λ v. ltb 0 (number v.0)) ts ≡ true
      → number (first_of accepted ts) ≡ 0 → NoneHolds cs
  none_held number done k e = tt
  none_held number (◌then◌ {v} (holds c) more) k e = let h = ltb-true 0 (number v) (and-true (ltb 0 (number v)) _ k).0 in absurd (omega arith)
  none_held number (◌then◌ {v} (fails n) more) k e = (n, none_held number more (and-true (ltb 0 (number v)) _ k).1 e)
