-- Laws of rows of places: `values_from`, `row` and `each_place` (specs/State.antt).
-- A loop over the places from i to n meets them as `.. i (n - i)`: `-turn` is one turn of it, `-end` its end. Assumes nothing.
use Prim.Native.Nat.{ℕ, zero, suc, ◌+◌, ◌-◌, ◌≤◌, ◌<◌}
use mathlib.Core.Path.{◌≡◌, refl, sym, ap, ap₂, ◌∙◌, subst}
use mathlib.Core.Logic.{◌⊎◌, inl, inr}
use mathlib.Core.Bool.{Bool, true, false, ◌&&◌, cond}
use mathlib.Core.List.{List, [], ◌∷◌, map}
use native.Mathlib.Nat.{zero-add, add-zero, suc-add, add-suc}
use native.Mathlib.Omega.{arith}
use lib.Dec.{eqb}
use lib.ListN.{length, get_or, take, set, replicate, length-set, length-replicate, get_or-replicate}
use lib.Seq.{ext_get_or, length-take-le, get_or-take, get_or-set_same, get_or-set_other}
use borrow.Author.Tests.{eqb-true, eqb-false}
use Rattle.rules.specs.Lists.{Among, at_head, in_tail}
use Rattle.rules.proofs.Laws.{and-true, true-and, among_none, among_cases}
use Rattle.state.specs.State.{values_from, row, each_place}

-- what is left of n places at i, before and at the end
pub rest_suc : (i n : ℕ) → i < n → n - i ≡ suc (n - suc i)
rest_suc i n h = omega arith

pub rest_none : (i n : ℕ) → n ≤ i → n - i ≡ 0
rest_none i n h = omega arith

-- a place from i on is i, or a later one
pub here_or_later : (i j : ℕ) → i ≤ j → (j ≡ i) ⊎ (i < j)
here_or_later i j l = go (eqb j i) refl
  where
    go : (t : Bool) → eqb j i ≡ t → (j ≡ i) ⊎ (i < j)
    go true e = inl (eqb-true j i e)
    go false e = let n = eqb-false j i e in inr (omega arith)

-- the first n of values
pub take-map : {X Y : Type 0} (f : X → Y) (n : ℕ) (xs : List X) → take n (map f xs) ≡ map f (take n xs)
take-map f zero xs = refl
take-map f (suc n) [] = refl
take-map f (suc n) (x ∷ xs) = ap (λ ys. f x ∷ ys) (take-map f n xs)

-- ---- each place

pub each_place_all : (test : ℕ → Bool) (i k : ℕ) → each_place test i k ≡ true → (j : ℕ) → i ≤ j → j < i + k → test j ≡ true
unfolding each_place
each_place_all test i zero e j l h = absurd (omega arith)
each_place_all test i (suc k) e j l h =
    let both = and-true (test i) (each_place test (suc i) k) e in
    go (here_or_later i j l) both.0 (λ m. each_place_all test (suc i) k both.1 j m (omega arith))
  where
    go : (j ≡ i) ⊎ (i < j) → test i ≡ true → (i < j → test j ≡ true) → test j ≡ true
    go (inl s) here later = ap test s ∙ here
    go (inr m) here later = later m

pub all_each_place : (test : ℕ → Bool) (i k : ℕ) → ((j : ℕ) → i ≤ j → j < i + k → test j ≡ true) → each_place test i k ≡ true
unfolding each_place
all_each_place test i zero h = refl
all_each_place test i (suc k) h =
    true-and (h i (omega arith) (omega arith)) (all_each_place test (suc i) k (λ j l m. h j (omega arith) (omega arith)))

pub each_place_turn : (test : ℕ → Bool) (i n : ℕ) → i < n → each_place test i (n - i) ≡ (test i && each_place test (suc i) (n - suc i))
unfolding each_place
each_place_turn test i n h = ap (each_place test i) (rest_suc i n h)

pub each_place_end : (test : ℕ → Bool) (i n : ℕ) → n ≤ i → each_place test i (n - i) ≡ true
unfolding each_place
each_place_end test i n h = ap (each_place test i) (rest_none i n h)

-- ---- values

module _ {X : Type 0} where
  pub values_length : (f : ℕ → X) (i k : ℕ) → length (values_from f i k) ≡ k
  values_length f i zero = refl
  values_length f i (suc k) = ap suc (values_length f (suc i) k)

  pub values_at : (f : ℕ → X) (i k j : ℕ) (d : X) → j < k → get_or (values_from f i k) j d ≡ f (i + j)
  values_at f i zero j d h = absurd (omega arith)
  values_at f i (suc k) zero d h = ap f (sym (add-zero i))
  values_at f i (suc k) (suc j) d h = values_at f (suc i) k j d (omega arith) ∙ ap f (suc-add i j ∙ sym (add-suc i j))

  pub values_same : (f g : ℕ → X) (i k : ℕ) → ((j : ℕ) → i ≤ j → j < i + k → f j ≡ g j) → values_from f i k ≡ values_from g i k
  values_same f g i zero h = refl
  values_same f g i (suc k) h =
      ap₂ ◌∷◌ (h i (omega arith) (omega arith)) (values_same f g (suc i) k (λ j l m. h j (omega arith) (omega arith)))

  -- a list that has these values at its places
  pub values_ext :
      (f : ℕ → X) (i k : ℕ) (xs : List X) (d : X) → length xs ≡ k → ((j : ℕ) → j < k → get_or xs j d ≡ f (i + j)) → xs ≡ values_from f i k
  values_ext f i k xs d e h =
      ext_get_or
      d
      xs
      (values_from f i k)
      (e ∙ sym (values_length f i k))
      (λ j l. let m = subst (λ n. j < n) e l in h j m ∙ sym (values_at f i k j d m))

  pub values_take : (xs : List X) (d : X) (n : ℕ) → n ≤ length xs → take n xs ≡ values_from (λ i. get_or xs i d) 0 n
  values_take xs d n h =
      values_ext
      (λ i. get_or xs i d)
      0
      n
      (take n xs)
      d
      (length-take-le n xs h)
      (λ j l. get_or-take n xs j d l ∙ ap (λ k. get_or xs k d) (sym (zero-add j)))

  -- a value is of a place, and the value of a place is among them
  pub values_among : {x : X} (f : ℕ → X) (i k : ℕ) → Among x (values_from f i k) → (j : ℕ) × (i ≤ j) × (j < i + k) × (x ≡ f j)
  values_among f i zero a = absurd (among_none a)
  values_among {x} f i (suc k) a = go (among_cases a) (values_among f (suc i) k)
    where
      go :
          (x ≡ f i) ⊎ Among x (values_from f (suc i) k)
          → (Among x (values_from f (suc i) k) → (j : ℕ) × (suc i ≤ j) × (j < suc i + k) × (x ≡ f j))
          → (j : ℕ) × (i ≤ j) × (j < i + suc k) × (x ≡ f j)
      go (inl e) more = (i, omega arith, omega arith, e)
      go (inr b) more = let r = more b in (r.0, omega (arith, r.1), omega (arith, r.2), r.3)

  pub among_values : (f : ℕ → X) (i k j : ℕ) → i ≤ j → j < i + k → Among (f j) (values_from f i k)
  among_values f i zero j l h = absurd (omega arith)
  among_values f i (suc k) j l h = go (here_or_later i j l) (λ m. among_values f (suc i) k j m (omega arith))
    where
      go : (j ≡ i) ⊎ (i < j) → (i < j → Among (f j) (values_from f (suc i) k)) → Among (f j) (f i ∷ values_from f (suc i) k)
      go (inl e) later = at_head (ap f e)
      go (inr m) later = in_tail (later m)

pub values_map : {X Y : Type 0} (g : X → Y) (f : ℕ → X) (i k : ℕ) → map g (values_from f i k) ≡ values_from (λ j. g (f j)) i k
values_map g f i zero = refl
values_map g f i (suc k) = ap (λ ys. g (f i) ∷ ys) (values_map g f (suc i) k)

-- ---- rows

module _ {X : Type 0} where
  pub row_length : (n : ℕ) (f : ℕ → X) → length (row n f) ≡ n
  unfolding row
  row_length n f = values_length f 0 n

  pub row_at : (n : ℕ) (f : ℕ → X) (i : ℕ) (d : X) → i < n → get_or (row n f) i d ≡ f i
  unfolding row
  row_at n f i d h = values_at f 0 n i d h ∙ ap f (zero-add i)

  -- a row is what stands at its places
  pub row_ext : (n : ℕ) (f : ℕ → X) (xs : List X) (d : X) → length xs ≡ n → ((i : ℕ) → i < n → get_or xs i d ≡ f i) → xs ≡ row n f
  unfolding row
  row_ext n f xs d e h = values_ext f 0 n xs d e (λ i l. h i l ∙ ap f (sym (zero-add i)))

  pub row_same : (n : ℕ) (f g : ℕ → X) → ((i : ℕ) → i < n → f i ≡ g i) → row n f ≡ row n g
  unfolding row
  row_same n f g h = values_same f g 0 n (λ j l m. h j (omega arith))

  pub row_replicate : (n : ℕ) (x : X) → replicate n x ≡ row n (λ i. x)
  row_replicate n x = row_ext n (λ i. x) (replicate n x) x (length-replicate n x) (λ i h. get_or-replicate n i x x h)

  pub row_set : (n : ℕ) (f : ℕ → X) (i : ℕ) (x : X) → i < n → set (row n f) i x ≡ row n (λ j. cond (eqb j i) x (f j))
  row_set n f i x h = row_ext n (λ j. cond (eqb j i) x (f j)) (set (row n f) i x) x (length-set (row n f) i x ∙ row_length n f) place
    where
      place : (j : ℕ) → j < n → get_or (set (row n f) i x) j x ≡ cond (eqb j i) x (f j)
      place j l = go (eqb j i) refl
        where
          go : (t : Bool) → eqb j i ≡ t → get_or (set (row n f) i x) j x ≡ cond t x (f j)
          go true e =
              ap (λ k. get_or (set (row n f) i x) k x) (eqb-true j i e) ∙ get_or-set_same (row n f) i x x (omega (arith, row_length n f))
          go false e = get_or-set_other (row n f) i j x x (eqb-false j i e) ∙ row_at n f j x l
