-- Arrivals inserted into a row of places, one after the other. Assumes nothing.
use Prim.Native.Nat.{ℕ, suc, ◌+◌, ◌*◌, ◌-◌, ◌≤◌, ◌<◌}
use mathlib.Core.Path.{◌≡◌, refl, sym, ap, ap₂, ◌∙◌}
use mathlib.Core.Bool.{Bool, true, false, cond}
use mathlib.Core.List.{List, [], ◌∷◌, ◌++◌, append-nil}
use native.Mathlib.Nat.{div-mul-le_self}
use native.Mathlib.Omega.{arith}
use borrow.Rule.Slice.PartMut.{put_mid}
use borrow.Author.Tests.{ltb-true, leb-true, leb-false, eqb-true, eq-eqb, ne_eqb, lt-ltb, le-ltb}
use lib.Dec.{leb, ltb, eqb}
use lib.ListN.{length, get_or, take, drop, set, length-drop}
use lib.Seq.{drop-cons, set-append_seam, length-take-le}
use Rattle.rules.specs.Bus.{clock_end}
use Rattle.rules.specs.SetUp.{discipline_of}
use Rattle.rules.specs.Standing.{value_is_fit}
use Rattle.sorts.proofs.DisciplineCases.{by_discipline}
use Rattle.std.specs.List.{prefix_len, take_while}
use Rattle.std.proofs.lemmas.List.{drop-take, take-take, take_all, drop_all}
use Rattle.std.proofs.lemmas.List.Folds.{length-prefix_len}
use Rattle.state.specs.declared.Arrival.{Arrival}
use Rattle.layout.specs.Layout.{inserted, later, value_at, arrival_of}

-- ---- one arrival

-- whether one comes before another that is inserted
abbrev pub stays : Arrival → Arrival → Bool
stays a x = leb x.time.0 a.time.0

-- it has its place after those that come before it
inserted_at : (a : Arrival) (xs : List Arrival) → inserted a xs ≡ take (prefix_len (stays a) xs) xs ++ (a ∷ drop (prefix_len (stays a) xs) xs)
inserted_at a [] = refl
inserted_at a (x ∷ xs) = go (stays a x) refl (inserted_at a xs)
  where
    p : ℕ
    p = prefix_len (stays a) xs

    one_more : take (1 + p) (x ∷ xs) ++ (a ∷ drop (1 + p) (x ∷ xs)) ≡ x ∷ (take p xs ++ (a ∷ drop p xs))
    one_more = let next : 1 + p ≡ suc p = omega arith in ap (λ n. take n (x ∷ xs) ++ (a ∷ drop n (x ∷ xs))) next

    go :
        (t : Bool) → stays a x ≡ t → inserted a xs ≡ take p xs ++ (a ∷ drop p xs)
        → cond (ltb a.time.0 x.time.0) (a ∷ x ∷ xs) (x ∷ inserted a xs)
        ≡ take (cond t (1 + p) 0) (x ∷ xs) ++ (a ∷ drop (cond t (1 + p) 0) (x ∷ xs))
    go true e more =
        ap₂ (λ t (l : List Arrival). cond t (a ∷ x ∷ xs) (x ∷ l)) (le-ltb a.time.0 x.time.0 (leb-true x.time.0 a.time.0 e)) more ∙ sym one_more
    go false e more = ap (λ t. cond t (a ∷ x ∷ xs) (x ∷ inserted a xs)) (lt-ltb a.time.0 x.time.0 (leb-false x.time.0 a.time.0 e))

-- the places from one on turned by one, and it is stored there
module _ (xs ys : List Arrival) (p : ℕ) (a : Arrival) (h : p < length xs) where
  abbrev long : ℕ
  long = length xs - p

  abbrev mid : List Arrival
  mid = take long (drop p xs)

  whole : mid ≡ drop p xs
  whole = take_all long (drop p xs) (omega (arith, length-drop p xs))

  last : drop (long - 1) (drop p xs) ≡ get_or (drop p xs) (long - 1) (arrival_of 0 0 0 0) ∷ []
  last =
      drop-cons (drop p xs) (long - 1) (arrival_of 0 0 0 0) (omega (arith, length-drop p xs))
      ∙ ap (λ (l : List Arrival). get_or (drop p xs) (long - 1) (arrival_of 0 0 0 0) ∷ l) (drop_all (suc (long - 1)) (drop p xs) (omega (arith, length-drop p xs)))

  stored :
      ys ≡ drop (length mid - 1) mid ++ take (length mid - 1) mid
      → set (put_mid p long xs ys) p a ≡ take p xs ++ (a ∷ take (long - 1) (drop p xs))
  stored e =
      let n : length mid - 1 ≡ long - 1 = omega (arith, ap length whole, length-drop p xs) in
      let turned : ys ≡ (get_or (drop p xs) (long - 1) (arrival_of 0 0 0 0) ∷ []) ++ take (long - 1) (drop p xs)
      = e ∙ ap₂ (λ n (l : List Arrival). drop n l ++ take n l) n whole ∙ ap (λ (l : List Arrival). l ++ take (long - 1) (drop p xs)) last in
      let over : drop long (drop p xs) ≡ [] = drop_all long (drop p xs) (omega (arith, length-drop p xs)) in
      ap₂
      (λ (l r : List Arrival). set (take p xs ++ (l ++ r)) p a)
      turned
      over
      ∙ ap
      (λ n. set (take p xs ++ (get_or (drop p xs) (long - 1) (arrival_of 0 0 0 0) ∷ (take (long - 1) (drop p xs) ++ []))) n a)
      (sym (length-take-le p xs (omega arith)))
      ∙ set-append_seam (take p xs) _ _ a
      ∙ ap (λ (l : List Arrival). take p xs ++ (a ∷ l)) (append-nil (take (long - 1) (drop p xs)))

  -- it is inserted among those before the last place
  pub inserted_there :
      ys ≡ drop (length mid - 1) mid ++ take (length mid - 1) mid → p ≡ length (take_while (stays a) (take (length xs - 1) xs))
      → set (put_mid p long xs ys) p a ≡ inserted a (take (length xs - 1) xs)
  inserted_there e f =
      let others = take (length xs - 1) xs in
      let first : p ≡ prefix_len (stays a) others = f ∙ length-prefix_len (stays a) others in
      let split : length xs - 1 ≡ p + (long - 1) = omega arith in
      stored e
      ∙ ap₂
      (λ (l r : List Arrival). l ++ (a ∷ r))
      (sym (take-take p (length xs - 1) xs (omega arith)))
      (sym (ap (λ n. drop p (take n xs)) split ∙ drop-take p (long - 1) xs))
      ∙ ap (λ n. take n others ++ (a ∷ drop n others)) first
      ∙ sym (inserted_at a others)

-- ---- an arrival every so many slots

module _ (discipline value time : ℕ) where
  pub value_after : discipline ≡ 1 → value_at discipline value time ≡ time + value
  value_after e = rw (eq-eqb discipline 1 e)

  pub value_same : (discipline ≡ 1 → ⊥) → value_at discipline value time ≡ value
  value_same e = rw (ne_eqb discipline 1 e)

-- a later one's value is not below
pub value_up : (discipline value time last : ℕ) → time ≤ last → value_at discipline value time ≤ value_at discipline value last
value_up discipline value time last h = up (eqb discipline 1)
  where
    up : (datagram : Bool) → cond datagram (time + value) value ≤ cond datagram (last + value) value
    up true = omega arith
    up false = omega arith

-- the last is not past the second slot
pub last_within : (every from to : ℕ) → from ≤ to → from + later every from to * every ≤ to
last_within every from to h = omega (arith, div-mul-le_self (to - from) every)

-- ---- values

module _ (discipline d value : ℕ) (h : d < 4_294_967_296) where
  -- a value in its range is a number of 32 bits
  pub fits_below : value_is_fit (discipline_of discipline) d value ≡ true → value < 4_294_967_296
  fits_below =
      by_discipline
      (λ x. value_is_fit x d value ≡ true → value < 4_294_967_296)
      discipline
      (λ _ e. omega (arith, ltb-true value d e))
      (λ _ e. omega (arith, leb-true value clock_end e))
      (λ _ e. omega (arith, eqb-true value 0 e))

  pub large_unfit : 4_294_967_296 ≤ value → value_is_fit (discipline_of discipline) d value ≡ false
  large_unfit k = unfit (value_is_fit (discipline_of discipline) d value) refl
    where
      unfit : (fits : Bool) → value_is_fit (discipline_of discipline) d value ≡ fits → fits ≡ false
      unfit true e = absurd (omega (arith, fits_below e))
      unfit false e = refl
