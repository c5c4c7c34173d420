-- Laws of the words in specs/Lists.antt, and of tests. Assumes nothing.
use Prim.Native.Nat.{ℕ, suc, ◌+◌, ◌≤◌}
use mathlib.Core.Path.{◌≡◌, refl, sym, ap, ap₂, ◌∙◌, subst}
use mathlib.Core.Logic.{◌⊎◌, inl, inr}
use mathlib.Core.Bool.{Bool, true, false, not, ◌&&◌, ◌||◌}
use mathlib.Core.List.{List, [], ◌∷◌, ◌++◌, map}
use native.Mathlib.Omega.{arith}
use lib.ListN.{length}
use Rattle.rules.specs.Lists.{bit, kept, keep, count, each_of, total, Among, at_head, in_tail, All}

-- ---- tests

pub clash : {X : Type 0} {t : Bool} → t ≡ true → t ≡ false → X
clash yes! no! = let z : ◌≡◌ {A = ℕ} 0 1 = ap bit (sym no! ∙ yes!) in absurd (omega arith)

pub and-true : (a b : Bool) → (a && b) ≡ true → (a ≡ true) × (b ≡ true)
and-true true b e = (refl, e)
and-true false b e = clash e refl

pub true-and : {a b : Bool} → a ≡ true → b ≡ true → (a && b) ≡ true
true-and {a} {b} p q = rw (p, q)

pub and-false : (a b : Bool) → (a && b) ≡ false → (a ≡ false) ⊎ (b ≡ false)
and-false true b e = inr e
and-false false b e = inl refl

pub or-false : (a b : Bool) → (a || b) ≡ false → (a ≡ false) × (b ≡ false)
or-false true b e = clash refl e
or-false false b e = (refl, e)

pub bit_most : (t : Bool) → bit t ≤ 1
bit_most true = omega arith
bit_most false = omega arith

-- ---- each and some

module _ {X : Type 0} where
  pub among_cases : {x y : X} {ys : List X} → Among x (y ∷ ys) → (x ≡ y) ⊎ Among x ys
  among_cases (at_head e) = inl e
  among_cases (in_tail i) = inr i

  pub among_none : {x : X} → ¬ Among x []
  among_none i = elim i [ ]

  pub among_left : {x : X} {xs : List X} (ys : List X) → Among x xs → Among x (xs ++ ys)
  among_left ys (at_head e) = at_head e
  among_left ys (in_tail i) = in_tail (among_left ys i)

  pub among_right : {x : X} (xs : List X) {ys : List X} → Among x ys → Among x (xs ++ ys)
  among_right [] i = i
  among_right (y ∷ xs) i = in_tail (among_right xs i)

  pub among_append : {x : X} (xs : List X) {ys : List X} → Among x (xs ++ ys) → Among x xs ⊎ Among x ys
  among_append [] i = inr i
  among_append {x} (y ∷ xs) {ys} i = go (among_cases i) (among_append xs)
    where
      go : (x ≡ y) ⊎ Among x (xs ++ ys) → (Among x (xs ++ ys) → Among x xs ⊎ Among x ys) → Among x (y ∷ xs) ⊎ Among x ys
      go (inl e) more = inl (at_head e)
      go (inr j) more = then (more j)
        where
          then : Among x xs ⊎ Among x ys → Among x (y ∷ xs) ⊎ Among x ys
          then (inl k) = inl (in_tail k)
          then (inr k) = inr k

  -- all of a list from its head and all of its tail
  pub all_cons : {P : X → Type 0} (y : X) {ys : List X} → P y → All P ys → All P (y ∷ ys)
  all_cons {P} y h k x (at_head e) = subst P (sym e) h
  all_cons y h k x (in_tail i) = k x i

  pub all_nil : (P : X → Type 0) → All P []
  all_nil P x i = absurd (among_none i)

  -- the tests
  pub each_view : (test : X → Bool) (xs : List X) → each_of test xs ≡ true → All (λ x. test x ≡ true) xs
  each_view test [] e = all_nil (λ x. test x ≡ true)
  each_view test (x ∷ xs) e = let p = and-true (test x) (each_of test xs) e in all_cons x p.0 (each_view test xs p.1)

  -- ---- keeping and counting

  -- those kept were there and pass the test, and those that were there and pass are kept
  pub keep_from : {y : X} (test : X → Bool) (xs : List X) → Among y (keep test xs) → Among y xs × (test y ≡ true)
  keep_from {y} test [] i = absurd (among_none i)
  keep_from {y} test (x ∷ xs) i = go (test x) refl i (keep_from test xs)
    where
      later : Among y xs × (test y ≡ true) → Among y (x ∷ xs) × (test y ≡ true)
      later h = (in_tail h.0, h.1)

      first : test x ≡ true → (y ≡ x) ⊎ Among y (keep test xs) → (Among y (keep test xs) → Among y xs × (test y ≡ true)) → Among y (x ∷ xs) × (test y ≡ true)
      first h (inl e) more = (at_head e, ap test e ∙ h)
      first h (inr j) more = later (more j)

      go : (t : Bool) → test x ≡ t → Among y (kept t x (keep test xs)) → (Among y (keep test xs) → Among y xs × (test y ≡ true)) → Among y (x ∷ xs) × (test y ≡ true)
      go true h j more = first h (among_cases j) more
      go false h j more = later (more j)

  pub keep_into : {y : X} (test : X → Bool) (xs : List X) → Among y xs → test y ≡ true → Among y (keep test xs)
  keep_into {y} test [] i h = elim i [ ]
  keep_into {y} test (x ∷ xs) (at_head e) h = go (test x) (sym (ap test e) ∙ h)
    where
      go : (t : Bool) → t ≡ true → Among y (kept t x (keep test xs))
      go true k = at_head e
      go false k = clash k refl
  keep_into {y} test (x ∷ xs) (in_tail i) h = go (test x) (keep_into test xs i h)
    where
      go : (t : Bool) → Among y (keep test xs) → Among y (kept t x (keep test xs))
      go true k = in_tail k
      go false k = k

  pub length_keep : (test : X → Bool) (xs : List X) → length (keep test xs) ≡ count test xs
  length_keep test [] = refl
  length_keep test (x ∷ xs) = go (test x) (length_keep test xs)
    where
      go : (t : Bool) → length (keep test xs) ≡ count test xs → length (kept t x (keep test xs)) ≡ bit t + count test xs
      go true e = omega arith
      go false e = omega arith

  pub count-le : (test : X → Bool) (xs : List X) → count test xs ≤ length xs
  count-le test [] = omega arith
  count-le test (x ∷ xs) = go (test x) (count-le test xs)
    where
      go : (t : Bool) → count test xs ≤ length xs → bit t + count test xs ≤ suc (length xs)
      go true h = omega arith
      go false h = omega arith

  pub count_same : {test test' : X → Bool} (xs : List X) → All (λ x. test x ≡ test' x) xs → count test xs ≡ count test' xs
  count_same [] h = refl
  count_same (x ∷ xs) h = ap₂ (λ t n. bit t + n) (h x (at_head refl)) (count_same xs (λ y i. h y (in_tail i)))

  pub count_none : {test : X → Bool} (xs : List X) → All (λ x. test x ≡ false) xs → count test xs ≡ 0
  count_none [] h = refl
  count_none (x ∷ xs) h = ap₂ (λ t n. bit t + n) (h x (at_head refl)) (count_none xs (λ y i. h y (in_tail i)))

  pub none_counted : (test : X → Bool) (xs : List X) → count test xs ≡ 0 → All (λ x. test x ≡ false) xs
  none_counted test [] e = all_nil (λ x. test x ≡ false)
  none_counted test (x ∷ xs) e = go (test x) refl e (none_counted test xs)
    where
      go : (t : Bool) → test x ≡ t → bit t + count test xs ≡ 0 → (count test xs ≡ 0 → All (λ y. test y ≡ false) xs) → All (λ y. test y ≡ false) (x ∷ xs)
      go true h z more = absurd (omega arith)
      go false h z more = all_cons x h (more (omega arith))

  -- a count in two parts
  pub count_parts : (test part part' : X → Bool) (xs : List X) → All (λ x. bit (test x) ≡ bit (part x) + bit (part' x)) xs → count test xs ≡ count part xs + count part' xs
  count_parts test part part' [] h = refl
  count_parts test part part' (x ∷ xs) h = let e = h x (at_head refl) in let i = count_parts test part part' xs (λ y j. h y (in_tail j)) in omega arith

  pub count_mono : {test test' : X → Bool} (xs : List X) → All (λ x. test x ≡ true → test' x ≡ true) xs → count test xs ≤ count test' xs
  count_mono [] h = omega arith
  count_mono {test} {test'} (x ∷ xs) h = go (test x) (test' x) (h x (at_head refl)) (count_mono xs (λ y i. h y (in_tail i)))
    where
      go : (t t' : Bool) → (t ≡ true → t' ≡ true) → count test xs ≤ count test' xs → bit t + count test xs ≤ bit t' + count test' xs
      go true true f i = omega arith
      go true false f i = clash (f refl) refl
      go false true f i = omega arith
      go false false f i = omega arith

  pub total_parts : (f g h : X → ℕ) (xs : List X) → All (λ x. f x ≡ g x + h x) xs → total f xs ≡ total g xs + total h xs
  total_parts f g h [] k = refl
  total_parts f g h (x ∷ xs) k = let e = k x (at_head refl) in let i = total_parts f g h xs (λ y j. k y (in_tail j)) in omega arith

  -- where all pass, all are kept
  pub keep_all : (test : X → Bool) (xs : List X) → All (λ x. test x ≡ true) xs → keep test xs ≡ xs
  keep_all test [] h = refl
  keep_all test (x ∷ xs) h = rw (h x (at_head refl)) (ap (λ ys. x ∷ ys) (keep_all test xs (λ y i. h y (in_tail i))))

  -- an element that passes the test is counted
  pub count_some : (test : X → Bool) {x : X} (xs : List X) → Among x xs → test x ≡ true → 1 ≤ count test xs
  count_some test [] i h = elim i [ ]
  count_some test (y ∷ xs) (at_head e) h = let one = ap bit (sym (ap test e) ∙ h) in omega arith
  count_some test (y ∷ xs) (in_tail i) h = omega (arith, count_some test xs i h)

  pub count-append : (test : X → Bool) (xs ys : List X) → count test (xs ++ ys) ≡ count test xs + count test ys
  count-append test [] ys = omega arith
  count-append test (x ∷ xs) ys = omega (arith, count-append test xs ys)

  -- what is kept holds no more of anything
  pub count_keep : (test test' : X → Bool) (xs : List X) → count test (keep test' xs) ≤ count test xs
  count_keep test test' [] = omega arith
  count_keep test test' (x ∷ xs) = go (test' x) (count_keep test test' xs)
    where
      go : (t : Bool) → count test (keep test' xs) ≤ count test xs → count test (kept t x (keep test' xs)) ≤ bit (test x) + count test xs
      go true i = omega arith
      go false i = omega arith

  -- those kept and those that fail are all
  pub kept_failed : (test : X → Bool) (xs : List X) → length xs ≡ length (keep (λ x. not (test x)) xs) + count test xs
  kept_failed test [] = refl
  kept_failed test (x ∷ xs) = go (test x) (kept_failed test xs)
    where
      go :
          (t : Bool) → length xs ≡ length (keep (λ y. not (test y)) xs) + count test xs
          → suc (length xs) ≡ length (kept (not t) x (keep (λ y. not (test y)) xs)) + (bit t + count test xs)
      go true i = omega arith
      go false i = omega arith

  -- each term is at most the sum; a sum of no greater terms is no greater; a sum of nothings is nothing
  pub total_among : (f : X → ℕ) {x : X} (xs : List X) → Among x xs → f x ≤ total f xs
  total_among f [] i = elim i [ ]
  total_among f (y ∷ xs) (at_head e) = let same = ap f e in omega arith
  total_among f (y ∷ xs) (in_tail i) = omega (arith, total_among f xs i)

  pub total_mono : {f g : X → ℕ} (xs : List X) → All (λ x. f x ≤ g x) xs → total f xs ≤ total g xs
  total_mono [] h = omega arith
  total_mono (x ∷ xs) h = let e = h x (at_head refl) in let i = total_mono xs (λ y j. h y (in_tail j)) in omega arith

  pub total_none : {f : X → ℕ} (xs : List X) → All (λ x. f x ≡ 0) xs → total f xs ≡ 0
  total_none [] h = refl
  total_none (x ∷ xs) h = omega (arith, h x (at_head refl), total_none xs (λ y i. h y (in_tail i)))

  -- a sum whose terms are one more where the test holds
  pub total_count : (f g : X → ℕ) (test : X → Bool) (xs : List X) → All (λ x. f x ≡ g x + bit (test x)) xs → total f xs ≡ total g xs + count test xs
  total_count f g test [] h = refl
  total_count f g test (x ∷ xs) h = let e = h x (at_head refl) in let i = total_count f g test xs (λ y j. h y (in_tail j)) in omega arith

  -- a count falls where the test narrows and leaves one out
  pub count_less :
      (test test' : X → Bool) {k : X} (ks : List X) → All (λ n. test n ≡ true → test' n ≡ true) ks → Among k ks → test k ≡ false → test' k ≡ true
      → suc (count test ks) ≤ count test' ks
  count_less test test' [] h i f t = elim i [ ]
  count_less test test' (n ∷ ks) h (at_head e) f t =
      let m = count_mono ks (λ j i. h j (in_tail i)) in
      let a : test n ≡ false = ap test (sym e) ∙ f in
      let b : test' n ≡ true = ap test' (sym e) ∙ t in
      rw (a, b) (omega arith)
  count_less test test' {k} (n ∷ ks) h (in_tail i) f t = go (test n) (test' n) (h n (at_head refl)) (count_less test test' ks (λ j l. h j (in_tail l)) i f t)
    where
      go : (a b : Bool) → (a ≡ true → b ≡ true) → suc (count test ks) ≤ count test' ks → suc (bit a + count test ks) ≤ bit b + count test' ks
      go true true g l = omega arith
      go true false g l = clash (g refl) refl
      go false true g l = omega arith
      go false false g l = omega arith

  -- two tests that exclude each other
  pub count_apart : (test test' : X → Bool) (ks : List X) → All (λ n. test n ≡ true → test' n ≡ false) ks → count test ks + count test' ks ≤ length ks
  count_apart test test' [] h = omega arith
  count_apart test test' (n ∷ ks) h = go (test n) (test' n) (h n (at_head refl)) (count_apart test test' ks (λ j i. h j (in_tail i)))
    where
      go : (a b : Bool) → (a ≡ true → b ≡ false) → count test ks + count test' ks ≤ length ks → bit a + count test ks + (bit b + count test' ks) ≤ suc (length ks)
      go true true g l = clash refl (g refl)
      go true false g l = omega arith
      go false true g l = omega arith
      go false false g l = omega arith

module _ {X Y : Type 0} where
  -- one of the mapped comes from one of those, and the other way
  pub map_from : {y : Y} (f : X → Y) (xs : List X) → Among y (map f xs) → (x : X) × Among x xs × (y ≡ f x)
  map_from f [] i = absurd (among_none i)
  map_from {y} f (x ∷ xs) i = go (among_cases i) (map_from f xs)
    where
      go : (y ≡ f x) ⊎ Among y (map f xs) → (Among y (map f xs) → (z : X) × Among z xs × (y ≡ f z)) → (z : X) × Among z (x ∷ xs) × (y ≡ f z)
      go (inl e) more = (x, at_head refl, e)
      go (inr j) more = let r = more j in (r.0, in_tail r.1, r.2)

  pub map_into : {x : X} (f : X → Y) (xs : List X) → Among x xs → Among (f x) (map f xs)
  map_into f [] i = elim i [ ]
  map_into f (x ∷ xs) (at_head e) = at_head (ap f e)
  map_into f (x ∷ xs) (in_tail i) = in_tail (map_into f xs i)

  pub all_map : (Q : Y → Type 0) (f : X → Y) (xs : List X) → All (λ x. Q (f x)) xs → All Q (map f xs)
  all_map Q f xs h y i = let r = map_from f xs i in subst Q (sym r.2) (h r.0 r.1)

  pub total_map : (g : Y → ℕ) (f : X → Y) (xs : List X) → total g (map f xs) ≡ total (λ x. g (f x)) xs
  total_map g f [] = refl
  total_map g f (x ∷ xs) = ap (λ n. g (f x) + n) (total_map g f xs)

  pub count_map : (test : Y → Bool) (f : X → Y) (xs : List X) → count test (map f xs) ≡ count (λ x. test (f x)) xs
  count_map test f [] = refl
  count_map test f (x ∷ xs) = ap (λ n. bit (test (f x)) + n) (count_map test f xs)

  pub map_same : {f g : X → Y} (xs : List X) → All (λ x. f x ≡ g x) xs → map f xs ≡ map g xs
  map_same [] h = refl
  map_same (x ∷ xs) h = ap₂ ◌∷◌ (h x (at_head refl)) (map_same xs (λ y i. h y (in_tail i)))

pub map-map : {X Y Z : Type 0} (g : Y → Z) (f : X → Y) (xs : List X) → map g (map f xs) ≡ map (λ x. g (f x)) xs
map-map g f [] = refl
map-map g f (x ∷ xs) = ap (λ r. g (f x) ∷ r) (map-map g f xs)
