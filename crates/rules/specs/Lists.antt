-- Small words on lists and tests, in which the rules are written. Assumes nothing.
use Rattle.std.specs.Prelude.{ℕ, zero, suc, ◌+◌, ◌≡◌, ◌⊎◌, Bool, true, false, not, ◌&&◌, ◌||◌, List, [], ◌∷◌, leb, eqb}
use Rattle.std.specs.List.{list_any, list_all}

-- 1 for a test that holds, 0 for one that does not
abbrev pub bit : Bool → ℕ
bit true = 1
bit false = 0

module _ {X : Type 0} where
  -- x in front of xs, if the test holds
  abbrev pub kept : Bool → X → List X → List X
  kept true x xs = x ∷ xs
  kept false x xs = xs

  -- those of xs for which the test holds, in order
  abbrev pub keep : (X → Bool) → List X → List X
  keep test [] = []
  keep test (x ∷ xs) = kept (test x) x (keep test xs)

  -- how many of xs the test holds for
  abbrev pub count : (X → Bool) → List X → ℕ
  count test [] = 0
  count test (x ∷ xs) = bit (test x) + count test xs

  -- whether the test holds for some of xs
  abbrev pub some_of : (X → Bool) → List X → Bool
  some_of test xs = list_any test xs

  -- whether the test holds for each of xs
  abbrev pub each_of : (X → Bool) → List X → Bool
  each_of test xs = list_all test xs

  -- the sum of a number over xs
  abbrev pub total : (X → ℕ) → List X → ℕ
  total f [] = 0
  total f (x ∷ xs) = f x + total f xs

-- n numbers, each one more than the one before it
abbrev pub count_up : ℕ → ℕ → List ℕ
count_up first zero = []
count_up first (suc n) = first ∷ count_up (suc first) n

-- x is one of the list's elements
pub data Among {X : Type 0} (x : X) : List X → Type 0 where
  at_head : {y : X} {ys : List X} → x ≡ y → Among x (y ∷ ys)
  in_tail : {y : X} {ys : List X} → Among x ys → Among x (y ∷ ys)

-- each of xs is such that P
abbrev pub All : {X : Type 0} → (X → Type 0) → List X → Type 0
All {X} P xs = (x : X) → Among x xs → P x

-- some of xs is such that P
abbrev pub Some : {X : Type 0} → (X → Type 0) → List X → Type 0
Some {X} P xs = (x : X) × Among x xs × P x

-- whether a number is among others
abbrev pub has : ℕ → List ℕ → Bool
has n ns = some_of (eqb n) ns

-- whether no number stands twice among others
abbrev pub distinct : List ℕ → Bool
distinct [] = true
distinct (n ∷ ns) = not (has n ns) && distinct ns

-- no number stands twice among others
abbrev pub Distinct : List ℕ → Type 0
Distinct [] = Unit {0}
Distinct (n ∷ ns) = (¬ Among n ns) × Distinct ns

-- whether a number is outside the range from least to most
abbrev pub outside : ℕ → ℕ → ℕ → Bool
outside least most n = not (leb least n && leb n most)

-- Refusals are an ordered list of tests: the verdict of the first test that holds, and `accepted` where none does.
module _ {Out : Type 0} where
  -- this verdict, if its test holds
  abbrev pub verdict : Bool → Out → Out → Out
  verdict true v rest = v
  verdict false v rest = rest

  -- the verdict of the first test that holds
  abbrev pub first_of : Out → List (Out × Bool) → Out
  first_of accepted [] = accepted
  first_of accepted (t ∷ ts) = verdict t.1 t.0 (first_of accepted ts)

  -- 'Given exactly when'. The list has a verdict and its condition in each place, in the order in which they are tried. Read from the front: either
  -- the first condition holds, and v is its verdict; or it does not, and v is given by the rest of the list; past the end, v is `accepted`.
  -- So v is the verdict of a condition that holds, none before which does, and `accepted` only where none of them holds.
  abbrev pub Given : Out → List (Out × Type 0) → Out → Type 0
  Given accepted [] v = v ≡ accepted
  Given accepted (c ∷ cs) v = (c.1 × (v ≡ c.0)) ⊎ ((¬ c.1) × Given accepted cs v)
