-- Words that are compared: what the answer says, and what the library says of them. Assumes nothing.
use Prim.Native.Nat.{ℕ}
use mathlib.Core.Path.{◌≡◌, refl, sym, ap, ap₂, ◌∙◌}
use mathlib.Core.Bool.{Bool, true, false, cond, ◌&&◌}
use mathlib.Core.List.{List, [], ◌∷◌}
use borrow.Author.Tests.{eq-eqb, eqb-true}
use lib.Dec.{eqb}
use Rattle.std.specs.Str.{bytes_eq}
use Rattle.words.specs.Words.{same}

-- a word is the same as itself
pub same_self : (xs : List ℕ) → same xs xs ≡ true
same_self [] = refl
same_self (x ∷ xs) = ap (λ t. cond t (same xs xs) false) (eq-eqb x x refl) ∙ same_self xs

-- and as no other
pub same_equal : (xs ys : List ℕ) → same xs ys ≡ true → xs ≡ ys
same_equal [] [] h = refl
same_equal [] (y ∷ ys) h = cc
same_equal (x ∷ xs) [] h = cc
same_equal (x ∷ xs) (y ∷ ys) h = go (eqb x y) refl h (same_equal xs ys)
  where
    go : (t : Bool) → eqb x y ≡ t → cond t (same xs ys) false ≡ true → (same xs ys ≡ true → xs ≡ ys) → ◌≡◌ {A = List ℕ} (x ∷ xs) (y ∷ ys)
    go true e h more = ap₂ (λ a (l : List ℕ). a ∷ l) (eqb-true x y e) (more h)
    go false e h more = cc

pub equal_same : (xs ys : List ℕ) → xs ≡ ys → same xs ys ≡ true
equal_same xs ys e = ap (same xs) (sym e) ∙ same_self xs

-- as the library compares them
pub same_bytes : (xs ys : List ℕ) → bytes_eq xs ys ≡ same xs ys
same_bytes [] [] = refl
same_bytes [] (y ∷ ys) = refl
same_bytes (x ∷ xs) [] = refl
same_bytes (x ∷ xs) (y ∷ ys) = go (eqb x y) (same_bytes xs ys)
  where
    go : (t : Bool) → bytes_eq xs ys ≡ same xs ys → t && bytes_eq xs ys ≡ cond t (same xs ys) false
    go true e = e
    go false e = refl
