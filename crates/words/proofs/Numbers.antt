-- Digits that go on to a number: how a number begins, and what is known of it. Assumes nothing.
use Prim.Native.Nat.{ℕ, ◌+◌, ◌*◌, ◌<◌}
use mathlib.Core.Path.{◌≡◌, refl, sym, ap, ap₂, subst, ◌∙◌}
use mathlib.Core.Bool.{Bool, true, false, cond, ◌&&◌}
use Rattle.std.specs.Prelude.{Option, Some, None}
use mathlib.Core.List.{List, [], ◌∷◌}
use native.Mathlib.Omega.{arith}
use borrow.Author.Tests.{ne_eqb, lt-ltb, ltb-true}
use lib.Dec.{ltb, eqb}
use lib.ListN.{length, get_or}
use Rattle.words.specs.Words.{number_end, digit_of, number_from, hexadecimal, after_zero, number_of}

-- ---- a digit

-- what a digit goes on to, by the two tests of it
abbrev gone_on : ℕ → ℕ → ℕ → List ℕ → Bool → Bool → Option ℕ
gone_on base n d rest digit small = cond (digit && small) (number_from base (n * base + d) rest) None

-- a digit that goes on to no number that is too large
pub digit_on :
    (base n d b : ℕ) (rest : List ℕ) → d ≡ digit_of b → d < base → n * base + d < number_end
    → number_from base n (b ∷ rest) ≡ number_from base (n * base + d) rest
digit_on base n d b rest e digit small =
    ap (λ d. gone_on base n d rest (ltb d base) (ltb (n * base + d) number_end)) (sym e)
    ∙ ap₂ (gone_on base n d rest) (lt-ltb d base digit) (lt-ltb (n * base + d) number_end small)

-- ---- how a number begins

pub no_zero : (w : List ℕ) → 0 < length w → (get_or w 0 0 ≡ 48 → ⊥) → number_of w ≡ number_from 10 0 w
no_zero [] h other = absurd (omega arith)
no_zero (b ∷ rest) h other = ap (λ t. cond t (after_zero rest) (number_from 10 0 (b ∷ rest))) (ne_eqb b 48 other)

-- ---- what is known

-- the digits go on to no number that is too large
abbrev Small : Option ℕ → Type 0
Small None = Unit
Small (Some n) = n < number_end

from_small : (base n : ℕ) (rest : List ℕ) → n < number_end → Small (number_from base n rest)
from_small base n [] h = h
from_small base n (b ∷ rest) h =
    go (ltb (digit_of b) base) (ltb (n * base + digit_of b) number_end) refl (from_small base (n * base + digit_of b) rest)
  where
    go :
        (t u : Bool) → ltb (n * base + digit_of b) number_end ≡ u
        → (n * base + digit_of b < number_end → Small (number_from base (n * base + digit_of b) rest)) → Small (gone_on base n (digit_of b) rest t u)
    go true true e more = more (ltb-true (n * base + digit_of b) number_end e)
    go true false e more = tt
    go false u e more = tt

of_small : (w : List ℕ) → Small (number_of w)
of_small [] = tt
of_small (b ∷ rest) = go (eqb b 48) rest
  where
    hex : (t : Bool) (rest : List ℕ) → Small (cond t (hexadecimal rest) None)
    hex true [] = tt
    hex true (c ∷ rest) = from_small 16 0 (c ∷ rest) (omega arith)
    hex false rest = tt

    zero_first : (rest : List ℕ) → Small (after_zero rest)
    zero_first [] = omega arith
    zero_first (c ∷ rest) = hex (eqb c 120) rest

    go : (t : Bool) (rest : List ℕ) → Small (cond t (after_zero rest) (number_from 10 0 (b ∷ rest)))
    go true rest = zero_first rest
    go false rest = from_small 10 0 (b ∷ rest) (omega arith)

-- a number that is known is not too large
pub number_small : (w : List ℕ) (n : ℕ) → number_of w ≡ Some n → n < number_end
number_small w n e = subst Small e (of_small w)
