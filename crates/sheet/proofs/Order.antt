-- The order of losses by cross products: it is an order wherever there are figures, for numbers of any size. Assumes nothing.
use Prim.Native.Nat.{◌*◌}
use mathlib.Core.Path.{◌≡◌, refl}
use mathlib.Core.Logic.{◌⊎◌, inl, inr}
use mathlib.Core.Bool.{Bool, true, false}
use native.Mathlib.Nat.{mul_right_comm, mul-le-mul_right, mul-lt-mul_of_pos_right, le_of_mul-le-mul_right, lt_of_mul-lt-mul_right}
use native.Mathlib.Omega.{arith}
use borrow.Author.Tests.{ltb-true, ltb-false}
use lib.Dec.{ltb}
use Rattle.sheet.specs.Losses.{Loss, Figure, AtMost, Below, above}

-- a loss is not above itself
pub at_most_itself : (a : Loss) → AtMost a a
at_most_itself a = omega arith

-- of two losses one is below the other, or it is not above it
pub either : (a b : Loss) → AtMost a b ⊎ Below b a
either a b = go (ltb (b.lost * a.ended) (a.lost * b.ended)) refl
  where
    go : (t : Bool) → ltb (b.lost * a.ended) (a.lost * b.ended) ≡ t → AtMost a b ⊎ Below b a
    go true e = inr (ltb-true (b.lost * a.ended) (a.lost * b.ended) e)
    go false e = inl (ltb-false (b.lost * a.ended) (a.lost * b.ended) e)

-- what the test says
pub above_is : (a b : Loss) → above a b ≡ true → Below b a
above_is a b e = ltb-true (b.lost * a.ended) (a.lost * b.ended) e

pub above_not : (a b : Loss) → above a b ≡ false → AtMost a b
above_not a b e = ltb-false (b.lost * a.ended) (a.lost * b.ended) e

module _ (a b c : Loss) where
  -- the three products, with the third loss's number in each
  left : (a.lost * b.ended) * c.ended ≡ (a.lost * c.ended) * b.ended
  left = mul_right_comm a.lost b.ended c.ended

  middle : (b.lost * a.ended) * c.ended ≡ (b.lost * c.ended) * a.ended
  middle = mul_right_comm b.lost a.ended c.ended

  right : (c.lost * b.ended) * a.ended ≡ (c.lost * a.ended) * b.ended
  right = mul_right_comm c.lost b.ended a.ended

  -- transitive where the middle one has a figure
  pub at_most_then : Figure b → AtMost a b → AtMost b c → AtMost a c
  at_most_then figure h k =
      let first = mul-le-mul_right c.ended h in
      let second = mul-le-mul_right a.ended k in
      le_of_mul-le-mul_right (omega (arith, left, middle, right)) figure

  -- what is not above a loss that is below another is below that
  pub at_most_below : Figure a → AtMost a b → Below b c → Below a c
  at_most_below figure h k =
      let first = mul-le-mul_right c.ended h in
      let second = mul-lt-mul_of_pos_right k figure in
      lt_of_mul-lt-mul_right b.ended (omega (arith, left, middle, right))

  -- and what is below a loss that is not above another
  pub below_at_most : Figure c → Below a b → AtMost b c → Below a c
  below_at_most figure h k =
      let first = mul-lt-mul_of_pos_right h figure in
      let second = mul-le-mul_right a.ended k in
      lt_of_mul-lt-mul_right b.ended (omega (arith, left, middle, right))

-- a loss below another is not above it, and not the other way round
pub below_at_most_itself : (a b : Loss) → Below a b → AtMost a b
below_at_most_itself a b h = omega arith

pub not_both : (a b : Loss) → Below a b → AtMost b a → ⊥
not_both a b h k = omega arith
