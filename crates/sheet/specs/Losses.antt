-- Loss and its order (change requests P2 and P4): 'P2's loss' is 'lost + turned away over lost + turned away + sent', 'kept as two whole
-- numbers. Losses are compared exactly by cross products.' Over numbers of any size. Assumes nothing.
use Rattle.std.specs.Prelude.{ℕ, ◌*◌, ◌≤◌, ◌<◌, Bool, ltb}

-- a loss: the packets lost, those turned away among them, over all that have ended, which are these and the sent
pub record Loss : Type 0 where
  pub lost : ℕ
  pub ended : ℕ

-- 'with no figure only where that sum is 0'
abbrev pub Figure : Loss → Type 0
Figure a = 0 < a.ended

-- one loss is not above another, or below it: as fractions, compared in whole numbers
abbrev pub AtMost : Loss → Loss → Type 0
AtMost a b = a.lost * b.ended ≤ b.lost * a.ended

abbrev pub Below : Loss → Loss → Type 0
Below a b = a.lost * b.ended < b.lost * a.ended

-- the test: the first is above the second
abbrev pub above : Loss → Loss → Bool
above a b = ltb (b.lost * a.ended) (a.lost * b.ended)
