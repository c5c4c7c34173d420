-- `exponent` meets its contract: of 0 and of the other spaces.
use Rattle.std.proofs.Common.{refl, ap, sym}
use Rattle.std.specs.Int.Count.{count_leading_zeros}
use Rattle.window.specs.Splitting.{exponent_of}
use Rattle.window.proofs.exponent.Goals as goal

pub returns-then-space-eq0 : goal.returns-then-space-eq0
unfolding exponent_of count_leading_zeros
returns-then-space-eq0 c = ap exponent_of (sym c.if-space-eq0.true)

pub returns : goal.returns
unfolding exponent_of
returns c = refl
