-- What the loops keep: the first k numbers are known, and along the way of number k it is still to be found.
use Rattle.std.proofs.Common.{◌-◌}
use Rattle.state.proofs.Found.{Known, Way}
use Rattle.state.proofs.numbers.none_twice.Given as goal

abbrev pub invariant-loop-number : goal.invariant-loop-number
invariant-loop-number l = Way l.numbers l.links l.k l.at l.rest

abbrev pub decreases-loop-number : goal.decreases-loop-number
decreases-loop-number l = 4096 - l.at

abbrev pub invariant-loop-k : goal.invariant-loop-k
invariant-loop-k l = Known l.numbers l.links l.k
