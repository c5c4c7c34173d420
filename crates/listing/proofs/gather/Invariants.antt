-- The loop's invariant: the arrivals are those in the row so far, and then those from the record here on.
use Rattle.listing.proofs.Gathered.{So-far}
use Rattle.listing.proofs.gather.Given as goal

abbrev pub invariant-loop-length : goal.invariant-loop-length
invariant-loop-length l = So-far l.input l.from l.at l.length l.row
