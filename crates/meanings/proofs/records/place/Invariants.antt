-- The loop's invariant: the place is that of the record here, and the records that begin from here on are added to it; there are turns
-- enough for them.
use Rattle.std.proofs.Common.{◌-◌}
use Rattle.meanings.proofs.Places.{Counted}
use Rattle.meanings.proofs.records.place.Given as goal

abbrev pub invariant-loop-at : goal.invariant-loop-at
invariant-loop-at l = Counted l.input l.offset l.at l.count

abbrev pub decreases-loop-at : goal.decreases-loop-at
decreases-loop-at l = l.offset - l.at
