-- The loop's invariant: the stations before i have their places, the others do not contend.
use Rattle.std.proofs.Common.{◌≤◌, ◌-◌, ◌≡◌}
use Rattle.bus.specs.Types.{Segment}
use Rattle.bus.specs.Parts.{segment_counting}
use Rattle.state.specs.State.{Recorded}
use Rattle.bus.proofs.BeginningLaws.{place_for, places_to}
use Rattle.bus.proofs.beginning.offers_of.Given as goal

-- the segment with these contenders
abbrev pub offering_with : Segment → Recorded → Segment
offering_with g r = segment_counting g g.admitted g.lost g.contention r

abbrev pub invariant-loop-i : goal.invariant-loop-i
invariant-loop-i l = (l.i ≤ l.n) × (l.next ≡ offering_with l.g (places_to (place_for l.g l.queues) l.i))

abbrev pub decreases-loop-i : goal.decreases-loop-i
decreases-loop-i l = l.n - l.i
