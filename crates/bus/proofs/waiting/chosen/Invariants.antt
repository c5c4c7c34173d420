-- The loop's invariant: the choice among all is that among the packet at the best place so far and those that are left.
use Rattle.std.proofs.Common.{◌-◌, ◌<◌, ◌≤◌, ◌≡◌, length, get_or}
use lib.Seq.{slice}
use Rattle.rules.specs.Begin.{chosen, choice}
use Rattle.state.specs.State.{no_packet}
use Rattle.bus.proofs.waiting.chosen.Given as goal

abbrev pub invariant-loop-j : goal.invariant-loop-j
invariant-loop-j l =
    (l.j ≤ length l.queue)
    × (0 < length l.queue → l.place < length l.queue)
    × (0 < length l.queue
    → choice l.discipline l.queue
    ≡ chosen l.discipline (get_or l.queue l.place no_packet) (choice l.discipline (slice l.j (length l.queue) l.queue)))

abbrev pub decreases-loop-j : goal.decreases-loop-j
decreases-loop-j l = length l.queue - l.j
