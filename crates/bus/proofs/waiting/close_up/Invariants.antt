-- The loop's invariant: the first j places of the station's are gone through.
use Rattle.std.proofs.Common.{◌≤◌, ◌*◌, ◌≡◌}
use Rattle.bus.specs.Parts.{stays}
use Rattle.bus.proofs.ClosingUp.{ClosedUp}
use Rattle.bus.proofs.waiting.close_up.Given as goal

abbrev pub invariant-loop-j : goal.invariant-loop-j
invariant-loop-j l = (l.filled ≤ l.j) × (l.queues.lengths ≡ l.initial.queues.lengths)
    × ClosedUp (stays l.leaving) l.initial.queues.packets (16 * l.place) l.j l.queues.packets l.filled
