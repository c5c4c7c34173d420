-- The loop's invariant: of the records those of the arrivals from a place on, and of the run, are left.
use Rattle.std.proofs.Common.{drop}
use Rattle.scenario.specs.Writing.{ending_bytes}
use Rattle.packing.proofs.Left.{Left}
use Rattle.packing.proofs.ending.Given as goal

abbrev pub invariant-loop-a : goal.invariant-loop-a
invariant-loop-a l = Left l.initial.room l.at (ending_bytes l.due l.steps) l.room l.next (ending_bytes (drop l.a-index l.due) l.steps)
