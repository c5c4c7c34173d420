-- The loop's invariant: whatever finishes what is left finishes the run.
use Rattle.std.proofs.Common.{◌+◌, ◌-◌, ◌<◌, length}
use Rattle.sheet.specs.declared.Run.{Run}
use Rattle.measure.specs.Parts.{Finishes}
use Rattle.measure.proofs.played.Given as goal

abbrev pub invariant-loop-steps : goal.invariant-loop-steps
invariant-loop-steps l = (l.at < 18_446_744_073_709_551_616) × ((r : Run) → Finishes l.input l.state l.at l.steps l.longest r → Finishes l.input l.initial.state l.first l.most 0 r)

abbrev pub decreases-loop-steps : goal.decreases-loop-steps
decreases-loop-steps l = l.steps + (length l.input - l.at)
