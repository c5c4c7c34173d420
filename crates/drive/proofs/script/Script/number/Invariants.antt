-- `number` ends: the measure is what is left of the script, which grows no longer.
use Rattle.std.proofs.Common.{◌≤◌, length}
use Rattle.drive.proofs.script.Script.number.Given as goal

abbrev pub invariant-loop-digit : goal.invariant-loop-digit
invariant-loop-digit l = length l.self.rest.now ≤ length l.fn.self.rest.now

abbrev pub decreases-loop-digit : goal.decreases-loop-digit
decreases-loop-digit l = length l.self.rest.now
