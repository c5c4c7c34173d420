-- `pass_line` ends: the measure is what is left of the script, which grows no longer.
use Rattle.std.proofs.Common.{◌≤◌, length}
use Rattle.drive.proofs.script.Script.pass_line.Given as goal

abbrev pub invariant-loop-byte : goal.invariant-loop-byte
invariant-loop-byte l = length l.self.rest.now ≤ length l.fn.self.rest.now

abbrev pub decreases-loop-byte : goal.decreases-loop-byte
decreases-loop-byte l = length l.self.rest.now
