-- `next` ends: the measure is what is left of the script, which grows no longer.
use Rattle.std.proofs.Common.{◌≤◌, length}
use Rattle.drive.proofs.commands.next.Given as goal

abbrev pub invariant-loop-letter : goal.invariant-loop-letter
invariant-loop-letter l = length l.script.rest.now ≤ length l.fn.script.rest.now

abbrev pub decreases-loop-letter : goal.decreases-loop-letter
decreases-loop-letter l = length l.script.rest.now
