-- `play` ends: the measure is what is left of the script, since each command takes its letter at least.
use Rattle.std.proofs.Common.{length}
use Rattle.drive.proofs.play.Given as goal

abbrev pub decreases-loop-command : goal.decreases-loop-command
decreases-loop-command l = length l.script.rest.now
