-- The loop's invariant: what is left of the script grows no longer.
use Rattle.std.proofs.Common.{◌≤◌, length}
use Rattle.drive.proofs.commands.play.Given as goal

abbrev pub invariant-loop-arrival : goal.invariant-loop-arrival
invariant-loop-arrival l = length l.script.rest.now ≤ length l.fn.script.rest.now
