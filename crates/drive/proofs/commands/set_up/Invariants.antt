-- The loop's invariant: what is left of the script grows no longer.
use Rattle.std.proofs.Common.{◌≤◌, length}
use Rattle.drive.proofs.commands.set_up.Given as goal

abbrev pub invariant-loop-station : goal.invariant-loop-station
invariant-loop-station l = length l.script.rest.now ≤ length l.fn.script.rest.now
