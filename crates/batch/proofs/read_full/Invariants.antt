-- The loop's invariant: what was read has room.
use Rattle.std.proofs.Common.{◌≤◌}
use Rattle.batch.proofs.read_full.Given as goal

abbrev pub invariant-loop : goal.invariant-loop
invariant-loop g l = l.got ≤ 65_536
