-- The loop's invariant: late packets have left the queues of the stations before i.
use Rattle.bus.specs.Parts.{stays, Late, IsRow}
use Rattle.bus.proofs.ClosingUp.{LeftIn}
use Rattle.bus.proofs.waiting.drop_late.Given as goal

abbrev pub invariant-loop-i : goal.invariant-loop-i
invariant-loop-i l = IsRow l.queues × LeftIn (stays (Late l.discipline l.slot)) l.initial.queues 0 l.i l.queues
