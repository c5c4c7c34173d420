-- The loop's invariant: the numbers found so far, and what is left of the line.
use Rattle.std.proofs.Common.{map}
use Rattle.layout.specs.Faults.{label_number}
use Rattle.layout.proofs.InLine.{Found}
use Rattle.layout.proofs.fields.fields_in.Given as goal

abbrev pub invariant-loop-i : goal.invariant-loop-i
invariant-loop-i l = Found (map label_number l.labels) l.line l.values l.rest l.i
