-- The loop's invariant: the rows before place i are those of the runs, and zeros past them.
use Rattle.std.proofs.Common.{◌-◌, ◌≡◌, ◌++◌, map, take, replicate}
use Rattle.sheet.specs.Sheet.{most_runs, no_run, row_of}
use Rattle.sheet.proofs.rows.all.Given as goal

abbrev pub invariant-loop-i : goal.invariant-loop-i
invariant-loop-i l = l.rows ≡ map row_of (take l.i l.runs) ++ replicate (most_runs - l.i) no_run
