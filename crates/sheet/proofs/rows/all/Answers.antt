-- `rows::all` meets its contract: one row more stands in its place.
use Rattle.std.proofs.Common.{arith}
use Rattle.sheet.proofs.Loops.{rows_turn}
use Rattle.sheet.proofs.rows.all.Goals as goal

pub loop-i-preserved : goal.loop-i-preserved
loop-i-preserved c =
    rows_turn c.args.runs.now c.loop-i.i (omega arith) c.requires c.loop-i.invariant c.row.ensures
