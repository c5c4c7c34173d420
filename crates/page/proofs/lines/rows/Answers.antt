-- `lines::rows` meets its contract: one line more is written.
use Rattle.std.proofs.Common.{arith}
use Rattle.text.proofs.Stores.{wrote_then, wrote_within}
use Rattle.page.proofs.Told.{rows_turn}
use Rattle.page.proofs.lines.rows.Goals as goal

pub loop-place-preserved : goal.loop-place-preserved
loop-place-preserved c =
    let at = c.loop-place in
    rw
    (rows_turn c.args.runs.now at.place (omega arith))
    (wrote_within
    (wrote_then at.invariant (wrote_then c.run_cells.ensures (rw c.counted.ensures at c.numbered.ensures)))
    (omega arith))
