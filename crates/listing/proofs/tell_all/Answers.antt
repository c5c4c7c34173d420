-- `tell_all` meets its contract: one report more is told.
use Rattle.std.proofs.Common.{arith}
use Rattle.text.proofs.Stores.{wrote_then, wrote_within}
use Rattle.listing.proofs.TurnLaws.{reports_turn}
use Rattle.listing.proofs.tell_all.Goals as goal

pub loop-report-preserved : goal.loop-report-preserved
loop-report-preserved c =
    rw (reports_turn c.args.reports.now c.loop-report.report-index (omega arith))
    (wrote_within (wrote_then c.loop-report.invariant c.tell.ensures) (omega arith))
