-- `lines::counts` meets its contract: five columns, one after the other.
use Rattle.text.proofs.Stores.{wrote_then}
use Rattle.page.proofs.lines.counts.Goals as goal

pub returns : goal.returns
returns c =
    wrote_then c.column.ensures
    (wrote_then c.column-2.ensures (wrote_then c.column-3.ensures (wrote_then c.column-4.ensures c.column-5.ensures)))
