-- `lines::run_cells` meets its contract: five counts and the longest wait.
use Rattle.text.proofs.Stores.{wrote_then}
use Rattle.page.proofs.lines.run_cells.Goals as goal

pub returns : goal.returns
returns c =
    wrote_then
    (rw (c.from.ensures, c.from-2.ensures, c.from-3.ensures, c.from-4.ensures, c.from-5.ensures) at c.counts.ensures)
    (rw c.from-6.ensures at c.column.ensures)
