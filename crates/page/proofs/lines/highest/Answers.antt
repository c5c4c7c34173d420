-- `lines::highest` meets its contract: by whether a run has a figure, with the name.
use Rattle.text.proofs.Stores.{wrote_then}
use Rattle.page.proofs.lines.highest.Goals as goal

pub returns-in-Some : goal.returns-in-Some
returns-in-Some c = rw c.in-Some.is (wrote_then c.loss.ensures c.named.ensures)
