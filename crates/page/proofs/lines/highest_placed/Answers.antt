-- `lines::highest_placed` meets its contract: by whether a run has a figure, with the place for a name.
use Rattle.text.proofs.Stores.{wrote_then}
use Rattle.page.proofs.lines.highest_placed.Goals as goal

pub returns-in-Some : goal.returns-in-Some
returns-in-Some c = rw c.in-Some.is (wrote_then c.loss.ensures (rw c.counted.ensures at c.numbered.ensures))
