-- `lines::heading` meets its contract: the words in their columns.
use Rattle.std.proofs.Common.{arith}
use Rattle.text.proofs.Stores.{wrote}
use Rattle.page.specs.Page.{shown}
use Rattle.page.proofs.lines.heading.Goals as goal

pub returns : goal.returns
unfolding shown
returns c = wrote 75 c.letters.ensures (omega arith)
