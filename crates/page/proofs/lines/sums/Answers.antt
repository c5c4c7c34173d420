-- `lines::sums` meets its contract: five counts, and what closes the line.
use Rattle.std.proofs.Common.{arith}
use Rattle.text.proofs.Stores.{wrote, wrote_then}
use Rattle.page.specs.Page.{shown}
use Rattle.page.proofs.lines.sums.Goals as goal

pub returns : goal.returns
unfolding shown
returns c = wrote_then c.counts.ensures (wrote 24 c.letters.ensures (omega arith))
