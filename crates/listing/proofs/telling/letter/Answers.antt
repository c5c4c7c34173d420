-- `telling::letter` meets its contract: a space and then the letter.
use Rattle.std.proofs.Common.{arith}
use Rattle.text.proofs.Stores.{wrote, wrote_then}
use Rattle.listing.proofs.telling.letter.Goals as goal

pub returns : goal.returns
returns c = wrote_then (wrote 1 c.put.ensures (omega arith)) (wrote 1 c.put-2.ensures (omega arith))
