-- `telling::line` meets its contract: the word, its fields and the newline.
use Rattle.std.proofs.Common.{arith, length}
use Rattle.text.proofs.Stores.{wrote, wrote_then, wrote_within}
use Rattle.listing.proofs.telling.line.Goals as goal

pub returns : goal.returns
returns c =
    wrote_within
    (wrote_then (wrote_then (wrote (length c.args.word.now) c.letters.ensures (omega arith)) c.fields.ensures) (wrote 1 c.put.ensures (omega arith)))
    (omega arith)
