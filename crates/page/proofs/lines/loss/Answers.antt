-- `lines::loss` meets its contract: the words, the packets lost, and those that have ended.
use Rattle.std.proofs.Common.{arith}
use Rattle.text.proofs.Decimals.{decimal_long}
use Rattle.text.proofs.Stores.{wrote, wrote_then}
use Rattle.page.proofs.lines.loss.Goals as goal

pub returns : goal.returns
returns c =
    let few = decimal_long c.args.lost (omega arith) in
    let many = decimal_long c.args.ended (omega arith) in
    wrote_then (wrote 13 c.letters.ensures (omega arith))
    (wrote_then (wrote 20 c.number.ensures few) (wrote_then (wrote 1 c.put.ensures (omega arith)) (wrote 20 c.number-2.ensures many)))
