-- `lines::numbered` meets its contract: two spaces, the number, and the newline.
use Rattle.std.proofs.Common.{arith}
use Rattle.text.proofs.Decimals.{decimal_long}
use Rattle.text.proofs.Stores.{wrote, wrote_then}
use Rattle.page.proofs.Told.{number_is_shown}
use Rattle.page.proofs.lines.numbered.Goals as goal

pub returns : goal.returns
returns c =
    let few = decimal_long c.args.n (omega arith) in
    rw (number_is_shown c.args.n few)
    (wrote_then (wrote 2 c.spaces.ensures (omega arith)) (wrote_then (wrote 20 c.number.ensures few) (wrote 1 c.put.ensures (omega arith))))
