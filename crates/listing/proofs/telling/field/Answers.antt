-- `telling::field` meets its contract: a space and then the number, which has no more than twenty digits.
use Rattle.std.proofs.Common.{arith}
use Rattle.text.proofs.Decimals.{decimal_long}
use Rattle.text.proofs.Stores.{wrote, wrote_then}
use Rattle.listing.proofs.telling.field.Goals as goal

pub returns : goal.returns
returns c =
    wrote_then (wrote 1 c.put.ensures (omega arith)) (wrote 20 c.number.ensures (decimal_long c.args.n (omega arith)))
