-- `telling::short_number` meets its contract: such a number has no more than ten digits.
use Rattle.std.proofs.Common.{rules}
use Rattle.text.proofs.Decimals.{decimal_short}
use Rattle.text.proofs.Stores.{wrote}
use Rattle.listing.proofs.telling.short_number.Goals as goal

pub returns : goal.returns
returns c = wrote 10 (rw c.from.ensures at c.number.ensures) (decimal_short c.args.n (search rules))
