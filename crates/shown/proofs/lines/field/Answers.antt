-- `lines::field` meets its contract: the words, and then the number, of no more than ten digits.
use Rattle.std.proofs.Common.{rules}
use Rattle.text.proofs.Decimals.{decimal_short}
use Rattle.text.proofs.Stores.{wrote, wrote_then}
use Rattle.shown.proofs.lines.field.Goals as goal

pub returns : goal.returns
returns c =
    let few = decimal_short c.args.n (search rules) in
    wrote_then (wrote 12 c.letters.ensures c.requires) (wrote 10 (rw c.from.ensures at c.number.ensures) few)
