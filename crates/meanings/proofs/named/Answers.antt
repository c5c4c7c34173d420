-- `named` meets its contract: the words, the number, and what it means.
use Rattle.std.proofs.Common.{arith, rules}
use Rattle.text.proofs.Decimals.{decimal_short}
use Rattle.text.proofs.Stores.{wrote, wrote_then}
use Rattle.meanings.proofs.Words.{meaning_short}
use Rattle.meanings.proofs.named.Goals as goal

pub returns : goal.returns
returns c =
    let few = decimal_short c.args.number (search rules) in
    wrote_then (wrote 16 c.letters.ensures (omega arith))
    (wrote_then (wrote 10 (rw c.from.ensures at c.number.ensures) few)
    (wrote_then (wrote 2 c.letters-2.ensures (omega arith)) (wrote 80 (rw c.words_of.ensures at c.letters-3.ensures) (meaning_short c.args.number))))
