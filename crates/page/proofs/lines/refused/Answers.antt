-- `lines::refused` meets its contract: the word and its two fields.
use Rattle.std.proofs.Common.{arith, rules}
use mathlib.Core.List.{append-nil}
use Rattle.text.specs.Text.{decimal}
use Rattle.text.proofs.Decimals.{decimal_short, decimal_long}
use Rattle.text.proofs.Stores.{wrote, wrote_then}
use Rattle.page.proofs.lines.refused.Goals as goal

pub returns : goal.returns
returns c =
    let refusal = c.args.refusal.now in
    let few = decimal_short refusal.number (search rules) in
    let many = decimal_long refusal.offset (search rules) in
    rw (append-nil (decimal refusal.offset))
    (wrote_then (wrote 8 c.letters.ensures (omega arith))
    (wrote_then (wrote 10 (rw c.from.ensures at c.number.ensures) few)
    (wrote_then (wrote 1 c.put.ensures (omega arith)) (wrote 20 c.number-2.ensures many))))
