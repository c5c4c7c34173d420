-- `lines::column` meets its contract: a space, what is free of the places, and the number.
use Rattle.std.proofs.Common.{arith, ◌≡◌, ◌-◌, ap, ◌∙◌, length}
use lib.ListN.{length-replicate}
use Rattle.text.specs.Text.{space, decimal}
use Rattle.text.proofs.Decimals.{decimal_long}
use Rattle.text.proofs.Stores.{wrote, wrote_then, wrote_within}
use Rattle.page.proofs.lines.column.Goals as goal

pub returns : goal.returns
returns c =
    let args = c.args in
    let digits = length (decimal args.n) in
    let few = decimal_long args.n (omega arith) in
    let gap = args.places - digits in
    let left : c.saturating_sub.result ≡ gap = c.saturating_sub.ensures ∙ ap (λ k. args.places - k) c.digits_of.ensures in
    wrote_then {q = 20} (wrote 1 c.put.ensures (omega arith))
    (wrote_within
    (wrote_then (wrote gap (rw left at c.spaces.ensures) (omega (arith, length-replicate gap space))) (wrote digits c.number.ensures (omega arith)))
    (omega (arith, few, c.requires)))
