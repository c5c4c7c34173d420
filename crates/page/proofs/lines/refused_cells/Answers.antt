-- `lines::refused_cells` meets its contract: what is free of the places, and the refusal.
use Rattle.std.proofs.Common.{arith, rules, ◌≡◌, ◌+◌, ◌-◌, sym, ap, ◌∙◌, length}
use mathlib.Core.Path.{ap₂}
use lib.ListN.{length-replicate}
use Rattle.text.specs.Text.{space, decimal}
use Rattle.text.proofs.Decimals.{decimal_long}
use Rattle.text.proofs.Stores.{wrote, wrote_then}
use Rattle.page.specs.Page.{all_places, refusal_words}
use Rattle.page.proofs.Told.{refused_length}
use Rattle.page.proofs.lines.refused_cells.Goals as goal

pub overflow_add-number : goal.overflow_add-number
overflow_add-number c = omega (arith, decimal_long c.from.result (search rules), c.digits_of-number.ensures)

pub overflow_add-number-2 : goal.overflow_add-number-2
overflow_add-number-2 c =
    omega (arith, decimal_long c.from.result (search rules), decimal_long c.args.refusal.now.offset (search rules), c.digits_of-number.ensures, c.digits_of-offset.ensures)

pub returns : goal.returns
returns c =
    let refusal = c.args.refusal.now in
    let free = all_places - length (refusal_words refusal.number refusal.offset) in
    let number = c.digits_of-number.ensures ∙ ap (λ n. length (decimal n)) c.from.ensures in
    let left : c.saturating_sub.result ≡ free =
    c.saturating_sub.ensures
    ∙ ap (λ k. all_places - k)
    (ap₂ (λ i j. 9 + i + j) number c.digits_of-offset.ensures ∙ sym (refused_length refusal.number refusal.offset)) in
    let long = length-replicate free space in
    wrote_then (wrote 87 (rw left at c.spaces.ensures) (omega arith)) c.refused.ensures
