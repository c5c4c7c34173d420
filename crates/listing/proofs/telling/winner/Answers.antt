-- `telling::winner` meets its contract: nothing where no one succeeded, and else the fields, one after the other.
use mathlib.Core.List.{append-nil}
use Rattle.text.specs.Text.{decimal}
use Rattle.text.proofs.Stores.{wrote_then}
use Rattle.listing.proofs.telling.winner.Goals as goal

pub returns-in-Success : goal.returns-in-Success
returns-in-Success c =
    rw (c.in-Success.is, append-nil (decimal c.args.answer.now.wait))
    (wrote_then c.short_field.ensures
    (wrote_then c.short_field-in-Success.ensures (wrote_then c.short_field-in-Success-2.ensures c.short_field-in-Success-3.ensures)))
