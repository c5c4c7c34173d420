-- `telling::opening` meets its contract: its fields, one after the other.
use Rattle.text.proofs.Stores.{wrote_then}
use Rattle.listing.proofs.telling.opening.Goals as goal

pub returns : goal.returns
returns c =
    wrote_then
    (wrote_then
    (wrote_then c.short_number.ensures (rw c.phase_letter.ensures at c.letter.ensures))
    c.fields.ensures)
    (rw c.event_letter.ensures at c.letter-2.ensures)
