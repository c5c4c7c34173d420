-- `lines::arrival` meets its contract: the word, four numbers and the newline.
use Rattle.std.proofs.Common.{◌≡◌, ap, ◌∙◌, arith}
use Rattle.text.proofs.Stores.{wrote, wrote_then}
use Rattle.shown.specs.Shown.{arrival_word, fits_ranges}
use Rattle.shown.proofs.Storing.{wrote_none, closed}
use Rattle.shown.proofs.lines.arrival.Goals as goal

pub returns : goal.returns
returns c =
    let said : c.arrival_word.result.now ≡ arrival_word (fits_ranges c.args.settings c.args.arrival) = c.arrival_word.ensures.value ∙ ap arrival_word c.fits.ensures in
    let word = wrote 7 (rw said at c.letters.ensures) (rw said at c.arrival_word.ensures.upper_bound) in
    closed
    (wrote_then
    word
    (wrote_then c.field.ensures (wrote_then c.address.ensures (wrote_then c.field-2.ensures (wrote_then c.field-3.ensures (wrote_none _))))))
    (omega arith)
    c.put.ensures
