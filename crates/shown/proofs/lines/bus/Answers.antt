-- `lines::bus` meets its contract: the word, the discipline, three numbers and the newline.
use Rattle.std.proofs.Common.{◌≡◌, ap, ◌∙◌, arith}
use Rattle.rules.specs.SetUp.{discipline_of}
use Rattle.text.proofs.Stores.{wrote, wrote_then}
use Rattle.shown.specs.Shown.{discipline_name}
use Rattle.shown.proofs.Storing.{wrote_none, closed}
use Rattle.shown.proofs.lines.bus.Goals as goal

pub returns : goal.returns
returns c =
    let said : c.name_of.result.now ≡ discipline_name (discipline_of c.args.settings.discipline) = c.name_of.ensures.value ∙ ap discipline_name c.from.ensures in
    let word = wrote 4 c.letters.ensures (omega arith) in
    let name = wrote 4 (rw said at c.letters-2.ensures) (rw said at c.name_of.ensures.upper_bound) in
    closed
    (wrote_then
    (wrote_then word name)
    (wrote_then c.field.ensures (wrote_then c.field-2.ensures (wrote_then c.field-3.ensures (wrote_none _)))))
    (omega arith)
    c.put.ensures
