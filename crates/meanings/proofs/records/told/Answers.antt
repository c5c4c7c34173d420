-- `told` meets its contract: the words and numbers, one after the other.
use Rattle.std.proofs.Common.{◌≡◌, ap, ◌∙◌, arith, rules, drop}
use borrow.Author.Rules.{part_to_end}
use Rattle.text.proofs.Decimals.{decimal_long}
use Rattle.text.proofs.Stores.{wrote, wrote_then}
use Rattle.meanings.specs.Refused.{record_words}
use Rattle.meanings.proofs.Words.{record_short}
use Rattle.meanings.proofs.records.told.Goals as goal

pub returns : goal.returns
returns c =
    let input = c.args.input.now in
    let offset = c.args.offset in
    let digits = decimal_long c.place.result (search rules) in
    let many = decimal_long offset (search rules) in
    let said : c.what.result.now ≡ record_words (drop offset input) = c.what.ensures ∙ ap record_words (part_to_end input offset) in
    wrote_then (wrote 9 c.letters.ensures (omega arith))
    (wrote_then (wrote 20 (rw c.place.ensures at c.number.ensures) (rw c.place.ensures at digits))
    (wrote_then (wrote 2 c.letters-2.ensures (omega arith))
    (wrote_then (wrote 20 (rw said at c.letters-3.ensures) (record_short (drop offset input)))
    (wrote_then (wrote 10 c.letters-4.ensures (omega arith)) (wrote 20 c.number-2.ensures many)))))
