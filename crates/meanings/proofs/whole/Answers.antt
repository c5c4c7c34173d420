-- `whole` meets its contract: the number and what it means, and then the record, but of a scenario that is too long.
use Rattle.std.proofs.Common.{arith}
use Rattle.text.proofs.Stores.{wrote_then, wrote_within}
use Rattle.meanings.proofs.Telling.{wrote_as, too_long, of_a_record}
use Rattle.meanings.proofs.whole.Goals as goal

pub returns-then-number-eq-TOO_LONG : goal.returns-then-number-eq-TOO_LONG
returns-then-number-eq-TOO_LONG c = wrote_within (wrote_as c.named.ensures (too_long c.args.input.now c.args.number c.args.offset c.if-number-eq-TOO_LONG.true)) (omega arith)

pub told-requires : goal.told-requires
told-requires c = omega (arith, c.min.ensures)

pub returns : goal.returns
returns c =
    wrote_as (wrote_then c.named.ensures c.told.ensures) (of_a_record c.args.input.now c.args.number c.args.offset c.if-number-eq-TOO_LONG.false c.min.ensures)
