-- `telling::fields` meets its contract: one field more is written.
use Rattle.std.proofs.Common.{arith}
use Rattle.text.proofs.Stores.{wrote_then, wrote_within}
use Rattle.listing.proofs.TurnLaws.{fields_turn}
use Rattle.listing.proofs.telling.fields.Goals as goal

pub loop-n-preserved : goal.loop-n-preserved
loop-n-preserved c =
    rw (fields_turn c.args.numbers.now c.loop-n.n-index (omega arith))
    (wrote_within (wrote_then c.loop-n.invariant c.field.ensures) (omega arith))
