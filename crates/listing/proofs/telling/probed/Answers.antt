-- `telling::probed` meets its contract: nothing where the step was refused, and else the fields and the newline.
use Rattle.std.proofs.Common.{arith, eq-eqb}
use Rattle.text.proofs.Stores.{wrote, wrote_then}
use Rattle.listing.proofs.telling.probed.Goals as goal

pub returns-then-answer-eq0 : goal.returns-then-answer-eq0
returns-then-answer-eq0 c =
    rw (eq-eqb c.args.answer.now.refusal 0 c.if-answer-eq0.true)
    (wrote_then (wrote_then c.opening.ensures c.winner.ensures) (wrote 1 c.put.ensures (omega arith)))
