-- `place` meets its contract.
use Rattle.std.proofs.Common.{ap, ◌∙◌, arith}
use borrow.Author.Rules.{part_to_end}
use Rattle.scenario.specs.Format.{length_in}
use Rattle.meanings.proofs.Places.{at_first, one_more, at_last}
use Rattle.meanings.proofs.records.place.Goals as goal

pub loop-at-init : goal.loop-at-init
loop-at-init c = at_first _ _

pub loop-at-preserved : goal.loop-at-preserved
loop-at-preserved c = let turn = c.loop-at in one_more turn.invariant (omega arith) (omega (arith, c.two.ensures ∙ ap length_in (part_to_end c.args.input.now turn.at)))

pub returns : goal.returns
returns c = at_last c.loop-at.invariant (omega arith)
