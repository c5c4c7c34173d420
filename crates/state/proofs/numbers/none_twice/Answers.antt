-- `none_twice` meets its contract: the numbers passed differ and are found along the links, and a number that is not found is hung where
-- its way ends.
use Rattle.std.proofs.Common.{◌∙◌, sym, arith}
use Rattle.state.proofs.Found.{known_start, known_end, way_again, way_on, known_more}
use Rattle.state.proofs.numbers.none_twice.Goals as goal

pub loop-k-init : goal.loop-k-init
loop-k-init c = known_start _

pub returns-then-numbers-link : goal.returns-then-numbers-link
returns-then-numbers-link c =
    way_again c.loop-number.invariant c.from-link.ensures c.loop-k-test.true (omega arith) c.if-numbers-link.true

pub loop-number-preserved : goal.loop-number-preserved
loop-number-preserved c = way_on c.loop-number.invariant c.from-link.ensures (omega arith) c.if-numbers-link.false

pub loop-k-preserved : goal.loop-k-preserved
loop-k-preserved c =
    known_more c.loop-number.invariant (omega (arith, c.loop-number.invariant.low)) c.loop-k-test.true (sym c.from-link.ensures ∙ c.if-link-eq0.true)

pub returns : goal.returns
returns c = known_end c.loop-k.invariant c.loop-k-test.false
