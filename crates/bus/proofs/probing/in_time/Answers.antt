-- `probing::in_time` meets its contract.
use Rattle.std.proofs.Common.{◌≡◌, sym, ap, ◌∙◌, not, arith}
use Rattle.word.specs.Word.{word_of}
use Rattle.bus.proofs.Transmitting.{word_start, word_set, word_left}
use Rattle.bus.proofs.probing.in_time.Invariants.{timely}
use Rattle.bus.proofs.probing.in_time.Invariants.{timely}
use Rattle.bus.proofs.probing.in_time.Goals as goal
use Rattle.bus.proofs.probing.in_time.Goals.{else-not-before, then-not-before}

pub loop-i-init : goal.loop-i-init
loop-i-init c = (omega arith, word_start (timely c.args.slot c.args.values.now))

pub loop-i-preserved : goal.loop-i-preserved
loop-i-preserved c =
    let turn = c.loop-i in
    let test = timely c.args.slot c.args.values.now in
    let told = ap not (sym c.before-in-loop-i.ensures) in (
      omega arith,
      elim c.if-not-before.branch [ then-not-before w ↦ word_set test turn.i turn.found c.if-not-before.found (omega arith) turn.invariant.1 (told ∙ ap not w.if-not-before.true) (w.found-is ∙ w.set-found.ensures) | else-not-before w ↦ word_left test turn.i turn.found c.if-not-before.found turn.invariant.1 (told ∙ ap not w.if-not-before.false) w.found-is ],
    )

pub returns : goal.returns
returns c =
    let end : c.loop-i.i ≡ 64 = omega arith in
    c.loop-i.invariant.1 ∙ ap (word_of (timely c.args.slot c.args.values.now)) end
