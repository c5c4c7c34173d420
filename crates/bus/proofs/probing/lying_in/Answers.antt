-- `probing::lying_in` meets its contract.
use Rattle.std.proofs.Common.{◌≡◌, sym, ap, ◌∙◌, arith}
use Rattle.word.specs.Word.{word_of}
use Rattle.bus.proofs.Transmitting.{word_start, word_set, word_left}
use Rattle.bus.proofs.probing.lying_in.Invariants.{lies}
use Rattle.bus.proofs.probing.lying_in.Invariants.{lies}
use Rattle.bus.proofs.probing.lying_in.Goals as goal
use Rattle.bus.proofs.probing.lying_in.Goals.{else-in_window, then-in_window}

pub loop-i-init : goal.loop-i-init
loop-i-init c = (omega arith, word_start (lies c.args.w c.args.row.now))

pub loop-i-preserved : goal.loop-i-preserved
loop-i-preserved c =
    let turn = c.loop-i in
    let test = lies c.args.w c.args.row.now in
    let told = sym c.in_window.ensures in (
      omega arith,
      elim c.if-in_window.branch [ then-in_window w ↦ word_set test turn.i turn.found c.if-in_window.found (omega arith) turn.invariant.1 (told ∙ w.if-in_window.true) (w.found-is ∙ w.set-found.ensures) | else-in_window w ↦ word_left test turn.i turn.found c.if-in_window.found turn.invariant.1 (told ∙ w.if-in_window.false) w.found-is ],
    )

pub returns : goal.returns
returns c =
    let end : c.loop-i.i ≡ 64 = omega arith in
    c.loop-i.invariant.1 ∙ ap (word_of (lies c.args.w c.args.row.now)) end
