-- `probing::transmitters` meets its contract: the contenders in time, and those of them that lie in the window, are masked together.
use Rattle.std.proofs.Common.{◌≡◌, subst, sym, ap, ◌∙◌, arith}
use lib.Bits.{bit_and}
use Rattle.word.specs.Word.{word_of}
use Rattle.bus.proofs.Transmitting.{Untimed, able_at, none_transmit, able_timed, able_untimed, untied_transmit, tied_transmit}
use Rattle.bus.proofs.probing.transmitters.Goals as goal
use Rattle.bus.proofs.probing.transmitters.Goals.{Joined-from, in-RTDG, in-PRI}

pub returns-then-contenders-eq0 : goal.returns-then-contenders-eq0
returns-then-contenders-eq0 c =
    let args = c.args in
    none_transmit args.g.now.settings.discipline args.g.now.clock args.g.now.contenders args.g.now.values args.g.now.contention args.g.now.parameters
    args.addresses.now c.if-contenders-eq0.true

-- past the match of the discipline, `able` is the word of the contenders that are in time
module _ (c : Joined-from) where
  able! : c.match-from.able ≡ word_of (able_at c.args.g.now.settings.discipline c.args.g.now.clock c.args.g.now.contenders c.args.g.now.values) 64
  able! =
      let args = c.args in
      elim c.match-from.branch [
        | in-RTDG w ↦ w.able-is ∙ ap (bit_and args.g.now.contenders) w.in_time.ensures
            ∙ able_timed args.g.now.settings.discipline args.g.now.clock args.g.now.contenders args.g.now.values (omega arith) (sym c.from.ensures ∙ w.in-RTDG.is)
        | in-PRI w ↦ w.able-is
            ∙ able_untimed args.g.now.settings.discipline args.g.now.clock args.g.now.contenders args.g.now.values (omega arith) (subst Untimed c.from.ensures w.in-PRI.is)
      ]

pub returns-then-contention : goal.returns-then-contention
returns-then-contention c =
    let args = c.args in
    tied_transmit args.g.now.settings.discipline args.g.now.clock args.g.now.contenders args.g.now.values args.g.now.contention args.g.now.parameters
    args.addresses.now c.if-contention.true (able! (goal.at.returns-then-contention c).Joined-from) c.lying_in.ensures c.lying_in-then-contention.ensures

pub returns : goal.returns
returns c =
    let args = c.args in
    untied_transmit args.g.now.settings.discipline args.g.now.clock args.g.now.contenders args.g.now.values args.g.now.contention args.g.now.parameters
    args.addresses.now c.if-contention.false (able! (goal.at.returns c).Joined-from) c.lying_in-2.ensures
