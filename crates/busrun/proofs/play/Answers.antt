-- `play` ends: a turn of a run that goes on takes one of those that it has yet. Assumes nothing.
use Rattle.std.proofs.Common.{rules, ◌≡◌, ◌<◌, true, sym, subst}
use Rattle.listing.specs.declared.Turn.{Turn}
use Rattle.listing.specs.Turns.{turns_left}
use Rattle.listing.proofs.Promises.{falls}
use Rattle.busrun.proofs.play.Goals as goal

pub loop-play-smaller : goal.loop-play-smaller
loop-play-smaller c =
    let input = c.args.input.now in
    let play = c.loop-play.play in
    let going : play.going ≡ true = search rules in
    subst (λ (t : Turn). turns_left input t.play < turns_left input play) (sym c.next-turn.ensures.value) (falls input play going)
