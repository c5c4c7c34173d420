-- `next` meets its contract: a stretch is made, or the run ends; a run that is over hands out nothing.
use Rattle.listing.proofs.TurnLaws.{flipped, turn-of, turn_ends, turn_goes_on}
use Rattle.listing.proofs.next.Goals as goal

pub returns-then-play-eq0 : goal.returns-then-play-eq0
returns-then-play-eq0 c =
    let all = turn-of (turn_ends c.args.input.now c.args.play (flipped c.if-not-play.false) c.if-play-eq0.true) c.close.ensures in
    record {
      value = all.0;
      room_after = all.1.0;
      length_bound = all.1.1;
    }

pub returns : goal.returns
returns c =
    let all = turn-of (turn_goes_on c.args.input.now c.args.play (flipped c.if-not-play.false) c.if-play-eq0.false) c.go_on.ensures in
    record {
      value = all.0;
      room_after = all.1.0;
      length_bound = all.1.1;
    }
