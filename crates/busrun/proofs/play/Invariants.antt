-- `play` ends: each turn takes from the turns that the play has yet. Assumes nothing.
use Rattle.listing.specs.Turns.{turns_left}
use Rattle.busrun.proofs.play.Given as goal

abbrev pub decreases-loop-play : goal.decreases-loop-play
decreases-loop-play l = turns_left l.input l.play
