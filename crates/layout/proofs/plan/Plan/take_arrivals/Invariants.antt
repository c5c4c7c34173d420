-- The loop's invariant: so many arrivals have been inserted, and the others are left.
use Rattle.layout.proofs.Repeating.{Going}
use Rattle.layout.proofs.plan.Plan.take_arrivals.Given as goal

abbrev pub invariant-loop-turn : goal.invariant-loop-turn
invariant-loop-turn l = Going l.said l.initial.self l.self l.turn l.turn-end
