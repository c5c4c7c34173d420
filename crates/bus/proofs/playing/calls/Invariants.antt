use Rattle.std.proofs.Common.{◌-◌, ◌≡◌}
use Rattle.bus.proofs.InPlace.{Going}
use Rattle.bus.proofs.playing.calls.Given as goal

-- what the stretch has come to; the stations are listed as they were
abbrev pub invariant-loop-arrivals : goal.invariant-loop-arrivals
invariant-loop-arrivals l = Going l.stands l.initial.s l.arrivals l.steps l.s.segment l.s.queues l.reports l.made l.taken l.left × (l.s.segment.listed ≡ l.initial.s.segment.listed)

abbrev pub decreases-loop-arrivals : goal.decreases-loop-arrivals
decreases-loop-arrivals l = 512 - l.made
