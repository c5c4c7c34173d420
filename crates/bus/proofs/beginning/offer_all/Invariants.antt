-- The loops' invariants: the offers of the stations before i are recorded, and the best packet so far of station i is known.
use Rattle.std.proofs.Common.{◌≡◌, false}
use Rattle.rules.specs.SetUp.{discipline_of}
use Rattle.bus.proofs.OffersInPlace.{offered_to, InTimeTo, Best}
use Rattle.bus.proofs.beginning.offer_all.Given as goal

-- the search for the offer of a station
abbrev pub invariant-loop-j : goal.invariant-loop-j
invariant-loop-j l = Best (discipline_of l.settings.discipline) l.s.queues l.i l.looked l.place l.least l.j

-- unless one is late all packets of the stations before i are in time
abbrev pub invariant-loop-i : goal.invariant-loop-i
invariant-loop-i l = (l.s ≡ offered_to l.initial.s l.i) × (l.late ≡ false → InTimeTo l.initial.s l.i)
