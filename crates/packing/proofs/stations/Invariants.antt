-- The loop's invariant: of the records those of the stations from a place on are left.
use Rattle.std.proofs.Common.{map, drop}
use Rattle.state.specs.SetUp.{asked_of}
use Rattle.scenario.specs.Writing.{stations_bytes}
use Rattle.packing.proofs.Left.{Left}
use Rattle.packing.proofs.stations.Given as goal

abbrev pub invariant-loop-place : goal.invariant-loop-place
invariant-loop-place l =
    Left
    l.initial.room
    l.at
    (stations_bytes (map asked_of l.listed))
    l.room
    l.next
    (stations_bytes (map asked_of (drop l.place-index l.listed)))
