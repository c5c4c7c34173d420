-- The loop's invariant: the stations are those in the array before i, and then those that are read from the record at i on.
use Rattle.std.proofs.Common.{◌≡◌, drop}
use Rattle.scenario.specs.Reading.{set_up_bytes, stations_from}
use Rattle.scenario.proofs.ReadingLaws.{stations_after}
use Rattle.scenario.proofs.read_stations.Given as goal

abbrev pub invariant-loop-i : goal.invariant-loop-i
invariant-loop-i l = stations_from l.n set_up_bytes (drop set_up_bytes l.input) ≡ stations_after l.input l.place-items l.n l.i
