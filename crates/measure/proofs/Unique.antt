-- The contract says all of the result: two results that meet it are equal, whatever the arguments. Assumes nothing.
use Rattle.window.specs.Determined.{Determines}
use Rattle.window.proofs.Unique.{unique}
use Rattle.scenario.proofs.Refusals.{by_number_injective}
use Rattle.measure.proofs.measure.Reads as measure

pub measure_determined : Determines measure.Learnt
measure_determined κs args r r' end end' p q = by_number_injective r r' (unique p q)
