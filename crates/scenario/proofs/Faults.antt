-- The table of refused scenarios (specs/Faults.antt) holds, by computation. Assumes nothing.
use mathlib.Core.Path.{◌≡◌, refl}
use mathlib.Core.Option.{none}
use Rattle.scenario.specs.Faults.{faults, first_wrong}

-- no row is wrong
pub all_refused : first_wrong 1 faults ≡ none
all_refused = refl
