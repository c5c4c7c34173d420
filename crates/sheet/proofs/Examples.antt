-- The table of batches holds. Assumes nothing.
use mathlib.Core.Path.{◌≡◌, refl}
use mathlib.Core.List.{map}
use Rattle.sheet.specs.Sheet.{drawn}
use Rattle.sheet.specs.Examples.{Example, said, table}

pub examples_hold : map (λ (e : Example). said (drawn e.runs e.count)) table ≡ map (λ (e : Example). e.says) table
examples_hold = refl
