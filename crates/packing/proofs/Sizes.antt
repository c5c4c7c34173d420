-- How many bytes records take, and a whole scenario. Assumes nothing.
use Prim.Native.Nat.{ℕ, ◌+◌, ◌*◌}
use mathlib.Core.Path.{◌≡◌, refl, ap, ◌∙◌}
use mathlib.Core.List.{List, [], ◌∷◌, map}
use native.Mathlib.Omega.{arith}
use lib.ListN.{length, length-append, length-map}
use Rattle.rules.specs.SetUp.{Asked, Request}
use Rattle.state.specs.declared.Arrival.{Arrival}
use Rattle.state.specs.declared.Listed.{Listed}
use Rattle.state.specs.SetUp.{asked_of}
use Rattle.scenario.specs.Writing.{stations_bytes, ending_bytes, written}

-- stations
pub stations_size : (row : List Asked) → length (stations_bytes row) ≡ 8 * length row
stations_size [] = refl
stations_size (s ∷ row) = omega (arith, stations_size row)

-- stations of the code
pub listed_size : (row : List Listed) → length (stations_bytes (map asked_of row)) ≡ 8 * length row
listed_size row = stations_size (map asked_of row) ∙ ap (λ k. 8 * k) (length-map row asked_of)

-- arrivals and a run
pub ending_size : (arrivals : List Arrival) (steps : ℕ) → length (ending_bytes arrivals steps) ≡ 16 * length arrivals + 6
ending_size [] steps = refl
ending_size (a ∷ arrivals) steps = omega (arith, ending_size arrivals steps)

-- a whole scenario
pub written_size :
    (r : Request) (arrivals : List Arrival) (steps : ℕ)
    → length (written r arrivals steps) ≡ 16 + 8 * length r.row + 16 * length arrivals + 6
written_size r arrivals steps =
    omega (
      arith,
      length-append (stations_bytes r.row) (ending_bytes arrivals steps),
      stations_size r.row,
      ending_size arrivals steps,
    )
