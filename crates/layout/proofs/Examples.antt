-- The table of layouts (specs/Examples.antt) holds, by computation. Assumes nothing.
use Prim.Native.Nat.{ℕ}
use mathlib.Core.Path.{◌≡◌, refl}
use mathlib.Core.List.{[], ◌∷◌, map}
use Rattle.layout.specs.Layout.{in_arrivals, Plan, start, settings_said, with_bus, with_station, arrival_of, repeated, take_arrival, take_attempt, take_arrivals}
use Rattle.layout.specs.Layout.{layout_says}
use Rattle.layout.specs.Examples.{rows}

-- each row's text says what the row says; where one fails, `take n rows` in place of `rows` finds it
pub all_said : map (λ r. layout_says r.text) rows ≡ map (λ r. r.saying) rows
all_said = refl

-- ---- a scenario with one station has room for 4,094 arrivals

abbrev pub one_station : Plan
one_station = with_station (with_bus start (settings_said 0 (4 ∷ 8 ∷ 1 ∷ []))) (record { address = 5; capability = 0 })

-- one station, and so many arrivals
abbrev pub with_many_arrivals : ℕ → Plan
with_many_arrivals k =
    record {
      stage = in_arrivals;
      settings = one_station.settings;
      asked = one_station.asked;
      arrivals = repeated k 0 1 (λ time. arrival_of time 5 3 1);
      steps = 0;
    }

-- so many are taken, and one more is not, of each sort
pub most_repeated : ((take_arrivals one_station 1 0 4_093 5 3 1).fault ≡ 0) × ((take_arrivals one_station 1 0 4_094 5 3 1).fault ≡ 22)
most_repeated = (refl, refl)

pub most_arrivals : ((take_arrival (with_many_arrivals 4_093) 9 5 3 1).fault ≡ 0) × ((take_arrival (with_many_arrivals 4_094) 9 5 3 1).fault ≡ 22)
most_arrivals = (refl, refl)

pub most_attempts : ((take_attempt (with_many_arrivals 4_093) 9 5 4 0).fault ≡ 0) × ((take_attempt (with_many_arrivals 4_094) 9 5 4 0).fault ≡ 22)
most_attempts = (refl, refl)
