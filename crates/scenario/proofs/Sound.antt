-- A refused scenario bears a number that is not 0; of an accepted one the set-up is accepted, and its arrivals stand past its stations.
-- Assumes nothing.
use Prim.Native.Nat.{ℕ, suc}
use mathlib.Core.Path.{◌≡◌, refl}
use mathlib.Core.Bool.{Bool, true, false, cond}
use mathlib.Core.List.{List}
use native.Mathlib.Omega.{arith}
use lib.Dec.{ltb, eqb}
use lib.ListN.{length, drop}
use borrow.Author.Tests.{eqb-true, eqb-false}
use Rattle.rules.specs.SetUp.{Request, set_up_verdict}
use Rattle.state.specs.declared.Settings.{Settings}
use Rattle.state.specs.SetUp.{request_with, settings_refusal}
use Rattle.scenario.specs.Format.{set_up_kind, Said, read_record, out_of_place}
use Rattle.scenario.specs.Reading.{most_bytes, set_up_bytes, settings_from, StationsRead, stations_from, EndingRead}
use Rattle.scenario.specs.Reading.{Reading, refused, accepted, station_offset, read_ending, read_arrivals, read_stations}
use Rattle.scenario.specs.Reading.{read_settings, reading}
use Rattle.scenario.specs.Parts.{ending_at}
use Rattle.scenario.proofs.WrittenRecords.{told, place_refused}
use Rattle.scenario.specs.Parts.{ArrivalsAt}

-- 'REFUSED number' bears a number; what is accepted is set up, and its arrivals stand from past its stations on
abbrev pub Sound : List ℕ → Reading → Type 0
Sound input (refused n offset) = ¬ (n ≡ 0)
Sound input (accepted r arrivals steps) = ((set_up_verdict r).refusal ≡ 0) × ArrivalsAt input (station_offset r.N) arrivals

-- by a test of the number
by_number :
    (input : List ℕ) (n offset : ℕ) (x : Reading) → (n ≡ 0 → Sound input x) → Sound input (cond (eqb n 0) x (refused n offset))
by_number input n offset x h = go (eqb n 0) refl
  where
    go : (t : Bool) → eqb n 0 ≡ t → Sound input (cond t x (refused n offset))
    go true e = h (eqb-true n 0 e)
    go false e = eqb-false n 0 e

-- with any settings
sound_settings : (input : List ℕ) (g : Settings) → Sound input (read_settings g input)
sound_settings input g =
    by_number
    input
    (settings_refusal g)
    0
    (read_stations g x input)
    (λ z.
    by_number
    input
    x.refusal
    x.offset
    (read_arrivals r input)
    (λ z.
    by_number
    input
    (set_up_verdict r).refusal
    (station_offset (set_up_verdict r).station)
    (read_ending r y)
    (λ fine. by_number input y.refusal y.offset (accepted r y.arrivals y.steps) (λ z. (fine, here z)))))
  where
    x : StationsRead
    x = stations_from g.n set_up_bytes (drop set_up_bytes input)

    r : Request
    r = request_with g x.asked

    y : EndingRead
    y = ending_at input (station_offset r.N)

    here : y.refusal ≡ 0 → ArrivalsAt input (station_offset r.N) y.arrivals
    here z = record { turns = suc (length input); previous = 0; fine = z; collected = refl }

-- whatever the bytes
pub sound : (input : List ℕ) → Sound input (reading input)
sound input = go (ltb most_bytes (length input)) (eqb x.kind set_up_kind.kind)
  where
    x : Said
    x = read_record input

    go :
        (long t : Bool)
        → Sound input (cond long (refused 22 0) (cond t (read_settings (settings_from x.values) input) (refused (out_of_place x) 0)))
    go true t = λ z. omega arith
    go false true = sound_settings input (settings_from x.values)
    go false false = place_refused input x (told input)
