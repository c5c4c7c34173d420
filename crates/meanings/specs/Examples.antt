-- Refused scenarios and what is said of them, word for word. Assumes nothing.
use Rattle.std.specs.Prelude.{ℕ, suc, Bool, true, false, cond, List, [], ◌∷◌, ◌++◌, eqb, take}
use Prim.Native.String.{String}
use Rattle.std.proofs.Math.Option.{Option, none, some}
use Rattle.text.specs.Text.{bytes}
use Rattle.scenario.specs.Format.{set_up_kind, station_kind, arrival_kind, run_kind}
use Rattle.scenario.specs.Writing.{bytes_of, record_bytes}
use Rattle.scenario.specs.Reading.{Reading, refused, accepted, reading}
use Rattle.meanings.specs.Refused.{refused_text}

-- ---- records

-- PRI, D 4, A 8, q 1, and two stations
abbrev set_up : List ℕ
set_up = record_bytes set_up_kind (0 ∷ 4 ∷ 8 ∷ 1 ∷ 2 ∷ [])

-- a station with this address, an arrival at this time for address 5, and a run of 3 steps
abbrev station : ℕ → List ℕ
station address = record_bytes station_kind (address ∷ 0 ∷ [])

abbrev arrival : ℕ → List ℕ
arrival time = record_bytes arrival_kind (time ∷ 5 ∷ 2 ∷ 1 ∷ [])

abbrev run : List ℕ
run = record_bytes run_kind (3 ∷ [])

-- a record of an unknown kind
abbrev unknown : List ℕ
unknown = bytes_of 2 4 ++ (bytes_of 2 9 ++ (0 ∷ 0 ∷ []))

-- ---- the table

pub record Example : Type 0 where
  pub input : List ℕ
  pub words : String

abbrev example : List ℕ → String → Example
example input words = record { input = input; words = words }

abbrev pub examples : List Example
examples =
    example [] "refused, number 18: the input ends inside a record or before the run record; record 1, where the input ends, at byte 0"
    ∷ example (take 3 set_up) "refused, number 18: the input ends inside a record or before the run record; record 1, cut short, at byte 0"
    ∷ example (take 5 set_up) "refused, number 18: the input ends inside a record or before the run record; record 1, a set-up, at byte 0"
    ∷ example
    (set_up ++ (station 5 ++ station 5))
    "refused, number 8: a station has the address of an earlier station; record 3, a station, at byte 24"
    ∷ example
    (set_up ++ (station 5 ++ (station 6 ++ (arrival 7 ++ arrival 6))))
    "refused, number 21: an arrival has a time below that of the arrival before it; record 5, an arrival, at byte 48"
    ∷ example (set_up ++ run) "refused, number 20: a record is out of place, or bytes come after the run record; record 2, a run, at byte 16"
    ∷ example
    (set_up ++ (station 5 ++ unknown))
    "refused, number 19: a record has no known kind, or not the length of its kind; record 3, of no known kind, at byte 24"
    ∷ []

-- ---- the test

-- what is said of a reading; nothing where it is accepted
abbrev pub said_of : List ℕ → Reading → List ℕ
said_of input (refused number offset) = refused_text input number offset
said_of input (accepted r arrivals steps) = []

-- whether two texts are the same
abbrev pub same : List ℕ → List ℕ → Bool
same [] [] = true
same [] (b ∷ y) = false
same (a ∷ x) [] = false
same (a ∷ x) (b ∷ y) = cond (eqb a b) (same x y) false

-- the number of the first row that fails, if one does; the first row is number i
abbrev pub first_wrong : ℕ → List Example → Option ℕ
first_wrong i [] = none
first_wrong i (x ∷ later) = cond (same (said_of x.input (reading x.input)) (bytes x.words)) (first_wrong (suc i) later) (some i)
