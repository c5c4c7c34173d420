-- Scenarios that are refused, each with its number and its offset: one table, proved by proofs/Faults.antt. The cases are those of docs/DECISIONS.md
-- and of paper 01's order of checks. Assumes nothing.
use Rattle.std.specs.Prelude.{ℕ, suc, Bool, false, ◌&&◌, cond, List, [], ◌∷◌, ◌++◌, eqb, take}
use Rattle.std.proofs.Math.Option.{Option, none, some}
use Rattle.scenario.specs.Format.{set_up_kind, station_kind, arrival_kind, run_kind}
use Rattle.scenario.specs.Reading.{Reading, refused, accepted, reading}
use Rattle.scenario.specs.Writing.{bytes_of, record_bytes}

-- ---- records

-- PRI, D 4, A 8, q 1, and so many stations
abbrev set_up_for : ℕ → List ℕ
set_up_for n = record_bytes set_up_kind (0 ∷ 4 ∷ 8 ∷ 1 ∷ n ∷ [])

-- a station with this address, an arrival at this time for address 5, and a run of 3 steps
abbrev station : ℕ → List ℕ
station address = record_bytes station_kind (address ∷ 0 ∷ [])

abbrev arrival : ℕ → List ℕ
arrival time = record_bytes arrival_kind (time ∷ 5 ∷ 2 ∷ 1 ∷ [])

abbrev run : List ℕ
run = record_bytes run_kind (3 ∷ [])

-- a record of an unknown kind, and one whose length is not that of its kind
abbrev unknown : List ℕ
unknown = bytes_of 2 4 ++ (bytes_of 2 9 ++ (0 ∷ 0 ∷ []))

abbrev long_run : List ℕ
long_run = bytes_of 2 5 ++ (bytes_of 2 4 ++ (3 ∷ 0 ∷ 0 ∷ []))

-- ---- the table

pub record Fault : Type 0 where
  pub input : List ℕ
  pub number : ℕ
  pub offset : ℕ

abbrev fault : List ℕ → ℕ → ℕ → Fault
fault input number offset = record { input = input; number = number; offset = offset }

abbrev pub faults : List Fault
faults =
    -- 1: the empty input; 2: three bytes
    fault [] 18 0
    ∷ fault (take 3 (set_up_for 1)) 18 0
    -- 3: nothing after the set-up, at the input's length; 4: two bytes after it, at the record's offset
    ∷ fault (set_up_for 1) 18 16
    ∷ fault (set_up_for 1 ++ (6 ∷ 0 ∷ [])) 18 16
    -- 5: a short body; 6: an unknown kind with a short body; 7: a length not that of its kind
    ∷ fault (take 15 (set_up_for 1)) 18 0
    ∷ fault (set_up_for 1 ++ (station 5 ++ take 5 unknown)) 19 24
    ∷ fault (set_up_for 1 ++ (station 5 ++ long_run)) 19 24
    -- 8: a station first; 9: a second set-up; 10: a run before the stations; 11: a run record that is cut and out of place
    ∷ fault (station 5) 20 0
    ∷ fault (set_up_for 1 ++ set_up_for 1) 20 16
    ∷ fault (set_up_for 1 ++ run) 20 16
    ∷ fault (set_up_for 1 ++ take 5 run) 18 16
    -- 12: N 65, with no station behind it; 13: N 0
    ∷ fault (set_up_for 65) 6 0
    ∷ fault (set_up_for 0) 6 0
    -- 14: an address at A, once the last station is read; 15: not before the second station's record is found out of place
    ∷ fault (set_up_for 1 ++ station 8) 7 16
    ∷ fault (set_up_for 2 ++ (station 8 ++ run)) 20 24
    -- 16: the second of two stations has the first one's address
    ∷ fault (set_up_for 2 ++ (station 5 ++ station 5)) 8 24
    -- 17: no run; 18: a time below the previous one; 19: the same in a record that is cut
    ∷ fault (set_up_for 1 ++ (station 5 ++ arrival 7)) 18 40
    ∷ fault (set_up_for 1 ++ (station 5 ++ (arrival 7 ++ (arrival 6 ++ run)))) 21 40
    ∷ fault (set_up_for 1 ++ (station 5 ++ (arrival 7 ++ take 15 (arrival 6)))) 18 40
    -- 20: a station after an arrival; 21: a byte after the run; 22: an unknown kind after the run
    ∷ fault (set_up_for 1 ++ (station 5 ++ (arrival 7 ++ station 6))) 20 40
    ∷ fault (set_up_for 1 ++ (station 5 ++ (run ++ (0 ∷ [])))) 20 30
    ∷ fault (set_up_for 1 ++ (station 5 ++ (run ++ unknown))) 20 30
    ∷ []

-- ---- the test

-- whether a reading is refused with this number and offset
abbrev pub is_refused : Reading → ℕ → ℕ → Bool
is_refused (refused n offset) number at = eqb n number && eqb offset at
is_refused (accepted r arrivals steps) number at = false

-- the number of the first row that fails, if one does; the first row is number i
abbrev pub first_wrong : ℕ → List Fault → Option ℕ
first_wrong i [] = none
first_wrong i (x ∷ later) = cond (is_refused (reading x.input) x.number x.offset) (first_wrong (suc i) later) (some i)
