-- A whole scenario: 'Order: one set-up, N stations, any arrivals, one run', and what refuses it. 'Checks: 22 first; per record 20 if the
-- run record has gone by, 18 if under four bytes remain, 19, 18 for a short body, 20, 21. Refusals 2 to 6 come as the set-up is read, 7 to 10
-- once the last station is read.' Assumes nothing.
use Rattle.std.specs.Prelude.{ℕ, zero, suc, ◌+◌, ◌*◌, cond, List, [], ◌∷◌, ltb, eqb, length, get_or, drop, Result, Ok, Err}
use Rattle.rules.specs.Refusals.{number_of}
use Rattle.rules.specs.SetUp.{Asked, Request, set_up_verdict}
use Rattle.state.specs.declared.Arrival.{Arrival}
use Rattle.state.specs.declared.Settings.{Settings}
use Rattle.state.specs.SetUp.{request_with, settings_refusal, coded_set_up}
pub use Rattle.scenario.specs.declared.Refused.{Refused}
pub use Rattle.scenario.specs.declared.Scenario.{Scenario}
use Rattle.scenario.specs.Format.{set_up_kind, station_kind, arrival_kind, run_kind, Said, read_record, out_of_place}

-- '22: scenario above 65,536 bytes'
abbrev pub most_bytes : ℕ
most_bytes = 65_536

-- the bytes that a record takes: the two of its length, and what follows them
abbrev pub set_up_bytes : ℕ
set_up_bytes = 2 + set_up_kind.length

abbrev pub station_bytes : ℕ
station_bytes = 2 + station_kind.length

abbrev pub arrival_bytes : ℕ
arrival_bytes = 2 + arrival_kind.length

abbrev pub run_bytes : ℕ
run_bytes = 2 + run_kind.length

-- ---- what the values of a record are

abbrev pub settings_from : List ℕ → Settings
settings_from vs = record { discipline = get_or vs 0 0; d = get_or vs 1 0; a = get_or vs 2 0; q = get_or vs 3 0; n = get_or vs 4 0 }

abbrev pub asked_from : List ℕ → Asked
asked_from vs = record { address = get_or vs 0 0; capability = get_or vs 1 0 }

abbrev pub arrival_from : List ℕ → Arrival
arrival_from vs = record { time = record { 0 = get_or vs 0 0 }; address = record { 0 = get_or vs 1 0 }; value = get_or vs 2 0; length = get_or vs 3 0 }

abbrev pub steps_from : List ℕ → ℕ
steps_from vs = get_or vs 0 0

-- ---- the stations

-- the stations as read: those before the first record that is refused, with its number and its offset; or all, and zeros
pub record StationsRead : Type 0 where
  pub refusal : ℕ
  pub offset : ℕ
  pub asked : List Asked

abbrev pub with_station : Asked → StationsRead → StationsRead
with_station s x = record { refusal = x.refusal; offset = x.offset; asked = s ∷ x.asked }

-- n stations, from an offset on
abbrev pub stations_from : ℕ → ℕ → List ℕ → StationsRead
stations_from zero offset rest = record { refusal = 0; offset = 0; asked = [] }
stations_from (suc n) offset rest =
    cond
    (eqb (read_record rest).kind station_kind.kind)
    (with_station (asked_from (read_record rest).values) (stations_from n (offset + station_bytes) (drop station_bytes rest)))
    (record { refusal = out_of_place (read_record rest); offset = offset; asked = [] })

-- ---- the arrivals and the run

-- the arrivals as read, and the steps of the run; or the number and the offset of what is refused
pub record EndingRead : Type 0 where
  pub refusal : ℕ
  pub offset : ℕ
  pub arrivals : List Arrival
  pub steps : ℕ

abbrev pub refused_ending : ℕ → ℕ → EndingRead
refused_ending number offset = record { refusal = number; offset = offset; arrivals = []; steps = 0 }

abbrev pub with_arrival : Arrival → EndingRead → EndingRead
with_arrival a x = record { refusal = x.refusal; offset = x.offset; arrivals = a ∷ x.arrivals; steps = x.steps }

-- 'one run'; `after` is how many bytes come after it: '20 if the run record has gone by'
abbrev pub run_from : Said → ℕ → ℕ → EndingRead
run_from x offset after =
    cond
    (eqb x.kind run_kind.kind)
    (cond
    (eqb after 0)
    (record { refusal = 0; offset = 0; arrivals = []; steps = steps_from x.values })
    (refused_ending 20 (offset + run_bytes)))
    (refused_ending (out_of_place x) offset)

-- 'any arrivals, one run', from an offset on; '21: arrival time below the previous arrival's'. Each arrival takes bytes, so that as many
-- turns as there are bytes are enough.
abbrev pub arrivals_from : ℕ → ℕ → ℕ → List ℕ → EndingRead
arrivals_from zero previous offset rest = refused_ending 18 offset
arrivals_from (suc turns) previous offset rest =
    cond
    (eqb (read_record rest).kind arrival_kind.kind)
    (cond
    (ltb (arrival_from (read_record rest).values).time.0 previous)
    (refused_ending 21 offset)
    (with_arrival
    (arrival_from (read_record rest).values)
    (arrivals_from turns (arrival_from (read_record rest).values).time.0 (offset + arrival_bytes) (drop arrival_bytes rest))))
    (run_from (read_record rest) offset (length (drop run_bytes rest)))

-- ---- the whole

-- what a scenario asks for: a set-up, arrivals and steps; or the number and the offset of what refuses it
pub data Reading : Type 0 where
  refused : ℕ → ℕ → Reading
  accepted : Request → List Arrival → ℕ → Reading

-- the offset of the record of the station at a place of the row
abbrev pub station_offset : ℕ → ℕ
station_offset place = set_up_bytes + station_bytes * place

abbrev pub read_ending : Request → EndingRead → Reading
read_ending r x = cond (eqb x.refusal 0) (accepted r x.arrivals x.steps) (refused x.refusal x.offset)

-- '7 to 10 once the last station is read', at the faulty station's record
abbrev pub read_arrivals : Request → List ℕ → Reading
read_arrivals r input =
    cond
    (eqb (set_up_verdict r).refusal 0)
    (read_ending r (arrivals_from (suc (length input)) 0 (station_offset r.N) (drop (station_offset r.N) input)))
    (refused (set_up_verdict r).refusal (station_offset (set_up_verdict r).station))

abbrev pub read_stations : Settings → StationsRead → List ℕ → Reading
read_stations g x input = cond (eqb x.refusal 0) (read_arrivals (request_with g x.asked) input) (refused x.refusal x.offset)

-- '2 to 6 as the set-up is read'
abbrev pub read_settings : Settings → List ℕ → Reading
read_settings g input =
    cond
    (eqb (settings_refusal g) 0)
    (read_stations g (stations_from g.n set_up_bytes (drop set_up_bytes input)) input)
    (refused (settings_refusal g) 0)

-- 'one set-up' first
abbrev pub read_set_up : Said → List ℕ → Reading
read_set_up x input = cond (eqb x.kind set_up_kind.kind) (read_settings (settings_from x.values) input) (refused (out_of_place x) 0)

-- '22 first'
abbrev pub reading : List ℕ → Reading
reading input = cond (ltb most_bytes (length input)) (refused 22 0) (read_set_up (read_record input) input)

-- 'REFUSED number offset', as the code says it
pub record Numbered : Type 0 where
  pub number : ℕ
  pub offset : ℕ

abbrev pub numbered : Refused → Numbered
numbered e = record { number = number_of e.refusal; offset = e.offset }

-- an answer of the code, with its refusal so
abbrev pub by_number : {X : Type 0} → Result X Refused → Result X Numbered
by_number (Ok x) = Ok x
by_number (Err e) = Err (numbered e)

-- What the code's answer says. 'A refused scenario' leaves nothing behind but its number and offset. An accepted one is set up; its arrivals
-- stand in the input from an offset on.
abbrev pub scenario_form : Reading → Result Scenario Numbered
scenario_form (refused n offset) = Err (record { number = n; offset = offset })
scenario_form (accepted r arrivals steps) = Ok (record { state = (coded_set_up r).1; at = station_offset r.N; steps = steps })
