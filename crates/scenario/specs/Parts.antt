-- What the private functions of src/ are held to; for readers of those alone. Assumes nothing.
use Rattle.std.specs.Prelude.{ℕ, suc, ◌≡◌, Bool, true, false, cond, List, eqb, length, map, take, drop, Option, Some, None, Result, Ok, Err}
use Rattle.std.proofs.Math.Option.{Option as Maybe, none, some}
use Rattle.rules.specs.SetUp.{Asked}
use Rattle.state.specs.declared.Arrival.{Arrival}
use Rattle.state.specs.declared.Listed.{Listed}
use Rattle.state.specs.declared.Row.{Row}
use Rattle.state.specs.SetUp.{asked_of}
use Rattle.scenario.specs.declared.records.Kind.{Kind as CodeKind}
use Rattle.scenario.specs.declared.records.Kind.TheVariants as KindIs
use Rattle.scenario.specs.Format.{Kind, kinds, row_of, set_up_kind, station_kind, arrival_kind, run_kind, Said, said_by, read_record, out_of_place}
use Rattle.scenario.specs.Reading.{StationsRead, EndingRead, Refused, Numbered, numbered, asked_from, run_bytes, run_from, arrivals_from}

-- whether there is a row
abbrev pub known : Maybe Kind → Bool
known none = false
known (some row) = true

-- whether this is a known kind, and this its length
abbrev pub is_kind : ℕ → ℕ → Bool
is_kind kind long = known (row_of kind long kinds)

-- what a body says by its kind; of an unknown one, as if it were a run
abbrev pub said_by_kind : ℕ → List ℕ → Said
said_by_kind kind body =
    cond
    (eqb kind set_up_kind.kind)
    (said_by set_up_kind body)
    (cond
    (eqb kind station_kind.kind)
    (said_by station_kind body)
    (cond (eqb kind arrival_kind.kind) (said_by arrival_kind body) (said_by run_kind body)))

-- the row of the table for each of the code's kinds
abbrev pub row : CodeKind → Kind
row KindIs.SetUp = set_up_kind
row KindIs.Station = station_kind
row KindIs.Arrival = arrival_kind
row KindIs.Run = run_kind

abbrev pub row_if : Option CodeKind → Maybe Kind
row_if None = none
row_if (Some kind) = some (row kind)

-- the refusal of an answer that is one
abbrev pub refusal_in : {X : Type 0} → Result X Numbered → Numbered → Numbered
refusal_in (Ok x) other = other
refusal_in (Err e) other = e

-- the station that a record at an offset says, or what refuses it
abbrev pub station_from : Said → ℕ → Result Asked Numbered
station_from x at =
    cond (eqb x.kind station_kind.kind) (Ok (asked_from x.values)) (Err (record { number = out_of_place x; offset = at }))

-- what the code's answer says of it
abbrev pub station_said : Result Listed Refused → Result Asked Numbered
station_said (Ok listed) = Ok (asked_of listed)
station_said (Err e) = Err (numbered e)

-- the stations as the code has them: the row, or what refuses it
abbrev pub stations_form : StationsRead → Result (List Asked) Numbered
stations_form x = cond (eqb x.refusal 0) (Ok x.asked) (Err (record { number = x.refusal; offset = x.offset }))

-- what the code's answer says of them
abbrev pub stations_said : Result Row Refused → Result (List Asked) Numbered
stations_said (Ok row) = Ok (map asked_of (take row.length row.stations))
stations_said (Err e) = Err (numbered e)

-- an ending but for its arrivals, as the code has it
abbrev pub ending_form : EndingRead → Result ℕ Numbered
ending_form x = cond (eqb x.refusal 0) (Ok x.steps) (Err (record { number = x.refusal; offset = x.offset }))

-- the run record at an offset of the input, and what comes after it
abbrev pub run_at : List ℕ → ℕ → EndingRead
run_at input at = run_from (read_record (drop at input)) at (length (drop run_bytes (drop at input)))

-- any arrivals and one run, from an offset of the input on
abbrev pub ending_at : List ℕ → ℕ → EndingRead
ending_at input at = arrivals_from (suc (length input)) 0 at (drop at input)

-- the ending once arrivals have been passed: what was refused, or the run that comes next
abbrev pub after_passed : List ℕ → Result ℕ Numbered → Result ℕ Numbered
after_passed input (Ok at) = ending_form (run_at input at)
after_passed input (Err e) = Err e

-- ---- for callers that take the arrivals one by one

-- From an offset of the input on there stand these arrivals, none of a time below the one before it, and then the run: they are what some
-- number of turns collects, after some previous time, with no refusal.
pub record ArrivalsAt (input : List ℕ) (at : ℕ) (arrivals : List Arrival) : Type 0 where
  pub turns : ℕ
  pub previous : ℕ
  pub fine : (arrivals_from turns previous at (drop at input)).refusal ≡ 0
  pub collected : (arrivals_from turns previous at (drop at input)).arrivals ≡ arrivals
