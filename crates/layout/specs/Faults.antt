-- The numbers of what the code has as cases: kinds of lines, words before numbers, stages, faults. Assumes nothing.
use Rattle.std.specs.Prelude.{ℕ, Option, Some, None, Result, Ok, Err}
use Rattle.rules.specs.declared.Discipline.{Discipline}
use Rattle.rules.specs.Bus.{code}
use Rattle.rules.specs.Refusals.{number_of}
use Rattle.std.specs.Int.NonZero.{non_zero_u32_get}
use Rattle.layout.specs.declared.labels.Kind.{Kind}
use Rattle.layout.specs.declared.labels.Kind.TheVariants.{Bus, Station, Arrival, Arrivals, Attempt, Run}
use Rattle.layout.specs.declared.labels.Label.{Label}
use Rattle.layout.specs.declared.labels.Label.TheVariants.{D, A, Q, Address, Capability, Time, Value, Length, Every, From, To, Laxity, Steps}
use Rattle.layout.specs.declared.faults.Fault.{Fault}
use Rattle.layout.specs.declared.faults.Fault.TheVariants.{SetUp, Engine, WordMissing, NumberMissing, GoesOn, NoBus, NoStation, NoRecord, NoArrivalLine, PastRun, AddressLarge, LengthLarge, StepsLarge, EveryZero, ToEarly}
use Rattle.layout.specs.declared.stages.Stage.{Stage}
use Rattle.layout.specs.declared.stages.Stage.TheVariants.{BeforeBus, InStations, InArrivals, AfterRun}
use Rattle.layout.specs.Layout.{before_bus, in_stations, in_arrivals, after_run}
use Rattle.layout.specs.Layout.{bus_line, station_line, arrival_line, arrivals_line, attempt_line, run_line}
use Rattle.layout.specs.Layout.{d_label, a_label, q_label, address_label, capability_label, time_label, value_label, length_label, every_label, from_label, to_label, laxity_label, steps_label}
use Rattle.layout.specs.Layout.{word_missing, number_missing, goes_on, no_bus, has_no_station, no_record, no_arrival_fault, past_run, address_large, length_large, steps_large, every_zero, to_early}

abbrev pub kind_number : Kind → ℕ
kind_number Bus = bus_line
kind_number Station = station_line
kind_number Arrival = arrival_line
kind_number Arrivals = arrivals_line
kind_number Attempt = attempt_line
kind_number Run = run_line

-- none is 0
abbrev pub kind_in : Option Kind → ℕ
kind_in (Some kind) = kind_number kind
kind_in None = 0

abbrev pub stage_number : Stage → ℕ
stage_number BeforeBus = before_bus
stage_number InStations = in_stations
stage_number InArrivals = in_arrivals
stage_number AfterRun = after_run

-- none is 3
abbrev pub discipline_in : Option Discipline → ℕ
discipline_in (Some discipline) = code discipline
discipline_in None = 3

abbrev pub label_number : Label → ℕ
label_number D = d_label
label_number A = a_label
label_number Q = q_label
label_number Address = address_label
label_number Capability = capability_label
label_number Time = time_label
label_number Value = value_label
label_number Length = length_label
label_number Every = every_label
label_number From = from_label
label_number To = to_label
label_number Laxity = laxity_label
label_number Steps = steps_label

abbrev pub fault_number : Fault → ℕ
fault_number (SetUp refusal) = non_zero_u32_get refusal
fault_number (Engine refusal) = number_of refusal
fault_number (WordMissing label) = word_missing (label_number label)
fault_number (NumberMissing label) = number_missing (label_number label)
fault_number GoesOn = goes_on
fault_number NoBus = no_bus
fault_number NoStation = has_no_station
fault_number NoRecord = no_record
fault_number NoArrivalLine = no_arrival_fault
fault_number PastRun = past_run
fault_number AddressLarge = address_large
fault_number LengthLarge = length_large
fault_number StepsLarge = steps_large
fault_number EveryZero = every_zero
fault_number ToEarly = to_early

-- the fault that an outcome has; none is 0
abbrev pub fault_in : {X : Type 0} → Result X Fault → ℕ
fault_in (Ok x) = 0
fault_in (Err fault) = fault_number fault
