-- A layout: a scenario as lines of words (docs/LAYOUT.md). What a text says is a good scenario, or the line that is wrong and its fault.
-- Assumes nothing.
use Rattle.std.specs.Prelude.{ℕ, Option, Some, None, zero, suc, ◌+◌, ◌*◌, ◌/◌, ◌-◌, Bool, not, ◌||◌, cond, List, [], ◌∷◌, ◌++◌, ltb, leb, eqb, length, get_or}
use Rattle.rules.specs.Lists.{first_of}
use Rattle.rules.specs.declared.Discipline.TheVariants.{RTDG, RTVC}
use Rattle.rules.specs.Bus.{most_stations, code}
use Rattle.rules.specs.SetUp.{Asked, Request, discipline_of, set_up_verdict}
use Rattle.rules.specs.Standing.{value_is_fit, length_fits}
use Rattle.state.specs.declared.Arrival.{Arrival}
use Rattle.state.specs.declared.Settings.{Settings}
use Rattle.state.specs.SetUp.{request_with, settings_refusal}
use Rattle.scenario.specs.Reading.{most_bytes, set_up_bytes, station_bytes, arrival_bytes, run_bytes}
use Rattle.text.specs.Text.{bytes}
use Rattle.words.specs.Words.{lines_of, first_word, after_word, same, number_of}

-- ---- the table of words

-- the kinds of lines; 0 is none
abbrev pub bus_line : ℕ
bus_line = 1

abbrev pub station_line : ℕ
station_line = 2

abbrev pub arrival_line : ℕ
arrival_line = 3

abbrev pub arrivals_line : ℕ
arrivals_line = 4

abbrev pub attempt_line : ℕ
attempt_line = 5

abbrev pub run_line : ℕ
run_line = 6

-- the kind of a line by its first word
abbrev pub kind_of : List ℕ → ℕ
kind_of word =
    first_of
    0
    ((bus_line, same word (bytes "bus"))
    ∷ (station_line, same word (bytes "station"))
    ∷ (arrival_line, same word (bytes "arrival"))
    ∷ (arrivals_line, same word (bytes "arrivals"))
    ∷ (attempt_line, same word (bytes "attempt"))
    ∷ (run_line, same word (bytes "run"))
    ∷ [])

-- the discipline by the second word of a bus line; 3 is none
abbrev pub discipline_named : List ℕ → ℕ
discipline_named word =
    first_of 3 ((0, same word (bytes "PRI")) ∷ (1, same word (bytes "RTDG")) ∷ (2, same word (bytes "RTVC")) ∷ [])

-- the words before numbers, by their numbers from 1 on
abbrev pub d_label : ℕ
d_label = 1

abbrev pub a_label : ℕ
a_label = 2

abbrev pub q_label : ℕ
q_label = 3

abbrev pub address_label : ℕ
address_label = 4

abbrev pub capability_label : ℕ
capability_label = 5

abbrev pub time_label : ℕ
time_label = 6

abbrev pub value_label : ℕ
value_label = 7

abbrev pub length_label : ℕ
length_label = 8

abbrev pub every_label : ℕ
every_label = 9

abbrev pub from_label : ℕ
from_label = 10

abbrev pub to_label : ℕ
to_label = 11

abbrev pub laxity_label : ℕ
laxity_label = 12

abbrev pub steps_label : ℕ
steps_label = 13

abbrev pub label_table : ℕ → List (List ℕ × Bool)
label_table label =
    (bytes "D", eqb label d_label)
    ∷ (bytes "A", eqb label a_label)
    ∷ (bytes "q", eqb label q_label)
    ∷ (bytes "address", eqb label address_label)
    ∷ (bytes "capability", eqb label capability_label)
    ∷ (bytes "time", eqb label time_label)
    ∷ (bytes "value", eqb label value_label)
    ∷ (bytes "length", eqb label length_label)
    ∷ (bytes "every", eqb label every_label)
    ∷ (bytes "from", eqb label from_label)
    ∷ (bytes "to", eqb label to_label)
    ∷ (bytes "laxity", eqb label laxity_label)
    ∷ (bytes "steps", eqb label steps_label)
    ∷ []

abbrev pub label_bytes : ℕ → List ℕ
label_bytes label = first_of [] (label_table label)

-- 'a station with its address and, in RTVC, its capability'
abbrev pub station_labels : ℕ → List ℕ
station_labels discipline =
    cond (eqb discipline (code RTVC)) (address_label ∷ capability_label ∷ []) (address_label ∷ [])

-- 'the value of a datagram given as slots after its time'
abbrev pub repeated_label : ℕ → ℕ
repeated_label discipline = cond (eqb discipline (code RTDG)) laxity_label value_label

-- the words of each kind of line, in their order
abbrev pub labels_table : ℕ → ℕ → List (List ℕ × Bool)
labels_table kind discipline =
    (d_label ∷ a_label ∷ q_label ∷ [], eqb kind bus_line)
    ∷ (station_labels discipline, eqb kind station_line)
    ∷ (time_label ∷ address_label ∷ value_label ∷ length_label ∷ [], eqb kind arrival_line)
    ∷ (every_label ∷ from_label ∷ to_label ∷ address_label ∷ repeated_label discipline ∷ length_label ∷ [], eqb kind arrivals_line)
    ∷ (time_label ∷ address_label ∷ value_label ∷ length_label ∷ [], eqb kind attempt_line)
    ∷ (steps_label ∷ [], eqb kind run_line)
    ∷ []

abbrev pub labels_of : ℕ → ℕ → List ℕ
labels_of kind discipline = first_of [] (labels_table kind discipline)

-- ---- faults

abbrev pub word_missing : ℕ → ℕ
word_missing label = 100 + label

abbrev pub number_missing : ℕ → ℕ
number_missing label = 200 + label

abbrev pub goes_on : ℕ
goes_on = 300

abbrev pub no_bus : ℕ
no_bus = 301

abbrev pub has_no_station : ℕ
has_no_station = 302

abbrev pub no_record : ℕ
no_record = 303

abbrev pub no_arrival_fault : ℕ
no_arrival_fault = 304

abbrev pub past_run : ℕ
past_run = 305

abbrev pub address_large : ℕ
address_large = 306

abbrev pub length_large : ℕ
length_large = 307

abbrev pub steps_large : ℕ
steps_large = 308

abbrev pub every_zero : ℕ
every_zero = 309

abbrev pub to_early : ℕ
to_early = 310

-- ---- the words and numbers of a line

-- the numbers of a line, or its fault
pub record Fields : Type 0 where
  pub fault : ℕ
  pub values : List ℕ

abbrev pub faulty : ℕ → Fields
faulty fault = record { fault = fault; values = [] }

abbrev pub with_value : ℕ → Fields → Fields
with_value value x = record { fault = x.fault; values = value ∷ x.values }

-- the number after a word, before the later ones
abbrev pub field_in : ℕ → Option ℕ → Fields → Fields
field_in label None x = faulty (number_missing label)
field_in label (Some n) x = with_value n x

-- whether what is left of a line has no word
abbrev pub wordless : List ℕ → Bool
wordless rest = same (first_word rest) []

-- each word with its number, and then the end of the line
abbrev pub fields_in : List ℕ → List ℕ → Fields
fields_in [] rest = cond (wordless rest) (faulty 0) (faulty goes_on)
fields_in (label ∷ later) rest =
    cond
    (same (first_word rest) (label_bytes label))
    (field_in label (number_of (first_word (after_word rest))) (fields_in later (after_word (after_word rest))))
    (faulty (word_missing label))

-- ---- what has been said so far

-- the stage: 0 before the bus, 1 in the stations, 2 in the arrivals, 3 after the run
abbrev pub before_bus : ℕ
before_bus = 0

abbrev pub in_stations : ℕ
in_stations = 1

abbrev pub in_arrivals : ℕ
in_arrivals = 2

abbrev pub after_run : ℕ
after_run = 3

-- the set-up's numbers, with n the number of stations so far; the stations; the arrivals in order of time; the steps
pub record Plan : Type 0 where
  pub stage : ℕ
  pub settings : Settings
  pub asked : List Asked
  pub arrivals : List Arrival
  pub steps : ℕ

abbrev pub no_settings : Settings
no_settings = record { discipline = 0; d = 0; a = 0; q = 0; n = 0 }

abbrev pub start : Plan
start = record { stage = before_bus; settings = no_settings; asked = []; arrivals = []; steps = 0 }

-- what becomes of a plan by a line: the fault, and the plan as it was; or 0 and the plan that has the line too
pub record Taken : Type 0 where
  pub fault : ℕ
  pub plan : Plan

abbrev pub taken : ℕ → Plan → Plan → Taken
taken fault before after = record { fault = fault; plan = cond (eqb fault 0) after before }

-- what a line's place is held to: its kind has to be one that may come at this stage, after n stations
abbrev pub is_arrival : ℕ → Bool
is_arrival kind = eqb kind arrival_line || (eqb kind arrivals_line || eqb kind attempt_line)

-- in the stations: another station, or, where there is one, what comes after them
abbrev pub stations_place : ℕ → ℕ → ℕ
stations_place n kind =
    cond
    (is_arrival kind || eqb kind run_line)
    (cond (eqb n 0) 6 0)
    (cond (eqb kind station_line) 0 (cond (eqb n 0) has_no_station no_record))

abbrev pub place_fault : ℕ → ℕ → ℕ → ℕ
place_fault stage n kind =
    first_of
    past_run
    ((cond (eqb kind bus_line) 0 no_bus, eqb stage before_bus)
    ∷ (stations_place n kind, eqb stage in_stations)
    ∷ (cond (is_arrival kind || eqb kind run_line) 0 no_arrival_fault, eqb stage in_arrivals)
    ∷ [])

-- ---- the bus and its stations

abbrev pub settings_said : ℕ → List ℕ → Settings
settings_said discipline values =
    record { discipline = discipline; d = get_or values 0 0; a = get_or values 1 0; q = get_or values 2 0; n = 0 }

-- with n stations
abbrev pub counted : ℕ → Settings → Settings
counted n g = record { discipline = g.discipline; d = g.d; a = g.a; q = g.q; n = n }

-- 2 to 5: as if there were a station
abbrev pub bus_fault : Settings → ℕ
bus_fault g = settings_refusal (counted 1 g)

abbrev pub with_bus : Plan → Settings → Plan
with_bus p g = record { stage = in_stations; settings = g; asked = p.asked; arrivals = p.arrivals; steps = p.steps }

abbrev pub take_bus : Plan → ℕ → Fields → Taken
take_bus p discipline x =
    cond
    (eqb discipline 3)
    (taken 2 p p)
    (cond
    (eqb x.fault 0)
    (taken (bus_fault (settings_said discipline x.values)) p (with_bus p (settings_said discipline x.values)))
    (taken x.fault p p))

abbrev pub with_station : Plan → Asked → Plan
with_station p s =
    record {
      stage = p.stage;
      settings = counted (suc p.settings.n) p.settings;
      asked = p.asked ++ (s ∷ []);
      arrivals = p.arrivals;
      steps = p.steps;
    }

-- the set-up that a plan asks for
abbrev pub request_in : Plan → Request
request_in p = request_with p.settings p.asked

-- '6' for the 65th; 7 to 10 as set-up tries them
abbrev pub take_station : Plan → Asked → Taken
take_station p s =
    taken
    (cond (leb most_stations p.settings.n) 6 (set_up_verdict (request_in (with_station p s))).refusal)
    p
    (with_station p s)

-- ---- arrivals

-- the arrivals with one more: after those whose time is not above its own
abbrev pub inserted : Arrival → List Arrival → List Arrival
inserted a [] = a ∷ []
inserted a (x ∷ later) = cond (ltb a.time.0 x.time.0) (a ∷ x ∷ later) (x ∷ inserted a later)

abbrev pub inserted_all : List Arrival → List Arrival → List Arrival
inserted_all [] arrivals = arrivals
inserted_all (a ∷ more) arrivals = inserted_all more (inserted a arrivals)

abbrev pub with_arrivals : Plan → List Arrival → Plan
with_arrivals p more =
    record {
      stage = in_arrivals;
      settings = p.settings;
      asked = p.asked;
      arrivals = inserted_all more p.arrivals;
      steps = p.steps;
    }

-- 'too many records for 65,536 bytes', with so many arrivals more
abbrev pub too_long : Plan → ℕ → Bool
too_long p more =
    ltb most_bytes (set_up_bytes + station_bytes * p.settings.n + arrival_bytes * (length p.arrivals + more) + run_bytes)

abbrev pub arrival_of : ℕ → ℕ → ℕ → ℕ → Arrival
arrival_of time address value long =
    record { time = record { 0 = time }; address = record { 0 = address }; value = value; length = long }

abbrev pub value_fits : Plan → ℕ → Bool
value_fits p value = value_is_fit (discipline_of p.settings.discipline) p.settings.d value

-- what refuses so many arrivals with this address, largest value and length
abbrev pub arrival_tests : Plan → ℕ → ℕ → ℕ → ℕ → List (ℕ × Bool)
arrival_tests p address value long more =
    (address_large, ltb 65_535 address)
    ∷ (12, not (value_fits p value))
    ∷ (13, not (length_fits long))
    ∷ (22, too_long p more)
    ∷ []

abbrev pub take_arrival : Plan → ℕ → ℕ → ℕ → ℕ → Taken
take_arrival p time address value long =
    taken (first_of 0 (arrival_tests p address value long 1)) p (with_arrivals p (arrival_of time address value long ∷ []))

-- 'an arrival whose value and length may be outside their ranges'
abbrev pub attempt_tests : Plan → ℕ → ℕ → List (ℕ × Bool)
attempt_tests p address long = (address_large, ltb 65_535 address) ∷ (length_large, ltb 65_535 long) ∷ (22, too_long p 1) ∷ []

abbrev pub take_attempt : Plan → ℕ → ℕ → ℕ → ℕ → Taken
take_attempt p time address value long =
    taken
    (first_of 0 (attempt_tests p address long))
    p
    (with_arrivals p (arrival_of time address value long ∷ []))

-- 'every so many slots': so many arrivals from a time on, with a value by their time
abbrev pub repeated : ℕ → ℕ → ℕ → (ℕ → Arrival) → List Arrival
repeated zero time every at = []
repeated (suc n) time every at = at time ∷ repeated n (time + every) every at

-- 'from a slot to a slot': how many there are after the first
abbrev pub later : ℕ → ℕ → ℕ → ℕ
later every from to = (to - from) / every

-- the value of an arrival at a time; of a datagram, so many slots after it
abbrev pub value_at : ℕ → ℕ → ℕ → ℕ
value_at discipline value time = cond (eqb discipline (code RTDG)) (time + value) value

abbrev pub arrivals_tests : Plan → ℕ → ℕ → ℕ → ℕ → ℕ → ℕ → List (ℕ × Bool)
arrivals_tests p every from to address value long =
    (every_zero, eqb every 0)
    ∷ (to_early, ltb to from)
    ∷ arrival_tests
    p
    address
    (value_at p.settings.discipline value (from + later every from to * every))
    long
    (suc (later every from to))

abbrev pub take_arrivals : Plan → ℕ → ℕ → ℕ → ℕ → ℕ → ℕ → Taken
take_arrivals p every from to address value long =
    taken
    (first_of 0 (arrivals_tests p every from to address value long))
    p
    (with_arrivals
    p
    (repeated
    (suc (later every from to))
    from
    every
    (λ time. arrival_of time address (value_at p.settings.discipline value time) long)))

-- ---- the run

abbrev pub with_run : Plan → ℕ → Plan
with_run p steps = record { stage = after_run; settings = p.settings; asked = p.asked; arrivals = p.arrivals; steps = steps }

abbrev pub take_run : Plan → ℕ → Taken
take_run p steps = taken (cond (ltb 65_535 steps) steps_large 0) p (with_run p steps)

-- ---- a line

-- what the numbers of a line of another kind than the bus's say
abbrev pub take_said : Plan → ℕ → List ℕ → Taken
take_said p kind values =
    let n : ℕ → ℕ = λ i. get_or values i 0 in
    first_of
    (take_run p (n 0))
    ((take_station p (record { address = n 0; capability = n 1 }), eqb kind station_line)
    ∷ (take_arrival p (n 0) (n 1) (n 2) (n 3), eqb kind arrival_line)
    ∷ (take_arrivals p (n 0) (n 1) (n 2) (n 3) (n 4) (n 5), eqb kind arrivals_line)
    ∷ (take_attempt p (n 0) (n 1) (n 2) (n 3), eqb kind attempt_line)
    ∷ [])

abbrev pub take_fields : Plan → ℕ → Fields → Taken
take_fields p kind x = cond (eqb x.fault 0) (take_said p kind x.values) (taken x.fault p p)

-- what comes after the first word
abbrev pub take_kind : Plan → ℕ → List ℕ → Taken
take_kind p kind rest =
    cond
    (eqb kind bus_line)
    (take_bus p (discipline_named (first_word rest)) (fields_in (labels_of bus_line 0) (after_word rest)))
    (take_fields p kind (fields_in (labels_of kind p.settings.discipline) rest))

-- a line without a word says nothing
abbrev pub take_line : Plan → List ℕ → Taken
take_line p line =
    let kind : ℕ = kind_of (first_word line) in
    let fault : ℕ = place_fault p.stage p.settings.n kind in
    cond
    (wordless line)
    (taken 0 p p)
    (cond (eqb fault 0) (take_kind p kind (after_word line)) (taken fault p p))

-- ---- the whole

-- a layout says a scenario; or it is wrong, in a line and with a fault
pub data Saying : Type 0 where
  wrong : ℕ → ℕ → Saying
  says : Request → List Arrival → ℕ → Saying

-- at the end of the text, in its last line
abbrev pub ended : ℕ → Plan → Saying
ended line p =
    cond
    (eqb p.stage after_run)
    (says (request_in p) p.arrivals p.steps)
    (wrong line (place_fault p.stage p.settings.n 0))

-- the lines from one on, after so many lines
abbrev pub read_lines : ℕ → Plan → List (List ℕ) → Saying
read_lines line p [] = ended line p
read_lines line p (text ∷ rest) =
    cond
    (eqb (take_line p text).fault 0)
    (read_lines (suc line) (take_line p text).plan rest)
    (wrong (suc line) (take_line p text).fault)

abbrev pub layout_says : List ℕ → Saying
layout_says text = read_lines 0 start (lines_of text)
