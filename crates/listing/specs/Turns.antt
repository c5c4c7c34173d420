-- The run as the code plays it, turn by turn: what `open` and `next` of src/lib.rt hand out. The text stands over the
-- start of the room then (`room_with` of text/specs/Room.antt). Assumes nothing.
use Rattle.std.specs.Prelude.{ℕ, zero, suc, ◌+◌, ◌-◌, ◌*◌, true, false, cond, List, [], ◌∷◌, ◌++◌, leb, eqb, length, drop, replicate, Result, Ok, Err}
use Rattle.rules.specs.Bus.{nothing}
use Rattle.rules.specs.Probe.{Answer}
use Rattle.state.specs.declared.State.{State}
use Rattle.state.specs.State.{form}
use Rattle.bus.specs.declared.Totals.{Totals}
use Rattle.state.specs.declared.Arrival.{Arrival}
use Rattle.bus.specs.declared.Arrivals.{Arrivals}
use Rattle.bus.specs.declared.Report.{Report}
use Rattle.bus.specs.Coded.{answer_of, totals_of}
use Rattle.bus.specs.Stretch.{row_places, Course, most_calls, course, no_arrival}
use Rattle.scenario.specs.declared.Scenario.{Scenario}
use Rattle.scenario.specs.Format.{arrival_kind, read_record}
use Rattle.scenario.specs.Reading.{Numbered, arrival_bytes, arrival_from, reading, scenario_form}
pub use Rattle.listing.specs.declared.Play.{Play}
pub use Rattle.listing.specs.declared.Turn.{Turn}
use Rattle.listing.specs.Text.{refused_text, refusal_text, end_text, dropped_text, probed_text}

-- what a turn comes to: its text, and the run as it goes on
pub record Outcome : Type 0 where
  pub text : List ℕ
  pub play : Play

abbrev pub says : List ℕ → Play → Outcome
says text p = record { text = text; play = p }

-- a run that is over
abbrev pub over : State → Play
over s = record { state = s; at = 0; steps = 0; going = false }

-- ---- the first turn: the scenario is read

abbrev pub opened_by : Result Scenario Numbered → Outcome
opened_by (Ok x) = says [] (record { state = x.state; at = x.at; steps = x.steps; going = true })
opened_by (Err e) = says (refused_text e.number e.offset) (over (form nothing))

abbrev pub opened : List ℕ → Outcome
opened input = opened_by (scenario_form (reading input))

-- ---- the arrivals that come next

-- those in the input from an offset on, so many at the most: up to the first record that is none
unfoldable pub arrivals_in : ℕ → List ℕ → ℕ → List Arrival
arrivals_in zero input at = []
arrivals_in (suc most) input at =
    cond
    (eqb (read_record (drop at input)).kind arrival_kind.kind)
    (arrival_from (read_record (drop at input)).values ∷ arrivals_in most input (at + arrival_bytes))
    []

abbrev pub next_arrivals : List ℕ → ℕ → List Arrival
next_arrivals input at = arrivals_in row_places input at

-- arrivals in a row, and zeros past them
abbrev pub arrivals_form : List Arrival → Arrivals
arrivals_form arrivals = record { row = arrivals ++ replicate (row_places - length arrivals) no_arrival; length = length arrivals }

-- ---- what a stretch tells

-- of an arrival the refusal, if it was refused; of a step the packets dropped, and the probe
abbrev pub report_text : Report → List ℕ
report_text (Report.Arrival clock address admitted) = refusal_text clock.0 address.0 admitted.refusal
report_text (Report.Step clock answer) = dropped_text (answer_of answer) ++ probed_text (answer_of answer)

abbrev pub reports_text : List Report → List ℕ
reports_text [] = []
reports_text (r ∷ later) = report_text r ++ reports_text later

-- the answer to a step, if the call reported is one
abbrev pub answer_in : Report → List Answer
answer_in (Report.Arrival clock address admitted) = []
answer_in (Report.Step clock answer) = answer_of answer ∷ []

-- the answers to the steps among the calls reported
abbrev pub answers_in : List Report → List Answer
answers_in [] = []
answers_in (r ∷ later) = answer_in r ++ answers_in later

-- ---- any other turn: a stretch of calls, or the run ends

-- a stretch was made: each arrival that it took has moved the run on in the input
abbrev pub stretched_by : Play → Course → Outcome
stretched_by p c =
    says
    (reports_text c.reports)
    (record { state = c.state; at = p.at + arrival_bytes * c.taken; steps = c.left; going = true })

-- by the arrivals that come next, of which there may be more where as many were found as a row has places
abbrev pub course_of : List Arrival → Play → Course
course_of arrivals p = course most_calls p.state arrivals (leb row_places (length arrivals)) p.steps

abbrev pub stretched : List ℕ → Play → Outcome
stretched input p = stretched_by p (course_of (next_arrivals input p.at) p)

-- 'Last: END clock admitted sent lost waiting', and the packets turned away
abbrev pub closed_by : State → Totals → Outcome
closed_by s t = says (end_text t.clock.0 t.admitted t.sent t.lost t.waiting t.turned) (over s)

abbrev pub turn : List ℕ → Play → Outcome
turn input p =
    cond p.going (cond (eqb p.steps 0) (closed_by p.state (totals_of p.state)) (stretched input p)) (says [] p)

-- ---- what the code hands out

abbrev pub turn_form : Outcome → Turn
turn_form o = record { length = length o.text; play = o.play }

-- ---- the whole run, turn by turn

-- the text of a turn, and then of so many turns as long as the run goes on
abbrev pub handed : ℕ → List ℕ → Outcome → List ℕ
handed zero input o = o.text
handed (suc turns) input o = o.text ++ cond o.play.going (handed turns input (turn input o.play)) []

-- how many turns a play has yet, at the most: an arrival takes bytes of the input, and a step is one of its steps
abbrev pub turns_left : List ℕ → Play → ℕ
turns_left input p = cond p.going (suc (p.steps + (length input - p.at))) 0

-- the play after so many turns
abbrev pub played : ℕ → List ℕ → Play → Play
played zero input p = p
played (suc turns) input p = played turns input (turn input p).play
