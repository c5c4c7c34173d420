-- A stretch of a run: arrivals and steps, one call after the other (paper 01, 'The scenario and its listing'). `play` of src/lib.rt is held
-- to it; it says the same as the single calls, because it is made of them. Assumes nothing.
use Rattle.std.specs.Prelude.{ℕ, zero, suc, ◌+◌, ◌-◌, ◌≡◌, Bool, cond, List, [], ◌∷◌, ◌++◌, map, leb, length, take, replicate}
use Rattle.rules.specs.declared.Admitted.{Admitted}
use Rattle.rules.specs.Admission as Rules
use Rattle.rules.specs.Probe.{refused_answer}
use Rattle.rules.specs.Engine as Engine
use Rattle.rules.specs.Engine.{Call, Reply, replies}
use Rattle.bus.specs.Types.{State, Arrival}
use Rattle.bus.specs.Coded.{Answer, arrival_of, answer_form, answer_of, coded_admit, coded_step, coded}
pub use Rattle.bus.specs.declared.Arrivals.{Arrivals}
pub use Rattle.bus.specs.declared.Report.{Report}
pub use Rattle.bus.specs.declared.Report.TheVariants as Report
pub use Rattle.bus.specs.declared.Stretch.{Stretch}

-- how many calls a stretch has at the most
abbrev pub most_calls : ℕ
most_calls = 512

-- the places of a row of arrivals
abbrev pub row_places : ℕ
row_places = 64

-- what an arrival asks for
abbrev pub asks : Arrival → Rules.Arrival
asks a = arrival_of a.address a.value a.length

-- 'whose time is not above the clock'
abbrev pub due : ℕ → Arrival → Bool
due clock a = leb a.time.0 clock

-- a place of the row that no arrival fills
abbrev pub no_arrival : Arrival
no_arrival = record { time = record { 0 = 0 }; address = record { 0 = 0 }; value = 0; length = 0 }

-- ---- what is said of a call

abbrev pub no_answer : Answer
no_answer = answer_form (refused_answer 0)

-- a place that no report fills
abbrev pub no_report : Report
no_report = Report.Step (record { 0 = 0 }) no_answer

-- an arrival was admitted or refused, at a clock
abbrev pub arrival_report : State → Arrival → Admitted → Report
arrival_report s a admitted =
    Report.Arrival s.segment.clock a.address admitted

-- a step was made, at a clock
abbrev pub step_report : State → Answer → Report
step_report s answer =
    Report.Step s.segment.clock answer

-- ---- the calls

-- what a stretch has come to: what is said of each call, how many arrivals have been taken, the steps that are left, the state
pub record Course : Type 0 where
  pub reports : List Report
  pub taken : ℕ
  pub left : ℕ
  pub state : State

-- no call is made
abbrev pub rests : State → ℕ → Course
rests s left = record { reports = []; taken = 0; left = left; state = s }

-- a course with reports before it, in which some arrivals were taken
abbrev pub after : List Report → ℕ → Course → Course
after reports taken c =
    record { reports = reports ++ c.reports; taken = taken + c.taken; left = c.left; state = c.state }

-- one step, and then a course
abbrev pub step_then : State → Course → Course
step_then s c = after (step_report s (answer_form (coded_step s).0) ∷ []) 0 c

-- So many calls at the most. 'Before each step it admits, in file order, the arrivals whose time is not above the clock.' A stretch ends
-- where no step is left; or where its arrivals have been used up and there may be more, which it does not know.
unfoldable pub course : ℕ → State → List Arrival → Bool → ℕ → Course
course zero s arrivals more left = rests s left
course (suc calls) s arrivals more zero = rests s zero
course (suc calls) s [] more (suc left) = cond more (rests s (suc left)) (step_then s (course calls (coded_step s).1 [] more left))
course (suc calls) s (a ∷ arrivals) more (suc left) =
    cond
    (due s.segment.clock.0 a)
    (after
    (arrival_report s a (coded_admit s (asks a)).0 ∷ [])
    1
    (course calls (coded_admit s (asks a)).1 arrivals more (suc left)))
    (step_then s (course calls (coded_step s).1 (a ∷ arrivals) more left))

-- the arrivals in a row, and whether there may be more: the row is full
abbrev pub in_row : Arrivals → List Arrival
in_row x = take x.length x.row

abbrev pub may_be_more : Arrivals → Bool
may_be_more x = leb row_places x.length

-- a stretch from a state, by the arrivals that come next and the steps that are left
abbrev pub stretch_of : State → Arrivals → ℕ → Course
stretch_of s arrivals steps = course most_calls s (in_row arrivals) (may_be_more arrivals) steps

-- so many steps, one after the other: what is said of each, and the state after them
abbrev pub step_reports : ℕ → State → List Report
step_reports zero s = []
step_reports (suc steps) s = step_report s (answer_form (coded_step s).0) ∷ step_reports steps (coded_step s).1

abbrev pub after_steps : ℕ → State → State
after_steps zero s = s
after_steps (suc steps) s = after_steps steps (coded_step s).1

-- ---- what comes back

-- the reports in their row, and that of no step past them
abbrev pub stretch_form : Course → Stretch
stretch_form c =
    record {
      reports = c.reports ++ replicate (most_calls - length c.reports) no_report;
      made = length c.reports;
      taken = c.taken;
      left = c.left;
      state = c.state;
    }

-- ---- the single calls that a stretch is

-- what a report says that the engine replied
abbrev pub reply_of : Report → Reply
reply_of (Report.Arrival clock address admitted) = Engine.admitted admitted
reply_of (Report.Step clock answer) = Engine.probed (answer_of answer)

-- the refusal number in a reply, 0 where the call was accepted
abbrev pub refusal_in : Reply → ℕ
refusal_in (Engine.admitted a) = a.refusal
refusal_in (Engine.begun o) = o.refusal
refusal_in (Engine.probed a) = a.refusal

-- the calls of a course from a state: it comes to the state that they come to, and its reports say what is replied to them
pub record Called (s : State) (c : Course) : Type 0 where
  pub calls : List Call
  pub state : c.state ≡ Engine.after coded s calls
  pub replied : map reply_of c.reports ≡ replies coded s calls
