-- What is proved of the calls, in one place. The contracts of src/lib.rt cite `coded_admit`, `coded_begin`, `coded_probe`, `coded_step`, which is
-- made of those two, and `totals_of` (specs/Coded.antt), and that of `play` cites `stretch_of` (specs/Stretch.antt), which is made of them; each
-- function is proved to meet its contract, and here stands what those functions are worth. What the words mean is in specs/ here and in the
-- crate rules; docs/PROMISES.md says which sentence each theorem answers. Assumes nothing.
use Prim.Native.Nat.{ℕ, ◌≤◌}
use mathlib.Core.Path.{◌≡◌, refl}
use mathlib.Core.Logic.{◌⊎◌, ◌↔◌}
use mathlib.Core.Bool.{Bool, true, false}
use mathlib.Core.List.{List, [], ◌++◌, map}
use Rattle.rules.specs.Lists.{All}
use Rattle.rules.specs.SetUp.{Request}
use Rattle.rules.specs.Admission.{Arrival, TurnsAway}
use Rattle.rules.specs.Probe.{refused_answer, dropping}
use Rattle.rules.specs.Step.{refused_begun, step}
use Rattle.rules.specs.Engine.{machine, Call, admission, one-begin, one-probe, one-step, next, replies, reach}
use Rattle.rules.specs.Demands.{Demand2, Promised}
use Rattle.bus.specs.Types.{State}
use Rattle.state.specs.State.{Held, form, standing}
use Rattle.bus.specs.Coded.{on_meaning, coded_admit, coded_begin, coded_probe, coded_step, coded_closing, coded, turned_in, totals_of, totals_said, begun_form, begun_of, answer_form, answer_of}
use Rattle.bus.specs.Stretch.{course, step_reports, after_steps, reply_of, refusal_in, Called}
use Rattle.bus.specs.Types.{Arrival as Timed}
use Rattle.bus.proofs.SingleCalls as SingleCalls
use Rattle.bus.proofs.Coded as Coded
use Rattle.bus.proofs.Steps as Steps
use Rattle.bus.proofs.Calls as Calls

-- ---- demand 2, and what follows from it (`Promised` of rules/specs/Demands)

pub demand2_coded : Demand2 coded
demand2_coded = Coded.demand2_coded

pub promised_coded : Promised coded
promised_coded = Coded.promised_coded

-- after any set-up and any calls the code's state is the form of the machine's
pub reached : (r : Request) (calls : List Call) → reach coded r calls ≡ form (reach machine r calls)
reached = Coded.reached_coded

-- ---- for any state lent, whatever it holds. `Held s` says that its rows have the lengths of the code's arrays, as those of every state in
-- the code have.

-- refusal 1 is given exactly when it does not stand
pub refused_exactly_admission : (s : State) (a : Arrival) → ((coded_admit s a).0.refusal ≡ 1) ↔ (standing s ≡ false)
refused_exactly_admission = Coded.standing_exactly_admission

pub refused_exactly_begin : (s : State) → ((coded_begin s).0.refusal ≡ 1) ↔ (standing s ≡ false)
refused_exactly_begin = Coded.standing_exactly_begin

pub refused_exactly_probe : (s : State) → ((coded_probe s).0.refusal ≡ 1) ↔ (standing s ≡ false)
refused_exactly_probe = Coded.standing_exactly_probe

pub refused_exactly_step : (s : State) → ((coded_step s).0.refusal ≡ 1) ↔ (standing s ≡ false)
refused_exactly_step = Coded.standing_exactly_step

-- 'Every call that accepts keeps these conditions.'
pub keeps_standing_admission : (s : State) (a : Arrival) → (coded_admit s a).0.refusal ≡ 0 → standing (coded_admit s a).1 ≡ true
keeps_standing_admission s a = SingleCalls.accepted_stands s (admission a)

pub keeps_standing_begin : (s : State) → (coded_begin s).0.refusal ≡ 0 → standing (coded_begin s).1 ≡ true
keeps_standing_begin s = SingleCalls.accepted_stands s one-begin

pub keeps_standing_probe : (s : State) → (coded_probe s).0.refusal ≡ 0 → standing (coded_probe s).1 ≡ true
keeps_standing_probe s = SingleCalls.accepted_stands s one-probe

pub keeps_standing_step : (s : State) → (coded_step s).0.refusal ≡ 0 → standing (coded_step s).1 ≡ true
keeps_standing_step s = SingleCalls.accepted_stands s one-step

-- and so does any other call on a state that stands, one refused with 14 or 15 too
pub stands_after : (s : State) (c : Call) → standing s ≡ true → standing (next coded s c) ≡ true
stands_after = Coded.next_stands

-- refused calls hand back the state as lent, and zeros; 14 and 15 all of it but the count of packets turned away, which is one higher, up to its stop
pub hands_back_admission :
    (s : State) → Held s → (a : Arrival) → ¬ ((coded_admit s a).0.refusal ≡ 0) → ¬ TurnsAway (coded_admit s a).0.refusal
    → coded_admit s a ≡ (record { refusal = (coded_admit s a).0.refusal; number = 0 }, s)
hands_back_admission = Coded.hands_back_admission

pub turns_away_admission :
    (s : State) → Held s → (a : Arrival) → TurnsAway (coded_admit s a).0.refusal
    → coded_admit s a ≡ (record { refusal = (coded_admit s a).0.refusal; number = 0 }, turned_in s)
turns_away_admission = Coded.turns_away_admission

pub hands_back_begin :
    (s : State) → Held s → ¬ ((coded_begin s).0.refusal ≡ 0) → coded_begin s ≡ (refused_begun (coded_begin s).0.refusal, s)
hands_back_begin = Coded.hands_back_begin

pub hands_back_probe :
    (s : State) → Held s → ¬ ((coded_probe s).0.refusal ≡ 0) → coded_probe s ≡ (refused_answer (coded_probe s).0.refusal, s)
hands_back_probe = Coded.hands_back_probe

pub hands_back_step :
    (s : State) → Held s → ¬ ((coded_step s).0.refusal ≡ 0) → coded_step s ≡ (refused_answer (coded_step s).0.refusal, s)
hands_back_step = Coded.hands_back_step

-- an answer in the code's sorts says all that the engine's answer says, and so do the totals; that to a begin, of as many stations as the state has
pub answer_read : (s : State) → answer_of (answer_form (coded_step s).0) ≡ (coded_step s).0
answer_read = Coded.answer_read

pub probe_read : (s : State) → answer_of (answer_form (coded_probe s).0) ≡ (coded_probe s).0
probe_read = Coded.probe_read

pub closing_read : (s : State) → totals_said (totals_of s) ≡ coded_closing s
closing_read s = refl

pub begun_read : (s : State) → begun_of s.segment.settings.n (begun_form (coded_begin s).0) ≡ (coded_begin s).0
begun_read = Calls.begun_read

-- ---- a step, on any state lent: it is paper 01's step on what the state means, so that it tries 1, then 17, before it begins anything; and an
-- accepted one is a probe, or a begin and a probe, with the begin's drops. A stretch is made of such steps.

pub step_of_paper : (s : State) → Held s → coded_step s ≡ on_meaning step (refused_answer 1) s
step_of_paper = Steps.step_of_paper

pub step_both :
    (s : State) → (coded_step s).0.refusal ≡ 0
    → (coded_step s ≡ coded_probe s)
    ⊎ (((coded_begin s).0.refusal ≡ 0)
    × ((coded_probe (coded_begin s).1).0.refusal ≡ 0)
    × (coded_step s ≡ (dropping (coded_begin s).0.drops (coded_probe (coded_begin s).1).0, (coded_probe (coded_begin s).1).1)))
step_both = Coded.step_both

-- ---- a stretch, from any state: single calls, one after the other. `Called s c` has the calls of the course c from s, with what they
-- hand back and reply.

pub stretch_called :
    (calls : ℕ) (s : State) (arrivals : List Timed) (more : Bool) (left : ℕ) → Called s (course calls s arrivals more left)
stretch_called = SingleCalls.called

-- from a state that calls have reached it comes to a state that calls reach, and what it reports is what is replied to them
pub stretch_reached :
    (r : Request) (calls : List Call) (n : ℕ) (arrivals : List Timed) (more : Bool) (left : ℕ)
    → (later : List Call)
    × ((course n (reach coded r calls) arrivals more left).state ≡ reach coded r (calls ++ later))
    × (map reply_of (course n (reach coded r calls) arrivals more left).reports ≡ replies coded (reach coded r calls) later)
stretch_reached = SingleCalls.still_reached

-- from a state that stands it comes to a state that stands
pub stretch_stands :
    (calls : ℕ) (s : State) (arrivals : List Timed) (more : Bool) (left : ℕ) → standing s ≡ true
    → standing (course calls s arrivals more left).state ≡ true
stretch_stands = SingleCalls.still_stands

-- any other state it hands back as lent, and each of its calls is refused with 1
pub stretch_refused :
    (calls : ℕ) (s : State) (arrivals : List Timed) (more : Bool) (left : ℕ) → Held s → standing s ≡ false
    → ((course calls s arrivals more left).state ≡ s)
    × All (λ r. refusal_in (reply_of r) ≡ 1) (course calls s arrivals more left).reports
stretch_refused = SingleCalls.stays_refused

-- where no arrival comes it is that many steps
pub stretch_steps :
    (calls steps : ℕ) (s : State) → steps ≤ calls
    → course calls s [] false steps ≡ record { reports = step_reports steps s; taken = 0; left = 0; state = after_steps steps s }
stretch_steps = SingleCalls.steps_alone
