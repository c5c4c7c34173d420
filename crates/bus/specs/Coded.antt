-- The calls of the code as functions of what they are lent: the contracts of src/lib.rt cite these, and `coded` is the engine that
-- they make. A call on a state whose padding is zero is the call of the rules on its meaning; on any other it is refused with 1.
-- Assumes nothing.
use Rattle.std.specs.Prelude.{ℕ, Bool, true, false, not, cond, [], eqb, get_or}
use Rattle.std.proofs.Math.Option.{Option, none, some}
use Rattle.word.specs.Word.{bit_at, word_of}
use Rattle.rules.specs.Lists.{bit}
use Rattle.rules.specs.Bus.{most_stations, Bus}
use Rattle.rules.specs.declared.Admitted.{Admitted}
use Rattle.rules.specs.Admission.{Arrival, one_higher, admit}
use Rattle.rules.specs.Probe as Probe
use Rattle.rules.specs.Probe.{refused_answer, parameter_phase, tie_phase, idle, collision, success}
use Rattle.rules.specs.Step as Step
use Rattle.rules.specs.Step.{Contends, refused_begun, begin_call, probe_call}
use Rattle.rules.specs.Closing as Closing
use Rattle.rules.specs.Closing.{totals, refused_totals}
use Rattle.rules.specs.Engine.{Engine, step_of}
use Rattle.state.specs.State.{meaning, form, padded, standing, values_from, row}
use Rattle.state.specs.SetUp.{coded_set_up}
use Rattle.bus.specs.Types.{Address, Segment, State}
pub use Rattle.bus.specs.declared.Admission.{Admission}
pub use Rattle.bus.specs.declared.Begun.{Begun}
pub use Rattle.bus.specs.declared.Started.{Started}
pub use Rattle.bus.specs.declared.Answer.{Answer}
pub use Rattle.bus.specs.declared.Phase.{Phase}
pub use Rattle.bus.specs.declared.Phase.TheVariants.{Parameter, Tie}
pub use Rattle.bus.specs.declared.Event.{Event}
pub use Rattle.bus.specs.declared.Event.TheVariants.{Idle, Collision, Success}
pub use Rattle.bus.specs.declared.Stepped.{Stepped}
pub use Rattle.bus.specs.declared.Totals.{Totals}

-- what an admission asks for
abbrev pub arrival_of : Address → ℕ → ℕ → Arrival
arrival_of address value length = record { address = address.0; value = value; length = length }

-- ---- the calls. 'Any other refusal hands back the number, zero in the answer's other fields, and the state exactly as lent': on a padded
-- state that is the form of its meaning, which is the state itself; 14 and 15 'leave the state as it was but for that count' (`turned_in`, below).

-- a call of the rules on what a state means, and where its padding is not zero a refusal with the state as lent
abbrev pub on_meaning : {X : Type 0} → (Bus → X × Bus) → X → State → X × State
on_meaning call refused s = cond (padded s) ((call (meaning s)).0, form (call (meaning s)).1) (refused, s)

abbrev pub coded_admit : State → Arrival → Admitted × State
coded_admit s a = on_meaning (λ b. admit b a) (record { refusal = 1; number = 0 }) s

abbrev pub coded_begin : State → Step.Begun × State
coded_begin s = on_meaning begin_call (refused_begun 1) s

abbrev pub coded_probe : State → Probe.Answer × State
coded_probe s = on_meaning probe_call (refused_answer 1) s

-- 'Last: END clock admitted sent lost waiting', and P4's count, of a state that stands; any other is refused with 1
abbrev pub coded_closing : State → Closing.Totals
coded_closing s = cond (standing s) (totals (meaning s)) (refused_totals 1)

-- the code as an engine
abbrev pub coded : Engine
coded = record { State = State; set_up = coded_set_up; admit = coded_admit; begin = coded_begin; probe = coded_probe; closing = coded_closing }

-- the step that is made of its begin and probe
abbrev pub coded_step : State → Probe.Answer × State
coded_step s = step_of coded s

-- ---- what comes back

-- the numbers of the phases and of the events
abbrev pub phase_number : Phase → ℕ
phase_number Parameter = parameter_phase
phase_number Tie = tie_phase

abbrev pub event_number : Event → ℕ
event_number Idle = idle
event_number Collision = collision
event_number Success = success

-- the phase and the event of a number; of any above the largest the last
abbrev pub phase_form : ℕ → Phase
phase_form n = cond (eqb n parameter_phase) Parameter Tie

abbrev pub event_form : ℕ → Event
event_form n = cond (eqb n idle) Idle (cond (eqb n collision) Collision Success)

-- whether one succeeded
abbrev pub succeeded : Event → Bool
succeeded Idle = false
succeeded Collision = false
succeeded Success = true

-- the answer to a step or a probe, in the code's sorts
abbrev pub answer_form : Probe.Answer → Answer
answer_form a =
    record {
      refusal = a.refusal;
      drops = a.drops;
      slot = record { 0 = a.slot };
      phase = phase_form a.phase;
      start = a.start;
      size = a.size;
      event = event_form a.event;
      address = record { 0 = a.address };
      number = a.number;
      length = a.length;
      wait = a.wait;
      ended = not (eqb a.ended 0);
    }

-- what such an answer says, as the rules have it
abbrev pub answer_of : Answer → Probe.Answer
answer_of a =
    record {
      refusal = a.refusal;
      drops = a.drops;
      slot = a.slot.0;
      phase = phase_number a.phase;
      start = a.start;
      size = a.size;
      event = event_number a.event;
      address = a.address.0;
      number = a.number;
      length = a.length;
      wait = a.wait;
      ended = bit a.ended;
    }

-- what a begin's answer shows of a station: whether it contends, its address, its packet's number and its parameter; zeros where it does not
abbrev pub is_shown : Option Contends → Bool
is_shown none = false
is_shown (some x) = true

abbrev pub address_shown : Option Contends → ℕ
address_shown none = 0
address_shown (some x) = x.address

abbrev pub number_shown : Option Contends → ℕ
number_shown none = 0
number_shown (some x) = x.number

abbrev pub parameter_shown : Option Contends → ℕ
parameter_shown none = 0
parameter_shown (some x) = x.parameter

-- a begin's answer in the code's sorts: the word of contenders, and rows by station
abbrev pub begun_form : Step.Begun → Begun
begun_form o =
    record {
      refusal = o.refusal;
      drops = o.drops;
      slot = record { 0 = o.slot };
      start = o.start;
      size = o.size;
      contenders = word_of (λ i. is_shown (get_or o.contenders i none)) most_stations;
      addresses = row most_stations (λ i. record { 0 = address_shown (get_or o.contenders i none) });
      numbers = row most_stations (λ i. number_shown (get_or o.contenders i none));
      parameters = row most_stations (λ i. parameter_shown (get_or o.contenders i none));
    }

-- what such an answer says of n stations, as the rules have it
abbrev pub shown_at : Begun → ℕ → Option Contends
shown_at b i =
    cond
    (bit_at b.contenders i)
    (some
    (record {
      address = (get_or b.addresses i (record { 0 = 0 })).0;
      number = get_or b.numbers i 0;
      parameter = get_or b.parameters i 0;
    }))
    none

abbrev pub begun_of : ℕ → Begun → Step.Begun
begun_of n b =
    record {
      refusal = b.refusal;
      drops = b.drops;
      slot = b.slot.0;
      start = b.start;
      size = b.size;
      contenders = cond (eqb b.refusal 0) (values_from (shown_at b) 0 n) [];
    }

-- an answer beside the state, as the functions return them
abbrev pub admission_result : Admitted × State → Admission
admission_result r = record { answer = r.0; state = r.1 }

abbrev pub begin_result : Step.Begun × State → Started
begin_result r = record { answer = begun_form r.0; state = r.1 }

abbrev pub step_result : Probe.Answer × State → Stepped
step_result r = record { answer = answer_form r.0; state = r.1 }

-- what a listing closes with, in the code's sorts
abbrev pub totals_form : Closing.Totals → Totals
totals_form t =
    record {
      refusal = t.refusal;
      clock = record { 0 = t.clock };
      admitted = t.admitted;
      sent = t.sent;
      lost = t.lost;
      waiting = t.waiting;
      turned = t.turned;
    }

abbrev pub totals_of : State → Totals
totals_of s = totals_form (coded_closing s)

-- what such totals say, as the rules have it
abbrev pub totals_said : Totals → Closing.Totals
totals_said t =
    record {
      refusal = t.refusal;
      clock = t.clock.0;
      admitted = t.admitted;
      sent = t.sent;
      lost = t.lost;
      waiting = t.waiting;
      turned = t.turned;
    }

-- ---- a packet turned away

-- the segment, and the state, with another count of packets turned away
abbrev pub segment_turned : Segment → ℕ → Segment
segment_turned g turned =
    record {
      settings = g.settings;
      listed = g.listed;
      clock = g.clock;
      admitted = g.admitted;
      sent = g.sent;
      lost = g.lost;
      turned = turned;
      round = g.round;
      contention = g.contention;
      contenders = g.contenders;
      parameters = g.parameters;
      numbers = g.numbers;
      values = g.values;
      lengths = g.lengths;
      admissions = g.admissions;
    }

abbrev pub state_turned : State → ℕ → State
state_turned s turned = record { segment = segment_turned s.segment turned; queues = s.queues }

-- 'the state as it was but for that count'
abbrev pub turned_in : State → State
turned_in s = state_turned s (one_higher s.segment.turned)
