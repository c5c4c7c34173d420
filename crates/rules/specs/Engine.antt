-- Engines: anything that takes the four calls set-up, admission, begin and probe, and closes; the step that is made of them; and the states and
-- replies that calls lead to. Assumes nothing.
use Rattle.std.specs.Prelude.{ℕ, ◌≡◌, cond, List, [], ◌∷◌, eqb}
use Rattle.rules.specs.Bus.{Bus}
use Rattle.rules.specs.SetUp.{Request, Verdict, set_up}
use Rattle.rules.specs.Admission.{Arrival, Admitted, admit}
use Rattle.rules.specs.Probe.{Answer, refused_answer, dropping}
use Rattle.rules.specs.Step.{Begun, begin_call, probe_call}
use Rattle.rules.specs.Closing.{Totals, closing_call}

-- A state goes in and comes back, beside the answer; closing reads it.
pub record Engine : Type 1 where
  pub State : Type 0
  pub set_up : Request → Verdict × State
  pub admit : State → Arrival → Admitted × State
  pub begin : State → Begun × State
  pub probe : State → Answer × State
  pub closing : State → Totals

-- paper 01 itself
abbrev pub machine : Engine
machine = record { State = Bus; set_up = set_up; admit = admit; begin = begin_call; probe = probe_call; closing = closing_call }

-- ---- a step of any engine is made of its begin and probe

-- after a begin: its probe, with the drops of the begin; where either is refused, its number and the state as lent
abbrev pub probed_after : {S : Type 0} → S → ℕ → Answer × S → Answer × S
probed_after s drops p = cond (eqb p.0.refusal 0) (dropping drops p.0, p.1) (refused_answer p.0.refusal, s)

abbrev pub begun_then : (E : Engine) → E.State → Begun × E.State → Answer × E.State
begun_then E s o = cond (eqb o.0.refusal 0) (probed_after s o.0.drops (E.probe o.1)) (refused_answer o.0.refusal, s)

-- 'If no contention is under way, a step first begins one': where a probe is refused with 26, a begin and a probe; otherwise that probe
abbrev pub probed_first : (E : Engine) → E.State → Answer × E.State → Answer × E.State
probed_first E s p = cond (eqb p.0.refusal 26) (begun_then E s (E.begin s)) p

abbrev pub step_of : (E : Engine) → E.State → Answer × E.State
step_of E s = probed_first E s (E.probe s)

-- ---- calls and replies

-- a call on a state
pub data Call : Type 0 where
  admission : Arrival → Call
  one-begin one-probe one-step : Call

-- a call that an engine takes itself: any but a step
abbrev pub OwnCall : Call → Type 0
OwnCall c = ¬ (c ≡ one-step)

-- the reply to it; a step is answered as a probe is
pub data Reply : Type 0 where
  admitted : Admitted → Reply
  begun : Begun → Reply
  probed : Answer → Reply

-- what an engine replies to a call, and the state it hands back
abbrev pub reply : (E : Engine) → E.State → Call → Reply
reply E s (admission a) = admitted (E.admit s a).0
reply E s one-begin = begun (E.begin s).0
reply E s one-probe = probed (E.probe s).0
reply E s one-step = probed (step_of E s).0

abbrev pub next : (E : Engine) → E.State → Call → E.State
next E s (admission a) = (E.admit s a).1
next E s one-begin = (E.begin s).1
next E s one-probe = (E.probe s).1
next E s one-step = (step_of E s).1

-- the state after calls, whatever they are
abbrev pub after : (E : Engine) → E.State → List Call → E.State
after E s [] = s
after E s (c ∷ calls) = after E (next E s c) calls

-- the replies to them
abbrev pub replies : (E : Engine) → E.State → List Call → List Reply
replies E s [] = []
replies E s (c ∷ calls) = reply E s c ∷ replies E (next E s c) calls

-- the state reached from a set-up by calls, refused ones among them
abbrev pub reach : (E : Engine) → Request → List Call → E.State
reach E r calls = after E (E.set_up r).1 calls

-- the answers to the probes among replies, those of steps too
abbrev pub probe_in : Reply → List Answer → List Answer
probe_in (admitted a) rest = rest
probe_in (begun o) rest = rest
probe_in (probed a) rest = a ∷ rest

abbrev pub probes_in : List Reply → List Answer
probes_in [] = []
probes_in (r ∷ rest) = probe_in r (probes_in rest)

-- the answers to the admissions among replies
abbrev pub admission_in : Reply → List Admitted → List Admitted
admission_in (admitted a) rest = a ∷ rest
admission_in (begun o) rest = rest
admission_in (probed a) rest = rest

abbrev pub admissions_in : List Reply → List Admitted
admissions_in [] = []
admissions_in (r ∷ rest) = admission_in r (admissions_in rest)

-- the answers to the begins among replies
abbrev pub begin_in : Reply → List Begun → List Begun
begin_in (admitted a) rest = rest
begin_in (begun o) rest = o ∷ rest
begin_in (probed a) rest = rest

abbrev pub begins_in : List Reply → List Begun
begins_in [] = []
begins_in (r ∷ rest) = begin_in r (begins_in rest)

-- the answers to the probes and steps among calls, from a state
abbrev pub answers : (E : Engine) → E.State → List Call → List Answer
answers E s calls = probes_in (replies E s calls)
