-- The calls that begin a contention and probe a slot, and the step that is both (paper 01, 'One step'; P5); and what refuses them.
-- Assumes nothing.
use Rattle.std.specs.Prelude.{ℕ, Bool, true, false, not, cond, List, [], ◌∷◌, map, ltb, eqb}
use Rattle.std.proofs.Math.Option.{Option, none, some}
use Rattle.rules.specs.Lists.{first_of}
use Rattle.rules.specs.Bus.{last_slot, Offer, Station, Contention, Bus}
use Rattle.rules.specs.Standing.{stands}
use Rattle.rules.specs.Begin.{begin, drops_of, opening}
use Rattle.rules.specs.Probe.{Answer, Open, probe, refused_answer}

-- whether a contention is under way
abbrev pub is_under_way : Option Contention → Bool
is_under_way none = false
is_under_way (some c) = true

-- ---- begin

-- 'who contends' (P5): a contender's address, its packet's number and its parameter
pub record Contends : Type 0 where
  pub address : ℕ
  pub number : ℕ
  pub parameter : ℕ

-- the same of a station, if it has an offer
abbrev pub contends_with : Station → Option Offer → Option Contends
contends_with s none = none
contends_with s (some o) = some (record { address = s.address; number = o.packet.number; parameter = o.parameter })

-- A begin's answer: the drops, the slot, the first window's start and size, and who contends, station by station in the listed order.
-- `refusal` is 0 where the begin is accepted.
pub record Begun : Type 0 where
  pub refusal : ℕ
  pub drops : ℕ
  pub slot : ℕ
  pub start : ℕ
  pub size : ℕ
  pub contenders : List (Option Contends)

-- 'zero in the answer's other fields'
abbrev pub refused_begun : ℕ → Begun
refused_begun n = record { refusal = n; drops = 0; slot = 0; start = 0; size = 0; contenders = [] }

-- 'who contends and what was dropped before the first slot is spent'
abbrev pub begun_answer : Bus → Begun
begun_answer b =
    record {
      refusal = 0;
      drops = drops_of b;
      slot = b.clock;
      start = (opening b).window.start;
      size = (opening b).window.size;
      contenders = map (λ s. contends_with s s.offer) (begin b).stations;
    }

-- '25, begin while one is under way; .. after 1'
abbrev pub begin_tests : Bus → List (ℕ × Bool)
begin_tests b = (1, not (stands b)) ∷ (25, is_under_way b.contention) ∷ []

-- the first of them that holds, or 0
abbrev pub begin_refusal : Bus → ℕ
begin_refusal b = first_of 0 (begin_tests b)

-- a begin: refused with its number and the state as lent, or the contention begun
abbrev pub begin_call : Bus → Begun × Bus
begin_call b = cond (eqb (begin_refusal b) 0) (begun_answer b, begin b) (refused_begun (begin_refusal b), b)

-- ---- probe

-- the bus as it is probed in the contention under way: its contenders are those recorded, and its drops came with the beginning
abbrev pub open_under_way : Bus → Contention → Open
open_under_way b c = record { bus = b; contention = c; drops = 0 }

-- '26, probe while none is; .. after 1, and 26 before 17, which belongs to the probe'
abbrev pub probe_tests : Bus → List (ℕ × Bool)
probe_tests b = (1, not (stands b)) ∷ (26, not (is_under_way b.contention)) ∷ (17, ltb last_slot b.clock) ∷ []

-- the first of them that holds, or 0
abbrev pub probe_refusal : Bus → ℕ
probe_refusal b = first_of 0 (probe_tests b)

-- the slot probed in the contention under way; where none is, 26 has refused it
abbrev pub probed_in : Bus → Option Contention → Answer × Bus
probed_in b none = (refused_answer 26, b)
probed_in b (some c) = probe (open_under_way b c)

-- a probe: refused with its number and the state as lent, or the slot probed
abbrev pub probe_call : Bus → Answer × Bus
probe_call b = cond (eqb (probe_refusal b) 0) (probed_in b b.contention) (refused_answer (probe_refusal b), b)

-- ---- step

-- 'If no contention is under way, a step first begins one'
abbrev pub opened_by : Bus → Option Contention → Open
opened_by b none = record { bus = begin b; contention = opening b; drops = drops_of b }
opened_by b (some c) = open_under_way b c

-- the bus as the step probes it
abbrev pub opened : Bus → Open
opened b = opened_by b b.contention

-- 'a step tries 1, then 17'
abbrev pub step_tests : Bus → List (ℕ × Bool)
step_tests b = (1, not (stands b)) ∷ (17, ltb last_slot b.clock) ∷ []

-- the first of them that holds, or 0
abbrev pub step_refusal : Bus → ℕ
step_refusal b = first_of 0 (step_tests b)

-- a step: refused with its number and the state as lent, or the slot probed
abbrev pub step : Bus → Answer × Bus
step b = cond (eqb (step_refusal b) 0) (probe (opened b)) (refused_answer (step_refusal b), b)
