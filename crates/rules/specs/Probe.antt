-- Probing one slot (paper 01, 'One step'; report 90-127, Figure 6): who transmits, what is heard, and what becomes of the window and the
-- bus. Where the two differ paper 01 decides: a contention that ends in its tie phase ends altogether, where Figure 6, line 22
-- would go on in the outer loop. Assumes nothing.
use Rattle.std.specs.Prelude.{ℕ, suc, ◌+◌, ◌-◌, Bool, not, ◌&&◌, cond, List, [], ◌∷◌, map, leb, eqb}
use Rattle.std.proofs.Math.Option.{Option, none, some}
use Rattle.window.specs.declared.Side.{Side}
use Rattle.window.specs.declared.Side.TheVariants.{Left, Right}
use Rattle.window.specs.declared.Window.{Window}
use Rattle.window.specs.Splitting.{first_window, left_half, move_right, in_window}
use Rattle.rules.specs.Lists.{keep}
use Rattle.rules.specs.Bus.{Discipline, PRI, RTDG, RTVC, Packet, late, Offer, Station, Contention, Bus, amended}

-- a station that contends, with its offer
pub record Contender : Type 0 where
  pub address : ℕ
  pub capability : ℕ
  pub parameter : ℕ
  pub packet : Packet

-- the contender that a station with an offer is
abbrev pub contender_of : Station → Offer → Contender
contender_of s o = record { address = s.address; capability = s.capability; parameter = o.parameter; packet = o.packet }

-- a station before other contenders, if it has an offer
abbrev pub contending : Station → Option Offer → List Contender → List Contender
contending s none others = others
contending s (some o) others = contender_of s o ∷ others

-- the contenders, in the stations' listed order
abbrev pub contenders : List Station → List Contender
contenders [] = []
contenders (s ∷ stations) = contending s s.offer (contenders stations)

-- 'in RTDG, its latest start is not below the slot being probed'
abbrev pub able : Discipline → ℕ → Contender → Bool
able d slot c = not (late d slot c.packet.value)

-- 'its parameter (in the tie phase: its address) lies in the window'; the tie phase is 'among the contenders of that parameter'
abbrev pub lies_in : Window → Option ℕ → Contender → Bool
lies_in w none c = in_window w c.parameter
lies_in w (some tied) c = eqb c.parameter tied && in_window w c.address

-- 'A contender transmits if ..' Figure 6, lines 6 and 7.
abbrev pub transmits : Bus → Contention → Contender → Bool
transmits b c x = lies_in c.window c.tie x && able b.discipline b.clock x

-- those who transmit in the slot being probed
abbrev pub transmitters : Bus → Contention → List Contender
transmitters b c = keep (transmits b c) (contenders b.stations)

-- the phases as numbers
abbrev pub parameter_phase : ℕ
parameter_phase = 0

abbrev pub tie_phase : ℕ
tie_phase = 1

-- the events as numbers
abbrev pub idle : ℕ
idle = 0

abbrev pub collision : ℕ
collision = 1

abbrev pub success : ℕ
success = 2

-- 'A step's answer gives the drops, the slot probed, the phase, the window's start and size, the event, on success the address,
-- packet number and length (else 0), and if the contention ended': 1 if it did, else 0. P1 adds the wait, on success (else 0). `refusal` is 0
-- where the step is accepted.
pub record Answer : Type 0 where
  pub refusal : ℕ
  pub drops : ℕ
  pub slot : ℕ
  pub phase : ℕ
  pub start : ℕ
  pub size : ℕ
  pub event : ℕ
  pub address : ℕ
  pub number : ℕ
  pub length : ℕ
  pub wait : ℕ
  pub ended : ℕ

-- 'zero in the answer's other fields'
abbrev pub refused_answer : ℕ → Answer
refused_answer n =
    record
    { refusal = n; drops = 0; slot = 0; phase = 0; start = 0; size = 0; event = 0; address = 0; number = 0; length = 0; wait = 0; ended = 0 }

-- an answer with this many packets dropped
abbrev pub dropping : ℕ → Answer → Answer
dropping n a =
    record {
      refusal = a.refusal;
      drops = n;
      slot = a.slot;
      phase = a.phase;
      start = a.start;
      size = a.size;
      event = a.event;
      address = a.address;
      number = a.number;
      length = a.length;
      wait = a.wait;
      ended = a.ended;
    }

-- the phase, from the tied parameter
abbrev pub phase_of : Option ℕ → ℕ
phase_of none = parameter_phase
phase_of (some tied) = tie_phase

-- A bus with a contention under way, and what was dropped as it began, if it has begun just now.
pub record Open : Type 0 where
  pub bus : Bus
  pub contention : Contention
  pub drops : ℕ

-- the answer to a probe: its event, on success the address, packet number, length and wait (else 0), and if the contention ended
abbrev pub answered : Open → ℕ → ℕ → ℕ → ℕ → ℕ → ℕ → Answer
answered o event address number length wait ended =
    record {
      refusal = 0;
      drops = o.drops;
      slot = o.bus.clock;
      phase = phase_of o.contention.tie;
      start = o.contention.window.start;
      size = o.contention.window.size;
      event = event;
      address = address;
      number = number;
      length = length;
      wait = wait;
      ended = ended;
    }

-- no packet was sent
abbrev pub unsent : Open → ℕ → ℕ → Answer
unsent o event ended = answered o event 0 0 0 0 ended

-- P1: 'the number of slots from there to the probe that won', from a packet's admission slot to a slot
abbrev pub wait_of : Packet → ℕ → ℕ
wait_of p slot = slot - p.admission.0

-- a contender's packet was sent, and the contention ended
abbrev pub sent_by : Open → Contender → Answer
sent_by o x = answered o success x.address x.packet.number x.packet.length (wait_of x.packet o.bus.clock) 1

-- the contention goes on with another window, one slot later
abbrev pub going_further : Bus → Contention → Bus
going_further b c = amended (suc b.clock) b.last (some c) b

-- a station whose contention has ended without its packet sent
abbrev pub withdrawn : Station → Station
withdrawn s = record { address = s.address; capability = s.capability; queue = s.queue; offer = none }

-- the contention ends without a winner, one slot later. 'An RTVC contention without a winner ends the round: no last winner.'
abbrev pub unwon : Bus → Bus
unwon b =
    record {
      discipline = b.discipline;
      D = b.D;
      A = b.A;
      q = b.q;
      stations = map withdrawn b.stations;
      clock = suc b.clock;
      admitted = b.admitted;
      sent = b.sent;
      lost = b.lost;
      turned = b.turned;
      last = none;
      contention = none;
    }

-- 'That packet leaves its queue'
abbrev pub left : Contender → Station → Station
left x s =
    record {
      address = s.address;
      capability = s.capability;
      queue = cond (eqb x.address s.address) (keep (λ p. not (eqb x.packet.number p.number)) s.queue) s.queue;
      offer = none;
    }

-- 'In RTVC the last winner is set.'
abbrev pub last_winner : Discipline → Contender → Option ℕ
last_winner PRI x = none
last_winner RTDG x = none
last_winner RTVC x = some x.capability

-- 'The probed slot is its first, so the clock moves on by its length. The contention ends.'
abbrev pub won : Bus → Contender → Bus
won b x =
    record {
      discipline = b.discipline;
      D = b.D;
      A = b.A;
      q = b.q;
      stations = map (left x) b.stations;
      clock = b.clock + x.packet.length;
      admitted = b.admitted;
      sent = suc b.sent;
      lost = b.lost;
      turned = b.turned;
      last = last_winner b.discipline x;
      contention = none;
    }

-- the parameter tied in a window of size 1; in the tie phase it is tied already (no two addresses are equal, so that none collide there)
abbrev pub tied_at : Window → Option ℕ → ℕ
tied_at w none = w.start
tied_at w (some tied) = tied

-- 'A window of size 2 or more becomes its left half, side left. A window of size 1 starts the tie phase among the contenders of
-- that parameter: the first window of A, start 0, side right.' Figure 6, lines 20 to 22.
abbrev pub split : Bus → Contention → Contention
split b c =
    cond
    (leb 2 c.window.size)
    (record { window = left_half c.window; tie = c.tie })
    (record { window = first_window b.A; tie = some (tied_at c.window c.tie) })

-- 'Side left: the window moves right by its size, side right. Side right: the contention ends without a winner.' Figure 6, lines 25 to 27.
abbrev pub unheard : Open → Side → Answer × Bus
unheard o Left = (unsent o idle 0, going_further o.bus (record { window = move_right o.contention.window; tie = o.contention.tie }))
unheard o Right = (unsent o idle 1, unwon o.bus)

-- one transmits: success; two or more: collision; none: idle. Figure 6, lines 12 to 29.
abbrev pub heard : Open → List Contender → Answer × Bus
heard o [] = unheard o o.contention.window.side
heard o (x ∷ []) = (sent_by o x, won o.bus x)
heard o (x ∷ y ∷ more) = (unsent o collision 0, going_further o.bus (split o.bus o.contention))

-- 'Every step then probes one slot.'
abbrev pub probe : Open → Answer × Bus
probe o = heard o (transmitters o.bus o.contention)
