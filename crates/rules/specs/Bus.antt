-- The bus and its numbers (paper 01), and the machine's state: no padding, no arrays.
--
-- The ranges are those of paper 01's table. A station that contends keeps its offer with it, so that a station contends with
-- one packet at the most. `last` is the capability of the round's last winner. Assumes nothing.
use Rattle.std.specs.Prelude.{ℕ, Bool, false, List, [], ◌∷◌, ◌++◌, map, ltb, length}
use Rattle.std.proofs.Math.Option.{Option, none}
use Rattle.window.specs.declared.Window.{Window}
pub use Rattle.rules.specs.declared.Discipline.{Discipline}
pub use Rattle.rules.specs.declared.Discipline.TheVariants.{PRI, RTDG, RTVC}
pub use Rattle.rules.specs.declared.Slot.{Slot}
pub use Rattle.rules.specs.declared.Packet.{Packet}
use Rattle.rules.specs.Lists.{total}

-- 'stations N: 1 to 64'
abbrev pub most_stations : ℕ
most_stations = 64

-- 'parameter space D', 'address space A: 2 to 65,536'
abbrev pub least_space : ℕ
least_space = 2

abbrev pub most_space : ℕ
most_space = 65_536

-- 'laxity step q: RTDG: 1 to 65,535'
abbrev pub most_step : ℕ
most_step = 65_535

-- 'queue: 16 packets a station'
abbrev pub places : ℕ
places = 16

-- 'packet length: 1 to 4,096 slots'
abbrev pub longest_packet : ℕ
longest_packet = 4_096

-- 'clock: slots 0 to 1,073,741,824'
abbrev pub clock_end : ℕ
clock_end = 1_073_741_824

-- '17: step with the clock above 1,073,737,728'
abbrev pub last_slot : ℕ
last_slot = 1_073_737_728

-- 'packets admitted: at most 4,294,967,295'
abbrev pub most_admitted : ℕ
most_admitted = 4_294_967_295

-- packets turned away (P4): 'The count stops at 4,294,967,295.'
abbrev pub most_turned : ℕ
most_turned = 4_294_967_295

-- '0 PRI, 1 RTDG, 2 RTVC'
abbrev pub code : Discipline → ℕ
code PRI = 0
code RTDG = 1
code RTVC = 2

-- Whether a latest start is below a slot; in RTDG alone a value is a latest start. Admission refuses such a value (14), a contention that
-- begins drops such packets, and a contender with such a packet does not transmit.
abbrev pub late : Discipline → ℕ → ℕ → Bool
late PRI slot value = false
late RTDG slot value = ltb value slot
late RTVC slot value = false

-- the packet that a station contends with, and its parameter, 'fixed for the whole contention'
pub record Offer : Type 0 where
  pub parameter : ℕ
  pub packet : Packet

-- a station, its packets in the order of admission, and its offer while it contends
pub record Station : Type 0 where
  pub address : ℕ
  pub capability : ℕ
  pub queue : List Packet
  pub offer : Option Offer

-- a contention under way; `tie` is the tied parameter in the tie phase, and none before it
pub record Contention : Type 0 where
  pub window : Window
  pub tie : Option ℕ

-- the machine's state: the set-up, the stations in listed order, clock and counts, the round and the contention; `turned` is P4's count of packets
-- turned away
pub record Bus : Type 0 where
  pub discipline : Discipline
  pub D : ℕ
  pub A : ℕ
  pub q : ℕ
  pub stations : List Station
  pub clock : ℕ
  pub admitted : ℕ
  pub sent : ℕ
  pub lost : ℕ
  pub turned : ℕ
  pub last : Option ℕ
  pub contention : Option Contention

-- a bus with another clock, last winner and contention, its stations and counts as they are
abbrev pub amended : ℕ → Option ℕ → Option Contention → Bus → Bus
amended clock last contention b =
    record {
      discipline = b.discipline;
      D = b.D;
      A = b.A;
      q = b.q;
      stations = b.stations;
      clock = clock;
      admitted = b.admitted;
      sent = b.sent;
      lost = b.lost;
      turned = b.turned;
      last = last;
      contention = contention;
    }

-- a bus with another count of packets turned away, all else as it is
abbrev pub with_turned : ℕ → Bus → Bus
with_turned turned b =
    record {
      discipline = b.discipline;
      D = b.D;
      A = b.A;
      q = b.q;
      stations = b.stations;
      clock = b.clock;
      admitted = b.admitted;
      sent = b.sent;
      lost = b.lost;
      turned = turned;
      last = b.last;
      contention = b.contention;
    }

-- 'waiting is the number of packets in the queues'
abbrev pub waiting : List Station → ℕ
waiting stations = total (λ s. length s.queue) stations

-- the packets' numbers in one queue, and in all queues
abbrev pub numbers_in : List Packet → List ℕ
numbers_in queue = map (λ p. p.number) queue

abbrev pub numbers : List Station → List ℕ
numbers [] = []
numbers (s ∷ stations) = numbers_in s.queue ++ numbers stations

-- 'an all-zero state'
abbrev pub nothing : Bus
nothing =
    record
    { discipline = PRI; D = 0; A = 0; q = 0; stations = []; clock = 0; admitted = 0; sent = 0; lost = 0; turned = 0; last = none; contention = none }
