-- Admission (paper 01, 'Admission' and refusals 11 to 16; P4). 'Admission tries 1, then 11 to 16.' Assumes nothing.
use Rattle.std.specs.Prelude.{ℕ, suc, ◌≡◌, ◌⊎◌, Bool, not, ◌&&◌, ◌||◌, cond, List, [], ◌∷◌, ◌++◌, map, leb, ltb, eqb, length}
pub use Rattle.rules.specs.declared.Admitted.{Admitted}
use Rattle.rules.specs.Lists.{some_of, first_of}
use Rattle.rules.specs.Bus.{places, most_admitted, most_turned, Packet, late, Station, Bus, with_turned}
use Rattle.rules.specs.Standing.{value_is_fit, length_fits, stands}

-- 'An admission names an address, a value and a length.'
pub record Arrival : Type 0 where
  pub address : ℕ
  pub value : ℕ
  pub length : ℕ

-- whether this is the station named: addresses are compared in full
abbrev pub named : Arrival → Station → Bool
named a s = eqb a.address s.address

-- 11 to 16 of the table, after 1
abbrev pub admission_tests : Bus → Arrival → List (ℕ × Bool)
admission_tests b a =
    (1, not (stands b))
    ∷ (11, not (some_of (named a) b.stations))
    ∷ (12, not (value_is_fit b.discipline b.D a.value))
    ∷ (13, not (length_fits a.length))
    ∷ (14, late b.discipline b.clock a.value)
    ∷ (15, some_of (λ s. named a s && leb places (length s.queue)) b.stations)
    ∷ (16, leb most_admitted b.admitted)
    ∷ []

-- the first of them that holds, or 0
abbrev pub admission_refusal : Bus → Arrival → ℕ
admission_refusal b a = first_of 0 (admission_tests b a)

-- the packet that an arrival asks for, with a number and an admission slot
abbrev pub numbered : Arrival → ℕ → ℕ → Packet
numbered a n slot = record { number = n; value = a.value; length = a.length; admission = record { 0 = slot } }

-- 'An accepted packet is numbered 1, 2, 3 and so on.' P1: 'Keep with each packet its admission slot': the clock at the admission.
abbrev pub new_packet : Bus → Arrival → Packet
new_packet b a = numbered a (suc b.admitted) b.clock

-- the packet goes to the end of its station's queue; 'a packet admitted while a contention is under way does not join it'
abbrev pub queued : Packet → Station → Station
queued p s = record { address = s.address; capability = s.capability; queue = s.queue ++ (p ∷ []); offer = s.offer }

-- what becomes of each station: the one named has a packet more
abbrev pub joined : Bus → Arrival → Station → Station
joined b a s = cond (named a s) (queued (new_packet b a) s) s

-- the state after an accepted admission
abbrev pub with_packet : Bus → Arrival → Bus
with_packet b a =
    record {
      discipline = b.discipline;
      D = b.D;
      A = b.A;
      q = b.q;
      stations = map (joined b a) b.stations;
      clock = b.clock;
      admitted = suc b.admitted;
      sent = b.sent;
      lost = b.lost;
      turned = b.turned;
      last = b.last;
      contention = b.contention;
    }

-- ---- packets turned away (P4)

-- 'a reading refused as late or for want of a place': 14 or 15; and the same as a statement
abbrev pub turns_away : ℕ → Bool
turns_away refusal = eqb refusal 14 || eqb refusal 15

abbrev pub TurnsAway : ℕ → Type 0
TurnsAway refusal = (refusal ≡ 14) ⊎ (refusal ≡ 15)

-- the count with one packet more: 'The count stops at 4,294,967,295.'
abbrev pub one_higher : ℕ → ℕ
one_higher count = cond (ltb count most_turned) (suc count) count

-- 'raised by exactly the admissions refused with 14 or 15': the count after an admission that is refused with this number, or accepted, with 0
abbrev pub turned_after : ℕ → ℕ → ℕ
turned_after refusal count = cond (turns_away refusal) (one_higher count) count

-- 'These two refusals now leave the state as it was but for that count'
abbrev pub turned_away : Bus → Bus
turned_away b = with_turned (one_higher b.turned) b

-- the state that an admission refused with this number hands back: with any other than these two its count is as it was, and all of it 'exactly as lent'
abbrev pub handed_back : Bus → ℕ → Bus
handed_back b refusal = with_turned (turned_after refusal b.turned) b

-- 'Any other refusal hands back the number, zero in the answer's other fields, and the state ..'
abbrev pub admit : Bus → Arrival → Admitted × Bus
admit b a =
    cond
    (eqb (admission_refusal b a) 0)
    (record { refusal = 0; number = suc b.admitted }, with_packet b a)
    (record { refusal = admission_refusal b a; number = 0 }, handed_back b (admission_refusal b a))
