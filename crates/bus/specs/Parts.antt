-- The parts that the calls are made of, as functions: what the contracts of the private functions cite. Assumes nothing.
use Rattle.std.specs.Prelude.{ℕ, zero, suc, ◌≡◌, ◌<◌, ◌+◌, ◌-◌, ◌*◌, ◌/◌, ◌^◌, min, Bool, true, false, not, ◌&&◌, cond, List, [], ◌∷◌, ◌++◌, leb, ltb, eqb, length, get_or, set, take, drop, replicate}
use Rattle.std.specs.Prelude as Returned
use Rattle.std.specs.Prelude.{Some, None, Result, Ok, Err}
use Rattle.rules.specs.declared.Refusal.{Refusal}
use Rattle.rules.specs.Refusals.{number_of}
use Rattle.std.proofs.Math.Option.{Option, none, some}
use Rattle.window.specs.declared.Side.{Side}
use Rattle.window.specs.declared.Side.TheVariants.{Left, Right}
use Rattle.window.specs.Splitting.{first_window, left_half, moved_right, in_window}
use Rattle.word.specs.Word.{bit_at, members, word_of, first_or, count_of}
use Rattle.rules.specs.Lists.{Among, first_of}
use Rattle.rules.specs.declared.Discipline.{Discipline}
use Rattle.rules.specs.declared.Discipline.TheVariants.{PRI, RTDG, RTVC}
use Rattle.rules.specs.Bus.{Bus, places, most_admitted, late}
use Rattle.rules.specs.SetUp.{discipline_of}
use Rattle.rules.specs.Standing.{value_is_fit, length_fits}
use Rattle.rules.specs.Begin.{sits_out, choice}
use Rattle.rules.specs.declared.Admitted.{Admitted}
use Rattle.rules.specs.Probe as Probe
use Rattle.rules.specs.Probe.{wait_of}
use Rattle.bus.specs.Types.{Slot, Address, Capability, Settings, Listed, Contender, Contention, Round, Segment, Queues, State, Queue, Packet}
use Rattle.state.specs.Parts.{no_contenders}
use Rattle.state.specs.State.{Recorded, recorded_in, recorded_at, recorded, no_packet, no_contender, no_contention, no_round, nobody, row, queue_at, last_of, tie_of, meaning, form}
use Rattle.bus.specs.Coded.{Admission, Begun, Stepped, step_result, Answer, Parameter, Tie, Event, Idle, Collision, Success}
pub use Rattle.bus.specs.declared.Leaving.{Leaving}
pub use Rattle.bus.specs.declared.Leaving.TheVariants.{Late, Sent}
pub use Rattle.bus.specs.declared.Progress.{Progress}
pub use Rattle.bus.specs.declared.Moved.{Moved}

-- ---- the disciplines

-- `parameter_of` of the rules, of the numbers that it reads
abbrev pub parameter_for : Discipline → Settings → Slot → Capability → Packet → ℕ
parameter_for PRI g clock capability p = p.value
parameter_for RTDG g clock capability p = min ((p.value - clock.0) / g.q) (g.d - 1)
parameter_for RTVC g clock capability p = capability.0

-- the order of offers in PRI and RTDG as one number: 'the smallest value, the lowest packet number among equals'
abbrev pub rank_of : Packet → ℕ
rank_of p = p.value * 2 ^ 32 + p.number

-- how many of a queue's packets are looked at for its offer: in RTVC the first
abbrev pub looked_of : Discipline → ℕ → ℕ
looked_of PRI len = len
looked_of RTDG len = len
looked_of RTVC len = 1

-- ---- one station's queue

-- the queue that holds these packets
abbrev pub queue_form : List Packet → Queue
queue_form packets = record { packets = packets ++ replicate (places - length packets) no_packet; length = length packets }

-- the rows have as many places as the code's
abbrev pub IsRow : Queues → Type 0
IsRow qs = (length qs.lengths ≡ 64) × (length qs.packets ≡ 1024)

-- the row with the queue of station i put back
abbrev pub with_queue : Queues → ℕ → Queue → Queues
with_queue qs i queue =
    record {
      lengths = set qs.lengths i queue.length;
      packets = take (places * i) qs.packets ++ queue.packets ++ drop (places * i + places) qs.packets;
    }

-- whether a packet stays
abbrev pub stays : Leaving → Packet → Bool
stays (Late d slot) p = not (late (discipline_of d) slot.0 p.value)
stays (Sent number) p = not (eqb number p.number)

-- a packet that is offered, if one is, as the functions return it
abbrev pub chosen_form : Option Packet → Returned.Option Packet
chosen_form none = None
chosen_form (some p) = Some p

-- ---- searching the places of stations

-- the first of the k places from i on for which the test holds, and the place after them where there is none
abbrev pub first_place : (ℕ → Bool) → ℕ → ℕ → ℕ
first_place test i zero = i
first_place test i (suc k) = cond (test i) i (first_place test (suc i) k)

-- ---- an admission

-- 11 to 16 of the table for a packet at a station's place, or N where no station has the address, of the numbers that they read
abbrev pub refusal_tests : Settings → Slot → ℕ → List ℕ → ℕ → ℕ → ℕ → List (ℕ × Bool)
refusal_tests g clock admitted lengths place value len =
    (11, leb g.n place)
    ∷ (12, not (value_is_fit (discipline_of g.discipline) g.d value))
    ∷ (13, not (length_fits len))
    ∷ (14, late (discipline_of g.discipline) clock.0 value)
    ∷ (15, leb places (get_or lengths place 0))
    ∷ (16, leb most_admitted admitted)
    ∷ []

-- the first of them that holds, or 0
abbrev pub refusal_at : Settings → Slot → ℕ → List ℕ → ℕ → ℕ → ℕ → ℕ
refusal_at g clock admitted lengths place value len = first_of 0 (refusal_tests g clock admitted lengths place value len)

-- the station's place and the packet's number, or the number of what refuses it
abbrev pub asked_by : ℕ → ℕ → ℕ → Result (ℕ × ℕ) ℕ
asked_by refusal place number = cond (eqb refusal 0) (Ok (place, number)) (Err refusal)

-- the same of a state; 1 of one that does not stand
abbrev pub asked_if : Bool → Settings → List Listed → Slot → ℕ → List ℕ → Address → ℕ → ℕ → Result (ℕ × ℕ) ℕ
asked_if stands g listed clock admitted lengths address value len =
    let place = first_place (λ i. eqb address.0 (get_or listed i nobody).address.0) 0 g.n in
    cond stands (asked_by (refusal_at g clock admitted lengths place value len) place (admitted + 1)) (Err 1)

-- what the code's answer says of it
abbrev pub asked_as : Result (ℕ × ℕ) Refusal → Result (ℕ × ℕ) ℕ
asked_as (Ok x) = Ok x
asked_as (Err refusal) = Err (number_of refusal)

-- ---- a contention begins

-- a station's place among the contenders, of the packet chosen: `offers` of the rules, of the numbers that it reads
abbrev pub contender_on : Settings → Slot → Round → Listed → Option Packet → Contender
contender_on g clock round l none = no_contender
contender_on g clock round l (some p) =
    cond
    (sits_out (discipline_of g.discipline) (last_of round) l.capability.0)
    no_contender
    (record {
      contends = true;
      parameter = parameter_for (discipline_of g.discipline) g clock l.capability p;
      packet = p;
    })

-- the same, of the packets that it has in time
abbrev pub contender_for : Settings → Slot → Round → Listed → List Packet → Contender
contender_for g clock round l queue = contender_on g clock round l (choice (discipline_of g.discipline) queue)

-- the contention as it begins: 'the first window of D, start 0, side right'
abbrev pub opening_of : ℕ → Contention
opening_of d = record { begun = true; window = first_window d; tied = false; tie = 0 }

-- each station's place among the contenders, and nobody's past N
abbrev pub offer_at : Segment → Queues → ℕ → Contender
offer_at g queues i =
    cond
    (ltb i g.settings.n)
    (contender_for g.settings g.clock g.round (get_or g.listed i nobody) (queue_at queues i))
    no_contender

-- the segment with other counts, contention and contenders
abbrev pub segment_counting : Segment → ℕ → ℕ → Contention → Recorded → Segment
segment_counting g admitted lost contention r =
    record {
      settings = g.settings;
      listed = g.listed;
      clock = g.clock;
      admitted = admitted;
      sent = g.sent;
      lost = lost;
      turned = g.turned;
      round = g.round;
      contention = contention;
      contenders = r.word;
      parameters = r.parameters;
      numbers = r.numbers;
      values = r.values;
      lengths = r.lengths;
      admissions = r.admissions;
    }

-- each station's offer recorded
abbrev pub offers_of : Segment → Queues → Segment
offers_of g queues = segment_counting g g.admitted g.lost g.contention (recorded (offer_at g queues))

-- the segment as a contention begins, where so many late packets have left the queues
abbrev pub begun_with : Segment → Queues → ℕ → Segment
begun_with g queues drops =
    segment_counting g g.admitted (g.lost + drops) (opening_of g.settings.d) (recorded (offer_at g queues))

-- the same of a state, whose queues stay
abbrev pub offering_all : State → State
offering_all s = record { segment = offers_of s.segment s.queues; queues = s.queues }

-- no packet of a station's queue is late
abbrev pub AllInTime : State → Type 0
AllInTime s =
    (j : ℕ) → j < s.segment.settings.n → (p : Packet) → Among p (queue_at s.queues j)
    → late (discipline_of s.segment.settings.discipline) s.segment.clock.0 p.value ≡ false

-- the addresses of those in a word, by station; zeros elsewhere
abbrev pub contending_of : ℕ → List Listed → List Address
contending_of word listed = row 64 (λ i. cond (bit_at word i) (get_or listed i nobody).address (record { 0 = 0 }))

-- what a begin shows of the segment in which a contention has begun
abbrev pub shown_of : Segment → ℕ → Begun
shown_of g drops =
    record {
      refusal = 0;
      drops = drops;
      slot = g.clock;
      start = g.contention.window.start;
      size = g.contention.window.size;
      contenders = g.contenders;
      addresses = contending_of g.contenders g.listed;
      numbers = g.numbers;
      parameters = g.parameters;
    }

-- ---- a slot is probed

-- the contender that a station is, if it contends
abbrev pub contender_of : Listed → Contender → Probe.Contender
contender_of l c =
    record { address = l.address.0; capability = l.capability.0; parameter = c.parameter; packet = c.packet }

-- the same of station i
abbrev pub contender_at : Segment → ℕ → Probe.Contender
contender_at g i = contender_of (get_or g.listed i nobody) (recorded_at g i)

-- whether a parameter lies in the window; in the tie phase, whether it is the tie value and the address lies in the window
abbrev pub lies_within : Contention → ℕ → ℕ → Bool
lies_within c parameter address =
    cond c.tied (eqb parameter c.tie && in_window c.window address) (in_window c.window parameter)

-- the word of those who transmit, of what a probe is lent: the word of contenders, and the rows of parameters, values and addresses
abbrev pub transmitters_of : ℕ → Slot → Contention → ℕ → List ℕ → List ℕ → List ℕ → ℕ
transmitters_of discipline clock contention contenders parameters values addresses =
    word_of
    (λ i.
    bit_at contenders i
    && (lies_within contention (get_or parameters i 0) (get_or addresses i 0) && not (late (discipline_of discipline) clock.0 (get_or values i 0))))
    64

-- the addresses of the stations listed, as numbers
abbrev pub addresses_of : List Listed → List ℕ
addresses_of listed = row 64 (λ i. (get_or listed i nobody).address.0)

-- those who transmit in a segment
abbrev pub transmitters_in : Segment → ℕ
transmitters_in g =
    transmitters_of g.settings.discipline g.clock g.contention g.contenders g.parameters g.values (addresses_of g.listed)

-- an answer to a probe, by the progress so far
abbrev pub answer_at : Progress → ℕ → Event → Address → ℕ → ℕ → ℕ → Bool → Answer
answer_at p drops event address number length wait ended =
    record {
      refusal = 0;
      drops = drops;
      slot = p.clock;
      phase = cond p.contention.tied Tie Parameter;
      start = p.contention.window.start;
      size = p.contention.window.size;
      event = event;
      address = address;
      number = number;
      length = length;
      wait = wait;
      ended = ended;
    }

-- the progress with another clock and contention
abbrev pub went_on : Progress → Contention → Progress
went_on p c = record { clock = record { 0 = p.clock.0 + 1 }; sent = p.sent; round = p.round; contention = c }

-- what a collision makes of a contention, by whether its window has size 2 or more and whether it is in the tie phase
abbrev pub split_of : ℕ → Contention → Bool → Bool → Contention
split_of a c large tied =
    cond
    large
    (record { begun = true; window = left_half c.window; tied = tied; tie = c.tie })
    (record { begun = true; window = first_window a; tied = true; tie = cond tied c.tie c.window.start })

-- two or more transmit
abbrev pub collided_on : ℕ → Progress → ℕ → Moved
collided_on a p drops =
    record {
      answer = answer_at p drops Collision (record { 0 = 0 }) 0 0 0 false;
      progress = went_on p (split_of a p.contention (leb 2 p.contention.window.size) p.contention.tied);
    }

-- none transmits
abbrev pub unheard_on : Progress → ℕ → Side → Moved
unheard_on p drops Left =
    record {
      answer = answer_at p drops Idle (record { 0 = 0 }) 0 0 0 false;
      progress =
          went_on
          p
          (record { begun = true; window = moved_right p.contention.window; tied = p.contention.tied; tie = p.contention.tie });
    }
unheard_on p drops Right =
    record {
      answer = answer_at p drops Idle (record { 0 = 0 }) 0 0 0 true;
      progress = record { clock = record { 0 = p.clock.0 + 1 }; sent = p.sent; round = no_round; contention = no_contention };
    }

-- the round after a success: 'In RTVC the last winner is set.'
abbrev pub round_after : Discipline → Capability → Round
round_after PRI c = no_round
round_after RTDG c = no_round
round_after RTVC c = record { won = true; last = c }

-- one transmits, this station with this packet
abbrev pub won_on : Discipline → Progress → ℕ → Listed → Packet → Moved
won_on d p drops l packet =
    record {
      answer = answer_at p drops Success l.address packet.number packet.length (wait_of packet p.clock.0) true;
      progress =
          record {
            clock = record { 0 = p.clock.0 + packet.length };
            sent = p.sent + 1;
            round = round_after d l.capability;
            contention = no_contention;
          };
    }

-- what one probe moves, by how many transmit, and the sole winner's station and packet
abbrev pub moved_by : Settings → Progress → ℕ → ℕ → Listed → Packet → Moved
moved_by g p drops count l packet =
    cond
    (eqb count 0)
    (unheard_on p drops p.contention.window.side)
    (cond (eqb count 1) (won_on (discipline_of g.discipline) p drops l packet) (collided_on g.a p drops))

-- the segment with another clock, sent count, round, contention and contenders
abbrev pub segment_with : Segment → ℕ → ℕ → Round → Contention → Recorded → Segment
segment_with g clock sent round contention r =
    record {
      settings = g.settings;
      listed = g.listed;
      clock = record { 0 = clock };
      admitted = g.admitted;
      sent = sent;
      lost = g.lost;
      turned = g.turned;
      round = round;
      contention = contention;
      contenders = r.word;
      parameters = r.parameters;
      numbers = r.numbers;
      values = r.values;
      lengths = r.lengths;
      admissions = r.admissions;
    }

-- the segment with what a probe has moved; no contenders where the contention has ended
abbrev pub with_moved : Segment → Moved → Segment
with_moved g m =
    segment_with
    g
    m.progress.clock.0
    m.progress.sent
    m.progress.round
    m.progress.contention
    (cond m.answer.ended no_contenders (recorded_in g))

-- what a probe moves, of a segment
abbrev pub progress_of : Segment → Progress
progress_of g = record { clock = g.clock; sent = g.sent; round = g.round; contention = g.contention }

-- the sole winner where one transmits: its place, how it is listed, and its packet; zeros where none or more than one do
pub record Sole : Type 0 where
  pub place : ℕ
  pub listed : Listed
  pub packet : Packet

abbrev pub no_sole : Sole
no_sole = record { place = 0; listed = nobody; packet = no_packet }

abbrev pub sole_at : Segment → ℕ → Sole
sole_at g i = record { place = i; listed = get_or g.listed i nobody; packet = (recorded_at g i).packet }

-- of the places of those who transmit
abbrev pub sole_of : Segment → List ℕ → Sole
sole_of g places = cond (eqb (length places) 1) (sole_at g (first_or places)) no_sole

-- the places of those who transmit in a segment
abbrev pub heard_in : Segment → List ℕ
heard_in g = members (transmitters_in g)

-- what a probe of a segment moves, where so many packets have been dropped
abbrev pub moved_in : Segment → ℕ → Moved
moved_in g drops =
    moved_by g.settings (progress_of g) drops (count_of (transmitters_in g)) (sole_of g (heard_in g)).listed (sole_of g (heard_in g)).packet

-- the bus as it is probed, with the contention that has begun
abbrev pub open_of : State → ℕ → Probe.Open
open_of s drops =
    record {
      bus = meaning s;
      contention = record { window = s.segment.contention.window; tie = tie_of s.segment.contention };
      drops = drops;
    }

-- what the machine's probe makes of it
abbrev pub stepped : Probe.Answer × Bus → Stepped
stepped r = step_result (r.0, form r.1)

-- an answer beside the state, as the functions return them
abbrev pub stepped_to : Answer → State → Stepped
stepped_to answer s = record { answer = answer; state = s }

abbrev pub admission_to : Admitted → State → Admission
admission_to answer s = record { answer = answer; state = s }

abbrev pub probed_slot : State → ℕ → Stepped
probed_slot s drops = stepped (Probe.probe (open_of s drops))
