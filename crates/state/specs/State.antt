-- The state of the code (src/lib.rt), and what it means: the machine of the rules. `meaning` leaves out the places that have no
-- meaning, `form` pads a bus with zeros, `padded` is paper 01's 'What has no meaning is zero', `standing` all of its standing
-- conditions, and `waiting_in` what waits. Assumes nothing.
use Rattle.std.specs.Prelude.{ℕ, zero, suc, ◌-◌, ◌*◌, ◌/◌, ◌%◌, ◌^◌, ◌<◌, min, ◌≡◌, Bool, true, false, not, ◌&&◌, ◌||◌, cond, List, [], ◌∷◌, leb, eqb, length, get_or, take, drop}
use Rattle.std.proofs.Math.Option.{Option, none, some}
use Rattle.word.specs.Word.{bit_at, word_of}
use Rattle.window.specs.declared.Side.TheVariants.{Left}
use Rattle.window.specs.declared.Window.{Window}
use Rattle.window.specs.Splitting.{same_side}
pub use Rattle.rules.specs.declared.Slot.{Slot}
pub use Rattle.rules.specs.declared.Packet.{Packet}
use Rattle.rules.specs.Lists.{each_of, total}
use Rattle.rules.specs.Bus as Machine
use Rattle.rules.specs.Bus.{places, most_stations, code}
use Rattle.rules.specs.SetUp.{discipline_of}
use Rattle.rules.specs.Standing.{stands}
pub use Rattle.sorts.specs.declared.Address.{Address}
pub use Rattle.sorts.specs.declared.Capability.{Capability}
pub use Rattle.state.specs.declared.Settings.{Settings}
pub use Rattle.state.specs.declared.Listed.{Listed}
pub use Rattle.state.specs.declared.Contender.{Contender}
pub use Rattle.state.specs.declared.Contention.{Contention}
pub use Rattle.state.specs.declared.Round.{Round}
pub use Rattle.state.specs.declared.Segment.{Segment}
pub use Rattle.state.specs.declared.Queues.{Queues}
pub use Rattle.state.specs.declared.State.{State}

-- What a segment has of its contenders: the word, 'station i in listed order at bit i', and beside it the rows of what each has, its
-- parameter and its packet's number, value, length and admission slot.
pub record Recorded : Type 0 where
  pub word : ℕ
  pub parameters : List ℕ
  pub numbers : List ℕ
  pub values : List ℕ
  pub lengths : List ℕ
  pub admissions : List Slot

abbrev pub recorded_in : Segment → Recorded
recorded_in g =
    record {
      word = g.contenders;
      parameters = g.parameters;
      numbers = g.numbers;
      values = g.values;
      lengths = g.lengths;
      admissions = g.admissions;
    }

-- The word has 64 bits, and each row 64 places.
abbrev pub RecordedHeld : Recorded → Type 0
RecordedHeld r =
    record {
      word : r.word < 2 ^ 64;
      parameters : length r.parameters ≡ 64;
      numbers : length r.numbers ≡ 64;
      values : length r.values ≡ 64;
      lengths : length r.lengths ≡ 64;
      admissions : length r.admissions ≡ 64;
    }

-- The rows of a state are as long as the code's arrays, and its word has 64 bits, as those of every state in the code: all of these.
abbrev pub Held : State → Type 0
Held s =
    record {
      listed : length s.segment.listed ≡ 64;
      contenders : RecordedHeld (recorded_in s.segment);
      lengths : length s.queues.lengths ≡ 64;
      packets : length s.queues.packets ≡ 1024;
    }

-- ---- what has no meaning is zero: a packet, a contender, a contention, a round's last winner, a station that are not there

abbrev pub no_packet : Packet
no_packet = record { number = 0; value = 0; length = 0; admission = record { 0 = 0 } }

abbrev pub no_contender : Contender
no_contender = record { contends = false; parameter = 0; packet = no_packet }

abbrev pub no_contention : Contention
no_contention = record { begun = false; window = record { start = 0; size = 0; side = Left }; tied = false; tie = 0 }

abbrev pub no_round : Round
no_round = record { won = false; last = record { 0 = 0 } }

abbrev pub nobody : Listed
nobody = record { address = record { 0 = 0 }; capability = record { 0 = 0 } }

-- ---- from the state to the machine

-- all the places of the queue of station i: 'station i owning sixteen places'
abbrev pub places_at : Queues → ℕ → List Packet
places_at qs i = take places (drop (places * i) qs.packets)

-- the packets in the queue of station i
abbrev pub queue_at : Queues → ℕ → List Packet
queue_at qs i = take (get_or qs.lengths i 0) (places_at qs i)

-- station i's place among the contenders: whether its bit is set, and what stands in the rows
abbrev pub place_in : Recorded → ℕ → Contender
place_in r i =
    record {
      contends = bit_at r.word i;
      parameter = get_or r.parameters i 0;
      packet =
          record {
            number = get_or r.numbers i 0;
            value = get_or r.values i 0;
            length = get_or r.lengths i 0;
            admission = get_or r.admissions i (record { 0 = 0 });
          };
    }

abbrev pub recorded_at : Segment → ℕ → Contender
recorded_at g i = place_in (recorded_in g) i

-- the offer of a station's place among the contenders
abbrev pub offer_of : Contender → Option Machine.Offer
offer_of c = cond c.contends (some (record { parameter = c.parameter; packet = c.packet })) none

-- station i, by its packets
abbrev pub station_with : Segment → ℕ → List Packet → Machine.Station
station_with g i queue =
    record {
      address = (get_or g.listed i nobody).address.0;
      capability = (get_or g.listed i nobody).capability.0;
      queue = queue;
      offer = offer_of (recorded_at g i);
    }

-- station i
abbrev pub station_at : State → ℕ → Machine.Station
station_at s i = station_with s.segment i (queue_at s.queues i)

-- k values of f, from f i on
abbrev pub values_from : {X : Type 0} → (ℕ → X) → ℕ → ℕ → List X
values_from f i zero = []
values_from f i (suc k) = f i ∷ values_from f (suc i) k

-- the stations, in listed order
abbrev pub stations_of : State → List Machine.Station
stations_of s = values_from (station_at s) 0 s.segment.settings.n

-- the last winner of a round, if a circuit has won
abbrev pub last_of : Round → Option ℕ
last_of r = cond r.won (some r.last.0) none

-- the tie value, in the tie phase
abbrev pub tie_of : Contention → Option ℕ
tie_of c = cond c.tied (some c.tie) none

-- the contention, if one is under way
abbrev pub contention_of : Contention → Option Machine.Contention
contention_of c = cond c.begun (some (record { window = c.window; tie = tie_of c })) none

-- the bus of a segment with these stations
abbrev pub bus_with : Segment → List Machine.Station → Machine.Bus
bus_with g stations =
    record {
      discipline = discipline_of g.settings.discipline;
      D = g.settings.d;
      A = g.settings.a;
      q = g.settings.q;
      stations = stations;
      clock = g.clock.0;
      admitted = g.admitted;
      sent = g.sent;
      lost = g.lost;
      turned = g.turned;
      last = last_of g.round;
      contention = contention_of g.contention;
    }

-- the bus that a state is, whatever stands in places that have no meaning
abbrev pub meaning : State → Machine.Bus
meaning s = bus_with s.segment (stations_of s)

-- ---- from the machine to the state

-- a row of n places, f i at place i
unfoldable pub row : {X : Type 0} → ℕ → (ℕ → X) → List X
row n f = values_from f 0 n

-- a station that is not there
abbrev pub no_station : Machine.Station
no_station = record { address = 0; capability = 0; queue = []; offer = none }

-- station i of a bus; one that is not there past its stations
abbrev pub station_or : Machine.Bus → ℕ → Machine.Station
station_or b i = get_or b.stations i no_station

-- a station as it is listed, and its place among the contenders
abbrev pub listed_form : Machine.Station → Listed
listed_form s = record { address = record { 0 = s.address }; capability = record { 0 = s.capability } }

abbrev pub contender_form : Option Machine.Offer → Contender
contender_form none = no_contender
contender_form (some o) = record { contends = true; parameter = o.parameter; packet = o.packet }

-- the contenders by their places: the word of those who contend, and the rows of what each has
abbrev pub recorded : (ℕ → Contender) → Recorded
recorded at =
    record {
      word = word_of (λ i. (at i).contends) most_stations;
      parameters = row most_stations (λ i. (at i).parameter);
      numbers = row most_stations (λ i. (at i).packet.number);
      values = row most_stations (λ i. (at i).packet.value);
      lengths = row most_stations (λ i. (at i).packet.length);
      admissions = row most_stations (λ i. (at i).packet.admission);
    }

-- the place among the contenders that station i of a bus has
abbrev pub contender_in : Machine.Bus → ℕ → Contender
contender_in b i = contender_form (station_or b i).offer

-- the round by its last winner, and the contention by its window and its tie value
abbrev pub round_form : Option ℕ → Round
round_form none = no_round
round_form (some c) = record { won = true; last = record { 0 = c } }

abbrev pub tied_form : Window → Option ℕ → Contention
tied_form w none = record { begun = true; window = w; tied = false; tie = 0 }
tied_form w (some v) = record { begun = true; window = w; tied = true; tie = v }

abbrev pub contention_form : Option Machine.Contention → Contention
contention_form none = no_contention
contention_form (some c) = tied_form c.window c.tie

-- the numbers of the set-up, all of the state but the queues, and the queues
abbrev pub settings_form : Machine.Bus → Settings
settings_form b = record { discipline = code b.discipline; d = b.D; a = b.A; q = b.q; n = length b.stations }

abbrev pub segment_form : Machine.Bus → Segment
segment_form b =
    record {
      settings = settings_form b;
      listed = row most_stations (λ i. listed_form (station_or b i));
      clock = record { 0 = b.clock };
      admitted = b.admitted;
      sent = b.sent;
      lost = b.lost;
      turned = b.turned;
      round = round_form b.last;
      contention = contention_form b.contention;
      contenders = (recorded (contender_in b)).word;
      parameters = (recorded (contender_in b)).parameters;
      numbers = (recorded (contender_in b)).numbers;
      values = (recorded (contender_in b)).values;
      lengths = (recorded (contender_in b)).lengths;
      admissions = (recorded (contender_in b)).admissions;
    }

abbrev pub queues_form : Machine.Bus → Queues
queues_form b =
    record {
      lengths = row most_stations (λ i. length (station_or b i).queue);
      packets = row (places * most_stations) (λ j. get_or (station_or b (j / places)).queue (j % places) no_packet);
    }

-- the state that a bus is held in
abbrev pub form : Machine.Bus → State
form b = record { segment = segment_form b; queues = queues_form b }

-- ---- 'What has no meaning is zero: places past a queue's end, stations past N, the last winner where there is none, the tie value
-- outside the tie phase, the window and contenders between contentions.'

-- a place that no packet fills
abbrev pub has_no_packet : Packet → Bool
has_no_packet p = eqb p.number 0 && eqb p.value 0 && eqb p.length 0 && eqb p.admission.0 0

-- a queue's length is within its sixteen places, and the places past its end are zero
abbrev pub queue_padded : ℕ → List Packet → Bool
queue_padded n packets = leb n places && each_of has_no_packet (drop n packets)

-- a place of a station that does not contend is zero
abbrev pub contender_padded : Contender → Bool
contender_padded c = c.contends || (eqb c.parameter 0 && has_no_packet c.packet)

-- the queue and the contender of station i have zeros where they should
abbrev pub station_padded : State → ℕ → Bool
station_padded s i =
    queue_padded (get_or s.queues.lengths i 0) (places_at s.queues i)
    && contender_padded (recorded_at s.segment i)

-- no station is listed at place i, none contends there, and its queue is empty
abbrev pub has_no_station : State → ℕ → Bool
has_no_station s i =
    eqb (get_or s.segment.listed i nobody).address.0 0
    && eqb (get_or s.segment.listed i nobody).capability.0 0
    && eqb (get_or s.queues.lengths i 0) 0
    && not (recorded_at s.segment i).contends

-- whether the test holds for each of the k places from i on
unfoldable pub each_place : (ℕ → Bool) → ℕ → ℕ → Bool
each_place test i zero = true
each_place test i (suc k) = test i && each_place test (suc i) k

-- 'the last winner where there is none'
abbrev pub round_padded : Round → Bool
round_padded r = r.won || eqb r.last.0 0

-- no window
abbrev pub no_window : Window → Bool
no_window w = eqb w.start 0 && eqb w.size 0 && same_side w.side Left

-- 'the tie value outside the tie phase, the window .. between contentions'
abbrev pub contention_padded : Contention → Bool
contention_padded c = (c.begun || (no_window c.window && not c.tied)) && (c.tied || eqb c.tie 0)

-- The sentence whole, and that the discipline's number is one of the three. Each of the 64 places is tested, and those past N for a station too.
abbrev pub padded : State → Bool
padded s =
    leb s.segment.settings.discipline 2
    && each_place (station_padded s) 0 most_stations
    && each_place (has_no_station s) s.segment.settings.n (most_stations - s.segment.settings.n)
    && round_padded s.segment.round
    && contention_padded s.segment.contention

-- ---- the standing conditions of a lent state

abbrev pub standing : State → Bool
standing s = padded s && stands (meaning s)

-- ---- 'waiting is the number of packets in the queues': of the first n queues, by their lengths. A length above 16 counts as 16.

abbrev pub waiting_in : List ℕ → ℕ → ℕ
waiting_in lengths n = total (λ k. min k places) (take n lengths)
