-- The parts that the code of a state is made of, as functions: what the contracts of the private functions cite. Assumes nothing.
use Rattle.std.specs.Prelude.{ℕ, zero, suc, ◌+◌, Result, Ok, Err, Bool, true, false, not, ◌&&◌, ◌||◌, cond, List, [], ◌∷◌, ◌++◌, leb, ltb, eqb, length, get_or, take}
use Rattle.window.specs.Splitting.{placed}
use Rattle.rules.specs.Lists.{each_of, some_of, distinct}
use Rattle.rules.specs.declared.Discipline.{Discipline}
use Rattle.rules.specs.declared.Discipline.TheVariants.{PRI, RTDG, RTVC}
use Rattle.rules.specs.Bus.{code, clock_end, most_admitted, most_turned, numbers_in}
use Rattle.rules.specs.declared.Refusal.{Refusal}
use Rattle.rules.specs.declared.Verdict.{Verdict}
use Rattle.rules.specs.Refusals.{number_of}
use Rattle.rules.specs.SetUp.{fine, fault, capability_outside, discipline_of}
use Rattle.rules.specs.Standing.{packet_fits, rising, same_packet}
use Rattle.state.specs.State.{Capability, Settings, Listed, Contender, Recorded, Contention, Round, Segment, Queues, State, Packet, no_packet, no_contender, recorded_at, recorded, no_contention, no_round, nobody, places_at, queue_at, row, has_no_packet, queue_padded, contender_padded, round_padded, contention_padded, each_place}
pub use Rattle.state.specs.declared.Fault.{Fault}

-- ---- a contender

-- `offer_fits` of the rules, of the numbers that it reads
abbrev pub parameter_fits : Discipline → Capability → Contender → Bool
parameter_fits PRI capability c = eqb c.parameter c.packet.value
parameter_fits RTDG capability c = true
parameter_fits RTVC capability c = eqb c.parameter capability.0

-- ---- one station's queue

-- its first `length` places are filled, the others zero
pub record Queue : Type 0 where
  pub packets : List Packet
  pub length : ℕ

-- the queue of station i, taken out of the row
abbrev pub queue_of : Queues → ℕ → Queue
queue_of qs i = record { packets = places_at qs i; length = get_or qs.lengths i 0 }

-- the packets of a queue
abbrev pub packets_of : Queue → List Packet
packets_of queue = take queue.length queue.packets

-- ---- the verdict on a set-up

-- by the refusal that a station at place i is at fault for, or 2 to 6 at place 0
abbrev pub verdict_at : {X : Type 0} → ℕ → Result X Refusal → Verdict
verdict_at i (Ok x) = fine
verdict_at i (Err refusal) = fault (number_of refusal) i

-- 7 and 8 of a station behind others, and 9 and 10
abbrev pub address_tests : Settings → ℕ → List Listed → Listed → List (Verdict × Bool)
address_tests g i earlier s =
    (fault 7 i, leb g.a s.address.0) ∷ (fault 8 i, some_of (λ l. eqb s.address.0 l.address.0) earlier) ∷ []

abbrev pub capability_tests : Settings → ℕ → List Listed → Listed → List (Verdict × Bool)
capability_tests g i earlier s =
    (fault 9 i, capability_outside g.discipline g.d s.capability.0)
    ∷ (fault 10 i, eqb g.discipline (code RTVC) && some_of (λ l. eqb s.capability.0 l.capability.0) earlier)
    ∷ []

-- by the fault
abbrev pub verdict_of : {X : Type 0} → Result X Fault → Verdict
verdict_of (Ok x) = fine
verdict_of (Err f) = fault (number_of f.refusal) f.station

-- ---- the state that a set-up gives

-- no station contends: no bit is set, and the rows are zero
abbrev pub no_contenders : Recorded
no_contenders = recorded (λ i. no_contender)

abbrev pub fresh_state : Settings → List Listed → State
fresh_state g listed =
    record {
      segment =
          record {
            settings = g;
            listed = listed;
            clock = record { 0 = 0 };
            admitted = 0;
            sent = 0;
            lost = 0;
            turned = 0;
            round = no_round;
            contention = no_contention;
            contenders = no_contenders.word;
            parameters = no_contenders.parameters;
            numbers = no_contenders.numbers;
            values = no_contenders.values;
            lengths = no_contenders.lengths;
            admissions = no_contenders.admissions;
          };
      queues = record { lengths = row 64 (λ i. 0); packets = row 1024 (λ i. no_packet) };
    }

-- ---- the standing conditions, in the parts that the code tests

-- the place of a station that does not contend
abbrev pub has_no_contender : Contender → Bool
has_no_contender c = not c.contends && eqb c.parameter 0 && has_no_packet c.packet

-- `offer_stands` of the rules
abbrev pub offer_sound : Segment → Capability → Contender → List Packet → Bool
offer_sound g capability c packets =
    g.contention.begun
    && some_of (same_packet c.packet) packets
    && ltb c.parameter g.settings.d
    && parameter_fits (discipline_of g.settings.discipline) capability c

-- a station's place among the contenders: zero where it does not contend, and `offer_stands` where it does
abbrev pub contender_sound : Segment → Capability → Contender → List Packet → Bool
contender_sound g capability c packets = contender_padded c && (not c.contends || offer_sound g capability c packets)

-- `station_stands` of the rules, and `contender_padded`
abbrev pub station_test : Segment → Listed → Contender → List Packet → Bool
station_test g l c packets =
    rising 0 g.admitted packets
    && each_of (packet_fits (discipline_of g.settings.discipline) g.settings.d g.clock.0) packets
    && contender_sound g l.capability c packets

-- `has_no_station`, and `contender_padded`; of a place with n packets
abbrev pub nobody_test : Listed → Contender → ℕ → Bool
nobody_test l c n = eqb l.address.0 0 && eqb l.capability.0 0 && eqb n 0 && has_no_contender c

-- the place of station i, which has the first n of these places: a station's up to N, nobody's past it
abbrev pub place_test : Segment → ℕ → ℕ → List Packet → Bool
place_test g i n packets =
    queue_padded n packets
    && cond
    (ltb i g.settings.n)
    (station_test g (get_or g.listed i nobody) (recorded_at g i) (take n packets))
    (nobody_test (get_or g.listed i nobody) (recorded_at g i) n)

-- the same, of its queue
abbrev pub place_sound : Segment → Queues → ℕ → Bool
place_sound g qs i = place_test g i (get_or qs.lengths i 0) (places_at qs i)

-- the packets' numbers in the k queues from i on
abbrev pub numbers_from : Queues → ℕ → ℕ → List ℕ
numbers_from qs i zero = []
numbers_from qs i (suc k) = numbers_in (queue_at qs i) ++ numbers_from qs (suc i) k

-- 'admitted = sent + lost + waiting' and 'none twice over all queues', of the numbers of those that wait
abbrev pub numbers_sound : Segment → List ℕ → Bool
numbers_sound g ns = eqb g.admitted (g.sent + g.lost + length ns) && distinct ns

-- the places of stations, and the numbers in their queues
abbrev pub queues_sound : Segment → Queues → Bool
queues_sound g qs = each_place (place_sound g qs) 0 64 && numbers_sound g (numbers_from qs 0 g.settings.n)

-- `last_stands` of the rules, where a circuit has won
abbrev pub winner_sound : Discipline → Capability → List Listed → Bool
winner_sound PRI last stations = false
winner_sound RTDG last stations = false
winner_sound RTVC last stations = some_of (λ l. eqb last.0 l.capability.0) stations

-- `round_padded`, and `last_stands`
abbrev pub round_sound : Discipline → Round → List Listed → Bool
round_sound d r stations = round_padded r && (not r.won || winner_sound d r.last stations)

-- `contention_padded`, and `contention_stands` of the rules
abbrev pub contention_sound : Settings → Contention → Bool
contention_sound g c =
    contention_padded c
    && (not c.begun || cond c.tied (ltb c.tie g.d && placed g.a c.window) (placed g.d c.window))

-- 'clock and admitted count within range', and P4's count too
abbrev pub in_range : Segment → Bool
in_range g = leb g.clock.0 clock_end && leb g.admitted most_admitted && leb g.turned most_turned

-- the ranges, the round, the contention and the queues
abbrev pub parts_sound : Segment → Queues → Bool
parts_sound g qs =
    in_range g
    && round_sound (discipline_of g.settings.discipline) g.round (take g.settings.n g.listed)
    && contention_sound g.settings g.contention
    && queues_sound g qs
