-- The standing conditions (paper 01, 'Refusal numbers'), as a test that computes and as the conditions that it tests.
-- The places of a queue, the stations past N and the like, which 'have no meaning and are zero', are not in the machine;
-- what is left of that sentence here: no station has an offer between contentions. Assumes nothing.
use Rattle.std.specs.Prelude.{ℕ, ◌+◌, ◌≤◌, ◌<◌, ◌≡◌, Bool, true, false, not, ◌&&◌, List, [], ◌∷◌, map, leb, ltb, eqb, length}
use Rattle.std.proofs.Math.Option.{Option, none, some}
use Rattle.window.specs.Splitting.{placed}
use Rattle.rules.specs.Lists.{some_of, each_of, distinct, outside, Among, All, Some, Distinct}
use Rattle.rules.specs.Bus.{places, longest_packet, clock_end, most_admitted, most_turned, Discipline, PRI, RTDG, RTVC, code, Packet, Offer, Station, Contention, Bus, waiting, numbers}
use Rattle.rules.specs.SetUp.{Asked, Request, set_up_verdict}

-- the station as it would be asked for
abbrev pub asked : Station → Asked
asked s = record { address = s.address; capability = s.capability }

-- the set-up that would ask for this bus
abbrev pub asked_for : Bus → Request
asked_for b =
    record {
      discipline = code b.discipline;
      D = b.D;
      A = b.A;
      q = b.q;
      N = length b.stations;
      row = map asked b.stations;
    }

-- a packet's value in its range: 'for PRI, a priority 0 to D - 1; for RTDG, 0 to 1,073,741,824; for RTVC, 0'
abbrev pub value_is_fit : Discipline → ℕ → ℕ → Bool
value_is_fit PRI D value = ltb value D
value_is_fit RTDG D value = leb value clock_end
value_is_fit RTVC D value = eqb value 0

-- 'packet length: 1 to 4,096 slots'
abbrev pub length_fits : ℕ → Bool
length_fits n = not (outside 1 longest_packet n)

-- 'values and lengths in range', and P1's 'admission slot not above the clock'
abbrev pub packet_fits : Discipline → ℕ → ℕ → Packet → Bool
packet_fits d D clock p = value_is_fit d D p.value && length_fits p.length && leb p.admission.0 clock

-- 'numbers from 1 to the admitted count and rising'; `before` is the number before these
abbrev pub rising : ℕ → ℕ → List Packet → Bool
rising before admitted [] = leb before admitted
rising before admitted (p ∷ queue) = ltb before p.number && rising p.number admitted queue

-- whether two packets are one
abbrev pub same_packet : Packet → Packet → Bool
same_packet p p' =
    eqb p.number p'.number
    && eqb p.value p'.value
    && eqb p.length p'.length
    && eqb p.admission.0 p'.admission.0

-- 'in PRI and RTVC equal to priority or capability'
abbrev pub offer_fits : Discipline → Station → Offer → Bool
offer_fits PRI s o = eqb o.parameter o.packet.value
offer_fits RTDG s o = true
offer_fits RTVC s o = eqb o.parameter s.capability

-- 'each contender's packet in its own station's queue, its parameter below D and in PRI and RTVC equal to priority or capability'
abbrev pub offer_stands : Bus → Station → Option Contention → Option Offer → Bool
offer_stands b s c none = true
offer_stands b s none (some o) = false
offer_stands b s (some c) (some o) =
    some_of (same_packet o.packet) s.queue && ltb o.parameter b.D && offer_fits b.discipline s o

-- 'in each queue at most 16 packets, numbers .., values and lengths in range', admission slots, and the station's offer
abbrev pub station_stands : Bus → Station → Bool
station_stands b s =
    leb (length s.queue) places
    && rising 0 b.admitted s.queue
    && each_of (packet_fits b.discipline b.D b.clock) s.queue
    && offer_stands b s b.contention s.offer

-- 'a last winner only in RTVC and some station's capability'
abbrev pub last_stands : Discipline → List Station → Option ℕ → Bool
last_stands d stations none = true
last_stands PRI stations (some c) = false
last_stands RTDG stations (some c) = false
last_stands RTVC stations (some c) = some_of (λ s. eqb c s.capability) stations

-- the window lies in the first window of D and, in the tie phase, of A; 'tie value below D'
abbrev pub window_stands : Bus → Contention → Option ℕ → Bool
window_stands b c none = placed b.D c.window
window_stands b c (some v) = ltb v b.D && placed b.A c.window

-- the window, during a contention
abbrev pub contention_stands : Bus → Option Contention → Bool
contention_stands b none = true
contention_stands b (some c) = window_stands b c c.tie

-- the test that refusal 1 goes by
abbrev pub stands : Bus → Bool
stands b =
    eqb (set_up_verdict (asked_for b)).refusal 0
    && leb b.clock clock_end
    && leb b.admitted most_admitted
    && leb b.turned most_turned
    && eqb b.admitted (b.sent + b.lost + waiting b.stations)
    && each_of (station_stands b) b.stations
    && distinct (numbers b.stations)
    && last_stands b.discipline b.stations b.last
    && contention_stands b b.contention

-- ---- the same as conditions: `Standing b` holds exactly when the test passes (proofs/Standing.antt, `stands_exactly`)

-- `value_is_fit`
abbrev pub ValueFits : Discipline → ℕ → ℕ → Type 0
ValueFits PRI D value = value < D
ValueFits RTDG D value = value ≤ clock_end
ValueFits RTVC D value = value ≡ 0

-- `packet_fits`
pub record PacketStands (b : Bus) (p : Packet) : Type 0 where
  -- 'values and lengths in range'
  pub value : ValueFits b.discipline b.D p.value
  pub least : 1 ≤ p.length
  pub most : p.length ≤ longest_packet
  -- 'admission slot not above the clock'
  pub admission : p.admission.0 ≤ b.clock

-- `rising`
abbrev pub Rising : ℕ → ℕ → List Packet → Type 0
Rising before admitted [] = before ≤ admitted
Rising before admitted (p ∷ queue) = (before < p.number) × Rising p.number admitted queue

-- `offer_fits`
abbrev pub ParameterFits : Discipline → Station → Offer → Type 0
ParameterFits PRI s o = o.parameter ≡ o.packet.value
ParameterFits RTDG s o = Unit {0}
ParameterFits RTVC s o = o.parameter ≡ s.capability

-- `offer_stands`
abbrev pub OfferStands : Bus → Station → Option Contention → Option Offer → Type 0
OfferStands b s c none = Unit {0}
OfferStands b s none (some o) = ⊥
OfferStands b s (some c) (some o) =
    Among o.packet s.queue × (o.parameter < b.D) × ParameterFits b.discipline s o

-- `station_stands`
pub record StationStands (b : Bus) (s : Station) : Type 0 where
  pub room : length s.queue ≤ places
  pub rises : Rising 0 b.admitted s.queue
  pub packets : All (PacketStands b) s.queue
  pub offered : OfferStands b s b.contention s.offer

-- `last_stands`
abbrev pub LastStands : Discipline → List Station → Option ℕ → Type 0
LastStands d stations none = Unit {0}
LastStands PRI stations (some c) = ⊥
LastStands RTDG stations (some c) = ⊥
LastStands RTVC stations (some c) = Some (λ s. c ≡ s.capability) stations

-- `window_stands`; what a window that is `placed` is, as conditions, is `Placed` of the crate window
abbrev pub WindowStands : Bus → Contention → Option ℕ → Type 0
WindowStands b c none = placed b.D c.window ≡ true
WindowStands b c (some v) = (v < b.D) × (placed b.A c.window ≡ true)

-- `contention_stands`
abbrev pub ContentionStands : Bus → Option Contention → Type 0
ContentionStands b none = Unit {0}
ContentionStands b (some c) = WindowStands b c c.tie

-- `stands`
pub record Standing (b : Bus) : Type 0 where
  -- 'set-up fields and stations pass 2 to 10'
  pub passes : (set_up_verdict (asked_for b)).refusal ≡ 0
  -- 'clock and admitted count within range'
  pub clock_in : b.clock ≤ clock_end
  pub admitted_in : b.admitted ≤ most_admitted
  -- P4: 'The count stops at 4,294,967,295'
  pub turned_within : b.turned ≤ most_turned
  -- 'admitted = sent + lost + waiting'
  pub counts : b.admitted ≡ b.sent + b.lost + waiting b.stations
  -- 'in each queue at most 16 packets, ..'
  pub each_station : All (StationStands b) b.stations
  -- 'none twice over all queues'
  pub none_twice : Distinct (numbers b.stations)
  -- 'a last winner only in RTVC and some station's capability'
  pub winner_last_stands : LastStands b.discipline b.stations b.last
  -- 'during a contention a window ..'
  pub window : ContentionStands b b.contention
