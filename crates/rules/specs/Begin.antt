-- Beginning a contention (paper 01, 'One step', its first paragraph): late packets are dropped, each station offers one packet, and the
-- parameters and the first window are fixed. Assumes nothing.
use Rattle.std.specs.Prelude.{ℕ, ◌+◌, ◌-◌, ◌/◌, min, Bool, false, not, ◌&&◌, ◌||◌, cond, List, [], ◌∷◌, map, leb, ltb, eqb}
use Rattle.std.proofs.Math.Option.{Option, none, some}
use Rattle.window.specs.Splitting.{first_window}
use Rattle.rules.specs.Lists.{keep, count, total}
use Rattle.rules.specs.Bus.{Discipline, PRI, RTDG, RTVC, Packet, late, Offer, Station, Contention, Bus}

-- 'the smallest value, the lowest packet number among equals'
abbrev pub smaller : Packet → Packet → Bool
smaller p p' = ltb p.value p'.value || (eqb p.value p'.value && ltb p.number p'.number)

-- whether p is offered before p': 'PRI and RTDG the smallest value, ..; RTVC the lowest packet number'
abbrev pub goes_before : Discipline → Packet → Packet → Bool
goes_before PRI p p' = smaller p p'
goes_before RTDG p p' = smaller p p'
goes_before RTVC p p' = ltb p.number p'.number

-- 'Each station then offers one packet': of p and the choice among those after it
abbrev pub chosen : Discipline → Packet → Option Packet → Option Packet
chosen d p none = some p
chosen d p (some p') = some (cond (goes_before d p' p) p' p)

-- the packet that a station offers of those it has
abbrev pub choice : Discipline → List Packet → Option Packet
choice d [] = none
choice d (p ∷ queue) = chosen d p (choice d queue)

-- 'PRI: the priority. RTDG: (latest start - T) divided by q, rounded down, and D - 1 where that is larger. RTVC: the capability'.
-- Figure 6, line 4.
abbrev pub parameter_of : Discipline → Bus → Station → Packet → ℕ
parameter_of PRI b s p = p.value
parameter_of RTDG b s p = min ((p.value - b.clock) / b.q) (b.D - 1)
parameter_of RTVC b s p = s.capability

-- 'RTVC: the capability, if no circuit has won in this round or the capability is above the last winner's; otherwise the station sits out'
abbrev pub sits_out : Discipline → Option ℕ → ℕ → Bool
sits_out PRI last capability = false
sits_out RTDG last capability = false
sits_out RTVC none capability = false
sits_out RTVC (some winner) capability = leb capability winner

-- what a station offers, of the packet chosen
abbrev pub offers : Bus → Station → Option Packet → Option Offer
offers b s none = none
offers b s (some p) =
    cond
    (sits_out b.discipline b.last s.capability)
    none
    (some (record { parameter = parameter_of b.discipline b s p; packet = p }))

-- 'In RTDG every queued packet with latest start below T is dropped and counted lost': what is left of a station's packets
abbrev pub in_time : Bus → Station → List Packet
in_time b s = keep (λ p. not (late b.discipline b.clock p.value)) s.queue

-- a station as the contention begins
abbrev pub entered : Bus → Station → Station
entered b s =
    record {
      address = s.address;
      capability = s.capability;
      queue = in_time b s;
      offer = offers b s (choice b.discipline (in_time b s));
    }

-- how many packets a contention that begins now drops
abbrev pub drops_of : Bus → ℕ
drops_of b = total (λ s. count (λ p. late b.discipline b.clock p.value) s.queue) b.stations

-- 'The window is the first window of D, start 0, side right.' Figure 6, line 3.
abbrev pub opening : Bus → Contention
opening b = record { window = first_window b.D; tie = none }

-- 'If no contention is under way, a step first begins one at the present slot T.'
abbrev pub begin : Bus → Bus
begin b =
    record {
      discipline = b.discipline;
      D = b.D;
      A = b.A;
      q = b.q;
      stations = map (entered b) b.stations;
      clock = b.clock;
      admitted = b.admitted;
      sent = b.sent;
      lost = b.lost + drops_of b;
      turned = b.turned;
      last = b.last;
      contention = some (opening b);
    }
