-- The starred examples of paper 01 ('Settled examples') as one table over the definitions, with rows on its traps, on open points that
-- docs/DECISIONS.md settles, on the order of offers, at the edges of the ranges, where the bounds are met, on waits, on begin and probe, on who
-- passes a waiting circuit, and on packets turned away. Each row quotes its line.
-- proofs/Starred.antt proves that no row fails. Assumes nothing.
use Rattle.std.specs.Prelude.{ℕ, zero, suc, ◌+◌, ◌-◌, Bool, true, false, not, ◌&&◌, cond, List, [], ◌∷◌, ◌++◌, map, leb, ltb, eqb, length, take, drop, replicate}
use Rattle.std.proofs.Math.Option.{Option, none, some}
use Rattle.window.specs.declared.Side.TheVariants.{Right}
use Rattle.window.specs.Splitting.{exponent_of, first_window, same_side}
use Rattle.rules.specs.Lists.{total, count_up}
use Rattle.rules.specs.Bus.{Discipline, PRI, RTDG, RTVC, code, Packet, late, Station, Contention, Bus}
use Rattle.rules.specs.SetUp.{Asked, Request, fresh_station, set_up}
use Rattle.rules.specs.Standing.{stands}
use Rattle.rules.specs.Admission.{Admitted, admission_refusal, admit}
use Rattle.rules.specs.Begin.{parameter_of}
use Rattle.rules.specs.Probe.{withdrawn, parameter_phase, tie_phase, idle, collision, success, Answer, wait_of, dropping}
use Rattle.rules.specs.Step.{Contends, Begun, begin_refusal, begin_call, probe_refusal, step_refusal, step}
use Rattle.rules.specs.Closing.{Totals, closing_call}
use Rattle.rules.specs.Engine.{machine, Call, admission, one-begin, one-probe, one-step, Reply, replies, reach, probes_in, admissions_in, begins_in}
use Rattle.rules.specs.Demands.{probes, most_probes, slots_before, contentions_in, idle_contentions_in, slots_in, sends, up_to, most_contentions, most_idle, most_slots, fewer_slots, place, contentions_for, idle_for, slots_for, most_passes, most_idle_between, successes_of, until_success, tally_of, waits_after}

-- ---- rows

-- a test of definitions; or a set-up, calls after it, and a test of the replies to them, or of what the listing closes with
pub data Row : Type 0 where
  fact : Bool → Row
  script : Request → List Call → (List Reply → Bool) → Row
  closed : Request → List Call → (Totals → Bool) → Row

abbrev pub holds : Row → Bool
holds (fact test) = test
holds (script r calls test) = test (replies machine (set_up r).1 calls)
holds (closed r calls test) = test (machine.closing (reach machine r calls))

-- the number of the first row that does not hold, the rows counted from n; none if all hold
abbrev pub failing_from : (Row → Bool) → ℕ → List Row → Option ℕ
failing_from holding n [] = none
failing_from holding n (row ∷ rows) = elim (holding row) [ true ↦ failing_from holding (suc n) rows | false ↦ some n ]

-- ---- words for scripts

-- a station by its address and capability; an arrival by its address, value and length; n steps, n probes
abbrev pub station : ℕ → ℕ → Asked
station address capability = record { address = address; capability = capability }

abbrev pub arrives : ℕ → ℕ → ℕ → Call
arrives address value length = admission (record { address = address; value = value; length = length })

abbrev pub steps : ℕ → List Call
steps zero = []
steps (suc n) = one-step ∷ steps n

abbrev pub probes_of : ℕ → List Call
probes_of n = replicate n one-probe

-- ---- words for lists: whether they are the same, element by element

abbrev pub same_all : {X : Type 0} → (X → X → Bool) → List X → List X → Bool
same_all same [] [] = true
same_all same [] (y ∷ ys) = false
same_all same (x ∷ xs) [] = false
same_all same (x ∷ xs) (y ∷ ys) = same x y && same_all same xs ys

-- ---- words for answers, as in a listing: 'slot phase start size event, phase P or T, event I, C, or S with address, packet number, length', and wait

abbrev pub P : ℕ
P = parameter_phase

abbrev pub T : ℕ
T = tie_phase

abbrev pub line : ℕ → ℕ → ℕ → ℕ → ℕ → ℕ → Answer
line slot phase start size event ended =
    record {
      refusal = 0;
      drops = 0;
      slot = slot;
      phase = phase;
      start = start;
      size = size;
      event = event;
      address = 0;
      number = 0;
      length = 0;
      wait = 0;
      ended = ended;
    }

-- idle, and the contention goes on; idle, and it ends without a winner; a collision
abbrev pub I : ℕ → ℕ → ℕ → ℕ → Answer
I slot phase start size = line slot phase start size idle 0

abbrev pub i_end : ℕ → ℕ → ℕ → ℕ → Answer
i_end slot phase start size = line slot phase start size idle 1

abbrev pub C : ℕ → ℕ → ℕ → ℕ → Answer
C slot phase start size = line slot phase start size collision 0

-- a success, and the contention ends
abbrev pub S : ℕ → ℕ → ℕ → ℕ → ℕ → ℕ → ℕ → ℕ → Answer
S slot phase start size address number length wait =
    record {
      refusal = 0;
      drops = 0;
      slot = slot;
      phase = phase;
      start = start;
      size = size;
      event = success;
      address = address;
      number = number;
      length = length;
      wait = wait;
      ended = 1;
    }

abbrev pub same_answer : Answer → Answer → Bool
same_answer a b =
    eqb a.refusal b.refusal
    && eqb a.drops b.drops
    && eqb a.slot b.slot
    && eqb a.phase b.phase
    && eqb a.start b.start
    && eqb a.size b.size
    && eqb a.event b.event
    && eqb a.address b.address
    && eqb a.number b.number
    && eqb a.length b.length
    && eqb a.wait b.wait
    && eqb a.ended b.ended

-- whether the answers to the probes among replies are these, all of them and in every field
abbrev pub are : List Answer → List Reply → Bool
are expected rs = same_all same_answer expected (probes_in rs)

-- ---- words for the answers to admissions: accepted with a number, refused with a number of the table

abbrev pub taken : ℕ → Admitted
taken number = record { refusal = 0; number = number }

abbrev pub refused : ℕ → Admitted
refused refusal = record { refusal = refusal; number = 0 }

-- whether they are these, all of them
abbrev pub answer : List Admitted → List Reply → Bool
answer expected rs = same_all (λ e a. eqb e.refusal a.refusal && eqb e.number a.number) expected (admissions_in rs)

-- ---- words for the answers to begins: the drops, the slot, the first window's size, and by station who contends

abbrev pub B : ℕ → ℕ → ℕ → List (Option Contends) → Begun
B drops slot size contenders = record { refusal = 0; drops = drops; slot = slot; start = 0; size = size; contenders = contenders }

-- a refused begin, and a refused probe: 'the number, zero in the answer's other fields'
abbrev pub no_begin : ℕ → Begun
no_begin refusal = record { refusal = refusal; drops = 0; slot = 0; start = 0; size = 0; contenders = [] }

abbrev pub no_probe : ℕ → Answer
no_probe refusal =
    record {
      refusal = refusal;
      drops = 0;
      slot = 0;
      phase = 0;
      start = 0;
      size = 0;
      event = 0;
      address = 0;
      number = 0;
      length = 0;
      wait = 0;
      ended = 0;
    }

-- a contender by its address, its packet's number and its parameter
abbrev pub contends : ℕ → ℕ → ℕ → Option Contends
contends address number parameter = some (record { address = address; number = number; parameter = parameter })

abbrev pub same_contends : Option Contends → Option Contends → Bool
same_contends none none = true
same_contends none (some y) = false
same_contends (some x) none = false
same_contends (some x) (some y) = eqb x.address y.address && eqb x.number y.number && eqb x.parameter y.parameter

abbrev pub same_begun : Begun → Begun → Bool
same_begun e o =
    eqb e.refusal o.refusal
    && eqb e.drops o.drops
    && eqb e.slot o.slot
    && eqb e.start o.start
    && eqb e.size o.size
    && same_all same_contends e.contenders o.contenders

-- whether they are these, all of them and in every field
abbrev pub begin_as : List Begun → List Reply → Bool
begin_as expected rs = same_all same_begun expected (begins_in rs)

-- ---- set-ups and calls

-- the worked example's input: set-up, arrivals, and its run of 14 steps
abbrev pub listing : Request
listing = record { discipline = code PRI; D = 4; A = 8; q = 1; N = 3; row = station 1 0 ∷ station 5 0 ∷ station 6 0 ∷ [] }

abbrev pub run : List Call
run = arrives 5 2 3 ∷ arrives 6 2 1 ∷ arrives 1 3 2 ∷ steps 14

-- its output
abbrev pub output : List Answer
output =
    C 0 P 0 4
    ∷ I 1 P 0 2
    ∷ C 2 P 2 2
    ∷ C 3 P 2 1
    ∷ C 4 T 0 8
    ∷ I 5 T 0 4
    ∷ C 6 T 4 4
    ∷ S 7 T 4 2 5 1 3 7
    ∷ C 10 P 0 4
    ∷ I 11 P 0 2
    ∷ C 12 P 2 2
    ∷ S 13 P 2 1 6 2 1 13
    ∷ S 14 P 0 4 1 3 2 14
    ∷ i_end 16 P 0 4
    ∷ []

-- addresses 0, 1, 2, under PRI and under RTDG
abbrev pub pri : ℕ → Request
pri D = record { discipline = code PRI; D = D; A = 4; q = 1; N = 3; row = station 0 0 ∷ station 1 0 ∷ station 2 0 ∷ [] }

abbrev pub rtdg : ℕ → ℕ → Request
rtdg D q = record { discipline = code RTDG; D = D; A = 4; q = q; N = 3; row = station 0 0 ∷ station 1 0 ∷ station 2 0 ∷ [] }

-- capabilities 0, 1, 3 at addresses 5, 6, 7
abbrev pub circuits_in : ℕ → Request
circuits_in D = record { discipline = code RTVC; D = D; A = 8; q = 1; N = 3; row = station 5 0 ∷ station 6 1 ∷ station 7 3 ∷ [] }

abbrev pub circuits : Request
circuits = circuits_in 4

-- addresses 263 and 7, which agree in the lower byte
abbrev pub apart : Request
apart = record { discipline = code PRI; D = 2; A = 512; q = 1; N = 2; row = station 263 0 ∷ station 7 0 ∷ [] }

-- the first window of a space: start 0, this size and number of halvings, side right
abbrev pub first : ℕ → ℕ → ℕ → Bool
first space size halvings =
    eqb (first_window space).start 0
    && eqb (first_window space).size size
    && same_side (first_window space).side Right
    && eqb (exponent_of space) halvings

-- RTDG, D 8, q 10, at slot 100: a packet with this latest start
abbrev pub slot100 : Bus
slot100 =
    record {
      discipline = RTDG;
      D = 8;
      A = 2;
      q = 10;
      stations = [];
      clock = 100;
      admitted = 0;
      sent = 0;
      lost = 0;
      turned = 0;
      last = none;
      contention = none;
    }

abbrev pub starting : ℕ → Packet
starting latest = record { number = 1; value = latest; length = 1; admission = record { 0 = 0 } }

abbrev pub laxity : ℕ → ℕ
laxity latest = parameter_of slot100.discipline slot100 (fresh_station (station 0 0)) (starting latest)

abbrev pub dropped : ℕ → Bool
dropped latest = late slot100.discipline slot100.clock latest

-- the refusal of an arrival right after set-up
abbrev pub refusal : Request → ℕ → ℕ → ℕ → ℕ
refusal r address value length = admission_refusal (set_up r).1 (record { address = address; value = value; length = length })

-- a station with one packet, and what it offers with its priority
abbrev pub offering_of : Packet → ℕ → Packet → Station
offering_of p address offered =
    record { address = address; capability = 0; queue = p ∷ []; offer = some (record { parameter = offered.value; packet = offered }) }

abbrev pub packet_since : ℕ → ℕ → ℕ → ℕ → Packet
packet_since slot number priority length = record { number = number; value = priority; length = length; admission = record { 0 = slot } }

abbrev pub packet : ℕ → ℕ → ℕ → Packet
packet number priority length = packet_since 0 number priority length

abbrev pub offering : ℕ → ℕ → ℕ → Station
offering address number priority = offering_of (packet number priority 1) address (packet number priority 1)

-- PRI, D 4, A 8, with one packet at each of these stations
abbrev pub bus_at : ℕ → Option Contention → List Station → Bus
bus_at slot contention stations =
    record {
      discipline = PRI;
      D = 4;
      A = 8;
      q = 1;
      stations = stations;
      clock = slot;
      admitted = length stations;
      sent = 0;
      lost = 0;
      turned = 0;
      last = none;
      contention = contention;
    }

-- a right window of this start and size, in the parameter phase or with a tied value
abbrev pub right_at : ℕ → ℕ → Option ℕ → Option Contention
right_at start size tie = some (record { window = record { start = start; size = size; side = Right }; tie = tie })

-- contenders with parameters 0 and 3, and a window that starts at 2 with size 2, side right
abbrev pub lent_at : ℕ → Bus
lent_at slot = bus_at slot (right_at 2 2 none) (offering 0 1 0 ∷ offering 1 2 3 ∷ [])

-- a row that repeats an address
abbrev pub repeated : Request
repeated = record { discipline = code PRI; D = 4; A = 8; q = 1; N = 3; row = station 1 0 ∷ station 5 0 ∷ station 1 0 ∷ [] }

-- ---- at the edges of the ranges

-- what refuses a set-up: of n stations under PRI; of one station by its numbers, address and capability
abbrev pub refusal_of : Request → ℕ
refusal_of r = (set_up r).0.refusal

abbrev pub refusal_for : ℕ → ℕ
refusal_for n = refusal_of (record { discipline = code PRI; D = 2; A = 65_536; q = 1; N = n; row = map (λ address. station address 0) (count_up 0 n) })

abbrev pub alone : Discipline → ℕ → ℕ → ℕ → ℕ → ℕ → Request
alone d D A q address capability = record { discipline = code d; D = D; A = A; q = q; N = 1; row = station address capability ∷ [] }

abbrev pub refusal_alone : Discipline → ℕ → ℕ → ℕ → ℕ → ℕ → ℕ
refusal_alone d D A q address capability = refusal_of (alone d D A q address capability)

-- PRI with N 2 and A 2, for a row of any length
abbrev pub pair_of : List Asked → Request
pair_of row = record { discipline = code PRI; D = 2; A = 2; q = 1; N = 2; row = row }

-- by the number of a discipline; of two circuits by their capabilities
abbrev pub refusal_named : ℕ → ℕ
refusal_named discipline = refusal_of (record { discipline = discipline; D = 2; A = 2; q = 1; N = 1; row = station 0 0 ∷ [] })

abbrev pub two_circuits : ℕ → ℕ → Request
two_circuits capability capability' =
    record { discipline = code RTVC; D = 2; A = 2; q = 1; N = 2; row = station 0 capability ∷ station 1 capability' ∷ [] }

-- n arrivals of length 1 at address 0
abbrev pub arrivals : ℕ → List Call
arrivals zero = []
arrivals (suc n) = arrives 0 0 1 ∷ arrivals n

-- so many admissions accepted, numbered from here on
abbrev pub taken_from : ℕ → ℕ → List Admitted
taken_from number n = map taken (count_up number n)

-- PRI, D 4, A 8, station 0 without a packet, when so many packets have been admitted and sent
abbrev pub sent_all : ℕ → Bus
sent_all n =
    record {
      discipline = PRI;
      D = 4;
      A = 8;
      q = 1;
      stations = fresh_station (station 0 0) ∷ [];
      clock = 0;
      admitted = n;
      sent = n;
      lost = 0;
      turned = 0;
      last = none;
      contention = none;
    }

-- the answer to an arrival at that station
abbrev pub next_number : ℕ → Admitted
next_number n = (admit (sent_all n) (record { address = 0; value = 0; length = 1 })).0

-- ---- where the bounds are met: D 2, A 2, so L 1 and M 1, and two stations at addresses 0 and 1; under RTVC circuits 0 and 1

abbrev pub pair : Discipline → Request
pair d = record { discipline = code d; D = 2; A = 2; q = 1; N = 2; row = station 0 0 ∷ station 1 (cond (eqb (code d) (code RTVC)) 1 0) ∷ [] }

-- the answers from the (n + 1)th step on, up to the end of a packet, by its address and number
abbrev pub until_sent : ℕ → ℕ → ℕ → List Reply → List Answer
until_sent n address number rs = up_to (sends (fresh_station (station address 0)) (packet number 0 0)) (drop n (probes_in rs))

-- ---- between two successes of a circuit

-- the answers after the first n replies, up to the next success of an address
abbrev pub between : ℕ → ℕ → List Reply → List Answer
between n address rs = until_success address (drop n rs)

-- whether a packet waits there at the beginning of each contention among them
abbrev pub waits_between : ℕ → ℕ → List Call → List Reply → Bool
waits_between n address calls rs = waits_after address (take n calls) (take n rs) (drop n calls) (drop n rs)

-- the place of the last packet that waits at an address after the first n calls
abbrev pub place_after : ℕ → ℕ → List Call → List Reply → ℕ
place_after n address calls rs = place (replicate ((tally_of address (take n calls) (take n rs)).waiting - 1) (packet 1 0 1))

-- circuit 1 has sent, and sends its last packet; circuit 0 has a packet waiting all the time, and circuit 3 has one
abbrev pub chatty : List Call
chatty = arrives 6 0 1 ∷ one-step ∷ arrives 5 0 1 ∷ arrives 5 0 1 ∷ arrives 6 0 1 ∷ arrives 7 0 1 ∷ steps 7

-- circuit 1 has sent and has no packet, but one comes before the next begin; circuit 3 has one after that begin; a probe, an admission and a begin are
-- refused, and a begin without a probe comes last
abbrev pub filled_again : List Call
filled_again =
    arrives 6 0 1
    ∷ one-begin
    ∷ one-probe
    ∷ one-probe
    ∷ arrives 9 0 1
    ∷ arrives 5 0 1
    ∷ arrives 6 0 1
    ∷ one-begin
    ∷ one-begin
    ∷ arrives 7 0 1
    ∷ one-probe
    ∷ steps 3
    ++ (one-begin ∷ [])

-- circuit 1 has sent, an admission of its own is refused, and it has a packet again only after three contentions of these calls each
abbrev pub comes_late : List Call → List Call
comes_late contention =
    arrives 6 0 1
    ∷ one-step
    ∷ arrives 5 0 1
    ∷ arrives 5 0 1
    ∷ arrives 6 1 1
    ∷ contention
    ++ (contention ++ (contention ++ (arrives 6 0 1 ∷ steps 4)))

-- circuit 0 succeeds twice before it, and two contentions are idle
abbrev pub passed_twice : List Call → Row
passed_twice contention =
    script
    circuits
    (comes_late contention)
    (λ rs.
    are
    (S 0 P 0 4 6 1 1 0
    ∷ i_end 1 P 0 4
    ∷ S 2 P 0 4 5 2 1 1
    ∷ i_end 3 P 0 4
    ∷ C 4 P 0 4
    ∷ C 5 P 0 2
    ∷ S 6 P 0 1 5 3 1 5
    ∷ S 7 P 0 4 6 4 1 3
    ∷ [])
    rs
    && eqb (successes_of 5 (between 2 6 rs)) (suc most_passes)
    && eqb (idle_contentions_in (between 2 6 rs)) (suc most_idle_between)
    && not (waits_between 2 6 (comes_late contention) rs))

-- circuit 1 has sent, and has a packet again only once a contention has begun
abbrev pub after_the_begin : List Call
after_the_begin = arrives 6 0 1 ∷ one-step ∷ one-begin ∷ arrives 6 0 1 ∷ one-probe ∷ []

-- circuit 0 of two has sent, and both have two packets
abbrev pub two_each : List Call
two_each = arrives 0 0 1 ∷ one-step ∷ arrives 0 0 1 ∷ arrives 0 0 1 ∷ arrives 1 0 1 ∷ arrives 1 0 1 ∷ steps 7

-- circuit 1 of two has sent, and both have three packets
abbrev pub three_each : List Call
three_each =
    arrives 1 0 1
    ∷ one-step
    ∷ arrives 0 0 1
    ∷ arrives 0 0 1
    ∷ arrives 0 0 1
    ∷ arrives 1 0 1
    ∷ arrives 1 0 1
    ∷ arrives 1 0 1
    ∷ steps 12

-- circuit 1 of two has sent, and two packets came to both while its contention was under way
abbrev pub meanwhile : List Call
meanwhile = arrives 1 0 1 ∷ one-begin ∷ arrives 0 0 1 ∷ arrives 0 0 1 ∷ arrives 1 0 1 ∷ arrives 1 0 1 ∷ one-probe ∷ []

-- ---- waits

-- at station 1, arrivals with times 0 and 1 and lengths 10 and 1, as a run admits them: the second once the first has been sent
abbrev pub admitted_later : List Call
admitted_later = arrives 1 0 10 ∷ one-step ∷ arrives 1 0 1 ∷ one-step ∷ []

-- a station with one packet, admitted in this slot, and what it offers
abbrev pub offering_since : ℕ → ℕ → Station
offering_since slot offered = offering_of (packet_since slot 1 0 1) 0 (packet_since offered 1 0 1)

-- ---- begin and probe

-- PRI, D 4, A 8: a packet at station 0, and no contention under way
abbrev pub between_at : ℕ → Bus
between_at slot = bus_at slot none (withdrawn (offering 0 1 0) ∷ [])

-- ---- packets turned away

-- 'END clock admitted sent lost waiting', and the packets turned away
abbrev pub END : ℕ → ℕ → ℕ → ℕ → ℕ → ℕ → Totals → Bool
END clock admitted sent lost waiting turned t =
    eqb t.refusal 0
    && eqb t.clock clock
    && eqb t.admitted admitted
    && eqb t.sent sent
    && eqb t.lost lost
    && eqb t.waiting waiting
    && eqb t.turned turned

-- PRI, D 4, A 8, station 0 with sixteen packets, when so many packets have been turned away
abbrev pub crowded : ℕ → Bus
crowded turned =
    record {
      discipline = PRI;
      D = 4;
      A = 8;
      q = 1;
      stations = record { address = 0; capability = 0; queue = map (λ number. packet number 0 1) (count_up 1 16); offer = none } ∷ [];
      clock = 0;
      admitted = 16;
      sent = 0;
      lost = 0;
      turned = turned;
      last = none;
      contention = none;
    }

-- the refusal of a 17th packet there, and the count after it
abbrev pub seventeenth : ℕ → ℕ × ℕ
seventeenth turned =
    let said = admit (crowded turned) (record { address = 0; value = 0; length = 1 }) in (said.0.refusal, said.1.turned)

-- an admission that is refused with 16, and the count after it
abbrev pub uncounted : ℕ × ℕ
uncounted = let said = admit (sent_all 4_294_967_295) (record { address = 0; value = 0; length = 1 }) in (said.0.refusal, said.1.turned)

abbrev pub same_pair : ℕ × ℕ → ℕ × ℕ → Bool
same_pair x y = eqb x.0 y.0 && eqb x.1 y.1

-- what it closes with, when so many packets have been turned away: the refusal and the count
abbrev pub closes_with : ℕ → ℕ × ℕ → Bool
closes_with turned said = same_pair ((closing_call (crowded turned)).refusal, (closing_call (crowded turned)).turned) said

-- ---- the table, in eight parts

-- the settled examples, traps and open points
abbrev pub settled : List Row
settled =
    -- 1 to 4: 'First windows for 2, 4, 5, 65,536, as above': 2 to 2, 4 to 4, 5 to 8, 65,536 to 65,536
    fact (first 2 2 1)
    ∷ fact (first 4 4 2)
    ∷ fact (first 5 8 3)
    ∷ fact (first 65_536 65_536 16)
    -- 5 to 8: the same windows as a contention opens them
    ∷ script (pri 2) (steps 1) (are (i_end 0 P 0 2 ∷ []))
    ∷ script (pri 4) (steps 1) (are (i_end 0 P 0 4 ∷ []))
    ∷ script (pri 5) (steps 1) (are (i_end 0 P 0 8 ∷ []))
    ∷ script (pri 65_536) (steps 1) (are (i_end 0 P 0 65_536 ∷ []))
    -- 9 to 11: 'RTDG, D 8, q 10, T 100: latest start 100 and 109 give 0, 110 gives 1, 179 and 180 give 7; 99 is dropped.'
    ∷ fact (eqb (laxity 100) 0 && eqb (laxity 109) 0)
    ∷ fact (eqb (laxity 110) 1 && eqb (laxity 179) 7 && eqb (laxity 180) 7)
    ∷ fact (dropped 99 && not (dropped 100))
    -- 12: the same by calls: a packet of 99 slots sent at slot 1, then 109 and 110 against each other, and 99 dropped
    ∷ script
    (rtdg 8 10)
    (arrives 0 5 99 ∷ arrives 2 99 1 ∷ steps 2 ++ (arrives 0 110 1 ∷ arrives 1 109 1 ∷ steps 4))
    (are (C 0 P 0 8 ∷ S 1 P 0 4 0 1 99 1 ∷ dropping 1 (C 100 P 0 8) ∷ C 101 P 0 4 ∷ C 102 P 0 2 ∷ S 103 P 0 1 1 4 1 3 ∷ []))
    -- 13: 'RTDG, D 2, q 1, T 0, latest starts 0 and 1 at two stations: collision, idle, idle, no winner; the contention at slot 3 drops 2.'
    ∷ script (rtdg 2 1) (arrives 0 0 1 ∷ arrives 1 1 1 ∷ steps 4) (are (C 0 P 0 2 ∷ I 1 P 0 1 ∷ i_end 2 P 1 1 ∷ dropping 2 (i_end 3 P 0 2) ∷ []))
    -- 14: 'RTVC, D 4, capabilities 0, 1, 3, last winner 1, packets at 1 and 3: 3 wins, one idle contention, 1 wins.' First 1 wins alone.
    ∷ script
    circuits
    (arrives 6 0 1 ∷ steps 1 ++ (arrives 6 0 1 ∷ arrives 7 0 1 ∷ steps 3))
    (are (S 0 P 0 4 6 1 1 0 ∷ S 1 P 0 4 7 3 1 0 ∷ i_end 2 P 0 4 ∷ S 3 P 0 4 6 2 1 2 ∷ []))
    -- 15: 'Bound for N 3, L 2, P 5: 25 slots.'
    ∷ fact (eqb (most_slots 3 2 5) 25)
    -- 16: 'Addresses 7 and 263 (hexadecimal 0107) with equal priority: 7 wins.'
    ∷ script
    apart
    (arrives 263 0 1 ∷ arrives 7 0 1 ∷ steps 5)
    (are (C 0 P 0 2 ∷ C 1 P 0 1 ∷ C 2 T 0 512 ∷ S 3 T 0 256 7 2 1 3 ∷ S 4 P 0 2 263 1 1 4 ∷ []))
    -- 17: RTDG, D 4, q 4, T 0, latest starts 1, 1, 15: the contention ends without a winner though the third could still start
    ∷ script
    (rtdg 4 4)
    (arrives 0 1 1 ∷ arrives 1 1 1 ∷ arrives 2 15 1 ∷ steps 5)
    (are (C 0 P 0 4 ∷ C 1 P 0 2 ∷ I 2 P 0 1 ∷ i_end 3 P 1 1 ∷ dropping 2 (S 4 P 0 4 2 3 1 4) ∷ []))
    -- 18: 'a packet admitted while a contention is under way does not join it': priority 0 comes at slot 1
    ∷ script
    listing
    (arrives 5 2 1 ∷ arrives 6 3 1 ∷ steps 1 ++ (arrives 1 0 1 ∷ steps 5))
    (are (C 0 P 0 4 ∷ I 1 P 0 2 ∷ C 2 P 2 2 ∷ S 3 P 2 1 5 1 1 3 ∷ C 4 P 0 4 ∷ S 5 P 0 2 1 3 1 4 ∷ []))
    -- 19: 'tries 1, then 11 to 16': an unknown address with length 0 gives 11, and a known one 13
    ∷ fact (eqb (refusal listing 9 0 0) 11 && eqb (refusal listing 1 0 0) 13)
    -- 20: of a lent state that stands and that no calls reach demand 2's words do not hold: 3 wins though 0 could start
    ∷ fact (stands (lent_at 0) && same_answer (S 0 P 2 2 1 2 1 0) (step (lent_at 0)).0)
    -- 21: a refused set-up 'hands back its number and an all-zero state, which refusal 1 catches'
    ∷ fact (eqb (set_up (pri 1)).0.refusal 3 && eqb (step_refusal (set_up (pri 1)).1) 1)
    -- 22: 'the first faulty station in the listed order decides': the third repeats the first one's address
    ∷ fact (eqb (set_up repeated).0.refusal 8 && eqb (set_up repeated).0.station 2)
    -- 23: 'What has no meaning is zero: .. contenders between contentions'
    ∷ fact (not (stands (bus_at 0 none (offering 0 1 0 ∷ []))) && stands (bus_at 0 none (withdrawn (offering 0 1 0) ∷ [])))
    -- 24: the largest space of 32 bits
    ∷ fact (first 4_294_967_295 4_294_967_296 32)
    -- 25: 'each contender's packet in its own station's queue': the packet whole
    ∷ fact
    (not (stands (bus_at 0 (right_at 0 4 none) (offering_of (packet 1 0 1) 0 (packet 1 0 2) ∷ [])))
    && stands (bus_at 0 (right_at 0 4 none) (offering 0 1 0 ∷ [])))
    -- 26: 'no larger than the first window, starting inside it': in the tie phase that of A
    ∷ fact (stands (bus_at 0 (right_at 4 4 (some 0)) (offering 0 1 0 ∷ [])) && not (stands (bus_at 0 (right_at 4 4 none) (offering 0 1 0 ∷ []))))
    -- 27: 'Clock 1,073,737,728 steps; 1,073,737,729 gives 17', also while a contention is under way
    ∷ fact (eqb (step_refusal (lent_at 1_073_737_728)) 0 && eqb (step_refusal (lent_at 1_073_737_729)) 17)
    -- 28: 'The first contention of the listing takes 8 probes, its second 4'; and the listing itself
    ∷ script listing run (λ rs. are output rs && eqb (probes (probes_in rs)) 8 && eqb (probes (drop 8 (probes_in rs))) 4)
    ∷ []

-- which packet a station offers, and which station goes before which
abbrev pub orders : List Row
orders =
    -- 29, 30: 'PRI and RTDG the smallest value, the lowest packet number among equals', of three packets in one queue: the second, the third, the first
    script
    (pri 4)
    (arrives 0 3 1 ∷ arrives 0 1 2 ∷ arrives 0 1 3 ∷ steps 3)
    (are (S 0 P 0 4 0 2 2 0 ∷ S 2 P 0 4 0 3 3 2 ∷ S 5 P 0 4 0 1 1 5 ∷ []))
    ∷ script
    (rtdg 4 4)
    (arrives 0 30 1 ∷ arrives 0 20 2 ∷ arrives 0 20 3 ∷ steps 3)
    (are (S 0 P 0 4 0 2 2 0 ∷ S 2 P 0 4 0 3 3 2 ∷ S 5 P 0 4 0 1 1 5 ∷ []))
    -- 31: 'RTVC the lowest packet number', of three packets in one queue; between two of them a round ends
    ∷ script
    circuits
    (arrives 5 0 1 ∷ arrives 5 0 2 ∷ arrives 5 0 3 ∷ steps 5)
    (are (S 0 P 0 4 5 1 1 0 ∷ i_end 1 P 0 4 ∷ S 2 P 0 4 5 2 2 2 ∷ i_end 4 P 0 4 ∷ S 5 P 0 4 5 3 3 5 ∷ []))
    -- 32: row 14 in a larger space: the round goes on after the top circuit, which is not D - 1
    ∷ script
    (circuits_in 8)
    (arrives 6 0 1 ∷ steps 1 ++ (arrives 6 0 1 ∷ arrives 7 0 1 ∷ steps 3))
    (are (S 0 P 0 8 6 1 1 0 ∷ S 1 P 0 8 7 3 1 0 ∷ i_end 2 P 0 8 ∷ S 3 P 0 8 6 2 1 2 ∷ []))
    ∷ []

-- the edges of the ranges, on both sides
abbrev pub edges : List Row
edges =
    -- 33: 'discipline is not 0 PRI, 1 RTDG, 2 RTVC'
    fact
    (eqb (refusal_named 0) 0
    && eqb (refusal_named 1) 0
    && eqb (refusal_named 2) 0
    && eqb (refusal_named 3) 2)
    -- 34, 35: 'parameter space D', 'address space A: 2 to 65,536'
    ∷ fact
    (eqb (refusal_alone PRI 1 2 1 0 0) 3
    && eqb (refusal_alone PRI 2 2 1 0 0) 0
    && eqb (refusal_alone PRI 65_536 2 1 0 0) 0
    && eqb (refusal_alone PRI 65_537 2 1 0 0) 3)
    ∷ fact
    (eqb (refusal_alone PRI 2 1 1 0 0) 4
    && eqb (refusal_alone PRI 2 2 1 0 0) 0
    && eqb (refusal_alone PRI 2 65_536 1 0 0) 0
    && eqb (refusal_alone PRI 2 65_537 1 0 0) 4)
    -- 36: 'address: 0 to A - 1'
    ∷ fact (eqb (refusal_alone PRI 2 300 1 299 0) 0 && eqb (refusal_alone PRI 2 300 1 300 0) 7)
    -- 37: 'capability: RTVC: 0 to D - 1, distinct; otherwise 0'
    ∷ fact
    (eqb (refusal_alone RTVC 300 2 1 0 299) 0
    && eqb (refusal_alone RTVC 300 2 1 0 300) 9
    && eqb (refusal_alone PRI 300 2 1 0 1) 9
    && eqb (refusal_alone RTDG 300 2 1 0 1) 9)
    -- 38: 'distinct' in RTVC
    ∷ fact (eqb (refusal_of (two_circuits 1 1)) 10 && eqb (refusal_of (two_circuits 0 1)) 0)
    -- 39: 'laxity step q: RTDG: 1 to 65,535; otherwise exactly 1'
    ∷ fact
    (eqb (refusal_alone RTDG 2 2 0 0 0) 5
    && eqb (refusal_alone RTDG 2 2 1 0 0) 0
    && eqb (refusal_alone RTDG 2 2 65_535 0 0) 0
    && eqb (refusal_alone RTDG 2 2 65_536 0 0) 5)
    -- 40: the same under the other two
    ∷ fact
    (eqb (refusal_alone PRI 2 2 0 0 0) 5
    && eqb (refusal_alone PRI 2 2 2 0 0) 5
    && eqb (refusal_alone RTVC 2 2 0 0 0) 5
    && eqb (refusal_alone RTVC 2 2 1 0 0) 0
    && eqb (refusal_alone RTVC 2 2 2 0 0) 5)
    -- 41: 'packet length: 1 to 4,096 slots'
    ∷ fact
    (eqb (refusal listing 1 0 0) 13
    && eqb (refusal listing 1 0 1) 0
    && eqb (refusal listing 1 0 4_096) 0
    && eqb (refusal listing 1 0 4_097) 13)
    -- 42: 'for PRI, a priority 0 to D - 1'; 'for RTDG .. 0 to 1,073,741,824'; 'for RTVC, 0'
    ∷ fact
    (eqb (refusal listing 1 3 1) 0
    && eqb (refusal listing 1 4 1) 12
    && eqb (refusal (rtdg 2 1) 1 1_073_741_824 1) 0
    && eqb (refusal (rtdg 2 1) 1 1_073_741_825 1) 12
    && eqb (refusal circuits 5 0 1) 0
    && eqb (refusal circuits 5 1 1) 12)
    -- 43: 'RTDG latest start below the present clock'; 'Latest start equal to the clock is admitted'
    ∷ script (rtdg 2 1) (steps 5 ++ (arrives 1 4 1 ∷ arrives 1 5 1 ∷ [])) (answer (refused 14 ∷ taken 1 ∷ []))
    -- 44: 'clock: slots 0 to 1,073,741,824'
    ∷ fact (stands (lent_at 1_073_741_824) && not (stands (lent_at 1_073_741_825)))
    -- 45: 'packets admitted: at most 4,294,967,295'
    ∷ fact
    (eqb (next_number 4_294_967_294).refusal 0
    && eqb (next_number 4_294_967_294).number 4_294_967_295
    && eqb (next_number 4_294_967_295).refusal 16
    && eqb (next_number 4_294_967_296).refusal 1)
    -- 46: 'An accepted packet is numbered 1, 2, 3 and so on; the number is the answer', refused ones and a step in between
    ∷ script
    listing
    (arrives 1 0 1 ∷ arrives 9 0 1 ∷ arrives 5 1 1 ∷ arrives 5 4 1 ∷ one-step ∷ arrives 1 0 1 ∷ [])
    (answer (taken 1 ∷ refused 11 ∷ taken 2 ∷ refused 12 ∷ taken 3 ∷ []))
    -- 47: 'A station row shorter than N gives 6; what stands past N is unread', be it an address at A or one that an earlier station has
    ∷ fact
    (eqb (refusal_of (pair_of (station 0 0 ∷ []))) 6
    && eqb (refusal_of (pair_of (station 0 0 ∷ station 1 0 ∷ []))) 0
    && eqb (refusal_of (pair_of (station 0 0 ∷ station 1 0 ∷ station 2 0 ∷ station 0 0 ∷ []))) 0)
    -- 48: 'queue: 16 packets a station'; 'The 17th packet gives 15'; 'A place freed by a sent .. packet can be filled again'
    ∷ script
    (pri 2)
    (arrivals 17 ++ (one-step ∷ arrivals 2))
    (answer (taken_from 1 16 ++ (refused 15 ∷ taken 17 ∷ refused 15 ∷ [])))
    -- 49: 'or dropped packet': sixteen with latest start 0, which a collision delays and the next contention drops
    ∷ script (rtdg 2 1) (arrives 1 0 1 ∷ arrivals 16 ++ steps 4 ++ (arrives 0 4 1 ∷ [])) (answer (taken_from 1 18))
    -- 50: 'stations N: 1 to 64'
    ∷ fact (eqb (refusal_for 0) 6 && eqb (refusal_for 1) 0 && eqb (refusal_for 64) 0 && eqb (refusal_for 65) 6)
    ∷ []

-- where the bounds are met
abbrev pub bounds : List Row
bounds =
    -- 51: the most probes in RTDG, 2L + 2M + 2: latest starts 3 and 9, of which the first is late when its address is probed
    script
    (pair RTDG)
    (arrives 0 3 1 ∷ arrives 1 9 1 ∷ steps 6)
    (λ rs.
    are (C 0 P 0 2 ∷ I 1 P 0 1 ∷ C 2 P 1 1 ∷ C 3 T 0 2 ∷ I 4 T 0 1 ∷ S 5 T 1 1 1 2 1 5 ∷ []) rs
    && eqb (probes (probes_in rs)) (most_probes RTDG 1 1))
    -- 52: the most in PRI, 2L + 2M + 1: both priority 1
    ∷ script
    (pair PRI)
    (arrives 0 1 1 ∷ arrives 1 1 1 ∷ steps 5)
    (λ rs.
    are (C 0 P 0 2 ∷ I 1 P 0 1 ∷ C 2 P 1 1 ∷ C 3 T 0 2 ∷ S 4 T 0 1 0 1 1 4 ∷ []) rs
    && eqb (probes (probes_in rs)) (most_probes PRI 1 1))
    -- 53: the most in RTVC, 2L
    ∷ script
    (pair RTVC)
    (arrives 0 0 1 ∷ arrives 1 0 1 ∷ steps 2)
    (λ rs. are (C 0 P 0 2 ∷ S 1 P 0 1 0 1 1 1 ∷ []) rs && eqb (probes (probes_in rs)) (most_probes RTVC 1 1))
    -- 54: 'within N + 1 contentions, at most one of them idle': last winner 0, packets at both; that of circuit 0 takes 3, one of them idle
    ∷ script
    (pair RTVC)
    (arrives 0 0 1 ∷ one-step ∷ arrives 0 0 1 ∷ arrives 1 0 1 ∷ steps 3)
    (λ rs.
    are (S 0 P 0 2 0 1 1 0 ∷ S 1 P 0 2 1 3 1 0 ∷ i_end 2 P 0 2 ∷ S 3 P 0 2 0 2 1 2 ∷ []) rs
    && eqb (contentions_in (until_sent 1 0 2 rs)) (most_contentions 2)
    && eqb (idle_contentions_in (until_sent 1 0 2 rs)) most_idle)
    -- 55: 'within N × (2L − 1 + P) + 1 slots', and N × (2L − 1 + P): last winner 1, packets of one slot at both; that of circuit 1 takes 4
    ∷ script
    (pair RTVC)
    (arrives 1 0 1 ∷ one-step ∷ arrives 0 0 1 ∷ arrives 1 0 1 ∷ steps 4)
    (λ rs.
    are (S 0 P 0 2 1 1 1 0 ∷ i_end 1 P 0 2 ∷ C 2 P 0 2 ∷ S 3 P 0 1 0 2 1 2 ∷ S 4 P 0 2 1 3 1 3 ∷ []) rs
    && eqb (slots_in (until_sent 1 1 3 rs)) 4
    && leb (slots_in (until_sent 1 1 3 rs)) (most_slots 2 1 1)
    && eqb (slots_in (until_sent 1 1 3 rs)) (fewer_slots 2 1 1))
    ∷ []

-- how long packets waited
abbrev pub waits : List Row
waits =
    -- 56: 'its admission slot' is the clock at the admission and not the arrival's time: the second packet is admitted at slot 10, and its wait is 0
    script listing admitted_later (are (S 0 P 0 4 1 1 10 0 ∷ S 10 P 0 4 1 2 1 0 ∷ []))
    -- 57: the wait is that of the packet sent, and not of the first in its queue: packet 3 has come at slot 4, packet 2 at slot 0
    ∷ script
    listing
    (arrives 1 2 4 ∷ arrives 1 2 1 ∷ one-step ∷ arrives 1 0 1 ∷ steps 2)
    (λ rs.
    are (S 0 P 0 4 1 1 4 0 ∷ S 4 P 0 4 1 3 1 0 ∷ S 5 P 0 4 1 2 1 5 ∷ []) rs
    && eqb (slots_before 3 rs) 4
    && eqb (slots_before 2 rs) 0)
    -- 58: a packet that comes while a contention is under way waits from its own admission, and refused calls take no slot
    ∷ script
    listing
    (arrives 5 2 1 ∷ arrives 6 3 1 ∷ one-step ∷ arrives 9 0 1 ∷ arrives 1 0 1 ∷ arrives 1 4 1 ∷ steps 5)
    (λ rs.
    are (C 0 P 0 4 ∷ I 1 P 0 2 ∷ C 2 P 2 2 ∷ S 3 P 2 1 5 1 1 3 ∷ C 4 P 0 4 ∷ S 5 P 0 2 1 3 1 4 ∷ []) rs
    && eqb (slots_before 3 rs) 1)
    -- 59: 'admission slot not above the clock'
    ∷ fact
    (stands (bus_at 5 none (withdrawn (offering_since 5 5) ∷ [])) && not (stands (bus_at 5 none (withdrawn (offering_since 6 6) ∷ []))))
    -- 60: 'each contender's packet in its own station's queue', its admission slot with it
    ∷ fact
    (stands (bus_at 5 (right_at 0 4 none) (offering_since 5 5 ∷ []))
    && not (stands (bus_at 5 (right_at 0 4 none) (offering_since 4 5 ∷ [])))
    && not (stands (bus_at 5 (right_at 0 4 none) (offering_since 5 4 ∷ []))))
    -- 61: the wait of a circuit's oldest packet, and its length, meet N × (2L − 1 + P): row 55, in which packet 3 has come as the contention begins
    ∷ script
    (pair RTVC)
    (arrives 1 0 1 ∷ one-step ∷ arrives 0 0 1 ∷ arrives 1 0 1 ∷ steps 4)
    (λ rs. eqb (total (λ a. a.wait + a.length) (drop 4 (probes_in rs))) (fewer_slots 2 1 1))
    ∷ []

-- begin and probe as two calls
abbrev pub beginnings : List Row
beginnings =
    -- 62: 'to see who contends and what was dropped before the first slot is spent': row 12 with a begin at slot 100, where 99 is dropped
    script
    (rtdg 8 10)
    (arrives 0 5 99 ∷ arrives 2 99 1 ∷ steps 2 ++ (arrives 0 110 1 ∷ arrives 1 109 1 ∷ one-begin ∷ probes_of 2))
    (λ rs.
    begin_as (B 1 100 8 (contends 0 3 1 ∷ contends 1 4 0 ∷ none ∷ []) ∷ []) rs
    && are (C 0 P 0 8 ∷ S 1 P 0 4 0 1 99 1 ∷ C 100 P 0 8 ∷ C 101 P 0 4 ∷ []) rs)
    -- 63: 'A packet admitted between the two does not join': priority 0 comes after the begin, and contends in the next contention
    ∷ script
    listing
    (arrives 5 2 1 ∷ one-begin ∷ arrives 1 0 1 ∷ one-probe ∷ one-begin ∷ one-probe ∷ [])
    (λ rs.
    begin_as (B 0 0 4 (none ∷ contends 5 1 2 ∷ none ∷ []) ∷ B 0 1 4 (contends 1 2 0 ∷ none ∷ none ∷ []) ∷ []) rs
    && are (S 0 P 0 4 5 1 1 0 ∷ S 1 P 0 4 1 2 1 1 ∷ []) rs)
    -- 64: '25, begin while one is under way; 26, probe while none is', each with zeros, and the state as lent: what came since does not contend
    ∷ script
    listing
    (one-probe ∷ arrives 5 2 1 ∷ one-begin ∷ arrives 1 0 1 ∷ one-begin ∷ one-probe ∷ one-probe ∷ [])
    (λ rs.
    begin_as (B 0 0 4 (none ∷ contends 5 1 2 ∷ none ∷ []) ∷ no_begin 25 ∷ []) rs
    && are (no_probe 26 ∷ S 0 P 0 4 5 1 1 0 ∷ no_probe 26 ∷ []) rs)
    -- 65: 'both after 1, and 26 before 17, which belongs to the probe'
    ∷ fact
    (eqb (begin_refusal (between_at 1_073_741_825)) 1
    && eqb (begin_refusal (lent_at 1_073_741_825)) 1
    && eqb (begin_refusal (lent_at 1_073_741_824)) 25
    && eqb (probe_refusal (between_at 1_073_741_825)) 1
    && eqb (probe_refusal (between_at 1_073_737_729)) 26
    && eqb (probe_refusal (lent_at 1_073_737_729)) 17
    && eqb (probe_refusal (lent_at 1_073_737_728)) 0)
    -- 66: a begin is accepted at any clock of a state that stands, and takes no slot; the probe after it is refused with 17, and so is a step
    ∷ fact
    (same_begun (B 0 1_073_741_824 4 (contends 0 1 0 ∷ [])) (begin_call (between_at 1_073_741_824)).0
    && eqb (begin_call (between_at 1_073_741_824)).1.clock 1_073_741_824
    && eqb (probe_refusal (begin_call (between_at 1_073_737_729)).1) 17
    && eqb (step_refusal (between_at 1_073_737_729)) 17)
    -- 67: a contention without contenders, where circuit 0 has won and sits out: its one probe is idle, ends it and ends the round
    ∷ script
    circuits
    (arrives 5 0 1 ∷ arrives 5 0 1 ∷ one-step ∷ one-begin ∷ one-probe ∷ one-step ∷ [])
    (λ rs. begin_as (B 0 1 4 (none ∷ none ∷ none ∷ []) ∷ []) rs && are (S 0 P 0 4 5 1 1 0 ∷ i_end 1 P 0 4 ∷ S 2 P 0 4 5 2 1 2 ∷ []) rs)
    -- 68: a begin drops and its probe does not: row 13 in begins and probes, and a step in a contention that a begin has begun
    ∷ script
    (rtdg 2 1)
    (arrives 0 0 1 ∷ arrives 1 1 1 ∷ one-begin ∷ probes_of 2 ++ (one-step ∷ one-begin ∷ one-step ∷ []))
    (λ rs.
    begin_as (B 0 0 2 (contends 0 1 0 ∷ contends 1 2 1 ∷ none ∷ []) ∷ B 2 3 2 (none ∷ none ∷ none ∷ []) ∷ []) rs
    && are (C 0 P 0 2 ∷ I 1 P 0 1 ∷ i_end 2 P 1 1 ∷ i_end 3 P 0 2 ∷ []) rs)
    -- 69: 'The window is the first window of D': a begin shows 8 where D is 5
    ∷ script (pri 5) (arrives 1 4 1 ∷ one-begin ∷ []) (begin_as (B 0 0 8 (none ∷ contends 1 1 4 ∷ none ∷ []) ∷ []))
    ∷ []

-- who passes a waiting circuit, and the later packets of a queue
abbrev pub passes : List Row
passes =
    -- 70: 'each other circuit succeeds at most once between them, and at most one contention between them is idle': between two successes of circuit 1 each
    -- of the others succeeds once, though circuit 0 has another packet, and one contention is idle; that it has no packet at the beginning after does not
    -- matter
    script
    circuits
    chatty
    (λ rs.
    are
    (S 0 P 0 4 6 1 1 0
    ∷ S 1 P 0 4 7 5 1 0
    ∷ i_end 2 P 0 4
    ∷ C 3 P 0 4
    ∷ C 4 P 0 2
    ∷ S 5 P 0 1 5 2 1 4
    ∷ S 6 P 0 4 6 4 1 5
    ∷ i_end 7 P 0 4
    ∷ [])
    rs
    && eqb (successes_of 5 (between 2 6 rs)) most_passes
    && eqb (successes_of 7 (between 2 6 rs)) most_passes
    && eqb (idle_contentions_in (between 2 6 rs)) most_idle_between
    && waits_between 2 6 chatty rs)
    -- 71: 'waiting at the beginning', whatever else is called: the queue may be empty until the next begin; and all answers there are, if the next success
    -- has not come yet
    ∷ script
    circuits
    filled_again
    (λ rs.
    are (S 0 P 0 4 6 1 1 0 ∷ no_probe 26 ∷ i_end 1 P 0 4 ∷ C 2 P 0 4 ∷ C 3 P 0 2 ∷ S 4 P 0 1 5 2 1 3 ∷ []) rs
    && eqb (successes_of 5 (between 3 6 rs)) most_passes
    && eqb (idle_contentions_in (between 3 6 rs)) most_idle_between
    && waits_between 3 6 filled_again rs)
    -- 72, 73: 'if a circuit has a packet waiting at the beginning of every contention': circuit 1 has none at three beginnings, those of steps or of begins
    ∷ passed_twice (one-step ∷ [])
    ∷ passed_twice (one-begin ∷ one-probe ∷ [])
    -- 74: 'waiting at the beginning': a packet that comes after the begin does not wait at it, though it comes before the first slot
    ∷ script
    circuits
    after_the_begin
    (λ rs. are (S 0 P 0 4 6 1 1 0 ∷ i_end 1 P 0 4 ∷ []) rs && not (waits_between 2 6 after_the_begin rs))
    -- 75: 'for the j-th packet in a queue .. j times the bound for the oldest': row 54 with two packets at both; the second of circuit 0 takes 2 × 3
    -- contentions, two of them idle
    ∷ script
    (pair RTVC)
    two_each
    (λ rs.
    eqb (contentions_in (until_sent 1 0 3 rs)) (contentions_for (place_after 4 0 two_each rs) 2)
    && eqb (idle_contentions_in (until_sent 1 0 3 rs)) (idle_for (place_after 4 0 two_each rs)))
    -- 76: row 55 with three packets at both: the second of circuit 1 takes 2 × 4 slots, more than once the bound, and the third 3 × 4, more than twice
    ∷ script
    (pair RTVC)
    three_each
    (λ rs.
    eqb (slots_in (until_sent 1 1 6 rs)) (slots_for (place_after 7 1 three_each rs) fewer_slots 2 1 1)
    && ltb (slots_for 1 most_slots 2 1 1) (slots_in (until_sent 1 1 6 rs))
    && eqb (slots_in (until_sent 1 1 7 rs)) (slots_for (place_after 8 1 three_each rs) fewer_slots 2 1 1)
    && ltb (slots_for 2 most_slots 2 1 1) (slots_in (until_sent 1 1 7 rs)))
    -- 77: the wait of the j-th packet 'from the contention that begins after its admission', with its length: as that begins, at slot 1, the packets have
    -- waited for a slot, and j × N × (2L − 1 + P) is met, by the first of circuit 1 and by the second
    ∷ script
    (pair RTVC)
    (meanwhile ++ steps 8)
    (λ rs.
    are
    (S 0 P 0 2 1 1 1 0
    ∷ i_end 1 P 0 2
    ∷ C 2 P 0 2
    ∷ S 3 P 0 1 0 2 1 3
    ∷ S 4 P 0 2 1 4 1 4
    ∷ i_end 5 P 0 2
    ∷ C 6 P 0 2
    ∷ S 7 P 0 1 0 3 1 7
    ∷ S 8 P 0 2 1 5 1 8
    ∷ [])
    rs
    && eqb (total (λ a. a.wait + a.length) (drop 4 (take 5 (probes_in rs)))) (wait_of (packet_since 0 4 0 1) 1 + slots_for 1 fewer_slots 2 1 1)
    && eqb (total (λ a. a.wait + a.length) (drop 8 (probes_in rs))) (wait_of (packet_since 0 5 0 1) 1 + slots_for (place_after 7 1 meanwhile rs) fewer_slots 2 1 1))
    ∷ []

-- packets turned away (P4)
abbrev pub turned_aways : List Row
turned_aways =
    -- 78: 'raised by exactly the admissions refused with 14 or 15': a 14 and an accepted one
    closed (rtdg 2 1) (one-step ∷ arrives 1 0 1 ∷ arrives 1 1 1 ∷ []) (END 1 1 0 0 1 1)
    -- 79: the 17th packet at a station, twice, the queue as it was
    ∷ closed (pri 2) (arrivals 17 ++ (one-step ∷ arrivals 2)) (END 1 17 1 0 16 2)
    -- 80: 11, 12 and 13 are not counted, nor a begin that is refused with 25 and a probe with 26
    ∷ closed
    (rtdg 2 1)
    (arrives 9 0 1 ∷ arrives 1 1_073_741_825 1 ∷ arrives 1 0 0 ∷ arrives 1 0 4_097 ∷ one-probe ∷ one-begin ∷ one-begin ∷ [])
    (END 0 0 0 0 0 0)
    -- 81: nor 16
    ∷ fact (same_pair uncounted (16, 0))
    -- 82: late where no place is free: counted once
    ∷ closed (rtdg 2 1) (one-step ∷ map (λ n. arrives 0 5 1) (count_up 1 16) ++ (arrives 0 0 1 ∷ [])) (END 1 16 0 0 16 1)
    -- 83: between contentions, after a begin and midway, and through all that follows: latest starts 0 and 1 collide and are dropped
    ∷ closed
    (rtdg 2 1)
    (arrives 0 0 1 ∷ arrives 1 1 1 ∷ one-begin ∷ one-probe ∷ arrives 2 0 1 ∷ steps 2 ++ (arrives 2 1 1 ∷ one-begin ∷ arrives 2 2 1 ∷ one-probe ∷ []))
    (END 4 2 0 2 0 3)
    -- 84: 'The count stops at 4,294,967,295', and the answer stays 15; a larger one is refused with 1, and stays as lent
    ∷ fact
    (same_pair (seventeenth 0) (15, 1)
    && same_pair (seventeenth 4_294_967_293) (15, 4_294_967_294)
    && same_pair (seventeenth 4_294_967_294) (15, 4_294_967_295)
    && same_pair (seventeenth 4_294_967_295) (15, 4_294_967_295)
    && same_pair (seventeenth 4_294_967_296) (1, 4_294_967_296))
    -- 85: and what it closes with is refused with 1, zero in the other fields
    ∷ fact (closes_with 4_294_967_295 (0, 4_294_967_295) && closes_with 4_294_967_296 (1, 0))
    ∷ []

abbrev pub table : List Row
table = settled ++ (orders ++ (edges ++ (bounds ++ (waits ++ (beginnings ++ (passes ++ turned_aways))))))

-- the number of the first row of the table that fails
abbrev pub first_failing : Option ℕ
first_failing = failing_from holds 1 table
