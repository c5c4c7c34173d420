-- The demands, and what else paper 01 promises of its machine, as statements. The theorems that prove them bear the same names
-- in small letters, in proofs/. `r` is a set-up as asked for, `calls` are the calls after it, `later` are the calls after those.
-- Assumes nothing.
use Rattle.std.specs.Prelude.{ℕ, suc, ◌+◌, ◌-◌, ◌*◌, ◌≤◌, ◌<◌, max, min, ◌≡◌, ◌⊎◌, ◌↔◌, Bool, true, false, not, ◌&&◌, ◌||◌, cond, List, [], ◌∷◌, ◌++◌, map, leb, eqb, length, replicate}
use Rattle.std.proofs.Math.Option.{Option, none, some}
use Rattle.window.specs.Splitting.{exponent_of, first_window}
use Rattle.rules.specs.Lists.{bit, keep, count, some_of, total, count_up, Among, All, Distinct}
use Rattle.rules.specs.Bus.{most_turned, Discipline, PRI, RTDG, RTVC, code, Packet, Offer, Station, Bus, nothing, waiting}
use Rattle.rules.specs.SetUp.{Request, set_up}
use Rattle.rules.specs.Standing.{stands, Standing}
use Rattle.rules.specs.Admission.{Arrival, Admitted, numbered, queued, turns_away, TurnsAway, turned_away, admit}
use Rattle.rules.specs.Begin.{parameter_of, entered}
use Rattle.rules.specs.Conditions.{Late}
use Rattle.rules.specs.Probe.{Answer, Contender, able, contenders, transmitters, idle, collision, success, refused_answer, dropping, wait_of}
use Rattle.rules.specs.Step.{is_under_way, Contends, refused_begun, begin_call, probe_call, opened, step}
use Rattle.rules.specs.Closing.{Totals, refused_totals}
use Rattle.rules.specs.Engine.{Engine, machine, step_of, Call, OwnCall, admission, one-begin, one-probe, one-step, Reply, admitted, begun, probed, reply, replies, reach, probes_in, admissions_in, answers}

-- ---- demand 2

-- 'Each slot's event, winner, drops and clock are those of the window procedure': after any set-up and any admissions, begins and probes, the
-- replies are the machine's, and so is what a listing closes with.
pub record Demand2 (E : Engine) : Type 0 where
  pub set_ups : (r : Request) → (E.set_up r).0 ≡ (set_up r).0
  pub calls : (r : Request) (calls : List Call) → All OwnCall calls → replies E (E.set_up r).1 calls ≡ replies machine (set_up r).1 calls
  pub closes : (r : Request) (calls : List Call) → All OwnCall calls → E.closing (reach E r calls) ≡ machine.closing (reach machine r calls)

-- and so they are with steps among the calls, since steps are made of begins and probes
abbrev pub StepsAgree : Engine → Type 0
StepsAgree E = (r : Request) (calls : List Call) → replies E (E.set_up r).1 calls ≡ replies machine (set_up r).1 calls

-- a smaller parameter; 'among equals, the smallest full address'
abbrev pub Ahead : Contender → Contender → Type 0
Ahead x y = (x.parameter < y.parameter) ⊎ ((x.parameter ≡ y.parameter) × (x.address ≤ y.address))

-- the contenders in the slot that the next probe, or step, probes
abbrev pub contenders_at : Bus → List Contender
contenders_at b = contenders (opened b).bus.stations

-- those of them still able to start in it
abbrev pub StillAble : Bus → Contender → Type 0
StillAble b x = able b.discipline b.clock x ≡ true

-- and those who transmit in it
abbrev pub transmitters_at : Bus → List Contender
transmitters_at b = transmitters (opened b).bus (opened b).contention

-- An answer names a contender, and 'whoever wins has the smallest parameter among the contenders still able to start in that slot'.
pub record Least (b : Bus) (a : Answer) : Type 0 where
  pub winner : Contender
  pub contends : Among winner (contenders_at b)
  pub is_able : StillAble b winner
  pub address : a.address ≡ winner.address
  pub number : a.number ≡ winner.packet.number
  pub length : a.length ≡ winner.packet.length
  pub least : All (λ x. StillAble b x → Ahead winner x) (contenders_at b)

-- 'From any state reached from set-up, whoever wins has the smallest parameter ..'. The answer is the engine's, to one call after these calls;
-- the contenders are the machine's, after the same calls. A winner whom the engine made up is no contender.
abbrev pub WinnerIsLeast : Engine → Type 0
WinnerIsLeast E =
    (r : Request) (calls : List Call) (c : Call)
    → All (λ a. a.event ≡ success → Least (reach machine r calls) a) (answers E (reach E r calls) (c ∷ []))

-- what an event says of the number n of contenders who transmit
pub record Heard (n : ℕ) (event : ℕ) : Type 0 where
  pub lone : (event ≡ success) ↔ (n ≡ 1)
  pub several : (event ≡ collision) ↔ (2 ≤ n)
  pub none_sends : (event ≡ idle) ↔ (n ≡ 0)

-- the events of accepted answers say how many transmit
abbrev pub TrueEvents : Bus → List Answer → Type 0
TrueEvents b said = All (λ a. a.refusal ≡ 0 → Heard (length (transmitters_at b)) a.event) said

-- in any state whatever: no collision is booked as a lone win
abbrev pub NoFalseWin : Type 0
NoFalseWin = (b : Bus) (c : Call) → TrueEvents b (answers machine b (c ∷ []))

-- and, of an engine, in reached states
abbrev pub EventsAreTrue : Engine → Type 0
EventsAreTrue E = (r : Request) (calls : List Call) (c : Call) → TrueEvents (reach machine r calls) (answers E (reach E r calls) (c ∷ []))

-- 'stations 0007 and 0107 became one sender': two stations of a set-up never share a full address
abbrev pub AddressesApart : Type 0
AddressesApart = (r : Request) (calls : List Call) → Distinct (map (λ s. s.address) (reach machine r calls).stations)

-- ---- the standing conditions and refusals

-- the test that the machine goes by holds exactly where the conditions do
abbrev pub StandsExactly : Type 0
StandsExactly = (b : Bus) → (stands b ≡ true) ↔ Standing b

-- 'Every call that accepts keeps these conditions', and so does an admission that turns its packet away; every other hands back what it was lent.
pub record KeepsStanding : Type 0 where
  pub set_up_call : (r : Request) → (set_up r).0.refusal ≡ 0 → Standing (set_up r).1
  pub admission : (b : Bus) (a : Arrival) → (admit b a).0.refusal ≡ 0 → Standing (admit b a).1
  pub turning_away : (b : Bus) (a : Arrival) → TurnsAway (admit b a).0.refusal → Standing (admit b a).1
  pub begin : (b : Bus) → (begin_call b).0.refusal ≡ 0 → Standing (begin_call b).1
  pub probe : (b : Bus) → (probe_call b).0.refusal ≡ 0 → Standing (probe_call b).1
  pub step : (b : Bus) → (step b).0.refusal ≡ 0 → Standing (step b).1

-- so that no call after an accepted set-up is refused with 1
abbrev pub ReachedStands : Type 0
ReachedStands = (r : Request) (calls : List Call) → (set_up r).0.refusal ≡ 0 → Standing (reach machine r calls)

-- 'A refused set-up hands back its number and an all-zero state, which refusal 1 catches. Any other refusal hands back the number, zero
-- in the answer's other fields, and the state exactly as lent.' But for two, 14 and 15 (P4): 'These two refusals now leave the state as it was but
-- for that count'.
pub record HandsBack : Type 0 where
  pub set_up_call : (r : Request) → ¬ ((set_up r).0.refusal ≡ 0) → (set_up r).1 ≡ nothing
  pub admission :
      (b : Bus) (a : Arrival) → ¬ ((admit b a).0.refusal ≡ 0) → ¬ TurnsAway (admit b a).0.refusal
      → admit b a ≡ (record { refusal = (admit b a).0.refusal; number = 0 }, b)
  pub turning_away :
      (b : Bus) (a : Arrival) → TurnsAway (admit b a).0.refusal
      → admit b a ≡ (record { refusal = (admit b a).0.refusal; number = 0 }, turned_away b)
  pub begin : (b : Bus) → ¬ ((begin_call b).0.refusal ≡ 0) → begin_call b ≡ (refused_begun (begin_call b).0.refusal, b)
  pub probe : (b : Bus) → ¬ ((probe_call b).0.refusal ≡ 0) → probe_call b ≡ (refused_answer (probe_call b).0.refusal, b)
  pub step : (b : Bus) → ¬ ((step b).0.refusal ≡ 0) → step b ≡ (refused_answer (step b).0.refusal, b)
  pub caught : ¬ Standing nothing

-- ---- a step is a begin and a probe (P5)

-- 'Split the step into beginning a contention .. and probing one slot.' An accepted step is a begin, where none is under way, and a probe; its
-- answer is the probe's with the begin's drops. Where one is under way a step, refused or not, is a probe. In all, the step of paper 01 is the
-- one that is made of the machine's begin and probe.
pub record StepIsBoth : Type 0 where
  pub begins :
      (b : Bus) → b.contention ≡ none → (step b).0.refusal ≡ 0
      → ((begin_call b).0.refusal ≡ 0)
      × ((probe_call (begin_call b).1).0.refusal ≡ 0)
      × (step b ≡ (dropping (begin_call b).0.drops (probe_call (begin_call b).1).0, (probe_call (begin_call b).1).1))
  pub goes_on : (b : Bus) → ¬ (b.contention ≡ none) → step b ≡ probe_call b
  pub made : (b : Bus) → step_of machine b ≡ step b
  -- a probe of its own drops nothing
  pub no_drops : (b : Bus) → (probe_call b).0.drops ≡ 0

-- What an accepted begin answers is what it did: the packets dropped are those counted lost, the slot is the present one, and the window is 'the first
-- window of D, start 0, side right', in which the contention is under way.
pub record BeginTells : Type 0 where
  pub drops : (b : Bus) → (begin_call b).0.refusal ≡ 0 → (begin_call b).1.lost ≡ b.lost + (begin_call b).0.drops
  pub slot : (b : Bus) → (begin_call b).0.refusal ≡ 0 → (begin_call b).0.slot ≡ b.clock
  pub window :
      (b : Bus) → (begin_call b).0.refusal ≡ 0
      → ((begin_call b).0.start ≡ (first_window b.D).start)
      × ((begin_call b).0.size ≡ (first_window b.D).size)
      × ((begin_call b).1.contention ≡ some (record { window = first_window b.D; tie = none }))

-- '17, which belongs to the probe': a begin is refused at no clock of a state that stands, if no contention is under way; and the clock stays
abbrev pub BeginsAtAnyClock : Type 0
BeginsAtAnyClock = (b : Bus) → Standing b → b.contention ≡ none → ((begin_call b).0.refusal ≡ 0) × ((begin_call b).1.clock ≡ b.clock)

-- ---- offers and contenders

-- 'the smallest value, the lowest packet number among equals'
abbrev pub Smaller : Packet → Packet → Type 0
Smaller p p' = (p.value < p'.value) ⊎ ((p.value ≡ p'.value) × (p.number ≤ p'.number))

-- p is offered before p': 'PRI and RTDG the smallest value, ..; RTVC the lowest packet number'
abbrev pub Before : Discipline → Packet → Packet → Type 0
Before PRI p p' = Smaller p p'
Before RTDG p p' = Smaller p p'
Before RTVC p p' = p.number ≤ p'.number

-- 'if no circuit has won in this round or the capability is above the last winner's; otherwise the station sits out'
abbrev pub SitsOut : Discipline → Option ℕ → ℕ → Type 0
SitsOut PRI last capability = ⊥
SitsOut RTDG last capability = ⊥
SitsOut RTVC none capability = ⊥
SitsOut RTVC (some winner) capability = capability ≤ winner

-- The packet offered is one of the station's, it is in time, and it goes before every other that is in time; the parameter goes by it.
pub record Offered (b : Bus) (s : Station) (o : Offer) : Type 0 where
  pub own : Among o.packet s.queue
  pub on_time : ¬ Late b.discipline b.clock o.packet.value
  pub first : All (λ p. ¬ Late b.discipline b.clock p.value → Before b.discipline o.packet p) s.queue
  pub takes_part : ¬ SitsOut b.discipline b.last s.capability
  pub parameter : o.parameter ≡ parameter_of b.discipline b s o.packet

-- 'Each station then offers one packet', or none: then all that it has are late, or it sits out
abbrev pub OffersBy : Bus → Station → Option Offer → Type 0
OffersBy b s none =
    All (λ p. Late b.discipline b.clock p.value) s.queue ⊎ SitsOut b.discipline b.last s.capability
OffersBy b s (some o) = Offered b s o

-- what each station offers as a contention begins (`begins`, below), in any state whatever
abbrev pub OffersTheFirst : Type 0
OffersTheFirst = (b : Bus) (s : Station) → OffersBy b s (entered b s).offer

-- those of a row by station that contend
abbrev pub present : List (Option Contends) → List Contends
present [] = []
present (none ∷ row) = present row
present (some x ∷ row) = x ∷ present row

-- what a begin's answer shows of a contender
abbrev pub shown_as : Contender → Contends
shown_as x = record { address = x.address; number = x.packet.number; parameter = x.parameter }

-- 'Contenders stay recorded until the contention ends', each with its packet and its parameter, which 'is fixed for the whole contention'; and 'a
-- packet admitted while a contention is under way does not join it'.
pub record ContendersStay : Type 0 where
  -- a begin records what all stations offer, and its answer shows those recorded, and no other
  pub begins : (b : Bus) → (begin_call b).0.refusal ≡ 0 → contenders (begin_call b).1.stations ≡ contenders (map (entered b) b.stations)
  pub shown : (b : Bus) → (begin_call b).0.refusal ≡ 0 → present (begin_call b).0.contenders ≡ map shown_as (contenders (begin_call b).1.stations)
  pub admission : (b : Bus) (a : Arrival) → contenders (admit b a).1.stations ≡ contenders b.stations
  -- a probe is among the contenders recorded, and leaves them while the contention goes on
  pub probed_among : (b : Bus) → (probe_call b).0.refusal ≡ 0 → contenders_at b ≡ contenders b.stations
  pub goes_on : (b : Bus) → (probe_call b).0.refusal ≡ 0 → (probe_call b).0.ended ≡ 0 → contenders (probe_call b).1.stations ≡ contenders b.stations
  pub ends : (b : Bus) → (probe_call b).0.refusal ≡ 0 → (probe_call b).0.ended ≡ 1 → contenders (probe_call b).1.stations ≡ []

-- ---- probes

-- 'the number of steps whose answers belong to the contention': accepted answers up to the one that ends it
abbrev pub probes : List Answer → ℕ
probes [] = 0
probes (a ∷ rest) = cond (eqb a.refusal 0) (suc (cond (eqb a.ended 1) 0 (probes rest))) (probes rest)

-- 'at most 2L in RTVC, 2L + 2M + 1 in PRI and 2L + 2M + 2 in RTDG'
abbrev pub most_probes : Discipline → ℕ → ℕ → ℕ
most_probes PRI L M = 2 * L + 2 * M + 1
most_probes RTDG L M = 2 * L + 2 * M + 2
most_probes RTVC L M = 2 * L

-- 'Probes in one contention, in states reached from set-up': from a state in which none is under way, so that the contention is read from its
-- beginning, whatever is called
abbrev pub ProbesBounded : Engine → Type 0
ProbesBounded E =
    (r : Request) (calls : List Call) → (reach machine r calls).contention ≡ none → (later : List Call)
    → probes (answers E (reach E r calls) later)
    ≤ most_probes (reach machine r calls).discipline (exponent_of (reach machine r calls).D) (exponent_of (reach machine r calls).A)

-- A contention without contenders, which a begin can leave: one accepted probe, or step, is idle and ends it.
abbrev pub EmptyEnds : Engine → Type 0
EmptyEnds E =
    (r : Request) (calls : List Call) (c : Call) → contenders_at (reach machine r calls) ≡ []
    → All (λ a. a.refusal ≡ 0 → (a.event ≡ idle) × (a.ended ≡ 1)) (answers E (reach E r calls) (c ∷ []))

-- the answers up to the first for which the test holds, and with it; all of them where it holds for none
abbrev pub up_to : (Answer → Bool) → List Answer → List Answer
up_to says [] = []
up_to says (a ∷ said) = a ∷ cond (says a) [] (up_to says said)

-- the answers of the contention under way, up to the one that ends it
abbrev pub of_contention : List Answer → List Answer
of_contention said = up_to (λ a. eqb a.ended 1) said

-- 'A packet admitted between the two does not join': whatever is admitted in a reached state, after a begin as midway, the answers to the probes
-- of the contention under way are the same.
abbrev pub NobodyJoins : Engine → Type 0
NobodyJoins E =
    (r : Request) (calls : List Call) (arrivals : List Arrival) (n : ℕ)
    → of_contention (answers E (reach E r calls) (map admission arrivals ++ replicate n one-probe))
    ≡ of_contention (answers E (reach E r calls) (replicate n one-probe))

-- ---- counts

-- the slots that a probe took: a packet's length on success, else 1, and none if it was refused
abbrev pub slots_of : Answer → ℕ
slots_of a = cond (eqb a.refusal 0) (cond (eqb a.event success) a.length 1) 0

-- what one reply adds to the packets admitted, sent, lost and turned away, and to the clock; drops come with begins, and in a step with its begin
abbrev pub adds_admitted : Reply → ℕ
adds_admitted (admitted a) = bit (eqb a.refusal 0)
adds_admitted (begun o) = 0
adds_admitted (probed a) = 0

abbrev pub adds_sent : Reply → ℕ
adds_sent (admitted a) = 0
adds_sent (begun o) = 0
adds_sent (probed a) = bit (eqb a.event success)

abbrev pub adds_lost : Reply → ℕ
adds_lost (admitted a) = 0
adds_lost (begun o) = o.drops
adds_lost (probed a) = a.drops

-- P4: 'raised by exactly the admissions refused with 14 or 15'
abbrev pub adds_turned : Reply → ℕ
adds_turned (admitted a) = bit (turns_away a.refusal)
adds_turned (begun o) = 0
adds_turned (probed a) = 0

abbrev pub adds_slots : Reply → ℕ
adds_slots (admitted a) = 0
adds_slots (begun o) = 0
adds_slots (probed a) = slots_of a

-- so many packets turned away, as they are counted: 'The count stops at 4,294,967,295.'
abbrev pub up_to_the_stop : ℕ → ℕ
up_to_the_stop n = min n most_turned

-- 'Counted over all answers since set-up, admitted = sent + lost + waiting', and the machine's own counts are those, its clock too
pub record Counted (b : Bus) (rs : List Reply) : Type 0 where
  pub balance : total adds_admitted rs ≡ total adds_sent rs + total adds_lost rs + waiting b.stations
  pub admitted : b.admitted ≡ total adds_admitted rs
  pub sent : b.sent ≡ total adds_sent rs
  pub lost : b.lost ≡ total adds_lost rs
  pub turned : b.turned ≡ up_to_the_stop (total adds_turned rs)
  pub clock : b.clock ≡ total adds_slots rs

-- after any set-up and any calls
abbrev pub CountsAreTrue : Engine → Type 0
CountsAreTrue E = (r : Request) (calls : List Call) → Counted (reach machine r calls) (replies E (E.set_up r).1 calls)

-- what a listing closes with, counted from the replies since set-up alone: 'END clock admitted sent lost waiting', and the packets turned away
abbrev pub totals_from : List Reply → Totals
totals_from rs =
    record {
      refusal = 0;
      clock = total adds_slots rs;
      admitted = total adds_admitted rs;
      sent = total adds_sent rs;
      lost = total adds_lost rs;
      waiting = total adds_admitted rs - (total adds_sent rs + total adds_lost rs);
      turned = up_to_the_stop (total adds_turned rs);
    }

-- after an accepted set-up and any calls an engine closes with what its own replies come to; after a refused one it refuses to close
pub record ClosesAsCounted (E : Engine) : Type 0 where
  pub accepted :
      (r : Request) (calls : List Call) → (E.set_up r).0.refusal ≡ 0
      → E.closing (reach E r calls) ≡ totals_from (replies E (E.set_up r).1 calls)
  pub refused : (r : Request) (calls : List Call) → ¬ ((E.set_up r).0.refusal ≡ 0) → E.closing (reach E r calls) ≡ refused_totals 1

-- ---- numbers

-- the numbers that accepted admissions were answered with, in the order of the replies
abbrev pub numbers_answered : List Reply → List ℕ
numbers_answered rs = map (λ a. a.number) (keep (λ a. eqb a.refusal 0) (admissions_in rs))

-- 'An accepted packet is numbered 1, 2, 3 and so on; the number is the answer': counted over all replies since set-up, the k-th accepted
-- admission answers k.
abbrev pub NumbersAreAnswers : Engine → Type 0
NumbersAreAnswers E =
    (r : Request) (calls : List Call)
    → numbers_answered (replies E (E.set_up r).1 calls) ≡ count_up 1 (total adds_admitted (replies E (E.set_up r).1 calls))

-- and the packet that an accepted admission queues, at the station of that full address alone, bears the number that was answered and the
-- clock at the admission
abbrev pub QueuedAsAnswered : Type 0
QueuedAsAnswered =
    (b : Bus) (a : Arrival) → (admit b a).0.refusal ≡ 0
    → (admit b a).1.stations
    ≡ map (λ s. cond (eqb a.address s.address) (queued (numbered a (admit b a).0.number b.clock) s) s) b.stations

-- ---- waits (P1)

-- whether an admission was accepted and answered k
abbrev pub admitted_as : ℕ → Admitted → Bool
admitted_as k a = eqb a.refusal 0 && eqb a.number k

-- the slots that all probes took before the admission that answered k, or before the end where none did; a refused call takes none
abbrev pub slots_before : ℕ → List Reply → ℕ
slots_before k [] = 0
slots_before k (admitted a ∷ rs) = cond (admitted_as k a) 0 (slots_before k rs)
slots_before k (begun o ∷ rs) = slots_before k rs
slots_before k (probed a ∷ rs) = slots_of a + slots_before k rs

-- What the replies `rs` since set-up tell of the success `a` that comes next: one of them answered its packet's number; the slot probed is the
-- slots that all probes took; and the wait is the slot probed less the slots that all probes took before that admission.
pub record Waited (rs : List Reply) (a : Answer) : Type 0 where
  pub answered : Among a.number (numbers_answered rs)
  pub probed : a.slot ≡ total adds_slots rs
  pub waited : a.slot ≡ slots_before a.number rs + a.wait

-- 'the number of slots from there to the probe that won', after any set-up and any calls; 0 in an answer without success
pub record WaitsAreTrue (E : Engine) : Type 0 where
  pub succeeds :
      (r : Request) (calls : List Call) (c : Call)
      → All (λ a. a.event ≡ success → Waited (replies E (E.set_up r).1 calls) a) (answers E (reach E r calls) (c ∷ []))
  pub otherwise : (r : Request) (calls : List Call) (c : Call) → All (λ a. ¬ (a.event ≡ success) → a.wait ≡ 0) (answers E (reach E r calls) (c ∷ []))

-- ---- demand 3

-- 'N + 1 contentions', 'at most one of them idle'
abbrev pub most_contentions : ℕ → ℕ
most_contentions N = N + 1

abbrev pub most_idle : ℕ
most_idle = 1

-- 'N × (2L − 1 + P) + 1 slots'
abbrev pub most_slots : ℕ → ℕ → ℕ → ℕ
most_slots N L P = N * (2 * L - 1 + P) + 1

-- N × (2L − 1 + P) slots: one fewer than demand 3 asks for
abbrev pub fewer_slots : ℕ → ℕ → ℕ → ℕ
fewer_slots N L P = most_slots N L P - 1

-- contentions that ended among answers, and those that ended idle
abbrev pub contentions_in : List Answer → ℕ
contentions_in said = count (λ a. eqb a.ended 1) said

abbrev pub idle_contentions_in : List Answer → ℕ
idle_contentions_in said = count (λ a. eqb a.ended 1 && eqb a.event idle) said

-- the slots that probes took
abbrev pub slots_in : List Answer → ℕ
slots_in said = total slots_of said

-- 'the longest packet sent meanwhile'
abbrev pub longest_in : List Answer → ℕ
longest_in [] = 0
longest_in (a ∷ said) = max a.length (longest_in said)

-- whether an answer is a success of this address, and whether it says that this station's packet was sent
abbrev pub wins : ℕ → Answer → Bool
wins address a = eqb a.event success && eqb a.address address

abbrev pub sends : Station → Packet → Answer → Bool
sends s p a = wins s.address a && eqb a.number p.number

-- A circuit s that waits on the bus b with the packets `ahead`, and p after them: demand 3's premises, where p is the oldest if none is ahead. 'if no
-- step is refused for the clock's end' is none of them: a refused call takes no slot and ends no contention, so that what is counted below is true
-- with such calls among the others.
pub record CircuitWaits (b : Bus) (s : Station) (ahead : List Packet) (p : Packet) : Type 0 where
  -- 'Under RTVC'
  pub by_circuit : b.discipline ≡ RTVC
  -- 'if a circuit has a packet'
  pub listed : Among s b.stations
  pub rest : List Packet
  pub queue : s.queue ≡ ahead ++ (p ∷ rest)
  -- 'when a contention begins': none is under way, and the next begin, or step, begins one
  pub begins : b.contention ≡ none

-- The packet p of s has ended within n contentions, `idles` of them idle at the most, and within `most P` slots. The first three say so of the answers
-- up to its end, or of all there are where it has not ended yet; the last two say that it ends: it has been sent once so many contentions, or
-- slots, have gone by. P is 'the longest packet sent meanwhile', its own among them.
pub record EndsWithin (n idles : ℕ) (most : ℕ → ℕ) (s : Station) (p : Packet) (said : List Answer) : Type 0 where
  pub contentions : contentions_in (up_to (sends s p) said) ≤ n
  pub idle_ones : idle_contentions_in (up_to (sends s p) said) ≤ idles
  pub slots : slots_in (up_to (sends s p) said) ≤ most (longest_in (up_to (sends s p) said))
  pub ends : n ≤ contentions_in said → some_of (sends s p) said ≡ true
  pub ends_in_time : (P : ℕ) → p.length ≤ P → longest_in said ≤ P → most P ≤ slots_in said → some_of (sends s p) said ≡ true

-- a bound for N, L and P on the bus b: N is the number of its circuits, L the number of halvings of the first window of D
abbrev pub slots_on : (ℕ → ℕ → ℕ → ℕ) → Bus → ℕ → ℕ
slots_on bound b P = bound (length b.stations) (exponent_of b.D) P

-- 'its oldest packet has ended within N + 1 contentions, at most one of them idle, and within ..'
abbrev pub Serves : (ℕ → ℕ → ℕ → ℕ) → Bus → List Answer → Type 0
Serves bound b said =
    (s : Station) (p : Packet) → CircuitWaits b s [] p
    → EndsWithin (most_contentions (length b.stations)) most_idle (slots_on bound b) s p said

-- 'Under RTVC with N circuits, from any state reached from set-up ..'. The bus is the machine's after these calls, and the answers are the
-- engine's, after the same calls, to the probes and steps among `later`. 'Other stations may admit as they like': any calls may stand there.
abbrev pub Demand3 : Engine → Type 0
Demand3 E = (r : Request) (calls later : List Call) → Serves most_slots (reach machine r calls) (answers E (reach E r calls) later)

-- ---- beyond demand 3

-- The slot of the idle contention need not be added: the packet has ended within N × (2L − 1 + P) slots.
abbrev pub SoonerThanDemand3 : Engine → Type 0
SoonerThanDemand3 E = (r : Request) (calls later : List Call) → Serves fewer_slots (reach machine r calls) (answers E (reach E r calls) later)

-- 'the bound of demand 3 for the j-th packet in a queue as j times the bound for the oldest' (P13): its place, itself counted, and j times each bound
abbrev pub place : List Packet → ℕ
place ahead = suc (length ahead)

abbrev pub contentions_for : ℕ → ℕ → ℕ
contentions_for j N = j * most_contentions N

abbrev pub idle_for : ℕ → ℕ
idle_for j = j * most_idle

abbrev pub slots_for : ℕ → (ℕ → ℕ → ℕ → ℕ) → ℕ → ℕ → ℕ → ℕ
slots_for j bound N L P = j * bound N L P

abbrev pub ServesInTurn : (ℕ → ℕ → ℕ → ℕ) → Bus → List Answer → Type 0
ServesInTurn bound b said =
    (s : Station) (ahead : List Packet) (p : Packet) → CircuitWaits b s ahead p
    → EndsWithin
    (contentions_for (place ahead) (length b.stations))
    (idle_for (place ahead))
    (slots_on (slots_for (place ahead) bound) b)
    s
    p
    said

-- with the slots of demand 3, and with a slot fewer for each packet
abbrev pub InTurn : (ℕ → ℕ → ℕ → ℕ) → Engine → Type 0
InTurn bound E = (r : Request) (calls later : List Call) → ServesInTurn bound (reach machine r calls) (answers E (reach E r calls) later)

-- How old a packet can be when it wins (P1): its wait, and its own slots, are at most what it had waited when the contention began, and `most P`.
abbrev pub WinsWithin : (ℕ → ℕ) → Bus → Station → Packet → List Answer → Type 0
WinsWithin most b s p said =
    (a : Answer) → Among a (up_to (sends s p) said) → sends s p a ≡ true
    → a.wait + a.length ≤ wait_of p b.clock + most (longest_in (up_to (sends s p) said))

-- of a circuit's oldest packet: N × (2L − 1 + P) slots
abbrev pub OldestWaits : Bus → List Answer → Type 0
OldestWaits b said = (s : Station) (p : Packet) → CircuitWaits b s [] p → WinsWithin (slots_on fewer_slots b) b s p said

abbrev pub WaitOfTheOldest : Engine → Type 0
WaitOfTheOldest E = (r : Request) (calls later : List Call) → OldestWaits (reach machine r calls) (answers E (reach E r calls) later)

-- of its j-th: j times as many, from any contention that begins while it waits, as the first after its admission
abbrev pub WaitsInTurn : Bus → List Answer → Type 0
WaitsInTurn b said =
    (s : Station) (ahead : List Packet) (p : Packet) → CircuitWaits b s ahead p
    → WinsWithin (slots_on (slots_for (place ahead) fewer_slots) b) b s p said

abbrev pub WaitInTurn : Engine → Type 0
WaitInTurn E = (r : Request) (calls later : List Call) → WaitsInTurn (reach machine r calls) (answers E (reach E r calls) later)

-- ---- nobody passes a waiting circuit twice (P13)

-- 'each other circuit succeeds at most once between them, and at most one contention between them is idle'
abbrev pub most_passes : ℕ
most_passes = 1

abbrev pub most_idle_between : ℕ
most_idle_between = 1

-- the successes of an address among answers
abbrev pub successes_of : ℕ → List Answer → ℕ
successes_of address said = count (wins address) said

-- the answers among replies up to a success of an address, and with it, or all there are
abbrev pub until_success : ℕ → List Reply → List Answer
until_success address rs = up_to (wins address) (probes_in rs)

-- the answers between two successes of an address, the second among them if it has come
pub record PassedOnce (address : ℕ) (between : List Answer) : Type 0 where
  pub each_other : (other : ℕ) → ¬ (other ≡ address) → successes_of other between ≤ most_passes
  pub idle_ones : idle_contentions_in between ≤ most_idle_between

-- calls beside the replies to them
abbrev pub beside : List Call → List Reply → List (Call × Reply)
beside [] rs = []
beside (c ∷ calls) [] = []
beside (c ∷ calls) (r ∷ rs) = (c, r) ∷ beside calls rs

-- whether a call asks to admit a packet at this address, and whether a reply is a success of it
abbrev pub asks_at : ℕ → Call → Bool
asks_at address (admission a) = eqb a.address address
asks_at address one-begin = false
asks_at address one-probe = false
asks_at address one-step = false

abbrev pub succeeds : ℕ → Reply → Bool
succeeds address (admitted a) = false
succeeds address (begun o) = false
succeeds address (probed a) = wins address a

-- What calls and replies since set-up tell of a circuit: how many packets wait at its address, and whether a contention is under way.
pub record Tally : Type 0 where
  pub waiting : ℕ
  pub under_way : Bool

abbrev pub blank : Tally
blank = record { waiting = 0; under_way = false }

-- after one call more: an accepted admission at the address adds a packet, its success takes one away (in RTVC nothing is dropped); an accepted begin
-- begins a contention, and so does an accepted step, which is over if its answer ends it
abbrev pub tallied : ℕ → Tally → Call → Reply → Tally
tallied address t c (admitted a) = record { waiting = t.waiting + bit (eqb a.refusal 0 && asks_at address c); under_way = t.under_way }
tallied address t c (begun o) = record { waiting = t.waiting; under_way = cond (eqb o.refusal 0) true t.under_way }
tallied address t c (probed a) =
    record { waiting = t.waiting - bit (wins address a); under_way = cond (eqb a.refusal 0) (eqb a.ended 0) t.under_way }

abbrev pub tally : ℕ → Tally → List (Call × Reply) → Tally
tally address t [] = t
tally address t (x ∷ xs) = tally address (tallied address t x.0 x.1) xs

-- of calls since set-up and the replies to them
abbrev pub tally_of : ℕ → List Call → List Reply → Tally
tally_of address calls rs = tally address blank (beside calls rs)

-- and it is true: so many packets wait at the station of that address, and a contention is under way or not
pub record TallyIsTrue (b : Bus) (address : ℕ) (t : Tally) : Type 0 where
  pub waiting : All (λ s. s.address ≡ address → t.waiting ≡ length s.queue) b.stations
  pub under_way : t.under_way ≡ is_under_way b.contention

abbrev pub TalliesAreTrue : Engine → Type 0
TalliesAreTrue E =
    (r : Request) (calls : List Call) (address : ℕ) → r.discipline ≡ code RTVC → (set_up r).0.refusal ≡ 0
    → TallyIsTrue (reach machine r calls) address (tally_of address calls (replies E (E.set_up r).1 calls))

-- whether a contention began with a reply, by whether one was under way before it
abbrev pub begins_one : Bool → Reply → Bool
begins_one under_way (admitted a) = false
begins_one under_way (begun o) = eqb o.refusal 0
begins_one under_way (probed a) = not under_way && eqb a.refusal 0

-- whether a packet waits, if a contention began
abbrev pub waits_at : Tally → Reply → Bool
waits_at t r = not (begins_one t.under_way r) || leb 1 t.waiting

-- 'if a circuit has a packet waiting at the beginning of every contention between two successive successes of its own': up to its next success, the
-- contention that it wins included, or over all there are
abbrev pub waits_throughout : ℕ → Tally → List (Call × Reply) → Bool
waits_throughout address t [] = true
waits_throughout address t (x ∷ xs) =
    waits_at t x.1 && (succeeds address x.1 || waits_throughout address (tallied address t x.0 x.1) xs)

-- the same of calls `later` and the replies to them, after those since set-up
abbrev pub waits_after : ℕ → List Call → List Reply → List Call → List Reply → Bool
waits_after address calls rs later rs' = waits_throughout address (tally_of address calls rs) (beside later rs')

-- 'For pure RTVC, over any calls from set-up': c, after these calls, is answered with a success of the address. The calls `later` are any: admissions,
-- refused calls and begins without a probe may stand anywhere among them. All is counted from E's own replies.
abbrev pub NobodyPassesTwice : Engine → Type 0
NobodyPassesTwice E =
    (r : Request) (calls : List Call) (c : Call) (later : List Call) (address : ℕ) → r.discipline ≡ code RTVC
    → succeeds address (reply E (reach E r calls) c) ≡ true
    → waits_after
    address
    (calls ++ (c ∷ []))
    (replies E (E.set_up r).1 (calls ++ (c ∷ [])))
    later
    (replies E (reach E r (calls ++ (c ∷ []))) later)
    ≡ true
    → PassedOnce address (until_success address (replies E (reach E r (calls ++ (c ∷ []))) later))

-- ---- what demand 2 gives an engine

-- Each of these follows from demand 2 (proofs/Promises.antt, `promised`).
pub record Promised (E : Engine) : Type 0 where
  pub steps_agree : StepsAgree E
  pub winner_is_least : WinnerIsLeast E
  pub events_are_true : EventsAreTrue E
  pub probes_are_bounded : ProbesBounded E
  pub empty_ends : EmptyEnds E
  pub nobody_joins : NobodyJoins E
  pub counts_are_true : CountsAreTrue E
  pub closes_as_counted : ClosesAsCounted E
  pub numbers_are_answers : NumbersAreAnswers E
  pub waits_are_true : WaitsAreTrue E
  pub demand3 : Demand3 E
  pub sooner_than_demand3 : SoonerThanDemand3 E
  pub in_turn : InTurn most_slots E
  pub sooner_in_turn : InTurn fewer_slots E
  pub wait_of_the_oldest : WaitOfTheOldest E
  pub wait_in_turn : WaitInTurn E
  pub tallies_are_true : TalliesAreTrue E
  pub nobody_passes_twice : NobodyPassesTwice E
