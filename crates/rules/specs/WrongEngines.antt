-- Engines that break the rules, each the machine with one thing changed. 'Try these and see them rejected' (paper 01, 'What the
-- histories may rely on'), and others: proofs/WrongEngines.antt refutes demand 2 of each of them, and other promises of those that break them; that nobody
-- passes twice `top_ends_round` keeps (`top_ends_round_passes`). Assumes nothing.
use Rattle.std.specs.Prelude.{ℕ, zero, suc, ◌+◌, ◌-◌, ◌%◌, max, Bool, true, false, not, ◌&&◌, ◌||◌, cond, List, [], ◌∷◌, map, leb, eqb}
use Rattle.std.proofs.Math.Option.{Option, none, some}
use Rattle.window.specs.Splitting.{first_window}
use Rattle.rules.specs.Lists.{keep, each_of}
use Rattle.rules.specs.Bus.{Packet, Station, Contention, Bus, amended, with_turned, nothing}
use Rattle.rules.specs.SetUp.{fault, set_up}
use Rattle.rules.specs.Admission.{one_higher, turned_after, admit}
use Rattle.rules.specs.Probe.{Contender, transmitters, Answer, idle, success, refused_answer, dropping, Open, sent_by, withdrawn, last_winner, heard, probe}
use Rattle.rules.specs.Begin.{begin}
use Rattle.rules.specs.Step.{is_under_way, Begun, refused_begun, begin_call, probe_refusal, probe_call, opened}
use Rattle.rules.specs.Closing.{closing_call}
use Rattle.rules.specs.Engine.{Engine}

-- refuses every call, set-up too, with one and the same number
abbrev pub refuses_all : ℕ → Engine
refuses_all n =
    record {
      State = Bus;
      set_up = λ r. (fault (suc n) 0, nothing);
      admit = λ b a. (record { refusal = suc n; number = 0 }, b);
      begin = λ b. (refused_begun (suc n), b);
      probe = λ b. (refused_answer (suc n), b);
      closing = closing_call;
    }

-- sets up as the machine does, and refuses every call after it
abbrev pub refuses_calls : ℕ → Engine
refuses_calls n =
    record {
      State = Bus;
      set_up = set_up;
      admit = λ b a. (record { refusal = suc n; number = 0 }, b);
      begin = λ b. (refused_begun (suc n), b);
      probe = λ b. (refused_answer (suc n), b);
      closing = closing_call;
    }

-- gives the machine's answers, and hands the state back untouched
abbrev pub untouched : Engine
untouched =
    record {
      State = Bus;
      set_up = set_up;
      admit = λ b a. ((admit b a).0, b);
      begin = λ b. ((begin_call b).0, b);
      probe = λ b. ((probe_call b).0, b);
      closing = closing_call;
    }

-- answers each admission with a number one too low, as if the first packet were 0
abbrev pub one_too_low : Engine
one_too_low =
    record {
      State = Bus;
      set_up = set_up;
      admit = λ b a. (record { refusal = (admit b a).0.refusal; number = (admit b a).0.number - 1 }, (admit b a).1);
      begin = begin_call;
      probe = probe_call;
      closing = closing_call;
    }

-- the machine with another probe
abbrev pub probing_by : (Bus → Answer × Bus) → Engine
probing_by other = record { State = Bus; set_up = set_up; admit = admit; begin = begin_call; probe = other; closing = closing_call }

-- the machine with another way to probe the contention under way
abbrev pub probing : (Open → Answer × Bus) → Engine
probing other = probing_by λ b. cond (eqb (probe_refusal b) 0) (other (opened b)) (refused_answer (probe_refusal b), b)

-- says idle each time, as if none transmitted
abbrev pub always_idle : Engine
always_idle = probing λ o. heard o []

-- makes up drops: one more at each probe
abbrev pub made_up_drops : Engine
made_up_drops = probing λ o. (dropping (suc (probe o).0.drops) (probe o).0, (probe o).1)

-- makes up sent counts: on success the packet stays in its queue, and is sent again
abbrev pub stays : Bus → Contender → Bus
stays b x =
    record {
      discipline = b.discipline;
      D = b.D;
      A = b.A;
      q = b.q;
      stations = map withdrawn b.stations;
      clock = b.clock + x.packet.length;
      admitted = b.admitted;
      sent = b.sent;
      lost = b.lost;
      turned = b.turned;
      last = last_winner b.discipline x;
      contention = none;
    }

-- what is heard, with the packet left in its queue
abbrev pub heard_staying : Open → List Contender → Answer × Bus
heard_staying o [] = heard o []
heard_staying o (x ∷ []) = (sent_by o x, stays o.bus x)
heard_staying o (x ∷ y ∷ more) = heard o (x ∷ y ∷ more)

-- the engine that makes up sent counts
abbrev pub made_up_sent : Engine
made_up_sent = probing λ o. heard_staying o (transmitters o.bus o.contention)

-- compares addresses without their upper byte: of transmitters whose addresses agree in the lower byte only the first is heard,
-- so that a collision between 7 and 263 is booked as a lone win
abbrev pub senders : List Contender → List Contender
senders [] = []
senders (x ∷ more) = x ∷ keep (λ y. not (eqb (x.address % 256) (y.address % 256))) (senders more)

-- the old fault
abbrev pub low_byte : Engine
low_byte = probing λ o. heard o (senders (transmitters o.bus o.contention))

-- takes two who transmit for success of the first (P10: 'idle, success and collision follow from how many bits are set')
abbrev pub first_of_two : List Contender → List Contender
first_of_two [] = []
first_of_two (x ∷ []) = x ∷ []
first_of_two (x ∷ y ∷ []) = x ∷ []
first_of_two (x ∷ y ∷ z ∷ more) = x ∷ y ∷ z ∷ more

-- the engine that takes two for one
abbrev pub two_for_one : Engine
two_for_one = probing λ o. heard o (first_of_two (transmitters o.bus o.contention))

-- hears in a slot those who transmitted in the slot before, in a contention's first slot those who do; beside the bus it keeps the bus as the last
-- probe found it, or as the contention began
abbrev pub transmitters_kept : Engine
transmitters_kept =
    record {
      State = Bus × Bus;
      set_up = λ r. ((set_up r).0, ((set_up r).1, (set_up r).1));
      admit = λ s a. ((admit s.0 a).0, ((admit s.0 a).1, s.1));
      begin = λ s. let o = begin_call s.0 in (o.0, (o.1, cond (eqb o.0.refusal 0) o.1 s.1));
      probe = λ s.
          let said = heard (opened s.0) (transmitters (opened s.1).bus (opened s.1).contention) in
          cond (eqb (probe_refusal s.0) 0) (said.0, (said.1, s.0)) (refused_answer (probe_refusal s.0), s);
      closing = λ s. closing_call s.0;
    }

-- makes up probes: plays the contention to its end in one call, in n probes more at the most, and answers its last probe alone
abbrev pub played_out : ℕ → Bus → Answer × Bus
played_out zero b = probe_call b
played_out (suc n) b =
    elim (eqb (probe_call b).0.ended 1 || not (eqb (probe_call b).0.refusal 0)) [ true ↦ probe_call b | false ↦ played_out n (probe_call b).1 ]

-- the engine that makes up probes
abbrev pub made_up_probes : Engine
made_up_probes = probing_by (played_out 66)

-- arbitrates the first contention truly, and thereafter names the first listed station with a success each probe, whether or not it has
-- a packet; beside the bus it keeps whether the first contention is over
abbrev pub first_packet : List Packet → Packet
first_packet [] = record { number = 0; value = 0; length = 1; admission = record { 0 = 0 } }
first_packet (p ∷ queue) = p

-- the first listed station, as if it alone transmitted
abbrev pub first_listed : List Station → List Contender
first_listed [] = []
first_listed (s ∷ stations) = record { address = s.address; capability = s.capability; parameter = 0; packet = first_packet s.queue } ∷ []

-- a probe, before and after the first contention is over
abbrev pub arbitrates : Bus → Bool → Answer × (Bus × Bool)
arbitrates b false = ((probe_call b).0, ((probe_call b).1, eqb (probe_call b).0.ended 1))
arbitrates b true = let said = heard (opened b) (first_listed b.stations) in (said.0, (said.1, true))

-- the engine that names the first station
abbrev pub first_station : Engine
first_station =
    record {
      State = Bus × Bool;
      set_up = λ r. ((set_up r).0, ((set_up r).1, false));
      admit = λ s a. ((admit s.0 a).0, ((admit s.0 a).1, s.1));
      begin = λ s. ((begin_call s.0).0, ((begin_call s.0).1, s.1));
      probe = λ s. arbitrates s.0 s.1;
      closing = λ s. closing_call s.0;
    }

-- ---- waits

-- an answer with another wait, where a packet was sent
abbrev pub with_wait : ℕ → Answer → Answer
with_wait n a =
    record {
      refusal = a.refusal;
      drops = a.drops;
      slot = a.slot;
      phase = a.phase;
      start = a.start;
      size = a.size;
      event = a.event;
      address = a.address;
      number = a.number;
      length = a.length;
      wait = cond (eqb a.event success) n 0;
      ended = a.ended;
    }

-- counts the wait to the packet's end
abbrev pub wait_to_the_end : Engine
wait_to_the_end = probing λ o. (with_wait ((probe o).0.wait + (probe o).0.length) (probe o).0, (probe o).1)

-- counts the wait from the contention's beginning; beside the bus it keeps the slot in which that began
abbrev pub wait_of_the_contention : Engine
wait_of_the_contention =
    record {
      State = Bus × ℕ;
      set_up = λ r. ((set_up r).0, ((set_up r).1, 0));
      admit = λ s a. ((admit s.0 a).0, ((admit s.0 a).1, s.1));
      begin = λ s. let o = begin_call s.0 in (o.0, (o.1, cond (eqb o.0.refusal 0) s.0.clock s.1));
      probe = λ s. (with_wait ((probe_call s.0).0.slot - s.1) (probe_call s.0).0, ((probe_call s.0).1, s.1));
      closing = λ s. closing_call s.0;
    }

-- counts the wait from the arrival's time, where that is earlier than the admission: in a run whose k-th accepted arrival has the time that
-- `times` gives for k
abbrev pub wait_from_the_arrival : (ℕ → ℕ) → Engine
wait_from_the_arrival times = probing λ o. (with_wait (max (probe o).0.wait ((probe o).0.slot - times (probe o).0.number)) (probe o).0, (probe o).1)

-- the times of arrivals that come a slot after one another: 0 for packet 1, 1 for packet 2 and so on
abbrev pub arrival_times : ℕ → ℕ
arrival_times k = k - 1

-- ---- begin and probe

-- the machine with another begin
abbrev pub beginning : (Bus → Begun × Bus) → Engine
beginning other = record { State = Bus; set_up = set_up; admit = admit; begin = other; probe = probe_call; closing = closing_call }

-- a begin's answer with no drops
abbrev pub without_drops : Begun → Begun
without_drops o = record { refusal = o.refusal; drops = 0; slot = o.slot; start = o.start; size = o.size; contenders = o.contenders }

-- drops nothing as a contention begins, by its answer, and counts what it dropped in the contention's first probe; beside the bus it keeps what is
-- still to be counted
abbrev pub drops_later : Engine
drops_later =
    record {
      State = Bus × ℕ;
      set_up = λ r. ((set_up r).0, ((set_up r).1, 0));
      admit = λ s a. ((admit s.0 a).0, ((admit s.0 a).1, s.1));
      begin = λ s. let o = begin_call s.0 in cond (eqb o.0.refusal 0) (without_drops o.0, (o.1, o.0.drops)) (o.0, s);
      probe = λ s. let p = probe_call s.0 in cond (eqb p.0.refusal 0) (dropping s.1 p.0, (p.1, 0)) (p.0, s);
      closing = λ s. closing_call s.0;
    }

-- offers anew at the first probe, that of the first window of D, so that a packet admitted after the begin joins
abbrev pub anew_in : Bus → Contention → Option ℕ → Bus
anew_in b c none = cond (eqb c.window.size (first_window b.D).size) (begin b) b
anew_in b c (some tied) = b

abbrev pub anew : Bus → Option Contention → Bus
anew b none = b
anew b (some c) = anew_in b c c.tie

abbrev pub offers_anew : Engine
offers_anew = probing_by λ b. cond (eqb (probe_refusal b) 0) (probe_call (anew b b.contention)) (probe_call b)

-- a begin takes a slot
abbrev pub slot_later : Bus → Bus
slot_later b = amended (suc b.clock) b.last b.contention b

abbrev pub begin_takes_a_slot : Engine
begin_takes_a_slot = beginning λ b. ((begin_call b).0, cond (eqb (begin_call b).0.refusal 0) (slot_later (begin_call b).1) b)

-- ---- rounds

-- a bus with another last winner; the round is over, with none; it is over where a test holds
abbrev pub with_last : Option ℕ → Bus → Bus
with_last last b = amended b.clock last b.contention b

abbrev pub round_ended : Bus → Bus
round_ended b = with_last none b

abbrev pub round_over : (Bus → Bool) → Bus → Bus
round_over over b = cond (over b) (round_ended b) b

-- the machine, but that after a probe the round is over where a test holds
abbrev pub ending_round : (Bus → Bool) → Engine
ending_round over = probing_by λ b. ((probe_call b).0, round_over over (probe_call b).1)

-- ends the round as soon as the top circuit has sent
abbrev pub is_top : List Station → Option ℕ → Bool
is_top stations none = false
is_top stations (some winner) = each_of (λ s. leb s.capability winner) stations

abbrev pub top_sent : Bus → Bool
top_sent b = not (is_under_way b.contention) && is_top b.stations b.last

abbrev pub top_ends_round : Engine
top_ends_round = ending_round top_sent

-- ends the round with each contention, whoever has sent
abbrev pub each_ends_round : Engine
each_ends_round = ending_round λ b. not (is_under_way b.contention)

-- goes on with the round after a contention without a winner
abbrev pub round_goes_on : Engine
round_goes_on = probing_by λ b. ((probe_call b).0, cond (eqb (probe_call b).0.event idle) (with_last b.last (probe_call b).1) (probe_call b).1)

-- ---- packets turned away

-- the machine, but that the count after an admission is another one, of its refusal and the count before it
abbrev pub counting : (ℕ → ℕ → ℕ) → Engine
counting after =
    record {
      State = Bus;
      set_up = set_up;
      admit = λ b a. ((admit b a).0, with_turned (after (admit b a).0.refusal b.turned) (admit b a).1);
      begin = begin_call;
      probe = probe_call;
      closing = closing_call;
    }

-- counts a 12 too
abbrev pub counts12_too : Engine
counts12_too = counting λ refusal count. cond (eqb refusal 12) (one_higher count) (turned_after refusal count)

-- counts a 15 twice
abbrev pub counts15_twice : Engine
counts15_twice = counting λ refusal count. cond (eqb refusal 15) (one_higher (one_higher count)) (turned_after refusal count)

-- counts 14 alone
abbrev pub counts14_alone : Engine
counts14_alone = counting λ refusal count. cond (eqb refusal 14) (one_higher count) count

-- starts again at a contention
abbrev pub starts_again : Engine
starts_again = beginning λ b. ((begin_call b).0, cond (eqb (begin_call b).0.refusal 0) (with_turned 0 (begin_call b).1) b)
