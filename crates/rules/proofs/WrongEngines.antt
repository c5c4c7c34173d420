-- Demand 2 rules out each wrong engine of specs/WrongEngines.antt, by a script of calls to which its replies are not the machine's. Other promises rule out
-- some of them, at the edge of what each allows: demand 3 and the bounds of the j-th packet the one that names the first station; those bounds and the promise
-- that nobody passes twice those that end rounds otherwise; numbers, waits, tallies and the promise that nobody joins those that break them. Assumes nothing.
use Prim.Native.Nat.{ℕ, suc, ◌+◌, ◌≤◌}
use mathlib.Core.Path.{◌≡◌, refl, sym, ap, ◌∙◌}
use mathlib.Core.Option.{none}
use mathlib.Core.List.{List, [], ◌∷◌, ◌++◌, map}
use native.Mathlib.Omega.{arith}
use lib.Dec.{lit≤}
use lib.ListN.{take}
use Rattle.window.specs.Splitting.{exponent_of, is_power}
use Rattle.rules.specs.Lists.{total, at_head, in_tail}
use Rattle.rules.specs.Bus.{RTVC, Packet, Station}
use Rattle.rules.specs.SetUp.{Request, set_up}
use Rattle.rules.specs.Admission.{Arrival}
use Rattle.rules.specs.Probe.{Answer, idle, collision, success}
use Rattle.rules.specs.Closing.{Totals}
use Rattle.rules.specs.Engine.{Engine, machine, Call, one-begin, one-probe, one-step, Reply, replies, reach, probes_in, begins_in, answers}
use Rattle.rules.specs.Demands.{Demand2, adds_lost, numbers_answered, ClosesAsCounted, NumbersAreAnswers, WaitsAreTrue, NobodyJoins, most_contentions, most_idle, most_slots, fewer_slots, CircuitWaits, EndsWithin, Demand3, contentions_for, idle_for, slots_for, InTurn, WaitInTurn, TalliesAreTrue, NobodyPassesTwice}
use Rattle.rules.specs.Examples.{arrives, steps, listing, pri, rtdg, arrivals, circuits, apart, packet_since, pair as twoStations, admitted_later, chatty, meanwhile}
use Rattle.rules.specs.WrongEngines.{refuses_all, refuses_calls, untouched, one_too_low, always_idle, made_up_drops, made_up_sent, low_byte, two_for_one, transmitters_kept, made_up_probes, first_station, wait_to_the_end, wait_of_the_contention, wait_from_the_arrival, arrival_times, drops_later, offers_anew, begin_takes_a_slot, top_ends_round, each_ends_round, top_sent, round_goes_on, counts12_too, counts15_twice, counts14_alone, starts_again}
use Rattle.rules.proofs.Laws.{clash}
use Rattle.rules.proofs.Reach.{steps_agree, closing_agrees}
use Rattle.rules.proofs.Ending.{top_only}
use Rattle.rules.proofs.Passing.{passes_from_set_up}
use Rattle.rules.proofs.Computing.{Brings, Same, number, bus, test, pair, computed, closed, bus_same, test_same, number_same, pair_same, computed_replies, closed_closing}

-- A number read off the replies to a script is the machine's, both computed state by state.
agrees : (E : Engine) (bring : Brings (List Reply) E.State) → Same bring → Demand2 E → (read : List Reply → ℕ) (r : Request) (calls : List Call)
    → read (computed E bring (E.set_up r).1 calls) ≡ read (computed machine bus (set_up r).1 calls)
agrees E bring same demand read r calls =
    ap
    read
    (computed_replies E bring same (E.set_up r).1 calls
    ∙ steps_agree E demand r calls
    ∙ sym (computed_replies machine bus bus_same (set_up r).1 calls))

-- So is the count of packets turned away that it closes with.
closes_agree : (E : Engine) (bring : Brings Totals E.State) → Same bring → Demand2 E → (r : Request) (calls : List Call)
    → (closed E bring (E.set_up r).1 calls).turned ≡ (closed machine bus (set_up r).1 calls).turned
closes_agree E bring same demand r calls =
    ap
    (λ t. t.turned)
    (closed_closing E bring same (E.set_up r).1 calls
    ∙ closing_agrees E demand r calls
    ∙ sym (closed_closing machine bus bus_same (set_up r).1 calls))

-- read off replies, each summed: the events (0 idle, 1 collision, 2 success), the winners' addresses, the drops, the numbers that admissions
-- answer, the refusals of probes, the waits, the drops that begins answer, the slots probed
events : List Reply → ℕ
events rs = total (λ a. a.event) (probes_in rs)

winners : List Reply → ℕ
winners rs = total (λ a. a.address) (probes_in rs)

drops : List Reply → ℕ
drops rs = total adds_lost rs

numbers : List Reply → ℕ
numbers rs = total (λ n. n) (numbers_answered rs)

refusals : List Reply → ℕ
refusals rs = total (λ a. a.refusal) (probes_in rs)

waits : List Reply → ℕ
waits rs = total (λ a. a.wait) (probes_in rs)

begin_drops : List Reply → ℕ
begin_drops rs = total (λ o. o.drops) (begins_in rs)

slots : List Reply → ℕ
slots rs = total (λ a. a.slot) (probes_in rs)

pub refuses_all_wrong : (n : ℕ) → Demand2 (refuses_all n) → ⊥
refuses_all_wrong n demand = let z : suc n ≡ 0 = ap (λ v. v.refusal) (demand.set_ups listing) in omega arith

pub refuses_calls_wrong : (n : ℕ) → Demand2 (refuses_calls n) → ⊥
unfolding refusals exponent_of is_power
refuses_calls_wrong n demand = let z : suc n + 0 ≡ 0 = agrees (refuses_calls n) bus bus_same demand refusals listing (one-begin ∷ one-probe ∷ []) in omega arith

-- the first packet is 1
pub one_too_low_wrong : Demand2 one_too_low → ⊥
unfolding numbers exponent_of is_power
one_too_low_wrong demand = let z : ◌≡◌ {A = ℕ} 0 1 = agrees one_too_low bus bus_same demand numbers listing (arrives 1 0 1 ∷ []) in omega arith

-- and numbers are not its answers
pub one_too_low_misnumbers : NumbersAreAnswers one_too_low → ⊥
unfolding exponent_of is_power
one_too_low_misnumbers holds = let z : ◌≡◌ {A = ℕ} 0 1 = ap (total (λ n. n)) (holds listing (arrives 1 0 1 ∷ [])) in omega arith

-- a lone packet is sent
pub untouched_wrong : Demand2 untouched → ⊥
unfolding events exponent_of is_power
untouched_wrong demand = let z : ◌≡◌ {A = ℕ} 0 2 = agrees untouched bus bus_same demand events listing (arrives 1 0 1 ∷ steps 1) in omega arith

pub always_idle_wrong : Demand2 always_idle → ⊥
unfolding events exponent_of is_power
always_idle_wrong demand = let z : ◌≡◌ {A = ℕ} 0 2 = agrees always_idle bus bus_same demand events listing (arrives 1 0 1 ∷ steps 1) in omega arith

-- it is sent once
pub made_up_sent_wrong : Demand2 made_up_sent → ⊥
unfolding events exponent_of is_power
made_up_sent_wrong demand = let z : ◌≡◌ {A = ℕ} 4 2 = agrees made_up_sent bus bus_same demand events listing (arrives 1 0 1 ∷ steps 2) in omega arith

-- where there is no packet, none is dropped
pub made_up_drops_wrong : Demand2 made_up_drops → ⊥
unfolding drops exponent_of is_power
made_up_drops_wrong demand = let z : ◌≡◌ {A = ℕ} 1 0 = agrees made_up_drops bus bus_same demand drops listing (one-begin ∷ one-probe ∷ []) in omega arith

-- two packets of unlike priority collide before one is sent
pub made_up_probes_wrong : Demand2 made_up_probes → ⊥
unfolding events exponent_of is_power
made_up_probes_wrong demand =
    let z : ◌≡◌ {A = ℕ} 2 1 = agrees made_up_probes bus bus_same demand events listing (arrives 1 0 1 ∷ arrives 5 3 1 ∷ steps 1) in omega arith

-- 7 and 263 collide
pub low_byte_wrong : Demand2 low_byte → ⊥
unfolding events exponent_of is_power
low_byte_wrong demand =
    let z : ◌≡◌ {A = ℕ} 2 1 = agrees low_byte bus bus_same demand events apart (arrives 263 0 1 ∷ arrives 7 0 1 ∷ steps 1) in omega arith

-- two packets of unlike priority collide
pub two_for_one_wrong : Demand2 two_for_one → ⊥
unfolding events exponent_of is_power
two_for_one_wrong demand =
    let z : ◌≡◌ {A = ℕ} 2 1 = agrees two_for_one bus bus_same demand events listing (arrives 1 0 1 ∷ arrives 5 3 1 ∷ steps 1) in omega arith

-- and in the slot after the one of the lower half alone transmits
pub transmitters_kept_wrong : Demand2 transmitters_kept → ⊥
unfolding events exponent_of is_power
transmitters_kept_wrong demand =
    let calls : List Call = arrives 1 0 1 ∷ arrives 5 3 1 ∷ steps 2 in
    let z : ◌≡◌ {A = ℕ} 2 3 = agrees transmitters_kept (pair bus bus) (pair_same bus_same bus_same) demand events listing calls in
    omega arith

-- a packet of length 3 that is sent in its admission slot has waited for no slot
pub wait_to_the_end_wrong : Demand2 wait_to_the_end → ⊥
unfolding waits exponent_of is_power
wait_to_the_end_wrong demand = let z : ◌≡◌ {A = ℕ} 3 0 = agrees wait_to_the_end bus bus_same demand waits listing (arrives 1 0 3 ∷ steps 1) in omega arith

pub wait_to_the_end_untrue : WaitsAreTrue wait_to_the_end → ⊥
unfolding exponent_of is_power
wait_to_the_end_untrue holds = let z : ◌≡◌ {A = ℕ} 0 3 = (holds.succeeds listing (arrives 1 0 3 ∷ []) one-step _ (at_head refl) refl).waited in omega arith

-- of two packets of length 1 at one station the second has waited for one slot, though its contention begins as it wins
pub wait_of_the_contention_wrong : Demand2 wait_of_the_contention → ⊥
unfolding waits exponent_of is_power
wait_of_the_contention_wrong demand =
    let calls : List Call = arrives 1 0 1 ∷ arrives 1 0 1 ∷ steps 2 in
    let z : ◌≡◌ {A = ℕ} 0 1 = agrees wait_of_the_contention (pair bus number) (pair_same bus_same number_same) demand waits listing calls in
    omega arith

pub wait_of_the_contention_untrue : WaitsAreTrue wait_of_the_contention → ⊥
unfolding exponent_of is_power
wait_of_the_contention_untrue holds =
    let z : ◌≡◌ {A = ℕ} 1 0 = (holds.succeeds listing (arrives 1 0 1 ∷ arrives 1 0 1 ∷ steps 1) one-step _ (at_head refl) refl).waited in omega arith

-- of arrivals with times 0 and 1 and lengths 10 and 1 the second is admitted at slot 10, and has waited for no slot
pub wait_from_the_arrival_wrong : Demand2 (wait_from_the_arrival arrival_times) → ⊥
unfolding waits exponent_of is_power
wait_from_the_arrival_wrong demand =
    let z : ◌≡◌ {A = ℕ} 9 0 = agrees (wait_from_the_arrival arrival_times) bus bus_same demand waits listing admitted_later in omega arith

pub wait_from_the_arrival_untrue : WaitsAreTrue (wait_from_the_arrival arrival_times) → ⊥
unfolding exponent_of is_power
wait_from_the_arrival_untrue holds = let z : ◌≡◌ {A = ℕ} 10 19 = (holds.succeeds listing (take 3 admitted_later) one-step _ (at_head refl) refl).waited in omega arith

-- 6 wins over 7 in the first contention, and 7 the second, not 5
pub first_station_wrong : Demand2 first_station → ⊥
unfolding winners exponent_of is_power
first_station_wrong demand =
    let calls : List Call = arrives 6 0 1 ∷ arrives 7 0 1 ∷ steps 3 in
    let z : ◌≡◌ {A = ℕ} 11 13 = agrees first_station (pair bus test) (pair_same bus_same test_same) demand winners circuits calls in
    omega arith

-- Demand 3: circuits 1 and 3 contend, and 1 wins. Four contentions later, each of which names circuit 0, the packet of circuit 3 has not
-- been sent.
pub first_station_unfair : Demand3 first_station → ⊥
unfolding exponent_of is_power
first_station_unfair demand = clash (served.ends (lit≤ tt)) refl
  where
    calls : List Call
    calls = arrives 6 0 1 ∷ arrives 7 0 1 ∷ steps 2

    said : List Answer
    said = answers first_station (reach first_station circuits calls) (steps 4)

    p : Packet
    p = record { number = 2; value = 0; length = 1; admission = record { 0 = 0 } }

    s : Station
    s = record { address = 7; capability = 3; queue = p ∷ []; offer = none }

    served : EndsWithin (most_contentions 3) most_idle (most_slots 3 2) s p said
    served =
        demand circuits calls (steps 4) s p (record {
          by_circuit = refl;
          listed = in_tail (in_tail (at_head refl));
          rest = [];
          queue = refl;
          begins = refl;
        })

-- ---- the j-th packet, at each of its bounds

-- a station between contentions, by its address, capability and queue
abbrev waiting_at : ℕ → ℕ → List Packet → Station
waiting_at address capability queue = record { address = address; capability = capability; queue = queue; offer = none }

-- circuit 0 of two has won over circuit 1, which has two packets
abbrev circuit0_first : List Call
circuit0_first = arrives 0 0 1 ∷ arrives 1 0 1 ∷ arrives 1 0 1 ∷ steps 2

-- The second of these ends within 6 contentions, two of them idle, and 8 slots, where packets take a slot.
second_in_turn : (E : Engine) → InTurn fewer_slots E → (later : List Call)
    → EndsWithin (contentions_for 2 2) (idle_for 2) (slots_for 2 fewer_slots 2 1) (waiting_at 1 1 (packet_since 0 2 0 1 ∷ packet_since 0 3 0 1 ∷ [])) (packet_since 0 3 0 1) (answers E (reach E (twoStations RTVC) circuit0_first) later)
unfolding exponent_of is_power
second_in_turn E holds later =
    holds (twoStations RTVC) circuit0_first later _ (packet_since 0 2 0 1 ∷ []) _ (record {
      by_circuit = refl;
      listed = in_tail (at_head refl);
      rest = [];
      queue = refl;
      begins = refl;
    })

-- The engine that names the first station sends neither: not within 6 contentions,
pub first_station_contentions : InTurn fewer_slots first_station → ⊥
unfolding exponent_of is_power
first_station_contentions holds = let z : 7 ≤ 6 = (second_in_turn first_station holds (steps 7)).contentions in omega arith

pub first_station_unended : InTurn fewer_slots first_station → ⊥
unfolding exponent_of is_power
first_station_unended holds = clash ((second_in_turn first_station holds (steps 6)).ends (lit≤ tt)) refl

-- and not within 8 slots
pub first_station_slots : InTurn fewer_slots first_station → ⊥
unfolding exponent_of is_power
first_station_slots holds = let z : 9 ≤ 8 = (second_in_turn first_station holds (steps 9)).slots in omega arith

pub first_station_unended_in_time : InTurn fewer_slots first_station → ⊥
unfolding exponent_of is_power
first_station_unended_in_time holds = clash ((second_in_turn first_station holds (steps 8)).ends_in_time 1 (lit≤ tt) (lit≤ tt) (lit≤ tt)) refl

-- Circuit 0 has sent, and has two packets: in an engine that goes on with the round three contentions are idle, where two may be.
pub round_goes_on_out_of_turn : InTurn fewer_slots round_goes_on → ⊥
unfolding exponent_of is_power
round_goes_on_out_of_turn holds =
    let calls : List Call = arrives 0 0 1 ∷ one-step ∷ arrives 0 0 1 ∷ arrives 0 0 1 ∷ [] in
    let p : Packet = packet_since 1 2 0 1 in
    let q : Packet = packet_since 1 3 0 1 in
    let waits : CircuitWaits (reach machine (twoStations RTVC) calls) (waiting_at 0 0 (p ∷ q ∷ [])) (p ∷ []) q =
    record { by_circuit = refl; listed = at_head refl; rest = []; queue = refl; begins = refl } in
    let z : 3 ≤ 2 = (holds (twoStations RTVC) calls (steps 3) (waiting_at 0 0 (p ∷ q ∷ [])) (p ∷ []) q waits).idle_ones in
    omega arith

-- The run of row 77: with the wait counted to the packet's end, the wait and the length of the second packet of circuit 1 are a slot more than they may be.
pub wait_to_the_end_out_of_turn : WaitInTurn wait_to_the_end → ⊥
unfolding exponent_of is_power
wait_to_the_end_out_of_turn holds =
    let p : Packet = packet_since 0 4 0 1 in
    let q : Packet = packet_since 0 5 0 1 in
    let waits : CircuitWaits (reach machine (twoStations RTVC) meanwhile) (waiting_at 1 1 (p ∷ q ∷ [])) (p ∷ []) q =
    record { by_circuit = refl; listed = in_tail (at_head refl); rest = []; queue = refl; begins = refl } in
    let z : 10 ≤ 9 =
    holds (twoStations RTVC) meanwhile (steps 8) (waiting_at 1 1 (p ∷ q ∷ [])) (p ∷ []) q waits _
    (in_tail (in_tail (in_tail (in_tail (in_tail (in_tail (in_tail (at_head refl))))))))
    refl in
    omega arith

-- ---- begin and probe

-- what is dropped comes with the begin: latest starts 0 and 1, which have collided, are dropped as the contention at slot 3 begins
pub drops_later_wrong : Demand2 drops_later → ⊥
unfolding begin_drops exponent_of is_power
drops_later_wrong demand =
    let calls : List Call = arrives 0 0 1 ∷ arrives 1 1 1 ∷ steps 3 ++ (one-begin ∷ []) in
    let z : ◌≡◌ {A = ℕ} 0 2 = agrees drops_later (pair bus number) (pair_same bus_same number_same) demand begin_drops (rtdg 2 1) calls in
    omega arith

-- a packet admitted after the begin does not join: the one that was there is sent, alone
pub offers_anew_wrong : Demand2 offers_anew → ⊥
unfolding events exponent_of is_power
offers_anew_wrong demand =
    let calls : List Call = arrives 5 2 1 ∷ one-begin ∷ arrives 1 0 1 ∷ one-probe ∷ [] in
    let z : ◌≡◌ {A = ℕ} 1 2 = agrees offers_anew bus bus_same demand events listing calls in
    omega arith

-- and by the promise that nobody joins, from its own answers
pub offers_anew_lets_in : NobodyJoins offers_anew → ⊥
unfolding exponent_of is_power
offers_anew_lets_in holds =
    let a : Arrival = record { address = 1; value = 0; length = 1 } in
    let z : ◌≡◌ {A = ℕ} 1 2 = ap (total (λ x. x.event)) (holds listing (arrives 5 2 1 ∷ one-begin ∷ []) (a ∷ []) 1) in
    omega arith

-- a begin takes no slot: the first probe is of the slot in which the contention began
pub begin_takes_a_slot_wrong : Demand2 begin_takes_a_slot → ⊥
unfolding slots exponent_of is_power
begin_takes_a_slot_wrong demand =
    let z : ◌≡◌ {A = ℕ} 1 0 = agrees begin_takes_a_slot bus bus_same demand slots listing (arrives 1 0 1 ∷ one-begin ∷ one-probe ∷ []) in omega arith

-- ---- rounds

-- after the top circuit there is an idle contention before circuit 1 wins again
pub top_ends_round_wrong : Demand2 top_ends_round → ⊥
unfolding events exponent_of is_power
top_ends_round_wrong demand =
    let calls : List Call = arrives 6 0 1 ∷ one-step ∷ arrives 6 0 1 ∷ arrives 7 0 1 ∷ steps 2 in
    let z : ◌≡◌ {A = ℕ} 6 4 = agrees top_ends_round bus bus_same demand events circuits calls in
    omega arith

-- Yet in that engine too nobody passes twice.
pub top_ends_round_passes : NobodyPassesTwice top_ends_round
top_ends_round_passes = passes_from_set_up top_sent top_only

-- The events of its run over the calls of row 70, and the winners' addresses: circuit 0, of address 5, sends once before circuit 1, of address 6, sends
-- again, and no contention is idle between.
pub top_ends_round_chatty :
    map {B = ℕ × ℕ} (λ a. (a.event, a.address)) (probes_in (replies top_ends_round (set_up circuits).1 chatty))
    ≡ (success, 6) ∷ (success, 7) ∷ (collision, 0) ∷ (collision, 0) ∷ (success, 5) ∷ (success, 6) ∷ (idle, 0) ∷ (success, 5) ∷ []
unfolding exponent_of is_power
top_ends_round_chatty =
    ap (λ rs. map {B = ℕ × ℕ} (λ a. (a.event, a.address)) (probes_in rs)) (sym (computed_replies top_ends_round bus bus_same (set_up circuits).1 chatty))

-- a circuit that has sent sits out
pub each_ends_round_wrong : Demand2 each_ends_round → ⊥
unfolding events exponent_of is_power
each_ends_round_wrong demand =
    let z : ◌≡◌ {A = ℕ} 4 2 = agrees each_ends_round bus bus_same demand events circuits (arrives 5 0 1 ∷ arrives 5 0 1 ∷ steps 2) in omega arith

-- a circuit that sits out sends after an idle contention
pub round_goes_on_wrong : Demand2 round_goes_on → ⊥
unfolding events exponent_of is_power
round_goes_on_wrong demand =
    let z : ◌≡◌ {A = ℕ} 2 4 = agrees round_goes_on bus bus_same demand events circuits (arrives 5 0 1 ∷ arrives 5 0 1 ∷ steps 3) in omega arith

-- Nobody passes twice: circuit 1 has sent, and has a packet; circuit 0 sends twice before it.
pub each_ends_round_lets_pass : NobodyPassesTwice each_ends_round → ⊥
unfolding exponent_of is_power
each_ends_round_lets_pass holds =
    let later : List Call = arrives 5 0 1 ∷ arrives 5 0 1 ∷ arrives 6 0 1 ∷ steps 6 in
    let z : 2 ≤ 1 = (holds circuits (arrives 6 0 1 ∷ []) one-step later 6 refl refl refl).each_other 5 (λ e. omega arith) in
    omega arith

-- A circuit's tally: an engine that says idle each time has its packet still waiting.
pub always_idle_mistallies : TalliesAreTrue always_idle → ⊥
unfolding exponent_of is_power
always_idle_mistallies holds = let z : ◌≡◌ {A = ℕ} 1 0 = (holds circuits (arrives 5 0 1 ∷ one-step ∷ []) 5 refl refl).waiting _ (at_head refl) refl in omega arith

-- At most one contention is idle: circuit 1 has sent, and has a packet; two contentions end idle after that, and it has not sent again.
pub round_goes_on_idles : NobodyPassesTwice round_goes_on → ⊥
unfolding exponent_of is_power
round_goes_on_idles holds =
    let z : 2 ≤ 1 = (holds circuits (arrives 6 0 1 ∷ []) one-step (arrives 6 0 1 ∷ steps 2) 6 refl refl refl).idle_ones in omega arith

-- ---- packets turned away

-- a priority at D is refused with 12, and turns no packet away
pub counts12_too_wrong : Demand2 counts12_too → ⊥
unfolding exponent_of is_power
counts12_too_wrong demand = let z : ◌≡◌ {A = ℕ} 1 0 = closes_agree counts12_too bus bus_same demand (pri 2) (arrives 0 2 1 ∷ []) in omega arith

-- and it does not close as its own replies say
pub counts12_too_miscounts : ClosesAsCounted counts12_too → ⊥
unfolding exponent_of is_power
counts12_too_miscounts holds = let z : ◌≡◌ {A = ℕ} 1 0 = ap (λ t. t.turned) (holds.accepted (pri 2) (arrives 0 2 1 ∷ []) refl) in omega arith

-- the 17th packet at a station is one
pub counts15_twice_wrong : Demand2 counts15_twice → ⊥
unfolding exponent_of is_power
counts15_twice_wrong demand = let z : ◌≡◌ {A = ℕ} 2 1 = closes_agree counts15_twice bus bus_same demand (pri 2) (arrivals 17) in omega arith

pub counts14_alone_wrong : Demand2 counts14_alone → ⊥
unfolding exponent_of is_power
counts14_alone_wrong demand = let z : ◌≡◌ {A = ℕ} 0 1 = closes_agree counts14_alone bus bus_same demand (pri 2) (arrivals 17) in omega arith

-- a packet that was late before a contention began stays counted
pub starts_again_wrong : Demand2 starts_again → ⊥
unfolding exponent_of is_power
starts_again_wrong demand =
    let calls : List Call = one-begin ∷ one-probe ∷ arrives 0 0 1 ∷ one-begin ∷ [] in
    let z : ◌≡◌ {A = ℕ} 0 1 = closes_agree starts_again bus bus_same demand (rtdg 2 1) calls in
    omega arith
