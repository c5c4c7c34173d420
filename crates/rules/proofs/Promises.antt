-- What is proved of paper 01, in one place. The statements are in specs/Demands.antt and specs/Conditions.antt, the proofs in the
-- files named here; docs/PROMISES.md says which sentence each answers. Assumes nothing.
use mathlib.Core.Path.{◌≡◌}
use mathlib.Core.Option.{none}
use Rattle.rules.specs.Conditions.{RefusalsExact}
use Rattle.rules.specs.Engine.{Engine, machine}
use Rattle.rules.specs.Demands.{Demand2, NoFalseWin, AddressesApart, StandsExactly, KeepsStanding, ReachedStands, HandsBack, StepIsBoth, BeginTells, BeginsAtAnyClock, OffersTheFirst, ContendersStay, QueuedAsAnswered, Promised}
use Rattle.rules.specs.Examples.{first_failing}
use Rattle.rules.proofs.Tests.{tells, told}
use Rattle.rules.proofs.Standing as Standing
use Rattle.rules.proofs.Refusals as Refusals
use Rattle.rules.proofs.Keeps as Keeps
use Rattle.rules.proofs.Step as Step
use Rattle.rules.proofs.Reach as Reach
use Rattle.rules.proofs.Counts as Counts
use Rattle.rules.proofs.Numbering as Numbering
use Rattle.rules.proofs.Offers as Offers
use Rattle.rules.proofs.Recorded as Recorded
use Rattle.rules.proofs.Joining as Joining
use Rattle.rules.proofs.Least as Least
use Rattle.rules.proofs.Waits as Waits
use Rattle.rules.proofs.Probes as Probes
use Rattle.rules.proofs.Demand3 as Demand3
use Rattle.rules.proofs.OldestWait as OldestWait
use Rattle.rules.proofs.Passing as Passing
use Rattle.rules.proofs.Starred as Starred

-- ---- of the rules themselves, for any lent state

-- a state passes the test exactly when it keeps the standing conditions
pub stands_exactly_so : StandsExactly
stands_exactly_so b = (tells (Standing.stands_exactly b), told (Standing.stands_exactly b))

-- accepted calls keep them
pub keeps_standing : KeepsStanding
keeps_standing = Keeps.keeps_standing

pub reached_stands : ReachedStands
reached_stands = Reach.reached_stands

-- refused calls hand back the state as lent, 14 and 15 but for the count of packets turned away, and zeros; the all-zero state does not stand
pub hands_back : HandsBack
hands_back = Refusals.hands_back

-- each refusal number is given exactly when its condition holds and none tried earlier does
pub refusals_exact : RefusalsExact
refusals_exact = Refusals.refusals_exact

-- an accepted step is a begin, where none is under way, and a probe; a begin answers what it did, and is accepted at any clock
pub step_is_both : StepIsBoth
step_is_both = Step.step_is_both

pub begin_tells : BeginTells
begin_tells = Step.begin_tells

pub begins_at_any_clock : BeginsAtAnyClock
begins_at_any_clock = Step.begins_at_any_clock

-- of its packets in time a station offers the one that goes before every other
pub offers_the_first : OffersTheFirst
offers_the_first = Offers.offers_the_first

-- contenders stay recorded, parameters fixed, until the contention ends, and nobody joins midway
pub contenders_stay : ContendersStay
contenders_stay = Recorded.contenders_stay

-- the packet that an accepted admission queues bears the number answered
pub queued_as_answered : QueuedAsAnswered
queued_as_answered = Numbering.queued_as_answered

-- an event says how many transmit
pub no_false_win : NoFalseWin
no_false_win = Least.no_false_win

-- no two stations share a full address
pub addresses_all_apart : AddressesApart
addresses_all_apart = Least.addresses_all_apart

-- the starred examples
pub starred : first_failing ≡ none
starred = Starred.starred

-- ---- of every engine that meets demand 2: steps are the machine's too, the winner is least, events, counts, numbers, waits and tallies are true, probes are
-- bounded, a contention without contenders ends at once, nobody joins, demand 3, a slot fewer than it asks for, the same of the j-th packet, what they say of
-- a wait, and nobody passes a waiting circuit twice

pub promised : (E : Engine) → Demand2 E → Promised E
promised E meets =
    record {
      steps_agree = Reach.steps_agree E meets;
      winner_is_least = Least.winner_is_least E meets;
      events_are_true = Least.events_are_true E meets;
      probes_are_bounded = Probes.probes_are_bounded E meets;
      empty_ends = Probes.empty_ends E meets;
      nobody_joins = Joining.nobody_joins E meets;
      counts_are_true = Counts.counts_are_true E meets;
      closes_as_counted = Counts.closes_as_counted E meets;
      numbers_are_answers = Numbering.numbers_are_answers E meets;
      waits_are_true = Waits.waits_are_true E meets;
      demand3 = Demand3.demand3 E meets;
      sooner_than_demand3 = Demand3.sooner_than_demand3 E meets;
      in_turn = Demand3.in_turn E meets;
      sooner_in_turn = Demand3.sooner_in_turn E meets;
      wait_of_the_oldest = OldestWait.wait_of_the_oldest E meets;
      wait_in_turn = OldestWait.wait_in_turn E meets;
      tallies_are_true = Passing.tallies_are_true E meets;
      nobody_passes_twice = Passing.nobody_passes_twice E meets;
    }

-- ---- and so of the machine, which meets it

pub demand2_machine : Demand2 machine
demand2_machine = Reach.demand2_machine

pub promised_machine : Promised machine
promised_machine = promised machine demand2_machine
