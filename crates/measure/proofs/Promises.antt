-- What is proved of measured runs, in one place. `measured` (specs/Measured.antt) is the definition, from the bytes of a scenario to its finished run,
-- or to what refuses it, and what `measure` of src/lib.rt answers. That the contract says all of the result is proofs/Unique.antt.
-- Assumes nothing.
use Prim.Native.Nat.{ℕ}
use mathlib.Core.Path.{◌≡◌}
use mathlib.Core.List.{List}
use lib.ListN.{take}
use Rattle.rules.specs.Lists.{count}
use Rattle.rules.specs.SetUp.{Request, set_up}
use Rattle.state.specs.declared.Arrival.{Arrival}
use Rattle.scenario.specs.Reading.{accepted, reading}
use Rattle.listing.specs.Run.{answers_of}
use Rattle.listing.specs.Worked.{worked_input, turned_input}
use Rattle.measure.specs.Measured.{succeeded, measured, run_in, Fits}
use Rattle.measure.specs.Examples.{finished_with, refused_with, later_input}
use Rattle.measure.proofs.Counted as Counted
use Rattle.measure.proofs.Examples as Examples

-- a measured run balances, so that no sheet refuses it with 24, and its six numbers are below 2 ^ 32, whatever the input
pub fits : (input : List ℕ) → Fits (run_in (measured input))
fits = Counted.fits

-- the packets sent are the successes among the answers, over which the longest wait is taken
pub sent_are_successes :
    (input : List ℕ) (r : Request) (arrivals : List Arrival) (steps : ℕ) → reading input ≡ accepted r arrivals steps
    → (run_in (measured input)).sent ≡ count succeeded (answers_of steps (set_up r).1 arrivals)
sent_are_successes = Counted.sent_are_successes

-- a run in which nothing was sent has no wait
pub nothing_sent : (input : List ℕ) → (run_in (measured input)).sent ≡ 0 → (run_in (measured input)).wait ≡ 0
nothing_sent = Counted.nothing_sent

-- the worked example of paper 01
pub worked : measured worked_input ≡ finished_with 3 3 0 0 0 14
worked = Examples.worked

-- a run whose longest wait is not that of its last success
pub longest_before_the_last : measured later_input ≡ finished_with 4 3 0 1 0 2
longest_before_the_last = Examples.longest_before_the_last

-- a run in which a packet is turned away
pub one_turned_away : measured turned_input ≡ finished_with 1 1 0 0 1 0
one_turned_away = Examples.one_turned_away

-- the worked example cut short inside its first station's record
pub cut_short : measured (take 20 worked_input) ≡ refused_with 18 16
cut_short = Examples.cut_short
