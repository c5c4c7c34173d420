-- The worked example of paper 01: its listing is the output that the paper gives, by computation, and so for the other three examples; and it is
-- a good scenario, so that what is proved of good and of accepted scenarios speaks of some. Assumes nothing.
use mathlib.Core.Path.{◌≡◌, refl}
use lib.Dec.{ltb}
use borrow.Author.Tests.{ltb-true}
use Rattle.window.specs.Splitting.{exponent_of, is_power}
use Rattle.rules.proofs.Laws.{each_view}
use Rattle.scenario.specs.Reading.{accepted, reading}
use Rattle.scenario.specs.Writing.{Bytes, written, Good}
use Rattle.scenario.proofs.Written.{accepted_only}
use Rattle.text.specs.Text.{decimal}
use Rattle.listing.specs.Run.{listing}
use Rattle.listing.specs.Worked.{worked_input, worked_output, worked_request, worked_arrivals, timed_input, timed_output, waited_input, waited_output, turned_input, turned_output}

-- the paper's input and output
pub worked : listing worked_input ≡ worked_output
unfolding exponent_of is_power decimal
worked = refl

-- arrivals that come later, and one that the run never reaches
pub timed : listing timed_input ≡ timed_output
unfolding exponent_of is_power decimal
timed = refl

-- an arrival that is admitted after its time, and does not wait
pub waited : listing waited_input ≡ waited_output
unfolding exponent_of is_power decimal
waited = refl

-- an arrival that is late by the time it is asked for
pub turned : listing turned_input ≡ turned_output
unfolding exponent_of is_power decimal
turned = refl

-- the input is bytes, and accepted
worked_bytes : Bytes worked_input
worked_bytes x i = ltb-true x 256 (each_view (λ y. ltb y 256) worked_input refl x i)

worked_accepted : reading worked_input ≡ accepted worked_request worked_arrivals 14
worked_accepted = refl

-- and so it is the writing of a good scenario
pub worked_good : (worked_input ≡ written worked_request worked_arrivals 14) × Good worked_request worked_arrivals 14
worked_good = accepted_only worked_input worked_request worked_arrivals 14 worked_bytes worked_accepted
