-- What is proved of the listing, in one place. `listing` (specs/Run.antt) is the definition, from the bytes of a scenario to the bytes of its
-- listing; `opened` and `turn` (specs/Turns.antt) are what `open` and `next` of src/lib.rt answer. That each contract says all of its
-- result and of the room is proofs/Unique.antt. Assumes nothing.
use Prim.Native.Nat.{ℕ, ◌≤◌, ◌<◌}
use mathlib.Core.Path.{◌≡◌}
use mathlib.Core.Bool.{true, false}
use mathlib.Core.List.{List, ◌++◌}
use Rattle.rules.specs.Lists.{All}
use Rattle.rules.specs.Bus.{Bus}
use Rattle.rules.specs.SetUp.{Request, set_up}
use Rattle.state.specs.declared.Arrival.{Arrival}
use Rattle.scenario.specs.Reading.{accepted, reading}
use Rattle.scenario.specs.Writing.{Bytes, written, Good}
use Rattle.listing.specs.Run.{closing_text, run_text, listing, answers_of, end_of}
use Rattle.listing.specs.Turns.{Play, opened, turn, handed, turns_left, played}
use Rattle.listing.specs.Worked.{worked_input, worked_output, worked_request, worked_arrivals, timed_input, timed_output, waited_input, waited_output, turned_input, turned_output}
use Rattle.listing.proofs.Handed as Handed
use Rattle.listing.proofs.Played as Played
use Rattle.listing.proofs.NeverRefused as NeverRefused
use Rattle.listing.proofs.Worked as Worked

-- the texts that the library hands out, one after the other, are the listing, whatever the input
pub handed_out :
    (input : List ℕ) (turns : ℕ) → turns_left input (opened input).play ≤ turns → handed turns input (opened input) ≡ listing input
handed_out = Handed.handed_out

-- each turn takes from the turns that a play has yet, whatever the play, and then the run is over
pub falls : (input : List ℕ) (p : Play) → p.going ≡ true → turns_left input (turn input p).play < turns_left input p
falls = Handed.falls

pub over_at_last :
    (input : List ℕ) (turns : ℕ) → turns_left input (opened input).play ≤ turns → (played turns input (opened input).play).going ≡ false
over_at_last = Handed.over_at_last

-- no step of a scenario is refused: it cannot reach the clock's end
pub never_refused :
    (input : List ℕ) (r : Request) (arrivals : List Arrival) (steps : ℕ) → reading input ≡ accepted r arrivals steps → Bytes input
    → All (λ a. a.refusal ≡ 0) (answers_of steps (set_up r).1 arrivals)
never_refused = NeverRefused.never_refused_bytes

-- a run's text ends with the line that tells the counts of the bus at its end
pub run_ends : (steps : ℕ) (b : Bus) (arrivals : List Arrival) → (text : List ℕ) × (run_text steps b arrivals ≡ text ++ closing_text (end_of steps b arrivals))
run_ends = Played.run_ends

-- the worked example of paper 01
pub worked : listing worked_input ≡ worked_output
worked = Worked.worked

-- it is a good scenario, so that the premises above and those of the reader's theorems are met
pub worked_good : (worked_input ≡ written worked_request worked_arrivals 14) × Good worked_request worked_arrivals 14
worked_good = Worked.worked_good

-- an example whose arrivals come later
pub timed : listing timed_input ≡ timed_output
timed = Worked.timed

-- and so of one that is admitted after its time: its wait is counted from the admission (P1)
pub waited : listing waited_input ≡ waited_output
waited = Worked.waited

-- and of one that is late by then: it is counted in the last field of `END` (P4)
pub turned : listing turned_input ≡ turned_output
turned = Worked.turned
