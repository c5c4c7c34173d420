-- What the private functions of src/ are held to; for readers of those alone. Assumes nothing.
use Rattle.std.specs.Prelude.{ℕ, ◌≡◌, List}
use Rattle.rules.specs.Bus.{Bus}
use Rattle.rules.specs.Standing.{Standing}
use Rattle.state.specs.declared.State.{State}
use Rattle.state.specs.declared.Arrival.{Arrival}
use Rattle.state.specs.State.{form}
use Rattle.bus.specs.declared.Report.{Report}
use Rattle.bus.specs.Coded.{answer_of}
use Rattle.scenario.specs.Parts.{ArrivalsAt}
use Rattle.listing.specs.Run.{answers_of, end_of}
use Rattle.sheet.specs.declared.Run.{Run}
use Rattle.measure.specs.Measured.{wait_in, longer, longest_wait, run_of}

-- the wait that a report tells: that of a success, and 0 of anything else
abbrev pub wait_told : Report → ℕ
wait_told (Report.Arrival clock address admitted) = 0
wait_told (Report.Step clock answer) = wait_in (answer_of answer)

-- A run that finishes what is left from a state, an offset of the input, steps and the longest wait so far: wherever the state is that of a bus
-- that stands, and arrivals stand in the input from the offset on, it has the counts of the bus at the end, and the longest wait of all.
abbrev pub Finishes : List ℕ → State → ℕ → ℕ → ℕ → Run → Type 0
Finishes input s at steps longest r =
    (b : Bus) (arrivals : List Arrival) → Standing b → s ≡ form b → ArrivalsAt input at arrivals
    → r ≡ run_of (end_of steps b arrivals) (longer longest (longest_wait (answers_of steps b arrivals)))
