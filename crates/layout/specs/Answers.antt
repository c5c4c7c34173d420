-- What the exported functions hand out. Assumes nothing.
use Rattle.std.specs.Prelude.{ℕ, Result, Ok, Err, List, length}
use Rattle.text.specs.Room.{stored}
use Rattle.scenario.specs.Writing.{written}
pub use Rattle.layout.specs.declared.WrongLine.{WrongLine}
use Rattle.layout.specs.Layout.{Saying, wrong, says}

-- a layout that is wrong has a line and a fault; one that says a scenario has so many bytes of its writing
abbrev pub answer_of : Saying → Result ℕ WrongLine
answer_of (wrong line fault) = Err (record { line = line; fault = fault })
answer_of (says r arrivals steps) = Ok (length (written r arrivals steps))

-- the room: as it was lent, or with the scenario's writing from its start on
abbrev pub room_after : Saying → List ℕ → List ℕ
room_after (wrong line fault) room = room
room_after (says r arrivals steps) room = stored room 0 (written r arrivals steps)
