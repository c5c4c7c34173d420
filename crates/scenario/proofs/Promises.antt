-- What is proved of the scenario reader, in one place. `reading` (specs/Reading.antt) is what an input asks for, or what refuses it; `written` and
-- `Good` (specs/Writing.antt) are the bytes of a scenario, and which scenarios are good. That each contract says all of its result is
-- proofs/Unique.antt. Assumes nothing.
use Prim.Native.Nat.{ℕ}
use mathlib.Core.Path.{◌≡◌}
use mathlib.Core.List.{List}
use mathlib.Core.Option.{none}
use Rattle.rules.specs.SetUp.{Request}
use Rattle.state.specs.declared.Arrival.{Arrival}
use Rattle.std.specs.Prelude.{Result}
use Rattle.rules.specs.declared.Refusal.{Refusal}
use Rattle.scenario.specs.declared.Record.{Record}
use Rattle.scenario.specs.Format.{said}
use Rattle.scenario.specs.Reading.{accepted, reading}
use Rattle.scenario.specs.Writing.{Bytes, written, Good}
use Rattle.scenario.specs.Faults.{faults, first_wrong}
use Rattle.scenario.proofs.Faults as Faults
use Rattle.scenario.proofs.Unique as Unique
use Rattle.scenario.proofs.Written as Written

-- no good scenario is refused
pub accepted_if :
    (r : Request) (arrivals : List Arrival) (steps : ℕ) → Good r arrivals steps
    → reading (written r arrivals steps) ≡ accepted r arrivals steps
accepted_if = Written.accepted_if

-- and an input of bytes that is accepted is the writing of a good one
pub accepted_only :
    (input : List ℕ) (r : Request) (arrivals : List Arrival) (steps : ℕ) → Bytes input → reading input ≡ accepted r arrivals steps
    → (input ≡ written r arrivals steps) × Good r arrivals steps
accepted_only = Written.accepted_only

-- no two answers to a record read say the same
pub said_injective : (r r' : Result Record Refusal) → said r ≡ said r' → r ≡ r'
said_injective = Unique.said_injective

-- which number at which offset: the table of refused scenarios holds
pub all_refused : first_wrong 1 faults ≡ none
all_refused = Faults.all_refused
