-- What is proved of a scenario as lines of a layout, in one place. `layout_of`, the lines of all records, and `shown_from`, what `show` of
-- src/lib.rt puts at the start of the room call after call, are in specs/Shown.antt; `layout_says` is in layout/specs/Layout.antt, and
-- `written`, `Good` and `reading` in scenario/specs/. That the contract of `show` says all of its result and of the room is
-- proofs/Unique.antt. Assumes nothing.
use Prim.Native.Nat.{ℕ, ◌+◌, ◌≤◌}
use mathlib.Core.Path.{◌≡◌, sym}
use mathlib.Core.List.{List}
use lib.ListN.{length}
use Rattle.rules.specs.SetUp.{Request}
use Rattle.state.specs.declared.Arrival.{Arrival}
use Rattle.scenario.specs.Reading.{accepted, reading}
use Rattle.scenario.specs.Writing.{Bytes, written, Good}
use Rattle.scenario.proofs.Promises.{accepted_only}
use Rattle.layout.specs.Layout.{says, layout_says}
use Rattle.shown.specs.Shown.{layout_of, shown_from}
use Rattle.shown.specs.Examples.{lines_text, pri_request, pri_arrivals, pri_lines, rtdg_request, rtdg_arrivals, rtdg_lines}
use Rattle.shown.specs.Examples.{rtvc_request, rtvc_arrivals, rtvc_lines}
use Rattle.shown.proofs.RoundTrip as RoundTrip
use Rattle.shown.proofs.Turns as Turns
use Rattle.shown.proofs.Examples as Examples

-- the bytes of a good scenario, shown record by record, are its layout; as many calls as it has records are enough
pub shown_turns :
    (r : Request) (arrivals : List Arrival) (steps most : ℕ) → Good r arrivals steps → length r.row + length arrivals + 2 ≤ most
    → shown_from most (written r arrivals steps) 0 ≡ layout_of r arrivals steps
shown_turns = Turns.shown_turns

-- the layout of a good scenario says that scenario
pub shown_back :
    (r : Request) (arrivals : List Arrival) (steps : ℕ) → Good r arrivals steps → layout_says (layout_of r arrivals steps) ≡ says r arrivals steps
shown_back = RoundTrip.shown_back

-- so does what is shown of any input of bytes that the reader accepts, by as many calls as it has bytes
pub accepted_back :
    (input : List ℕ) (r : Request) (arrivals : List Arrival) (steps most : ℕ) → Bytes input → reading input ≡ accepted r arrivals steps
    → length input ≤ most → layout_says (shown_from most input 0) ≡ says r arrivals steps
accepted_back = Turns.accepted_back

-- so that its writing is the same bytes
pub same_bytes :
    (input : List ℕ) (r : Request) (arrivals : List Arrival) (steps most : ℕ) → Bytes input → reading input ≡ accepted r arrivals steps
    → length input ≤ most → (layout_says (shown_from most input 0) ≡ says r arrivals steps) × (written r arrivals steps ≡ input)
same_bytes input r arrivals steps most bytes e h =
    (accepted_back input r arrivals steps most bytes e h, sym (accepted_only input r arrivals steps bytes e).0)

-- three scenarios and their lines, letter by letter, and one of them by its bytes
pub pri_holds : layout_of pri_request pri_arrivals 40 ≡ lines_text pri_lines
pri_holds = Examples.pri_holds

pub rtdg_holds : layout_of rtdg_request rtdg_arrivals 1_000 ≡ lines_text rtdg_lines
rtdg_holds = Examples.rtdg_holds

pub rtvc_holds : layout_of rtvc_request rtvc_arrivals 0 ≡ lines_text rtvc_lines
rtvc_holds = Examples.rtvc_holds

pub rtvc_turns : shown_from 8 (written rtvc_request rtvc_arrivals 0) 0 ≡ lines_text rtvc_lines
rtvc_turns = Examples.rtvc_turns
