-- What is proved of the text of a sheet, in one place. The texts of specs/Page.antt are what the functions of src/lib.rt put at the start of
-- the room. That each contract says all of its result and of the room is proofs/Unique.antt. Assumes nothing.
use Prim.Native.Nat.{ℕ, ◌≤◌}
use mathlib.Core.Path.{◌≡◌}
use mathlib.Core.List.{List, []}
use lib.ListN.{length}
use Rattle.text.specs.Room.{room_bytes, room_with}
use Rattle.sheet.specs.Sheet.{drawn}
use Rattle.page.specs.Page.{sheet_text}
use Rattle.std.specs.Prelude.{Ok}
use Rattle.page.specs.Examples.{page_runs, page_sheet, empty_sheet, page_says, page_bytes, whole_bytes, empty_bytes}
use Rattle.page.proofs.Told as Told
use Rattle.page.proofs.Examples as Examples

-- what a function puts at the start of the room is in it, and the room stays as long as it is
pub text_within :
    (x a : List ℕ) {b : List ℕ} {n : ℕ} → room_bytes ≡ length a → (n ≡ length x) × ((b ≡ room_with x a) × (n ≤ room_bytes))
    → (room_bytes ≡ length b) × (n ≤ length b)
text_within = Told.text_within

-- the sheets of the examples are what is drawn of two runs, and of none
pub page_drawn : drawn page_runs 2 ≡ Ok page_sheet
page_drawn = Examples.page_drawn

pub empty_drawn : drawn [] 0 ≡ Ok empty_sheet
empty_drawn = Examples.empty_drawn

-- the page of docs/SHEET.md, byte for byte
pub page_holds : page_says ≡ page_bytes
page_holds = Examples.page_holds

-- whole texts, with places for names: of the same two runs, and of no run
pub whole_holds : sheet_text page_sheet ≡ whole_bytes
whole_holds = Examples.whole_holds

pub empty_holds : sheet_text empty_sheet ≡ empty_bytes
empty_holds = Examples.empty_holds
