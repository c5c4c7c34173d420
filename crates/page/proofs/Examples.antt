-- The pages of the examples hold. Assumes nothing.
use mathlib.Core.Path.{◌≡◌, refl}
use mathlib.Core.List.{[]}
use Rattle.sheet.specs.Sheet.{drawn}
use Rattle.text.specs.Text.{decimal}
use Rattle.page.specs.Page.{shown, sheet_text}
use Rattle.std.specs.Prelude.{Ok}
use Rattle.page.specs.Examples.{page_runs, page_sheet, empty_sheet, page_says, page_bytes, whole_bytes, empty_bytes}

pub page_drawn : drawn page_runs 2 ≡ Ok page_sheet
page_drawn = refl

pub empty_drawn : drawn [] 0 ≡ Ok empty_sheet
empty_drawn = refl

pub page_holds : page_says ≡ page_bytes
unfolding decimal shown
page_holds = refl

pub whole_holds : sheet_text page_sheet ≡ whole_bytes
unfolding decimal shown
whole_holds = refl

pub empty_holds : sheet_text empty_sheet ≡ empty_bytes
unfolding decimal shown
empty_holds = refl
