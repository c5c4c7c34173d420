-- What the private functions of src/ are held to; for readers of those alone. Assumes nothing.
use Rattle.std.specs.Prelude.{Bool, Option, Some, None, ltb}
use Rattle.sheet.specs.Losses.{above}
use Rattle.sheet.specs.Sheet.{Placed, loss_at}

-- whether a run takes the place of the highest so far, if there is one
abbrev pub takes_place : Option Placed → Placed → Bool
takes_place None run = ltb 0 run.ended
takes_place (Some highest) run = above (loss_at run) (loss_at highest)
