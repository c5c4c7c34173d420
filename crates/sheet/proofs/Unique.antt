-- The contract says all of the result: two results that meet it are equal, whatever the arguments. Assumes nothing.
use Rattle.window.specs.Determined.{Determines}
use Rattle.window.proofs.Unique.{unique}
use Rattle.sheet.proofs.draw.Reads as draw
use Rattle.sheet.proofs.U32FromRefused.from.Reads as number_from
use Rattle.sheet.proofs.Refused.place.Reads as place

pub draw_determined : Determines draw.Learnt
draw_determined κs args r r' end end' = unique

pub number_from_determined : Determines number_from.Learnt
number_from_determined κs args r r' end end' = unique

pub place_determined : Determines place.Learnt
place_determined κs args r r' end end' = unique
