-- The loop's invariant: the numbers before this place are written.
use Rattle.std.proofs.Common.{◌*◌, take}
use Rattle.text.specs.Text.{fields}
use Rattle.text.specs.Parts.{Wrote}
use Rattle.listing.proofs.telling.fields.Given as goal

abbrev pub invariant-loop-n : goal.invariant-loop-n
invariant-loop-n l = Wrote l.fn.out l.out (fields (take l.n-index l.numbers)) (21 * l.n-index)
