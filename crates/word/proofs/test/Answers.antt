-- `test` meets its contract: the mask of the bit alone leaves the bit.
use Rattle.std.proofs.Common.{ℕ, ap, ◌∙◌, arith}
use mathlib.Core.Bool.{not}
use lib.Bits.{bit_and}
use lib.Dec.{eqb}
use Rattle.word.specs.Word.{bits}
use Rattle.word.proofs.Laws.{test_mask}
use Rattle.word.proofs.test.Goals as goal

pub returns : goal.returns
returns c = ap (λ (n : ℕ). not (eqb (bit_and c.args.word n) 0)) c.alone.ensures ∙ test_mask bits c.args.word c.args.place (omega arith)
