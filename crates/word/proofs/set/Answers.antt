-- `set` meets its contract: the mask of the bit alone adds the place.
use Rattle.std.proofs.Common.{ap, ◌∙◌, arith}
use lib.Bits.{bit_or}
use Rattle.word.specs.Word.{bits}
use Rattle.word.proofs.Laws.{set_mask}
use Rattle.word.proofs.set.Goals as goal

pub returns : goal.returns
returns c = ap (bit_or c.args.word) c.alone.ensures ∙ set_mask bits c.args.word c.args.place (omega arith)
