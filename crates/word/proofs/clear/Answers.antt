-- `clear` meets its contract: the mask without the bit takes the place away.
use Rattle.std.proofs.Common.{ℕ, ◌^◌, ◌-◌, ap, ◌∙◌, arith}
use lib.Bits.{bit_and}
use Rattle.word.specs.Word.{bits}
use Rattle.word.proofs.Laws.{clear_mask}
use Rattle.word.proofs.clear.Goals as goal

pub returns : goal.returns
returns c = ap (λ (n : ℕ). bit_and c.args.word (2 ^ bits - 1 - n)) c.alone.ensures ∙ clear_mask bits c.args.word c.args.place (omega arith)
