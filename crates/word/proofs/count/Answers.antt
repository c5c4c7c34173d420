-- `count` meets its contract: the ones of the word are its members.
use Rattle.std.proofs.Common.{arith}
use Rattle.word.proofs.Laws.{ones_members}
use Rattle.word.proofs.count.Goals as goal

pub returns : goal.returns
returns c = ones_members c.args.word (omega arith)
