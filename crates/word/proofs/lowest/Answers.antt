-- `lowest` meets its contract: the trailing zeros are the lowest member.
use Rattle.word.proofs.Laws.{trailing_lowest}
use Rattle.word.proofs.lowest.Goals as goal

pub returns : goal.returns
returns c = trailing_lowest c.args.word
