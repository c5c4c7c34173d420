-- `same` meets its contract.
use Rattle.std.proofs.Common.{◌∙◌}
use Rattle.words.proofs.Comparing.{same_bytes}
use Rattle.words.proofs.same.Goals as goal

pub returns : goal.returns
returns c = c.eq.ensures ∙ same_bytes c.args.word.now c.args.other.now
