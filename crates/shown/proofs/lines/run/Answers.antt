-- `lines::run` meets its contract: the word, the number and the newline.
use Rattle.std.proofs.Common.{arith}
use Rattle.text.proofs.Stores.{wrote_then}
use Rattle.shown.proofs.Storing.{wrote_none, closed}
use Rattle.shown.proofs.lines.run.Goals as goal

pub returns : goal.returns
returns c = closed (wrote_then c.field.ensures (wrote_none _)) (omega arith) c.put.ensures
