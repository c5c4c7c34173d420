-- `telling::answer` meets its contract: the packets dropped and then the probe.
use Rattle.std.proofs.Common.{arith}
use Rattle.text.proofs.Stores.{wrote_then, wrote_within}
use Rattle.listing.proofs.telling.answer.Goals as goal

pub returns : goal.returns
returns c = wrote_within (wrote_then c.dropped.ensures c.probed.ensures) (omega arith)
