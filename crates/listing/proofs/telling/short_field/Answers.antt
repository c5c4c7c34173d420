-- `telling::short_field` meets its contract: a space and then the number.
use Rattle.std.proofs.Common.{arith}
use Rattle.text.proofs.Stores.{wrote, wrote_then}
use Rattle.listing.proofs.telling.short_field.Goals as goal

pub returns : goal.returns
returns c = wrote_then (wrote 1 c.put.ensures (omega arith)) c.short_number.ensures
