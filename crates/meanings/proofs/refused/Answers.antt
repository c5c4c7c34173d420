-- `refused` meets its contract: the text at the start of the room.
use Rattle.std.proofs.Common.{arith, refl, rules}
use Rattle.text.proofs.Stores.{wrote_start}
use Rattle.meanings.proofs.refused.Goals as goal

pub returns-clause-room_after : goal.returns-clause-room_after
returns-clause-room_after c = let h = wrote_start refl (omega arith) c.whole.ensures in search (rules, h)
