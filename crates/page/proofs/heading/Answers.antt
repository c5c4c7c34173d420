-- `heading` meets its contract: the heading at the start of the room.
use Rattle.std.proofs.Common.{arith, refl, rules}
use Rattle.text.proofs.Stores.{wrote_start}
use Rattle.page.proofs.heading.Goals as goal

pub returns-clause-room_after : goal.returns-clause-room_after
returns-clause-room_after c = let h = wrote_start refl (omega arith) c.heading.ensures in search (rules, h)
