-- `line` meets its contract: the entry's columns, and its name.
use Rattle.std.proofs.Common.{arith, refl, rules}
use Rattle.text.proofs.Stores.{wrote_start, wrote_then}
use Rattle.page.proofs.line.Goals as goal

pub returns-clause-room_after : goal.returns-clause-room_after
returns-clause-room_after c =
    let h = wrote_start refl (omega arith) (wrote_then c.cells.ensures c.named.ensures) in search (rules, h)
