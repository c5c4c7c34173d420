-- `closing` meets its contract: the sums, and the highest loss.
use Rattle.std.proofs.Common.{arith, refl, rules}
use Rattle.text.proofs.Stores.{wrote_start, wrote_then}
use Rattle.page.proofs.closing.Goals as goal

pub returns-clause-room_after : goal.returns-clause-room_after
returns-clause-room_after c =
    let h = wrote_start refl (omega arith) (wrote_then c.sums.ensures c.highest.ensures) in search (rules, h)
