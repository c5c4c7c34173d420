-- `lines::station` meets its contract: the word, the address, in RTVC the capability, and the newline.
use Rattle.std.proofs.Common.{arith, eq-eqb}
use Rattle.text.proofs.Stores.{wrote, wrote_then}
use Rattle.shown.proofs.Storing.{wrote_none, closed}
use Rattle.shown.proofs.lines.station.Goals as goal

pub returns-then-settings-eq-RTVC : goal.returns-then-settings-eq-RTVC
returns-then-settings-eq-RTVC c =
    let word = wrote 7 c.letters.ensures (omega arith) in
    rw
    (eq-eqb _ _ c.if-settings-eq-RTVC.true)
    (closed (wrote_then (wrote_then word c.address.ensures) (wrote_then c.field.ensures (wrote_none _))) (omega arith) c.put.ensures)
