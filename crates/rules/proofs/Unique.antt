-- Each contract says all of the result: two results that meet it are equal, whatever the arguments. A line for each exported function, by
-- what its own contract says. Assumes nothing.
use Rattle.window.specs.Determined.{Determines}
use Rattle.window.proofs.Unique.{unique}
use Rattle.rules.proofs.DisciplineFromU32.from.Reads as discipline_from
use Rattle.rules.proofs.U32FromRefusal.from.Reads as number_from
use Rattle.rules.proofs.answered.Reads as answered

pub discipline_from_determined : Determines discipline_from.Learnt
discipline_from_determined κs args r r' end end' = unique

pub number_from_determined : Determines number_from.Learnt
number_from_determined κs args r r' end end' = unique

pub answered_determined : (g : _) (laws : _) → Determines (answered.Learnt g laws)
answered_determined g laws κs args r r' end end' = unique
