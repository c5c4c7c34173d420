-- Each contract says all of the result: two results that meet it are equal, whatever the arguments. A line for each exported function, by
-- what its own contract says. Assumes nothing.
use Rattle.window.specs.Determined.{Determines}
use Rattle.window.proofs.Unique.{unique}
use Rattle.word.proofs.set.Reads as set
use Rattle.word.proofs.clear.Reads as clear
use Rattle.word.proofs.test.Reads as test
use Rattle.word.proofs.count.Reads as count
use Rattle.word.proofs.lowest.Reads as lowest

pub set_determined : Determines set.Learnt
set_determined κs args r r' end end' = unique

pub clear_determined : Determines clear.Learnt
clear_determined κs args r r' end end' = unique

pub test_determined : Determines test.Learnt
test_determined κs args r r' end end' = unique

pub count_determined : Determines count.Learnt
count_determined κs args r r' end end' = unique

pub lowest_determined : Determines lowest.Learnt
lowest_determined κs args r r' end end' = unique
