-- Each contract says all of the result: two results that meet it are equal, whatever the arguments. A line for each exported function, by
-- what its own contract says. No function writes to what it is lent. Assumes nothing.
use Rattle.window.specs.Determined.{Determines}
use Rattle.window.proofs.Unique.{unique}
use Rattle.words.proofs.line_end.Reads as line-end
use Rattle.words.proofs.word_at.Reads as word_at
use Rattle.words.proofs.same.Reads as same
use Rattle.words.proofs.number_of.Reads as number_of_lem

pub line_end_determined : Determines line-end.Learnt
line_end_determined κs args r r' end end' = unique

pub word_at_determined : Determines word_at.Learnt
word_at_determined κs args r r' end end' = unique

pub same_determined : Determines same.Learnt
same_determined κs args r r' end end' = unique

pub number_of_determined : Determines number_of_lem.Learnt
number_of_determined κs args r r' end end' = unique
