-- `lines::named` meets its contract: two spaces, the name as far as it is shown, and the newline.
use Rattle.std.proofs.Common.{arith}
use lib.ListN.{length-take}
use Rattle.text.proofs.Stores.{wrote, wrote_then}
use Rattle.page.specs.Page.{shown}
use Rattle.page.proofs.Told.{take_within}
use Rattle.page.proofs.lines.named.Goals as goal

pub returns : goal.returns
unfolding shown
returns c =
    let name = c.args.name.now in
    let same = take_within name 4_096 c.min.ensures in
    wrote_then (wrote 2 c.spaces.ensures (omega arith))
    (wrote_then (wrote 4_096 (rw same at c.letters.ensures) (omega (arith, length-take 4_096 name))) (wrote 1 c.put.ensures (omega arith)))
