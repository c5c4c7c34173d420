-- `write` meets its contract: the heading, the lines of the runs, the sums and the highest loss.
use Rattle.std.proofs.Common.{arith, refl, rules, ◌≡◌, min, length, sym, ap, ◌∙◌}
use Rattle.text.proofs.Stores.{wrote_start, wrote_then}
use Rattle.page.proofs.Told.{take_within}
use Rattle.page.proofs.write.Goals as goal

pub returns-clause-room_after : goal.returns-clause-room_after
returns-clause-room_after c =
    let s = c.args.sheet in
    let full : length s.rows ≡ 256 = search rules in
    let same = take_within s.rows s.count (c.min.ensures ∙ ap (min s.count) (sym full)) in
    let h =
    wrote_start refl (omega arith)
    (wrote_then c.heading.ensures (wrote_then (rw same at c.rows.ensures) (wrote_then c.sums.ensures c.highest_placed.ensures))) in
    search (rules, h)
