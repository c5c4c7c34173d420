-- The loop's invariant: the lines of the runs before this place are written.
use Rattle.std.proofs.Common.{◌*◌, take}
use Rattle.text.specs.Parts.{Wrote}
use Rattle.page.specs.Page.{rows_text}
use Rattle.page.proofs.lines.rows.Given as goal

abbrev pub invariant-loop-place : goal.invariant-loop-place
invariant-loop-place l = Wrote l.fn.out l.out (rows_text 0 (take l.place l.runs)) (149 * l.place)
