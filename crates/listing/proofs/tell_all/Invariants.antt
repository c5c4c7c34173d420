-- The loop's invariant: the reports before this place are told.
use Rattle.std.proofs.Common.{◌*◌, take}
use Rattle.listing.specs.Turns.{reports_text}
use Rattle.text.specs.Parts.{Wrote}
use Rattle.listing.proofs.tell_all.Given as goal

abbrev pub invariant-loop-report : goal.invariant-loop-report
invariant-loop-report l = Wrote l.fn.out l.out (reports_text (take l.report-index l.reports)) (128 * l.report-index)
