-- `longest_in` meets its contract: what it goes through one by one is the longest of all.
use Rattle.std.proofs.Common.{◌≡◌, ◌∙◌, rules}
use Rattle.std.specs.List.{fold}
use Rattle.measure.specs.Measured.{longer}
use Rattle.measure.specs.Parts.{wait_told}
use Rattle.measure.proofs.Waits.{longest_fold}
use Rattle.measure.proofs.longest_in.Goals as goal

pub returns : goal.returns
returns c =
    let by_one : c.fold.result ≡ fold (λ longest r. longer longest (wait_told r)) c.args.before c.args.reports.now = search rules in
    by_one ∙ longest_fold c.args.before c.args.reports.now
