-- `line` meets its contract: by what the record at the offset is.
use Rattle.std.proofs.Common.{sym, ap, ◌∙◌, Ok, arith}
use Rattle.scenario.specs.Format.{said}
use Rattle.shown.proofs.Storing.{next_some, line_said}
use Rattle.shown.proofs.line.Goals as goal

pub returns-in-Arrival : goal.returns-in-Arrival
returns-in-Arrival c =
    let args = c.args in
    line_said args.settings args.at
    (ap (λ r. said (Ok r)) (sym c.in-Arrival.is) ∙ c.in-Ok.ensures)
    (record { next = next_some _ (omega arith); wrote = c.arrival.ensures })
