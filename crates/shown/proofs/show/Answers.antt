-- `show` meets its contract: by whether the first record is a set-up.
use Rattle.std.proofs.Common.{sym, ap, ap₂, ◌∙◌, Ok, arith, refl, rules}
use Rattle.scenario.specs.Format.{said}
use Rattle.text.proofs.Stores.{wrote_start}
use Rattle.shown.proofs.Storing.{first_set_up}
use Rattle.shown.proofs.show.Goals as goal

pub returns-clause-value : goal.returns-clause-value
returns-clause-value c =
    let line = first_set_up c.args.input.now c.args.at c.in-Ok-SetUp.settings (ap (λ r. said (Ok r)) (sym c.in-Ok-SetUp.field-0-is) ∙ c.in-Ok-SetUp.ensures) c.line-next.ensures in
    ap₂ (λ n m. record { length = n; next = m }) (wrote_start refl (omega arith) line.wrote).0 line.next

pub returns-clause-room_after : goal.returns-clause-room_after
returns-clause-room_after c =
    let line = first_set_up c.args.input.now c.args.at c.in-Ok-SetUp.settings (ap (λ r. said (Ok r)) (sym c.in-Ok-SetUp.field-0-is) ∙ c.in-Ok-SetUp.ensures) c.line-next.ensures in
    let h = wrote_start refl (omega arith) line.wrote in
    search (rules, h)
