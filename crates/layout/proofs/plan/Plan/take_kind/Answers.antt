-- `Plan::take_kind` meets its contract: the words and numbers of a line of another kind than the bus's, and what they say.
use Rattle.std.proofs.Common.{◌≡◌, ap, subst, ◌∙◌, Err, rules}
use Rattle.layout.specs.Layout.{fields_in, labels_of}
use Rattle.layout.specs.Faults.{kind_number}
use Rattle.layout.specs.Parts.{FieldsSaid, plan_of, taken_of}
use Rattle.layout.proofs.Faulty.{kind_faulty, kind_said}
use Rattle.layout.proofs.plan.Plan.take_kind.Goals as goal
use Rattle.layout.proofs.plan.Plan.take_kind.Goals.{After-fields_in}

said : (c : After-fields_in) → FieldsSaid c.fields_in.result (fields_in (labels_of (kind_number c.args.kind) c.args.self.now.settings.discipline) c.args.line.now)
said c =
    subst
    (λ codes. FieldsSaid c.fields_in.result (fields_in codes c.args.line.now))
    (c.labels_of.ensures ∙ ap (labels_of (kind_number c.args.kind)) c.discipline.ensures)
    c.fields_in.ensures

pub returns-in_err-values : goal.returns-in_err-values
returns-in_err-values c =
    let x = fields_in (labels_of (kind_number c.args.kind) c.args.self.now.settings.discipline) c.args.line.now in
    let given : c.from_residual.result ≡ Err c.in_err-values.field-0.0 = search rules in
    ap (λ r. taken_of r c.args.self.now) given
    ∙ kind_faulty (plan_of c.args.self.now) c.args.kind c.args.line.now (search rules) c.in_err-values.field-0.0 (subst (λ r. FieldsSaid r x) c.in_err-values.was (said (goal.at.returns-in_err-values c).After-fields_in))

pub returns : goal.returns
returns c =
    let x = fields_in (labels_of (kind_number c.args.kind) c.args.self.now.settings.discipline) c.args.line.now in
    let told = subst (λ r. FieldsSaid r x) c.in_ok-values.was (said (goal.at.returns c).After-fields_in) in
    c.take_said.ensures ∙ kind_said (plan_of c.args.self.now) c.args.kind c.args.line.now (search rules) c.in_ok-values.values told.0 told.1
