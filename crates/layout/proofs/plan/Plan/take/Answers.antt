-- `Plan::take` meets its contract: a line out of place, or what its kind says.
use Rattle.std.proofs.Common.{◌≡◌, sym, ap, ap₂, ◌∙◌, Err, rules, false}
use Rattle.words.specs.Words.{first_word}
use Rattle.layout.specs.Layout.{kind_of, wordless, place_fault, take_kind}
use Rattle.layout.specs.Faults.{kind_in, fault_in}
use Rattle.layout.specs.Parts.{plan_of, taken_of}
use Rattle.layout.proofs.Faulty.{line_misplaced, line_placed}
use Rattle.layout.proofs.plan.Plan.take.Goals as goal
use Rattle.layout.proofs.plan.Plan.take.Goals.{After-kind_of-kind, After-place}

some : (c : After-kind_of-kind) → wordless c.args.line.now ≡ false
some c = search rules

kind : (c : After-kind_of-kind) → kind_in c.kind_of-kind.result ≡ kind_of (first_word c.args.line.now)
kind c = c.kind_of-kind.ensures ∙ ap kind_of c.parted.ensures.word

placed : (c : After-place) → let p = plan_of c.args.self.now in fault_in c.place.result ≡ place_fault p.stage p.settings.n (kind_of (first_word c.args.line.now))
placed c = let p = plan_of c.args.self.now in c.place.ensures ∙ ap (place_fault p.stage p.settings.n) (kind (goal.at.After-place c).After-kind_of-kind)

pub returns-in_err-place : goal.returns-in_err-place
returns-in_err-place c =
    let at = goal.at.returns-in_err-place c in
    let given : c.from_residual.result ≡ Err c.in_err-place.field-0.0 = search rules in
    ap (λ r. taken_of r c.args.self.now) given
    ∙ line_misplaced (plan_of c.args.self.now) c.args.line.now (some at.After-kind_of-kind) c.in_err-place.field-0.0 (sym (ap fault_in c.in_err-place.was) ∙ placed at.After-place)

pub returns-in-Some : goal.returns-in-Some
returns-in-Some c =
    let at = goal.at.returns-in-Some c in
    c.take_kind.ensures
    ∙ ap₂ (take_kind (plan_of c.args.self.now)) (sym (ap kind_in c.in-Some.is) ∙ kind at.After-kind_of-kind) c.parted.ensures.after
    ∙ line_placed (plan_of c.args.self.now) c.args.line.now (some at.After-kind_of-kind) (sym (ap fault_in c.in_ok-place.was) ∙ placed at.After-place)
