-- `Plan::take_bus` meets its contract: its discipline, its words and numbers, and refusals 2 to 5.
use Rattle.std.proofs.Common.{◌≡◌, sym, ap, ap₂, subst, ◌∙◌, Ok, Err, rules, arith, get_or}
use Rattle.rules.specs.Bus.{code}
use Rattle.words.specs.Words.{first_word, after_word}
use Rattle.layout.specs.Layout.{discipline_named, fields_in, labels_of, bus_line, Fields, settings_said, bus_fault, with_bus}
use Rattle.layout.specs.Faults.{discipline_in, fault_in, stage_number}
use Rattle.layout.specs.Parts.{FieldsSaid, plan_of, taken_of}
use Rattle.layout.proofs.Faulty.{code_small, taken_faulty, taken_fine, bus_said, settings_are_said, bus_planned}
use Rattle.layout.proofs.plan.Plan.take_bus.Goals as goal
use Rattle.layout.proofs.plan.Plan.take_bus.Goals.{After-bus_refused, In-Some, In_ok-d, Start}

-- the discipline that is named
named : (c : In-Some) → code c.in-Some.discipline ≡ discipline_named (first_word c.args.line.now)
named c = sym (ap discipline_in c.in-Some.is) ∙ c.discipline_named.ensures ∙ ap discipline_named c.parted.ensures.word

-- the words and numbers
abbrev x : Start → Fields
x c = fields_in (labels_of bus_line 0) (after_word c.args.line.now)

said : (c : In_ok-d) → FieldsSaid (Ok c.in_ok-d.field-0) (x (goal.at.In_ok-d c).Start)
said c =
    subst
    (λ r. FieldsSaid r (x (goal.at.In_ok-d c).Start))
    c.in_ok-d.was
    (subst (λ fs. FieldsSaid c.fields_in.result fs) (ap₂ fields_in c.labels_of.ensures c.parted.ensures.after) c.fields_in.ensures)

-- which is one of the three
one_named : (c : In-Some) → discipline_named (first_word c.args.line.now) ≡ 3 → ⊥
one_named c e = let d = code_small c.in-Some.discipline in omega (arith, named c)

-- the settings that they give, and what refuses them
settled : (c : After-bus_refused) → let x = x (goal.at.After-bus_refused c).Start in
    record { discipline = c.number_of.result; d = get_or c.in_ok-d.field-0 0 0; a = get_or c.in_ok-d.field-0 1 0; q = get_or c.in_ok-d.field-0 2 0; n = 0 }
    ≡ settings_said (discipline_named (first_word c.args.line.now)) x.values
settled c =
    settings_are_said
    c.number_of.result
    (discipline_named (first_word c.args.line.now))
    c.in_ok-d.field-0
    (x (goal.at.After-bus_refused c).Start).values
    (c.number_of.ensures.value ∙ named (goal.at.After-bus_refused c).In-Some)
    (said (goal.at.After-bus_refused c).In_ok-d).1

refused : (c : After-bus_refused) → fault_in c.bus_refused.result ≡ bus_fault (settings_said (discipline_named (first_word c.args.line.now)) (x (goal.at.After-bus_refused c).Start).values)
refused c = c.bus_refused.ensures ∙ ap bus_fault (settled c)

pub returns-in_err-bus_refused : goal.returns-in_err-bus_refused
returns-in_err-bus_refused c =
    let at = goal.at.returns-in_err-bus_refused c in
    let p = plan_of c.args.self.now in
    let d = discipline_named (first_word c.args.line.now) in
    let given : c.from_residual-in_err-bus_refused.result ≡ Err c.in_err-bus_refused.field-0.0 = search rules in
    ap (λ r. taken_of r c.args.self.now) given
    ∙ taken_faulty c.in_err-bus_refused.field-0.0 p (with_bus p (settings_said d (x at.Start).values)) (sym (ap fault_in c.in_err-bus_refused.was) ∙ refused at.After-bus_refused)
    ∙ bus_said p d (x at.Start) (one_named at.In-Some) (said at.In_ok-d).0

pub invariant_of-self-clause-named : goal.invariant_of-self-clause-named
invariant_of-self-clause-named c = c.number_of.ensures.upper_bound

pub invariant_of-self-clause-early : goal.invariant_of-self-clause-early
invariant_of-self-clause-early c = λ h. c.args.self.now.early (omega (arith, ap stage_number c.requires))

pub returns : goal.returns
returns c =
    let at = goal.at.returns c in
    let p = plan_of c.args.self.now in
    let d = discipline_named (first_word c.args.line.now) in
    bus_planned c.args.self.now (settled at.After-bus_refused) (c.args.self.now.first c.requires)
    ∙ taken_fine p (with_bus p (settings_said d (x at.Start).values)) (sym (ap fault_in c.in_ok-bus_refused.was) ∙ refused at.After-bus_refused)
    ∙ bus_said p d (x at.Start) (one_named at.In-Some) (said at.In_ok-d).0
