-- `read_lines` meets its contract: line by line.
use Rattle.std.proofs.Common.{◌+◌, ◌-◌, ◌≡◌, sym, ap, subst, ◌∙◌, [], arith, length, take, drop, length-take-le}
use Rattle.std.proofs.lemmas.List.{take_all}
use lib.ListN.{length-drop}
use Rattle.words.specs.Words.{lines_of, first_line}
use Rattle.layout.specs.Layout.{take_line, wrong, read_lines}
use Rattle.layout.specs.Faults.{fault_in}
use Rattle.layout.specs.Parts.{plan_of, taken_of}
use Rattle.layout.proofs.Faulty.{fault_some}
use Rattle.layout.proofs.Turns.{turn_right, turn_wrong, lines-first, ends_within, taken_first, lines_later, lines_over}
use Rattle.layout.proofs.read_lines.Invariants.{Going}
use Rattle.layout.proofs.read_lines.Goals as goal
use Rattle.layout.proofs.read_lines.Goals.{After-take}

pub slice_bounds-take-end : goal.slice_bounds-take-end
slice_bounds-take-end c =
    let rest = c.loop-fault.rest.now in
    sym (length-take-le c.line_end-end.result rest (ends_within rest c.line_end-end.result c.line_end-end.ensures))

-- what becomes of the plan by the first line that is left
taken_here : (c : After-take) → taken_of c.take.result c.take.new.self ≡ take_line (plan_of c.loop-fault.plan) (first_line c.loop-fault.rest.now)
taken_here c =
    c.take.ensures ∙ ap (take_line (plan_of c.loop-fault.plan)) (taken_first c.loop-fault.rest.now c.line_end-end.result c.line_end-end.ensures)

pub returns-in-Err : goal.returns-in-Err
returns-in-Err c =
    let rest = c.loop-fault.rest.now in
    let p = plan_of c.loop-fault.plan in
    let line = c.loop-fault.line in
    let first = lines-first rest 0 c.line_end-end.result (omega arith) c.line_end-end.ensures in
    ap (wrong (line + 1)) (c.from.ensures ∙ sym (ap fault_in c.in-Err.is))
    ∙ turn_wrong line p (first_line rest) first.0 (taken_of c.take.result c.take.new.self) (taken_here (goal.at.returns-in-Err c).After-take) (λ z. fault_some c.in-Err.fault (sym (ap fault_in c.in-Err.is) ∙ z))
    ∙ ap (read_lines line p) (sym first.1)
    ∙ sym c.loop-fault.invariant.left

pub returns-then-end-rest : goal.returns-then-end-rest
returns-then-end-rest c =
    let rest = c.loop-fault.rest.now in
    let p = plan_of c.loop-fault.plan in
    let line = c.loop-fault.line in
    c.at_end.ensures
    ∙ turn_right line p (first_line rest) [] (taken_of c.take.result c.take.new.self) (taken_here (goal.at.returns-then-end-rest c).After-take) (ap fault_in c.in_default.is)
    ∙ ap (read_lines line p) (sym (lines_over rest c.line_end-end.result c.line_end-end.ensures c.if-end-rest.true))
    ∙ sym c.loop-fault.invariant.left

pub loop-fault-preserved : goal.loop-fault-preserved
loop-fault-preserved c =
    let rest = c.loop-fault.rest.now in
    let p = plan_of c.loop-fault.plan in
    let line = c.loop-fault.line in
    let next = c.line_end-end.result + 1 in
    let long = length-drop next rest in
    let whole : take (length rest - next) (drop next rest) ≡ drop next rest = take_all (length rest - next) (drop next rest) (omega (arith, long)) in
    subst
    (λ later. Going c.args.text.now later c.take.new.self (line + 1))
    (sym whole)
    (record {
      few = omega (arith, c.loop-fault.invariant.few, long, c.if-end-rest.false);
      left =
          c.loop-fault.invariant.left
          ∙ ap (read_lines line p) (lines_later rest c.line_end-end.result c.line_end-end.ensures c.if-end-rest.false)
          ∙ sym (turn_right line p (first_line rest) (lines_of (drop next rest)) (taken_of c.take.result c.take.new.self) (taken_here (goal.at.loop-fault-preserved c).After-take) (ap fault_in c.in_default.is));
    })
