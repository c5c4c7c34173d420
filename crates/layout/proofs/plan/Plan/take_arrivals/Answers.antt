-- `Plan::take_arrivals` meets its contract: an arrival is inserted, and the others are left.
use Rattle.std.proofs.Common.{◌+◌, ◌*◌, ap, ◌∙◌, arith}
use Rattle.layout.specs.Layout.{Plan, arrival_of, value_at}
use Rattle.layout.specs.Parts.{plan_of}
use Rattle.layout.proofs.Repeating.{turned}
use Rattle.layout.proofs.plan.Plan.take_arrivals.Goals as goal

pub loop-turn-preserved : goal.loop-turn-preserved
loop-turn-preserved c =
    let g = c.loop-turn.invariant in
    let said = c.args.said.now in
    let time = said.from + c.loop-turn.turn * said.every in
    let p = plan_of c.args.self.now in
    record {
      ends = g.ends;
      within = omega (arith, c.loop-turn-test.true);
      settings = c.insert.ensures.settings_value ∙ g.settings;
      counted = omega (arith, c.insert.ensures.count_value, g.counted);
      staged = λ h. ap (λ (q : Plan). q.stage) c.insert.ensures.plan_value;
      left =
          turned
          p
          (plan_of c.loop-turn.self)
          _
          said
          c.arrival_at.result
          c.loop-turn.turn
          _
          (omega (arith, c.loop-turn-test.true))
          c.insert.ensures.plan_value
          (c.arrival_at.ensures ∙ ap (λ d. arrival_of time said.address (value_at d said.value time) said.length) c.discipline-discipline.ensures)
          ∙ g.left;
    }
