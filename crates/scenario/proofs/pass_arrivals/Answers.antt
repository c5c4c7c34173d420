-- `pass_arrivals` meets its contract. Each turn passes an arrival's bytes, so that what is left of the input falls.
use Rattle.std.proofs.Common.{◌≡◌, sym, ap, ◌∙◌, rules, false, ltb, Ok}
use Rattle.scenario.specs.Format.{said}
use Rattle.scenario.specs.Parts.{ending_form}
use Rattle.scenario.proofs.ReadingLaws.{arrival_turn}
use Rattle.scenario.proofs.pass_arrivals.Goals as goal

pub loop-arrival-preserved : goal.loop-arrival-preserved
loop-arrival-preserved c =
    let later : false ≡ ltb c.in-Ok-Arrival.arrival.time.0 c.loop-arrival.previous.0 = search rules in
    c.loop-arrival.invariant
    ∙ ap ending_form
    (arrival_turn c.args.input.now c.loop-arrival.at c.loop-arrival.previous.0 c.in-Ok-Arrival.arrival false
    (ap (λ r. said (Ok r)) (sym c.in-Ok-Arrival.field-0-is) ∙ c.in-Ok-Arrival.ensures)
    later)
