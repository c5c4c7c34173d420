-- `measure` meets its contract: the scenario is read, and refused or played.
use Rattle.std.proofs.Common.{ap, ◌∙◌, Err}
use Rattle.std.proofs.lemmas.Result.{err_from_is_err_and}
use Rattle.scenario.specs.Reading.{numbered, by_number}
use Rattle.measure.proofs.Finishing.{refused_measured, accepted_measured}
use Rattle.measure.proofs.measure.Goals as goal

pub returns-in_err-s : goal.returns-in_err-s
returns-in_err-s c =
    let told = err_from_is_err_and c.from_residual.result c.from_residual.ensures.1 in
    ap by_number told.1
    ∙ ap (λ e. Err (numbered e)) told.2
    ∙ refused_measured c.args.input.now _ c.in_err-s.ensures

pub returns : goal.returns
returns c = accepted_measured c.args.input.now c.in_ok-s.s c.played.result c.in_ok-s.ensures c.played.ensures
