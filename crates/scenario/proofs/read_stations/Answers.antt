-- `read_stations` meets its contract.
use Rattle.std.proofs.Common.{ap, sym, ◌∙◌, rules, drop, Err}
use Rattle.std.proofs.lemmas.Result.{err_from_is_err_and}
use Rattle.scenario.specs.Reading.{numbered}
use Rattle.scenario.specs.Format.{read_record}
use Rattle.scenario.specs.Parts.{station_from, stations_said, stations_form}
use Rattle.scenario.proofs.ReadingLaws.{station_turn, station_other, stations_all}
use Rattle.scenario.proofs.read_stations.Goals as goal

pub returns-in_err-place : goal.returns-in_err-place
returns-in_err-place c =
    let told = err_from_is_err_and c.from_residual.result c.from_residual.ensures.1 in
    ap stations_said told.1
    ∙ ap (λ e. Err (numbered e)) told.2
    ∙ station_other c.args.input.now c.loop-i.place-items c.args.n c.loop-i.i _ (search rules)
    (c.in_err-place.ensures ∙ ap (λ o. station_from (read_record (drop o c.args.input.now)) o) c.station_offset.ensures)
    ∙ ap stations_form (sym c.loop-i.invariant)

pub loop-i-preserved : goal.loop-i-preserved
loop-i-preserved c =
    c.loop-i.invariant
    ∙ station_turn c.args.input.now c.loop-i.place-items c.args.n c.loop-i.i c.in_ok-place.field-0 (search rules) (search rules)
    (c.in_ok-place.ensures ∙ ap (λ o. station_from (read_record (drop o c.args.input.now)) o) c.station_offset.ensures)

pub returns : goal.returns
returns c =
    stations_all c.args.input.now c.loop-i.place-items _ c.args.n c.loop-i.i (search rules) (search rules) (search rules)
    ∙ ap stations_form (sym c.loop-i.invariant)
