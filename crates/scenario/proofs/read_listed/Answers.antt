-- `read_listed` meets its contract: what it asks of the number and of the station in a set-up's answer.
use Rattle.std.proofs.Common.{◌≡◌, ap, arith}
use Rattle.rules.specs.declared.Verdict.{Verdict}
use Rattle.rules.specs.SetUp.{set_up_verdict}
use Rattle.state.specs.declared.SetUp.{SetUp}
use Rattle.state.specs.SetUp.{request_of}
use Rattle.scenario.proofs.ReadingLaws.{few_stations, verdict_fits}
use Rattle.scenario.proofs.read_listed.Goals as goal
use Rattle.scenario.proofs.read_listed.Goals.{After-set_up-set}

-- what set-up answers
verdict_is : (c : After-set_up-set) → c.set_up-set.result.verdict ≡ set_up_verdict (request_of c.args.settings c.in_ok-row.row)
verdict_is c = ap (λ (s : SetUp). s.verdict) c.set_up-set.ensures

pub outcome-requires : goal.outcome-requires
outcome-requires c =
    let fits = verdict_fits (request_of c.args.settings c.in_ok-row.row) in
    let same = ap (λ (v : Verdict). v.refusal) (verdict_is (goal.at.outcome-requires c).After-set_up-set) in
    omega arith

pub station_offset-offset-requires : goal.station_offset-offset-requires
station_offset-offset-requires c =
    let few = few_stations c.args.settings c.requires in
    let fits = verdict_fits (request_of c.args.settings c.in_ok-row.row) in
    let same = ap (λ (v : Verdict). v.station) (verdict_is (goal.at.station_offset-offset-requires c).After-set_up-set) in
    omega arith
