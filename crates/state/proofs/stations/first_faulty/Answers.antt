-- `first_faulty` meets its contract: the verdict on a station decides, unless it is accepted.
use Rattle.std.proofs.Common.{refl, sym, ap, ◌∙◌, []}
use Rattle.state.specs.SetUp.{request_with}
use Rattle.state.specs.Parts.{verdict_at}
use Rattle.state.proofs.SettingUp.{faulty_turn, faulty_end, refused}
use Rattle.state.proofs.stations.first_faulty.Goals as goal

pub loop-i-init : goal.loop-i-init
loop-i-init c = refl

pub returns-in-Err : goal.returns-in-Err
returns-in-Err c =
    let r = request_with c.args.settings.now [] in
    let i = c.loop-i.i in
    let e = sym (ap (verdict_at i) c.in-Err.is) ∙ c.station_verdict.ensures i in
    sym (c.loop-i.invariant ∙ faulty_turn r c.args.stations.now i _ _ c.loop-i-test.true e (refused i c.in-Err.refusal))

pub loop-i-preserved : goal.loop-i-preserved
loop-i-preserved c =
    let r = request_with c.args.settings.now [] in
    let i = c.loop-i.i in
    let e = sym (ap (verdict_at i) c.in_default.is) ∙ c.station_verdict.ensures i in
    c.loop-i.invariant ∙ faulty_turn r c.args.stations.now i _ _ c.loop-i-test.true e refl

pub returns : goal.returns
returns c = sym (c.loop-i.invariant ∙ faulty_end (request_with c.args.settings.now []) c.args.stations.now _ c.loop-i-test.false)
