-- `set_up` meets its contract: the verdict, and the form of the fresh bus where that is 0, else the form of nothing.
use Rattle.std.proofs.Common.{◌≡◌, refl, sym, ap, ◌∙◌, true, map, take, length, rules}
use Rattle.rules.specs.declared.Verdict.{Verdict}
use Rattle.rules.specs.SetUp.{fine, set_up_verdict, fresh_bus}
use Rattle.state.specs.State.{form}
use Rattle.state.specs.SetUp.{asked_of, request_with, request_of}
use Rattle.state.specs.Parts.{fresh_state}
use Rattle.state.proofs.SettingUp.{set_up_answer, set_up_pass, fresh_form}
use Rattle.state.proofs.StandingParts.{first_few}
use Rattle.state.proofs.set_up.Goals as goal
use Rattle.state.proofs.set_up.Goals.{After-min}

-- the places of the row that are looked at are those that are filled
filled : (c : After-min) → take c.min.result c.args.row.stations ≡ take c.args.row.length c.args.row.stations
filled c =
    let full : length c.args.row.stations ≡ 64 = search rules in
    ap (λ k. take k c.args.row.stations) c.min.ensures ∙ first_few c.args.row.stations c.args.row.length 64 full

pub returns-in-Ok : goal.returns-in-Ok
returns-in-Ok c =
    let g = c.args.settings in
    let stations = take c.min.result c.args.row.stations in
    let e = c.in-Ok.ensures in
    let same = filled (goal.at.returns-in-Ok c).After-min in
    set_up_answer
    (request_of g c.args.row)
    fine
    _
    true
    (e ∙ ap (λ xs. set_up_verdict (request_with g (map asked_of xs))) same)
    refl
    (c.fresh.ensures
    ∙ ap (fresh_state g) c.up_to.ensures
    ∙ sym (fresh_form g stations (set_up_pass g (map asked_of stations) (ap (λ (v : Verdict). v.refusal) (sym e))))
    ∙ ap (λ xs. form (fresh_bus (request_with g (map asked_of xs)))) same)
