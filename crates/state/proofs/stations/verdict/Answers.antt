-- `verdict` meets its contract: the verdict on the settings, and where they are accepted the verdict on the stations.
use Rattle.std.proofs.Common.{sym, ap, ◌∙◌, refl, true, [], map, arith, length-take-le}
use Rattle.rules.specs.Lists.{first_of}
use Rattle.rules.specs.declared.Verdict.{Verdict}
use Rattle.rules.specs.SetUp.{fine, row_tests}
use Rattle.state.specs.SetUp.{asked_of, request_with}
use Rattle.state.proofs.SettingUp.{asked_count, asked_first, set_up_turn, settings_pass}
use Rattle.state.proofs.stations.verdict.Goals as goal

pub slice_bounds-first_faulty-end : goal.slice_bounds-first_faulty-end
slice_bounds-first_faulty-end c =
    let row = map asked_of c.args.stations.now in
    let e = c.in_ok-settings_verdict.ensures row (asked_count c.args.stations.now c.requires) in
    let filled = (settings_pass c.args.settings.now row (ap (λ (v : Verdict). v.refusal) (sym e))).filled in
    sym (length-take-le c.args.settings.now.n c.args.stations.now (omega (arith, filled, asked_count c.args.stations.now c.requires)))

pub returns : goal.returns
returns c =
    let g = c.args.settings.now in
    let stations = c.args.stations.now in
    let row = map asked_of stations in
    let e = c.in_ok-settings_verdict.ensures row (asked_count stations c.requires) in
    c.first_faulty.ensures
    ∙ sym
    (set_up_turn g row _ true e refl
    ∙ ap
    (λ xs. first_of fine (row_tests (request_with g []) 0 [] xs))
    (asked_first stations g.n))
