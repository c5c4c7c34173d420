-- `station_verdict` meets its contract: 9 and 10 decide where 7 and 8 do not.
use Rattle.std.proofs.Common.{◌≡◌, refl, sym, ap, ◌∙◌, Err, rules}
use Rattle.rules.specs.Lists.{first_of}
use Rattle.rules.specs.SetUp.{fine}
use Rattle.state.specs.Parts.{verdict_at, address_tests, capability_tests}
use Rattle.state.proofs.SettingUp.{refused, then_tried, station_parts}
use Rattle.state.proofs.stations.station_verdict.Goals as goal

pub returns : goal.returns
returns c = λ i.
    let g = c.args.settings.now in
    let earlier = c.args.earlier.now in
    let s = c.args.s.now in
    let decided = then_tried (address_tests g i earlier s) (capability_tests g i earlier s) refl (c.in_ok-address_verdict.ensures i) refl in
    c.capability_verdict.ensures i ∙ sym (ap (first_of fine) (station_parts g i earlier s) ∙ decided)

pub returns-in_err-address_verdict : goal.returns-in_err-address_verdict
returns-in_err-address_verdict c = λ i.
    let g = c.args.settings.now in
    let earlier = c.args.earlier.now in
    let s = c.args.s.now in
    let refusal = c.in_err-address_verdict.field-0.0 in
    let given : c.from_residual.result ≡ Err refusal = search rules in
    let decided =
    then_tried (address_tests g i earlier s) (capability_tests g i earlier s) refl (c.in_err-address_verdict.ensures i) (refused i refusal) in
    ap (verdict_at i) given ∙ sym (ap (first_of fine) (station_parts g i earlier s) ∙ decided)
