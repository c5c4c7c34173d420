-- `standing::stands` meets its contract.
use Rattle.std.proofs.Common.{◌≡◌, sym, ap, ◌∙◌}
use Rattle.rules.specs.SetUp.{set_up_verdict}
use Rattle.state.proofs.StandingParts.{tried, state_held, not_set_up, accepted, not_accepted, standing_parts}
use Rattle.state.proofs.standing.stands.Goals as goal

pub returns-then-is_ok : goal.returns-then-is_ok
returns-then-is_ok c =
    let s = c.args.s in
    let passes = ap (λ v. v.refusal) (sym c.verdict.ensures) ∙ accepted c.verdict.result (sym c.is_ok.ensures.value ∙ c.if-is_ok.true) in
    c.parts_stand.ensures ∙ sym (standing_parts s (state_held s _ c.well_formed.0) passes)

pub returns-else-is_ok : goal.returns-else-is_ok
returns-else-is_ok c =
    let s = c.args.s in
    let refusal : ¬ ((set_up_verdict (tried s)).refusal ≡ 0) = λ e. not_accepted c.verdict.result (sym c.is_ok.ensures.value ∙ c.if-is_ok.false) (ap (λ v. v.refusal) c.verdict.ensures ∙ e) in
    c.if-is_ok.false ∙ sym (not_set_up s (state_held s _ c.well_formed.0) refusal)
