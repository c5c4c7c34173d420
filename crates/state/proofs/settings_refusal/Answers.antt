-- `settings_refusal` meets its contract: the verdict on a row that fills all of its places.
use Rattle.std.proofs.Common.{refl, ap, ◌∙◌, replicate}
use Rattle.rules.specs.Bus.{most_stations}
use Rattle.rules.specs.declared.Verdict.{Verdict}
use Rattle.state.specs.State.{nobody}
use Rattle.state.specs.SetUp.{asked_of}
use Rattle.state.proofs.SettingUp.{answered_verdict}
use Rattle.state.proofs.settings_refusal.Goals as goal

pub returns : goal.returns
returns c =
    c.answered.ensures
    ∙ answered_verdict c.settings_verdict.result
    ∙ ap (λ (v : Verdict). v.refusal) (c.settings_verdict.ensures (replicate most_stations (asked_of nobody)) refl)
