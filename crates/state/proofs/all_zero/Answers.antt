-- `all_zero` meets its contract: no set-up, and nobody at each place, is the form of nothing.
use Rattle.std.proofs.Common.{ap, ◌∙◌}
use Rattle.state.specs.State.{nobody}
use Rattle.state.specs.Parts.{fresh_state}
use Rattle.state.proofs.Rows.{row_replicate}
use Rattle.state.proofs.SettingUp.{nothing_form}
use Rattle.state.proofs.all_zero.Goals as goal

pub returns : goal.returns
returns c = c.fresh.ensures ∙ ap (fresh_state _) (row_replicate 64 nobody) ∙ nothing_form
