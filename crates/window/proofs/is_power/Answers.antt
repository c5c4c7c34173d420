-- `is_power` meets its contract: its test is that of the definition.
use Rattle.std.proofs.Common.{refl}
use Rattle.window.specs.Splitting.{is_power}
use Rattle.window.proofs.is_power.Goals as goal

pub returns : goal.returns
unfolding is_power
returns c = refl
