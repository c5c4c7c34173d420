-- `up_to` meets its contract: the stations, and nobody behind them.
use Rattle.state.proofs.SettingUp.{filled_up}
use Rattle.state.proofs.stations.up_to.Goals as goal

pub returns : goal.returns
returns c = filled_up c.args.stations.now _ c.requires c.copy_from_slice.ensures.after
