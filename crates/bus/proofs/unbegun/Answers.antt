-- `unbegun` meets its contract.
use Rattle.bus.proofs.Calls.{none_shown}
use Rattle.bus.proofs.unbegun.Goals as goal

pub returns : goal.returns
returns c = none_shown c.args.refusal
