-- `probing::addresses_of` meets its contract.
use Rattle.std.proofs.Common.{ℕ, ◌≡◌, ◌<◌, get_or, rules}
use Rattle.state.specs.State.{nobody}
use Rattle.state.proofs.Rows.{row_ext}
use Rattle.bus.proofs.probing.addresses_of.Goals as goal

pub returns : goal.returns
returns c = row_ext 64 (λ i. (get_or c.args.listed i nobody).address.0) c.map.result 0 c.map.ensures.items.long each
  where
    each : (i : ℕ) → i < 64 → get_or c.map.result i 0 ≡ (get_or c.args.listed i nobody).address.0
    each i h = let call = c.map.ensures.items.at i nobody 0 h in let told = call.2 in search rules
