-- `step` meets its contract.
use Rattle.state.proofs.StandingParts.{state_held}
use Rattle.bus.proofs.step.Goals as goal

pub step_in-answer-requires : goal.step_in-answer-requires
step_in-answer-requires c =
    record { held = state_held c.args.s _ c.well_formed.0; stands = c.stands-stands.ensures; addresses = c.addresses_of-addresses.ensures }
