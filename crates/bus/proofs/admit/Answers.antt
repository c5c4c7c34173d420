-- `admit` meets its contract.
use Rattle.state.proofs.StandingParts.{state_held}
use Rattle.bus.proofs.admit.Goals as goal

pub admit_in-answer-requires : goal.admit_in-answer-requires
admit_in-answer-requires c = record { held = state_held c.args.s _ c.well_formed.0; stands = c.stands-stands.ensures }
