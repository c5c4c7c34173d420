-- `gather` meets its contract.
use Rattle.std.proofs.Common.{◌-◌, ◌≡◌, refl, ◌∙◌, Option, Some, None, arith}
use Rattle.state.specs.declared.Arrival.{Arrival}
use Rattle.listing.proofs.Gathered.{one_more, none_found, row_full, at_last}
use Rattle.listing.proofs.gather.Goals as goal

-- what is no arrival is none
none : (found : Option Arrival) → ((a : Arrival) → found ≡ Some a → ⊥) → None ≡ found
none (Some a) other = absurd (other a refl)
none None other = refl

pub returns-in_default : goal.returns-in_default
returns-in_default c =
    let turn = c.loop-length in
    at_last turn.invariant
    (none_found (64 - turn.length) c.args.input.now turn.at (none c.arrival_at.result c.in_default.not-Some ∙ c.arrival_at.ensures))

pub loop-length-preserved : goal.loop-length-preserved
loop-length-preserved c =
    let turn = c.loop-length in
    one_more c.in-Some.arrival (omega arith) turn.invariant c.in-Some.ensures

pub returns : goal.returns
returns c =
    let turn = c.loop-length in
    let full : turn.length ≡ 64 = omega arith in
    at_last (rw full at turn.invariant) (row_full c.args.input.now turn.at 64 (omega arith))
