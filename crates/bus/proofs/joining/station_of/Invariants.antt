-- The loop's invariant: the first place with the address is the first one from i on.
use Rattle.std.proofs.Common.{ℕ, ◌≤◌, ◌-◌, ◌≡◌, Bool, List, eqb, get_or}
use Rattle.bus.specs.Types.{Address, Listed}
use Rattle.state.specs.State.{nobody}
use Rattle.bus.specs.Parts.{first_place}
use Rattle.bus.proofs.joining.station_of.Given as goal

abbrev pub has_it : Address → List Listed → ℕ → Bool
has_it address listed j = eqb address.0 (get_or listed j nobody).address.0

abbrev pub invariant-loop-i : goal.invariant-loop-i
invariant-loop-i l = (l.i ≤ l.n) × (first_place (has_it l.address l.listed) 0 l.n ≡ first_place (has_it l.address l.listed) l.i (l.n - l.i))

abbrev pub decreases-loop-i : goal.decreases-loop-i
decreases-loop-i l = l.n - l.i
