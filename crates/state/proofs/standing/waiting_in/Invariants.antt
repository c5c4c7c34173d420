-- The loop's invariant: the sum and what is left make the total, and no queue holds more than 16.
use Rattle.std.proofs.Common.{ℕ, ◌+◌, ◌*◌, ◌≤◌, min, ◌≡◌, drop}
use Rattle.rules.specs.Lists.{total}
use Rattle.state.proofs.standing.waiting_in.Given as goal

-- what a queue of this length holds
abbrev pub held : ℕ → ℕ
held k = min k 16

abbrev pub invariant-loop-length : goal.invariant-loop-length
invariant-loop-length l = (l.sum ≤ 16 * l.length-index) × (total held l.length-items ≡ l.sum + total held (drop l.length-index l.length-items))
