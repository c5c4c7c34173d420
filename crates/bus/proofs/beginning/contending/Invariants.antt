-- The loop's invariant: the addresses before place i are written, and zeros stand from there on.
use Rattle.std.proofs.Common.{cond, ℕ, ◌-◌, ◌≤◌, ◌<◌, ◌≡◌, List, length, get_or}
use Rattle.word.specs.Word.{bit_at}
use Rattle.state.specs.State.{nobody}
use Rattle.bus.specs.Types.{Address, Listed}
use Rattle.bus.proofs.beginning.contending.Given as goal

abbrev pub zero_address : Address
zero_address = record { 0 = 0 }

-- what stands at a place
abbrev pub shown : ℕ → List Listed → ℕ → Address
shown contenders listed i = cond (bit_at contenders i) (get_or listed i nobody).address zero_address

-- the addresses before place i are written, and the others are zero
abbrev pub Written : ℕ → List Listed → List Address → ℕ → Type 0
Written contenders listed addresses i =
    (length addresses ≡ 64)
    × ((j : ℕ) → j < i → get_or addresses j zero_address ≡ shown contenders listed j)
    × ((j : ℕ) → i ≤ j → j < 64 → get_or addresses j zero_address ≡ zero_address)

abbrev pub invariant-loop-i : goal.invariant-loop-i
invariant-loop-i l = (l.i ≤ 64) × Written l.contenders l.fn.listed l.addresses l.i

abbrev pub decreases-loop-i : goal.decreases-loop-i
decreases-loop-i l = 64 - l.i
