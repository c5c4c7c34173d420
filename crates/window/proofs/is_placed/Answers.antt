-- `is_placed` meets its contract: what the count of ones accepts is no 0, so that it can divide.
use Rattle.std.proofs.Common.{arith, ◌≡◌, ◌<◌, ℕ, Bool, true, sym, ◌∙◌}
use lib.Pow.{pow_pos}
use Rattle.window.specs.Splitting.{is_power}
use Rattle.window.proofs.Facts.{power_level}
use Rattle.window.proofs.is_placed.Goals as goal

divides : (accepts : Bool) (n : ℕ) → accepts ≡ is_power n → accepts ≡ true → 0 < n
divides accepts n e p =
    let k = power_level n (sym e ∙ p) in
    omega (arith, k.1, pow_pos k.0)

pub nonzero_rem-start : goal.nonzero_rem-start
nonzero_rem-start c = divides _ _ c.is_power.ensures c.if-not-is_power.false

pub nonzero_div-start : goal.nonzero_div-start
nonzero_div-start c = divides _ _ c.is_power.ensures c.if-not-is_power.false
