-- `first_window` meets its contract: the shift is that power of two, which 64 bits hold.
use Rattle.std.proofs.Common.{ℕ, ◌^◌, ap, ◌∙◌, arith}
use native.Mathlib.Nat.{one-mul}
use lib.Dec.{lit<}
use lib.Pow.{shl_exact}
use Rattle.window.specs.declared.Side.TheVariants.{Right}
use Rattle.window.proofs.Facts.{exponent_le}
use Rattle.window.proofs.first_window.Goals as goal

pub overflow_shl-result : goal.overflow_shl-result
overflow_shl-result c = omega (arith, exponent_le c.args.space)

pub returns : goal.returns
returns c =
    ap (λ (size : ℕ). record { start = 0; size = size; side = Right })
    (shl_exact 1 _ 64 (lit< tt) (omega (arith, exponent_le c.args.space)) ∙ one-mul _ ∙ ap (λ (x : ℕ). 2 ^ x) c.exponent-e.ensures)
