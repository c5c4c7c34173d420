-- Each contract says all of the result: two results that meet it are equal, whatever the arguments. A line for each exported function, by
-- what its own contract says. Assumes nothing.
use mathlib.Core.Path.{◌≡◌, sym, ◌∙◌}
use Rattle.window.specs.Determined.{Determines}
use Rattle.window.proofs.exponent.Reads as exponent
use Rattle.window.proofs.first_window.Reads as first-window
use Rattle.window.proofs.left_half.Reads as left-half
use Rattle.window.proofs.move_right.Reads as move-right
use Rattle.window.proofs.in_window.Reads as in_window
use Rattle.window.proofs.is_power.Reads as is-power
use Rattle.window.proofs.is_placed.Reads as is-placed

-- What is equal to one thing is equal.
pub unique {ℓ} : {A : Type ℓ} {x y z : A} → x ≡ z → y ≡ z → x ≡ y
unique p q = p ∙ sym q

pub exponent_determined : Determines exponent.Learnt
exponent_determined κs args r r' end end' = unique

pub first_window_determined : Determines first-window.Learnt
first_window_determined κs args r r' end end' = unique

pub left_half_determined : Determines left-half.Learnt
left_half_determined κs args r r' end end' = unique

pub move_right_determined : Determines move-right.Learnt
move_right_determined κs args r r' end end' = unique

pub in_window_determined : Determines in_window.Learnt
in_window_determined κs args r r' end end' = unique

pub is_power_determined : Determines is-power.Learnt
is_power_determined κs args r r' end end' = unique

pub is_placed_determined : Determines is-placed.Learnt
is_placed_determined κs args r r' end end' = unique
