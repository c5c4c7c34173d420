-- What is proved of windows, in one place: 'Window facts are proved once over the size, for both phases' (paper 01). A space is D in the
-- parameter phase and A in the tie phase. What the words mean is in specs/Splitting.antt; that each contract says all of its result is
-- proofs/Unique.antt. Assumes nothing.
use Prim.Native.Nat.{ℕ, ◌+◌, ◌*◌, ◌^◌, ◌≤◌, ◌<◌}
use mathlib.Core.Path.{◌≡◌}
use mathlib.Core.Bool.{true, false, ◌&&◌, ◌||◌}
use Rattle.window.specs.declared.Side.TheVariants.{Left}
use Rattle.window.specs.declared.Window.{Window}
use Rattle.window.specs.Splitting.{exponent_of, first_window, left_half, halved, move_right, moved_right, in_window, is_power, placed, Placed}
use Rattle.window.proofs.Facts as Facts

-- ---- 'The first window of a space is rounded up to the nearest power of two': it covers the space, and no smaller power of two does

pub covers : (space : ℕ) → space ≤ 2 ^ 32 → space ≤ (first_window space).size
covers = Facts.covers

pub least : (space k : ℕ) → space ≤ 2 ^ 32 → space ≤ 2 ^ k → exponent_of space ≤ k
least = Facts.least

-- ---- 'L and M are the numbers of halvings that take the first windows of D and A down to size 1'

pub halvings : (space : ℕ) → (halved (exponent_of space) (first_window space)).size ≡ 1
halvings = Facts.halvings

-- ---- what lies in a window

pub in_window_bounds : (w : Window) (n : ℕ) → in_window w n ≡ true → (w.start ≤ n) × (n < w.start + w.size)
in_window_bounds = Facts.in_window_bounds

pub in_window_test : (w : Window) (n : ℕ) → w.start ≤ n → n < w.start + w.size → in_window w n ≡ true
in_window_test = Facts.in_window_test

-- a number is in a window of even size exactly where it is in its left half or in that half moved right, and never in both
pub halves : (w : Window) (h n : ℕ) → w.size ≡ 2 * h → in_window w n ≡ (in_window (left_half w) n || in_window (move_right (left_half w)) n)
halves = Facts.halves

pub halves_apart : (w : Window) (h n : ℕ) → w.size ≡ 2 * h → (in_window (left_half w) n && in_window (move_right (left_half w)) n) ≡ false
halves_apart = Facts.halves_apart

-- ---- 'a count of ones tests that a lent window size is a power of two': it accepts those, and no other

pub power_level : (n : ℕ) → is_power n ≡ true → (k : ℕ) × (n ≡ 2 ^ k)
power_level = Facts.power_level

pub power_test : (k : ℕ) → is_power (2 ^ k) ≡ true
power_test = Facts.power_test

-- ---- a lent window passes the test exactly when it keeps the conditions; it lies inside the first window

pub placed_view : (space : ℕ) (w : Window) → placed space w ≡ true → Placed space w
placed_view = Facts.placed_view

pub placed_test : (space : ℕ) (w : Window) → Placed space w → placed space w ≡ true
placed_test = Facts.placed_test

pub placed_inside : (space : ℕ) (w : Window) → placed space w ≡ true → w.start + w.size ≤ (first_window space).size
placed_inside = Facts.placed_inside

-- ---- the first window is placed, and so is what the moves make of a placed window

pub placed_first : (space : ℕ) → placed space (first_window space) ≡ true
placed_first = Facts.placed_first

pub placed_left : (space : ℕ) (w : Window) → placed space w ≡ true → 2 ≤ w.size → placed space (left_half w) ≡ true
placed_left = Facts.placed_left

pub placed_right : (space : ℕ) (w : Window) → placed space w ≡ true → w.side ≡ Left → placed space (move_right w) ≡ true
placed_right = Facts.placed_right

-- a placed window never meets the end of 64 bits
pub moved_right_free : (space : ℕ) (w : Window) → placed space w ≡ true → moved_right w ≡ move_right w
moved_right_free = Facts.moved_right_free
