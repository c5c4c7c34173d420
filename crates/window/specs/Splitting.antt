-- Windows and their moves: the splitting of report 90-127, Figure 6, for parameters and addresses alike.
--
-- A window is the numbers from `start` up to, but not with, `start + size`. Its side says which half of its parent it is; a
-- first window, which has no parent, is called right (Figure 6, line 3). The records `Window` and `Side` are those of src/lib.rt.
-- Numbers here have no width. Where the code's have one, `moved_right` says what the code does at their end.
-- Assumes nothing.
use Rattle.std.specs.Prelude.{ℕ, zero, suc, ◌+◌, ◌-◌, ◌*◌, ◌/◌, ◌%◌, ◌^◌, ◌≤◌, ◌<◌, ◌≡◌, Bool, true, false, ◌&&◌, cond, leb, ltb, eqb}
use Rattle.std.specs.Int.Count.{count_leading_zeros, ones}
use Rattle.window.specs.declared.Side.{Side}
use Rattle.window.specs.declared.Side.TheVariants.{Left, Right}
use Rattle.window.specs.declared.Window.{Window}

-- The exponent of a space: 'leading zeros of the space less one give the exponent'. It is also the number of halvings that
-- take the space's first window down to size 1: paper 01's L for D, and M for A.
unfoldable pub exponent_of : ℕ → ℕ
unfolding count_leading_zeros
exponent_of space = 32 - count_leading_zeros 32 (space - 1)

-- 'The first window of a space is rounded up to the nearest power of two', start 0, side right. Figure 6, line 3.
abbrev pub first_window : ℕ → Window
first_window space = record { start = 0; size = 2 ^ exponent_of space; side = Right }

-- 'its left half, side left'. Figure 6, lines 20 and 21.
abbrev pub left_half : Window → Window
left_half w = record { start = w.start; size = w.size / 2; side = Left }

-- a window halved so many times
abbrev pub halved : ℕ → Window → Window
halved zero w = w
halved (suc k) w = halved k (left_half w)

-- 'the window moves right by its size, side right'. Figure 6, lines 26 and 27.
abbrev pub move_right : Window → Window
move_right w = record { start = w.start + w.size; size = w.size; side = Right }

-- The same where a start is held in 64 bits: a window that reaches their end has nowhere to go, and stays.
abbrev pub moved_right : Window → Window
moved_right w = cond (ltb (w.start + w.size) (2 ^ 64)) (move_right w) w

-- Whether a number lies in a window. Figure 6, line 6.
abbrev pub in_window : Window → ℕ → Bool
in_window w n = leb w.start n && ltb n (w.start + w.size)

-- 'a count of ones tests that a lent window size is a power of two'
unfoldable pub is_power : ℕ → Bool
unfolding ones
is_power n = eqb (ones n) 1

-- 'otherwise left at an even multiple and right at an odd one'
abbrev pub side_at : ℕ → Side
side_at multiple = cond (eqb (multiple % 2) 0) Left Right

-- whether two sides are the same
abbrev pub same_side : Side → Side → Bool
same_side Left Left = true
same_side Left Right = false
same_side Right Left = false
same_side Right Right = true

-- Whether a lent window could have come from the first window of a space: 'a window whose size is a power of two, no larger than
-- the first window, starting inside it at a multiple of the size, side right for the first window itself, otherwise left at an
-- even multiple and right at an odd one'.
abbrev pub placed : ℕ → Window → Bool
placed space w =
    is_power w.size
    && leb w.size (first_window space).size
    && ltb w.start (first_window space).size
    && eqb (w.start % w.size) 0
    && same_side w.side (cond (eqb w.size (first_window space).size) Right (side_at (w.start / w.size)))

-- the same as conditions: the window's level, the exponent of its size, and the multiple of its size at which it starts
pub record Placed (space : ℕ) (w : Window) : Type 0 where
  -- 'a window whose size is a power of two'
  pub level : ℕ
  pub size_is : w.size ≡ 2 ^ level
  -- 'no larger than the first window'
  pub level_le : level ≤ exponent_of space
  -- 'at a multiple of the size'
  pub multiple : ℕ
  pub start_is : w.start ≡ multiple * 2 ^ level
  -- 'starting inside it'
  pub start_in : w.start < 2 ^ exponent_of space
  -- 'side right for the first window itself, otherwise left at an even multiple and right at an odd one'
  pub side_is : w.side ≡ cond (eqb level (exponent_of space)) Right (side_at multiple)
