-- What is proved of text in room that is lent, in one place. `decimal` is in specs/Text.antt, and `stored` and `past`, which the contracts
-- of src/ cite, in specs/Room.antt; that each contract says all of its result and of the room is proofs/Unique.antt. Assumes nothing.
use Prim.Native.Nat.{ℕ, suc, ◌+◌, ◌^◌, ◌≤◌, ◌<◌}
use mathlib.Core.Path.{◌≡◌}
use mathlib.Core.List.{List, ◌++◌}
use lib.ListN.{length, take, drop}
use Rattle.text.specs.Text.{decimal}
use Rattle.text.specs.Room.{room_bytes, stored, past, room_with}
use Rattle.text.proofs.Decimals as Decimals
use Rattle.text.proofs.Stores as Stores

-- ---- text at an offset

-- a text that fits stands at the offset, all else is as it was, and the offset is past it
pub stands :
    (room : List ℕ) (at : ℕ) (text : List ℕ) → length room ≡ room_bytes → at + length text ≤ room_bytes
    → stored room at text ≡ take at room ++ text ++ drop (at + length text) room
stands = Stores.stands

pub past_fits : (at : ℕ) (text : List ℕ) → at + length text ≤ room_bytes → past at text ≡ at + length text
past_fits = Stores.past_fits

-- one that does not fit leaves the room and the offset as they were
pub stored_not : (room : List ℕ) (at : ℕ) (text : List ℕ) → room_bytes < at + length text → stored room at text ≡ room
stored_not = Stores.stored_not

pub past_not : (at : ℕ) (text : List ℕ) → room_bytes < at + length text → past at text ≡ at
past_not = Stores.past_not

-- the room stays as long as it is, whatever the text
pub stored_kept : (room : List ℕ) (at : ℕ) (text : List ℕ) → length (stored room at text) ≡ length room
stored_kept = Stores.stored_kept

-- text after text that fits with it is one text
pub stored_then :
    (room : List ℕ) (at : ℕ) (x y : List ℕ) → at + (length x + length y) ≤ room_bytes
    → stored (stored room at x) (past at x) y ≡ stored room at (x ++ y)
stored_then = Stores.stored_then

pub past_then : (at : ℕ) (x y : List ℕ) → at + (length x + length y) ≤ room_bytes → past (past at x) y ≡ past at (x ++ y)
past_then = Stores.past_then

-- ---- text over the room's start

-- a text that is stored from the start on is over the room's start
pub stored_start : (room text : List ℕ) → length text ≤ room_bytes → stored room 0 text ≡ room_with text room
stored_start = Stores.stored_start

-- a text that fits stands at the start, the rest is as it was, and the room stays as long as it is
pub room_starts : (text room : List ℕ) → length text ≤ length room → room_with text room ≡ text ++ drop (length text) room
room_starts = Stores.room_starts

pub room_kept : (text room : List ℕ) → length (room_with text room) ≡ length room
room_kept = Stores.room_kept

-- ---- numbers in decimal

-- a number below 10 ^ (k + 1) has no more than k + 1 digits; one below 2 ^ 32 no more than ten, and one below 2 ^ 64 no more than twenty
pub decimal_length : (k n : ℕ) → n < 10 ^ suc k → length (decimal n) ≤ suc k
decimal_length = Decimals.decimal_length

pub decimal_short : (n : ℕ) → n < 2 ^ 32 → length (decimal n) ≤ 10
decimal_short = Decimals.decimal_short

pub decimal_long : (n : ℕ) → n < 2 ^ 64 → length (decimal n) ≤ 20
decimal_long = Decimals.decimal_long
