-- What is proved of the sheet, in one place. `drawn` (specs/Sheet.antt) is what `draw` of src/lib.rt answers,
-- which proofs/Unique.antt says determines it. Assumes nothing.
use Prim.Native.Nat.{ℕ, ◌*◌, ◌≤◌, ◌<◌}
use mathlib.Core.Path.{◌≡◌}
use mathlib.Core.Logic.{◌⊎◌}
use mathlib.Core.List.{List, map}
use lib.ListN.{take}
use Rattle.sheet.specs.Losses.{Loss, Figure, AtMost, Below}
use Rattle.sheet.specs.Words.{words, number, in_halves}
use Rattle.std.specs.Prelude.{Option, Ok, Err}
use Rattle.sheet.specs.Sheet.{Run, Placed, most_runs, AllBalanced, FirstUnbalanced, highest_of, Says, sheet_of, drawn}
use Rattle.sheet.specs.declared.Refused.TheVariants.{TooMany, Unbalanced}
use Rattle.sheet.specs.Examples.{Example, said, table}
use Rattle.sheet.proofs.Order as Order
use Rattle.sheet.proofs.Halves as Halves
use Rattle.sheet.proofs.HighestLoss as HighestLoss
use Rattle.sheet.proofs.Refusals as Refusals
use Rattle.sheet.proofs.Examples as Examples

-- ---- the order of losses

-- cross products order losses that have figures, whatever the size of the numbers: each is at most itself, two can be compared, and what is at
-- most, or below, what is at most, or below, another is so itself
pub at_most_itself : (a : Loss) → AtMost a a
at_most_itself = Order.at_most_itself

pub either : (a b : Loss) → AtMost a b ⊎ Below b a
either = Order.either

pub not_both : (a b : Loss) → Below a b → AtMost b a → ⊥
not_both = Order.not_both

pub at_most_then : (a b c : Loss) → Figure b → AtMost a b → AtMost b c → AtMost a c
at_most_then = Order.at_most_then

pub at_most_below : (a b c : Loss) → Figure a → AtMost a b → Below b c → Below a c
at_most_below = Order.at_most_below

pub below_at_most : (a b c : Loss) → Figure c → Below a b → AtMost b c → Below a c
below_at_most = Order.below_at_most

-- ---- products past 64 bits

-- multiplication in halves is multiplication, whatever the base of the halves: the two words that it makes are those of the product
pub in_halves_exact : (base a b : ℕ) → 0 < base → in_halves base a b ≡ words (base * base) (a * b)
in_halves_exact = Halves.in_halves_exact

-- and they are the product
pub words_number : (size n : ℕ) → number size (words size n) ≡ n
words_number = Halves.words_number

-- ---- the highest loss

-- the highest of a batch is a run with a figure, no run's loss is above it, and no earlier run's equals it; or no run has a figure
pub highest_says : (runs : List Run) → Says runs (highest_of runs)
highest_says = HighestLoss.highest_says

-- and no other answer is
pub says_only : (runs : List Run) (x y : Option Placed) → Says runs x → Says runs y → x ≡ y
says_only = HighestLoss.says_only

-- ---- what refuses a batch

pub drawn_many : (row : List Run) (count : ℕ) → most_runs < count → drawn row count ≡ Err TooMany
drawn_many = Refusals.drawn_many

pub drawn_uneven :
    (row : List Run) (count : ℕ) → count ≤ most_runs → (place : ℕ) → FirstUnbalanced (take count row) place
    → drawn row count ≡ Err (Unbalanced place)
drawn_uneven = Refusals.drawn_uneven

pub drawn_whole : (row : List Run) (count : ℕ) → count ≤ most_runs → AllBalanced (take count row) → drawn row count ≡ Ok (sheet_of (take count row))
drawn_whole = Refusals.drawn_whole

-- of any batch one of the last two holds
pub first_or_all : (runs : List Run) → ((place : ℕ) × FirstUnbalanced runs place) ⊎ AllBalanced runs
first_or_all = Refusals.first_or_all

-- ---- examples

-- the table of batches
pub examples_hold : map (λ (e : Example). said (drawn e.runs e.count)) table ≡ map (λ (e : Example). e.says) table
examples_hold = Examples.examples_hold
