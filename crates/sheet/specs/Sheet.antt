-- The sheet of a batch of finished runs (change request P2): 'for each the admitted, sent, lost and waiting counts and the longest wait (0 if
-- none was sent); over all, the four counts' sums and the run with the highest loss'; and 'a count of packets turned away' (P4). Assumes
-- nothing.
use Rattle.std.specs.Prelude.{ℕ, suc, ◌+◌, ◌-◌, ◌<◌, ◌≡◌, Bool, not, cond, List, [], ◌∷◌, ◌++◌, map, ltb, eqb, length, get_or, take, replicate, Option, Some, None, Result, Ok, Err, position, sum_by}
pub use Rattle.sheet.specs.declared.Run.{Run}
pub use Rattle.sheet.specs.declared.Sums.{Sums}
pub use Rattle.sheet.specs.declared.Placed.{Placed}
pub use Rattle.sheet.specs.declared.Sheet.{Sheet}
pub use Rattle.sheet.specs.declared.Refused.{Refused}
use Rattle.sheet.specs.declared.Refused.TheVariants.{TooMany, Unbalanced}
use Rattle.sheet.specs.Losses.{Loss, Figure, AtMost, Below, above}

-- 'up to 256 finished runs'
abbrev pub most_runs : ℕ
most_runs = 256

-- what has no meaning is zero
abbrev pub no_run : Run
no_run = record { admitted = 0; sent = 0; lost = 0; waiting = 0; turned = 0; wait = 0 }

-- ---- what refuses a batch

-- '24, a run whose admitted count is not sent + lost + waiting'; the packets turned away are not in it
abbrev pub balances : Run → Bool
balances r = eqb r.admitted (r.sent + r.lost + r.waiting)

-- the same as a statement: of one run; of all runs of a batch; and that a run is the first of which it does not hold
abbrev pub Balanced : Run → Type 0
Balanced r = r.admitted ≡ r.sent + r.lost + r.waiting

abbrev pub AllBalanced : List Run → Type 0
AllBalanced runs = (i : ℕ) → i < length runs → Balanced (get_or runs i no_run)

pub record FirstUnbalanced (runs : List Run) (place : ℕ) : Type 0 where
  pub there : place < length runs
  pub fails : ¬ Balanced (get_or runs place no_run)
  pub before : (i : ℕ) → i < place → Balanced (get_or runs i no_run)

-- the place of the first run that does not balance, if there is one
abbrev pub unbalanced : List Run → Option ℕ
unbalanced runs = position (λ r. not (balances r)) runs

-- ---- the rows and the sums

-- 'the longest wait (0 if none was sent)', whatever was lent
abbrev pub row_of : Run → Run
row_of r =
    record {
      admitted = r.admitted;
      sent = r.sent;
      lost = r.lost;
      waiting = r.waiting;
      turned = r.turned;
      wait = cond (eqb r.sent 0) 0 r.wait;
    }

-- 'the four counts' sums', and that of the packets turned away
abbrev pub sums_of : List Run → Sums
sums_of runs =
    record {
      admitted = sum_by (λ r. r.admitted) runs;
      sent = sum_by (λ r. r.sent) runs;
      lost = sum_by (λ r. r.lost) runs;
      waiting = sum_by (λ r. r.waiting) runs;
      turned = sum_by (λ r. r.turned) runs;
    }

-- ---- the highest loss

-- 'let P2's loss be lost + turned away over lost + turned away + sent'
abbrev pub loss_of : Run → Loss
loss_of r = record { lost = r.lost + r.turned; ended = r.lost + r.turned + r.sent }

-- 'with no figure only where that sum is 0': a run with nothing lost, turned away or sent has none
abbrev pub has_figure : Run → Bool
has_figure r = ltb 0 (loss_of r).ended

-- a run at its place
abbrev pub placed : ℕ → Run → Placed
placed place r = record { place = place; lost = (loss_of r).lost; ended = (loss_of r).ended }

-- the loss of a run at its place
abbrev pub loss_at : Placed → Loss
loss_at p = record { lost = p.lost; ended = p.ended }

-- The highest so far, and one run more: it takes its place where it has a figure and none had one, or where its loss is above. 'Equal ones go
-- to the earlier run.'
abbrev pub further : Option Placed → ℕ → Run → Option Placed
further None place r = cond (has_figure r) (Some (placed place r)) None
further (Some p) place r = cond (above (loss_of r) (loss_at p)) (Some (placed place r)) (Some p)

-- the runs from a place on
abbrev pub highest_from : Option Placed → ℕ → List Run → Option Placed
highest_from h place [] = h
highest_from h place (r ∷ runs) = highest_from (further h place r) (suc place) runs

abbrev pub highest_of : List Run → Option Placed
highest_of runs = highest_from None 0 runs

-- What each case of the highest says of a batch: that no run has a figure; or that this run has one, no run's loss is above it, and no earlier
-- run's equals it.
pub record IsHighest (runs : List Run) (p : Placed) : Type 0 where
  pub there : p.place < length runs
  pub its : p ≡ placed p.place (get_or runs p.place no_run)
  pub figure : Figure (loss_at p)
  pub most : (i : ℕ) → i < length runs → Figure (loss_of (get_or runs i no_run)) → AtMost (loss_of (get_or runs i no_run)) (loss_at p)
  pub first : (i : ℕ) → i < p.place → Figure (loss_of (get_or runs i no_run)) → Below (loss_of (get_or runs i no_run)) (loss_at p)

abbrev pub Says : List Run → Option Placed → Type 0
Says runs None = (i : ℕ) → i < length runs → ¬ Figure (loss_of (get_or runs i no_run))
Says runs (Some p) = IsHighest runs p

-- ---- the sheet

-- the rows in their places, and zeros past them
abbrev pub sheet_of : List Run → Sheet
sheet_of runs =
    record {
      rows = map row_of runs ++ replicate (most_runs - length runs) no_run;
      count = length runs;
      sums = sums_of runs;
      highest = highest_of runs;
    }

-- the number of a refusal
abbrev pub number_of : Refused → ℕ
number_of TooMany = 23
number_of (Unbalanced place) = 24

-- the place that is said with it: that of the run which does not balance, and 0 where there are too many
abbrev pub place_of : Refused → ℕ
place_of TooMany = 0
place_of (Unbalanced place) = place

-- '24': a batch in which a run does not balance, by the place of the first; or none
abbrev pub drawn_by : List Run → Option ℕ → Result Sheet Refused
drawn_by runs (Some place) = Err (Unbalanced place)
drawn_by runs None = Ok (sheet_of runs)

abbrev pub drawn_of : List Run → Result Sheet Refused
drawn_of runs = drawn_by runs (unbalanced runs)

-- 'Refusals: 23, over 256 runs; 24, ..; 23 first': the first so many places of a row
abbrev pub drawn : List Run → ℕ → Result Sheet Refused
drawn row count = cond (ltb most_runs count) (Err TooMany) (drawn_of (take count row))
