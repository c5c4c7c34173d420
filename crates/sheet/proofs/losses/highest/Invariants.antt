-- The loop's invariant: the highest so far, carried on over the runs that are left, is the highest of all.
use Rattle.std.proofs.Common.{◌≡◌, drop}
use Rattle.sheet.specs.Sheet.{highest_from, highest_of}
use Rattle.sheet.proofs.losses.highest.Given as goal

abbrev pub invariant-loop-place : goal.invariant-loop-place
invariant-loop-place l = highest_from l.highest l.place (drop l.place l.runs) ≡ highest_of l.runs
