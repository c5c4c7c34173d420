-- The loop's invariant: the word found is that of the stations before i.
use Rattle.std.proofs.Common.{ℕ, ◌-◌, ◌≤◌, ◌≡◌, Bool, not, List, ltb, get_or}
use Rattle.bus.specs.Types.{Slot}
use Rattle.word.specs.Word.{word_of}
use Rattle.bus.proofs.probing.in_time.Given as goal

abbrev pub timely : Slot → List ℕ → ℕ → Bool
timely slot values i = not (ltb (get_or values i 0) slot.0)

abbrev pub invariant-loop-i : goal.invariant-loop-i
invariant-loop-i l = (l.i ≤ 64) × (l.found ≡ word_of (timely l.slot l.values) l.i)

abbrev pub decreases-loop-i : goal.decreases-loop-i
decreases-loop-i l = 64 - l.i
