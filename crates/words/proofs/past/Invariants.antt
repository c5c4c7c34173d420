-- The loop's invariant: the offset past the bytes is that from here on.
use Rattle.std.proofs.Common.{◌+◌, ◌-◌, ◌≡◌, length, drop}
use Rattle.words.specs.Parts.{bytes_in}
use Rattle.words.proofs.past.Given as goal

abbrev pub invariant-loop-end : goal.invariant-loop-end
invariant-loop-end l = l.at + length (bytes_in l.class (drop l.at l.text)) ≡ l.end + length (bytes_in l.class (drop l.end l.text))

abbrev pub decreases-loop-end : goal.decreases-loop-end
decreases-loop-end l = length l.text - l.end
