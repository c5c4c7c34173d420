-- The loop's invariant: the word found is that of the stations before i.
use Rattle.std.proofs.Common.{ℕ, ◌-◌, ◌≤◌, ◌≡◌, Bool, List, get_or}
use Rattle.window.specs.Splitting.{in_window}
use Rattle.window.specs.declared.Window.{Window}
use Rattle.word.specs.Word.{word_of}
use Rattle.bus.proofs.probing.lying_in.Given as goal

abbrev pub lies : Window → List ℕ → ℕ → Bool
lies w numbers i = in_window w (get_or numbers i 0)

abbrev pub invariant-loop-i : goal.invariant-loop-i
invariant-loop-i l = (l.i ≤ 64) × (l.found ≡ word_of (lies l.w l.row) l.i)

abbrev pub decreases-loop-i : goal.decreases-loop-i
decreases-loop-i l = 64 - l.i
