-- The longest wait: the laws of the longer of two waits, and what going through reports makes of it. Assumes nothing.
use Prim.Native.Nat.{ℕ, ◌<◌, max}
use mathlib.Core.Path.{◌≡◌, refl, sym, ap, ◌∙◌}
use mathlib.Core.List.{List, [], ◌∷◌, ◌++◌}
use native.Mathlib.Omega.{arith}
use Rattle.std.specs.List.{fold}
use Rattle.rules.specs.Probe.{Answer}
use Rattle.bus.specs.declared.Report.{Report}
use Rattle.bus.specs.Coded.{answer_of}
use Rattle.listing.specs.Turns.{answer_in, answers_in}
use Rattle.measure.specs.Measured.{wait_in, longer, longest_wait}
use Rattle.measure.specs.Parts.{wait_told}

-- ---- the longer of two

-- as the code finds it
pub max_longer : (x y : ℕ) → max x y ≡ longer x y
unfolding longer
max_longer x y = refl

pub longer_below : (x y most : ℕ) → x < most → y < most → longer x y < most
unfolding longer
longer_below x y most h k = omega arith

pub longer_none : (x : ℕ) → longer x 0 ≡ x
unfolding longer
longer_none x = omega arith

pub none_longer : (x : ℕ) → longer 0 x ≡ x
unfolding longer
none_longer x = omega arith

pub longer_of_three : (x y z : ℕ) → longer (longer x y) z ≡ longer x (longer y z)
unfolding longer
longer_of_three x y z = omega arith

-- ---- the longest of many

-- of some answers and others
pub longest_append : (said others : List Answer) → longest_wait (said ++ others) ≡ longer (longest_wait said) (longest_wait others)
longest_append [] others = sym (none_longer (longest_wait others))
longest_append (a ∷ said) others =
    ap (longer (wait_in a)) (longest_append said others) ∙ sym (longer_of_three (wait_in a) (longest_wait said) (longest_wait others))

-- of one and of what a report tells
told_first : (before : ℕ) (r : Report) → longer before (longest_wait (answer_in r)) ≡ longer before (wait_told r)
told_first before (Report.Arrival clock address admitted) = refl
told_first before (Report.Step clock answer) = ap (longer before) (longer_none (wait_in (answer_of answer)))

-- of one and of what reports tell, one report after the other
pub longest_fold :
    (before : ℕ) (reports : List Report)
    → fold (λ longest r. longer longest (wait_told r)) before reports ≡ longer before (longest_wait (answers_in reports))
longest_fold before [] = sym (longer_none before)
longest_fold before (r ∷ reports) =
    longest_fold (longer before (wait_told r)) reports
    ∙ ap (λ (w : ℕ). longer w (longest_wait (answers_in reports))) (sym (told_first before r))
    ∙ longer_of_three before (longest_wait (answer_in r)) (longest_wait (answers_in reports))
    ∙ ap (longer before) (sym (longest_append (answer_in r) (answers_in reports)))
