-- Tests as the code makes them: a callee's answer negated, and a test a turn in a loop over the places of a list from j to n. What
-- such a loop has left at j is `slice j n xs`: `-turn` is one turn of it, `-end` its end. Assumes nothing.
use Prim.Native.Nat.{ℕ, ◌+◌, ◌≤◌, ◌<◌}
use mathlib.Core.Path.{◌≡◌, sym, ap, ◌∙◌}
use mathlib.Core.Bool.{Bool, true, false, not, ◌&&◌}
use mathlib.Core.List.{List, [], ◌∷◌}
use native.Mathlib.Numerals.{add-one}
use native.Mathlib.Omega.{arith}
use borrow.Author.Tests.{not-true, not-false}
use lib.ListN.{length, get_or, take, length-take, drop_of_length-le}
use lib.Seq.{slice, slice-cons}

-- ---- what a callee answered, negated in the code

pub denied : {answer test : Bool} → answer ≡ test → not answer ≡ true → test ≡ false
denied {answer} e h = sym e ∙ not-true answer h

pub granted : {answer test : Bool} → answer ≡ test → not answer ≡ false → test ≡ true
granted {answer} e h = sym e ∙ not-false answer h

-- ---- a test in turn: what is told where it is passed, and where it is failed

pub passed : {told test rest : Bool} → told ≡ (test && rest) → test ≡ true → told ≡ rest
passed {rest = rest} e h = e ∙ ap (λ t. t && rest) h

pub failed : {told test : Bool} (rest : Bool) → told ≡ (test && rest) → test ≡ false → told ≡ false
failed rest e h = e ∙ ap (λ t. t && rest) h

-- ---- loops

module _ {X : Type 0} (n : ℕ) (xs : List X) (j : ℕ) where
  pub left_turn : (d : X) → j < n → n ≤ length xs → slice j n xs ≡ get_or xs j d ∷ slice (j + 1) n xs
  left_turn d h k = slice-cons j n xs d h k ∙ ap (λ i. get_or xs j d ∷ slice i n xs) (sym (add-one j))

  pub left_end : n ≤ j → slice j n xs ≡ []
  left_end h = let k : length (take n xs) ≤ j = omega (arith, length-take n xs) in drop_of_length-le (take n xs) k
