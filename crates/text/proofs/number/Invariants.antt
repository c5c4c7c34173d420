-- The loop's invariant: the number has room, and the digits at the k lowest places of the rest and those that are stored are the number in
-- decimal.
use Rattle.std.proofs.Common.{ℕ, ◌+◌, ◌≤◌, ◌≡◌, List, ◌++◌}
use Rattle.std.proofs.lemmas.List.Edits.{sets}
use Rattle.text.specs.Text.{decimal}
use Rattle.text.specs.Parts.{roomy}
use Rattle.text.proofs.Decimals.{digits}
use Rattle.text.proofs.number.Given as goal

-- the digits of n from the place k on are stored in the room a, which is b then, after the offset; those before it are the rest's
pub record Stored (n : ℕ) (a b : List ℕ) (at k rest : ℕ) : Type 0 where
  pub text : List ℕ
  pub whole : digits k rest ++ text ≡ decimal n
  pub room : b ≡ sets a (at + k) text

abbrev pub invariant-loop-k : goal.invariant-loop-k
invariant-loop-k l = roomy l.at l.size × (l.k ≤ l.size) × Stored l.n l.fn.room l.room l.at l.k l.rest
