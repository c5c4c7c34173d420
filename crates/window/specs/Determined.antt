-- 'Each exported function's contract determines the complete result and the closing contents of all memory it was lent' (paper 01, 'What the
-- histories may rely on'): what that says of a contract, in any crate.
--
-- A contract is given by what it says to a caller of the lifetimes, the arguments, the result and the parameters as they are at the end. The
-- prover makes that out of the `ensures` clauses of each function F, and calls it `F.Reads.Learnt`. Assumes nothing.
use Rattle.std.specs.Prelude.{◌≡◌, List, ℕ}

module _ {Lifetimes : Type 0} {Args Result End : Lifetimes → Type 0} where
  -- 'any two results meeting it are equal', whatever the arguments
  abbrev pub Determines : ((κs : Lifetimes) → Args κs → Result κs → End κs → Type 0) → Type 0
  Determines says =
      (κs : Lifetimes) (args : Args κs) (r r' : Result κs) (end end' : End κs) → says κs args r end → says κs args r' end' → r ≡ r'

  -- and any two closing contents of the bytes that were lent
  abbrev pub DeterminesBytes : ((κs : Lifetimes) → Args κs → Result κs → End κs → Type 0) → ((κs : Lifetimes) → End κs → List ℕ) → Type 0
  DeterminesBytes says bytes =
      (κs : Lifetimes) (args : Args κs) (r r' : Result κs) (end end' : End κs) → says κs args r end → says κs args r' end'
      → bytes κs end ≡ bytes κs end'
