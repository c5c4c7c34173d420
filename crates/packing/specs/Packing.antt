-- The values of the records of a scenario, in the order of their fields, from what the code is given; their bytes are those of
-- crates/scenario/specs/Writing.antt. Assumes nothing.
use Rattle.std.specs.Prelude.{ℕ, List, [], ◌∷◌}
use Rattle.state.specs.declared.Settings.{Settings}
use Rattle.state.specs.declared.Listed.{Listed}

-- 'discipline, D, A, q, N'
abbrev pub settings_values : Settings → List ℕ
settings_values g = g.discipline ∷ g.d ∷ g.a ∷ g.q ∷ g.n ∷ []

-- 'address, capability'
abbrev pub listed_values : Listed → List ℕ
listed_values l = l.address.0 ∷ l.capability.0 ∷ []
