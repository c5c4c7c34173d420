-- The discipline that a number names, by its three cases. Assumes nothing.
use Prim.Native.Nat.{ℕ, zero, suc, ◌≤◌}
use mathlib.Core.Path.{◌≡◌, refl, ap}
use native.Mathlib.Omega.{arith}
use Rattle.rules.specs.declared.Discipline.{Discipline}
use Rattle.rules.specs.declared.Discipline.TheVariants.{PRI, RTDG, RTVC}
use Rattle.rules.specs.SetUp.{discipline_of}

pub is_pri : {n : ℕ} → n ≡ 0 → discipline_of n ≡ PRI
is_pri e = ap discipline_of e

pub is_rtdg : {n : ℕ} → n ≡ 1 → discipline_of n ≡ RTDG
is_rtdg e = ap discipline_of e

pub is_rtvc : (n : ℕ) → 2 ≤ n → discipline_of n ≡ RTVC
is_rtvc zero h = absurd (omega arith)
is_rtvc (suc zero) h = absurd (omega arith)
is_rtvc (suc (suc n)) h = refl

-- what holds in each of the three, where its number is the one in question
pub by_discipline : (P : Discipline → Type 0) (n : ℕ) → (n ≡ 0 → P PRI) → (n ≡ 1 → P RTDG) → (2 ≤ n → P RTVC) → P (discipline_of n)
by_discipline P zero pri rtdg rtvc = pri refl
by_discipline P (suc zero) pri rtdg rtvc = rtdg refl
by_discipline P (suc (suc n)) pri rtdg rtvc = rtvc (omega arith)
