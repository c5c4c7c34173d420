-- Laws of the first place for which a test holds (`first_place`, specs/Parts.antt). A loop over the places from i to n meets it as
-- `first_place test i (n - i)`: `-turn` is one turn of it, `-end` its end. Assumes nothing.
use Prim.Native.Nat.{ℕ, zero, suc, ◌+◌, ◌-◌, ◌≤◌, ◌<◌}
use mathlib.Core.Path.{◌≡◌, refl, ap, ◌∙◌}
use mathlib.Core.Logic.{◌⊎◌, inl, inr}
use mathlib.Core.Bool.{Bool, true, false, cond}
use native.Mathlib.Omega.{arith}
use Rattle.state.proofs.Rows.{rest_suc, rest_none, here_or_later}
use Rattle.bus.specs.Parts.{first_place}

pub first_place_turn :
    (test : ℕ → Bool) (i n : ℕ) → i < n → first_place test i (n - i) ≡ cond (test i) i (first_place test (suc i) (n - suc i))
first_place_turn test i n h = ap (first_place test i) (rest_suc i n h)

pub first_place_end : (test : ℕ → Bool) (i n : ℕ) → n ≤ i → first_place test i (n - i) ≡ i
first_place_end test i n h = ap (first_place test i) (rest_none i n h)

-- What a search of k places from i on finds: a place of them or the one after, all places before it fail the test, and it passes it
-- if it is one of them.
record Found (test : ℕ → Bool) (i k at : ℕ) : Type 0 where
  from : i ≤ at
  to : at ≤ i + k
  before : (j : ℕ) → i ≤ j → j < at → test j ≡ false
  holds : at < i + k → test at ≡ true

found : (test : ℕ → Bool) (i k : ℕ) → Found test i k (first_place test i k)
found test i zero =
    record { from = omega arith; to = omega arith; before = λ j l h. absurd (omega arith); holds = λ h. absurd (omega arith) }
found test i (suc k) = go (test i) refl (found test (suc i) k)
  where
    failed :
        test i ≡ false → Found test (suc i) k (first_place test (suc i) k) → (j : ℕ) → (j ≡ i) ⊎ (i < j) → j < first_place test (suc i) k
        → test j ≡ false
    failed e f j (inl s) h = ap test s ∙ e
    failed e f j (inr m) h = f.before j m h

    go : (t : Bool) → test i ≡ t → Found test (suc i) k (first_place test (suc i) k) → Found test i (suc k) (cond t i (first_place test (suc i) k))
    go true e f = record { from = omega arith; to = omega arith; before = λ j l h. absurd (omega arith); holds = λ h. e }
    go false e f =
        record {
          from = omega (arith, f.from);
          to = omega (arith, f.to);
          before = λ j l h. failed e f j (here_or_later i j l) h;
          holds = λ h. f.holds (omega arith);
        }

pub first_place_holds : (test : ℕ → Bool) (i n : ℕ) → i ≤ n → first_place test i (n - i) < n → test (first_place test i (n - i)) ≡ true
first_place_holds test i n h l = (found test i (n - i)).holds (omega arith)

pub first_place_before : (test : ℕ → Bool) (i k j : ℕ) → i ≤ j → j < first_place test i k → test j ≡ false
first_place_before test i k = (found test i k).before
