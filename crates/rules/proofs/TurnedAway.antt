-- A packet turned away (P4): 14 and 15 leave the state as it was but for the count, which stays within its range. Assumes nothing.
use Prim.Native.Nat.{ℕ, suc, ◌≤◌}
use mathlib.Core.Path.{◌≡◌, refl, ap}
use mathlib.Core.Logic.{inl, inr}
use mathlib.Core.Bool.{Bool, true, false, not, cond}
use mathlib.Core.List.{◌∷◌}
use native.Mathlib.Omega.{arith}
use lib.Dec.{ltb}
use lib.ListN.{drop}
use borrow.Author.Tests.{ltb-true}
use Rattle.rules.specs.Lists.{first_of}
use Rattle.rules.specs.Bus.{most_turned, Bus, with_turned}
use Rattle.rules.specs.Standing.{Standing, stands}
use Rattle.rules.specs.Admission.{Arrival, admission_tests, admission_refusal, turns_away, TurnsAway, one_higher, turned_after, turned_away, handed_back}
use Rattle.rules.proofs.Laws.{clash}
use Rattle.rules.proofs.Tests.{Whether, tells, told, one_of, equal}
use Rattle.rules.proofs.Standing.{stands_exactly}

pub turns_whether : (n : ℕ) → Whether (TurnsAway n) (turns_away n)
turns_whether n = one_of (equal n 14) (equal n 15)

-- a count within its range is so with one packet more
pub within : (n : ℕ) → n ≤ most_turned → one_higher n ≤ most_turned
within n h = go (ltb n most_turned) refl
  where
    go : (t : Bool) → ltb n most_turned ≡ t → cond t (suc n) n ≤ most_turned
    go true e = ltb-true n most_turned e
    go false e = h

-- a packet is turned away by a state that stands: any other is refused with 1
pub turned_standing : (b : Bus) (a : Arrival) → turns_away (admission_refusal b a) ≡ true → Standing b
turned_standing b a = go (stands b) refl
  where
    go : (t : Bool) → stands b ≡ t → turns_away (first_of 0 ((1, not t) ∷ drop 1 (admission_tests b a))) ≡ true → Standing b
    go true e h = tells (stands_exactly b) e
    go false e h = clash h refl

-- the count, by whether the packet is turned away
pub not_counted : (n count : ℕ) → ¬ TurnsAway n → turned_after n count ≡ count
not_counted n count h = go (turns_away n) refl
  where
    go : (t : Bool) → turns_away n ≡ t → cond t (one_higher count) count ≡ count
    go true e = absurd (h (tells (turns_whether n) e))
    go false e = refl

pub is_counted : (n count : ℕ) → TurnsAway n → turned_after n count ≡ one_higher count
is_counted n count h = ap (λ t. cond t (one_higher count) count) (told (turns_whether n) h)

-- what a refused admission hands back, by the same
pub back_cases : (P : Bus → Type 0) (b : Bus) (n : ℕ) → (turns_away n ≡ false → P b) → (turns_away n ≡ true → P (turned_away b)) → P (handed_back b n)
back_cases P b n lent raised = go (turns_away n) refl
  where
    go : (t : Bool) → turns_away n ≡ t → P (with_turned (cond t (one_higher b.turned) b.turned) b)
    go true e = raised e
    go false e = lent e

pub as_lent : (b : Bus) (n : ℕ) → ¬ TurnsAway n → handed_back b n ≡ b
as_lent b n h = ap (λ count. with_turned count b) (not_counted n b.turned h)

pub but_for_the_count : (b : Bus) (n : ℕ) → TurnsAway n → handed_back b n ≡ turned_away b
but_for_the_count b n h = ap (λ count. with_turned count b) (is_counted n b.turned h)

-- 14 and 15 are refusals
pub turned_refused : (n : ℕ) → TurnsAway n → ¬ (n ≡ 0)
turned_refused n (inl e) z = omega arith
turned_refused n (inr e) z = omega arith
