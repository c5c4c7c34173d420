-- The first stations of a row that set-up accepts are accepted too. Assumes nothing.
use Prim.Native.Nat.{ℕ, suc, ◌≤◌, ◌<◌}
use mathlib.Core.Path.{◌≡◌, sym, ap, subst}
use mathlib.Core.Logic.{◌⊎◌, inl, inr}
use mathlib.Core.List.{List, [], ◌∷◌, ◌++◌}
use native.Mathlib.Omega.{arith}
use lib.ListN.{length, take, length-append}
use lib.Seq.{take_all}
use Rattle.rules.specs.Lists.{Given}
use Rattle.rules.specs.Bus.{most_stations}
use Rattle.rules.specs.declared.Verdict.{Verdict}
use Rattle.rules.specs.SetUp.{Asked, Request, fine, set_up_verdict}
use Rattle.rules.specs.Conditions.{Outside, row_conditions, set_up_conditions}
use Rattle.rules.proofs.Tests.{NoneHolds, inside, given}
use Rattle.rules.proofs.Standing.{set_up_tried, set_up_accepted}
use Rattle.state.specs.declared.Settings.{Settings}
use Rattle.state.specs.SetUp.{request_with}
use Rattle.layout.specs.Layout.{counted}

-- where no condition holds, the verdict is that of acceptance
none_given : {Out : Type 0} (accepted v : Out) (cs : List (Out × Type 0)) → NoneHolds cs → Given accepted cs v → v ≡ accepted
none_given accepted v [] none e = e
none_given accepted v (c ∷ cs) none (inl held) = absurd (none.0 held.0)
none_given accepted v (c ∷ cs) none (inr later) = none_given accepted v cs none.1 later.1

-- the first of stations in turn, whatever N and the row that is asked for
first_held :
    (g : Settings) (m n : ℕ) (row row' : List Asked) (i : ℕ) (earlier xs ys : List Asked)
    → NoneHolds (row_conditions (request_with (counted m g) row) i earlier (xs ++ ys))
    → NoneHolds (row_conditions (request_with (counted n g) row') i earlier xs)
first_held g m n row row' i earlier [] ys h = tt
first_held g m n row row' i earlier (x ∷ xs) ys h =
    (h.0, (h.1.0, (h.1.1.0, (h.1.1.1.0, first_held g m n row row' (suc i) (earlier ++ (x ∷ [])) xs ys h.1.1.1.1))))

-- a set-up of as many stations as its row has
abbrev pub request_for : Settings → List Asked → Request
request_for g row = request_with (counted (length row) g) row

pub prefix_accepted :
    (g : Settings) (xs ys : List Asked) → 1 ≤ length xs → (set_up_verdict (request_for g (xs ++ ys))).refusal ≡ 0
    → (set_up_verdict (request_for g xs)).refusal ≡ 0
prefix_accepted g xs ys some! e =
    ap (λ (v : Verdict). v.refusal) (none_given fine (set_up_verdict r) (set_up_conditions r) none (given fine (set_up_tried r)))
  where
    r : Request
    r = request_for g xs

    all : NoneHolds (set_up_conditions (request_for g (xs ++ ys)))
    all = set_up_accepted (request_for g (xs ++ ys)) e

    few : length xs ≤ most_stations
    few = omega (arith, length-append xs ys, (inside (λ o. all.1.1.1.1.0 (inl o))).1)

    count : ¬ (Outside 1 most_stations (length xs) ⊎ (length xs < length xs))
    count (inl (inl h)) = omega arith
    count (inl (inr h)) = omega (arith, few)
    count (inr h) = omega arith

    none : NoneHolds (set_up_conditions r)
    none = (all.0, (all.1.0, (all.1.1.0, (all.1.1.1.0, (count, stations)))))
      where
        stations : NoneHolds (row_conditions r 0 [] (take (length xs) xs))
        stations =
            subst
            (λ (l : List Asked). NoneHolds (row_conditions r 0 [] l))
            (sym (take_all (length xs) xs (omega arith)))
            (first_held g (length (xs ++ ys)) (length xs) (xs ++ ys) xs 0 [] xs ys
            (subst
            (λ (l : List Asked). NoneHolds (row_conditions (request_for g (xs ++ ys)) 0 [] l))
            (take_all (length (xs ++ ys)) (xs ++ ys) (omega arith))
            all.1.1.1.1.1))
