-- What refuses a batch: 23 where there are over 256 runs, else 24 where one does not balance, with the first such run; else nothing.
-- Assumes nothing.
use Prim.Native.Nat.{ℕ, zero, suc, ◌+◌, ◌≤◌, ◌<◌}
use mathlib.Core.Path.{◌≡◌, refl, ap, ◌∙◌}
use mathlib.Core.Logic.{◌⊎◌, inl, inr}
use mathlib.Core.Bool.{Bool, true, false, not, cond}
use mathlib.Core.List.{List, [], ◌∷◌}
use native.Mathlib.Omega.{arith}
use borrow.Author.Tests.{eqb-true, eqb-false, eq-eqb, ne_eqb, lt-ltb, le-ltb}
use lib.Dec.{ltb}
use lib.ListN.{length, get_or, take}
use Rattle.sheet.specs.Sheet.{Run, most_runs, no_run, balances, Balanced, AllBalanced, FirstUnbalanced, unbalanced}
use Rattle.sheet.specs.Sheet.{sheet_of, drawn_by, drawn_of, drawn}
use Rattle.sheet.specs.declared.Refused.TheVariants.{TooMany, Unbalanced}
use Rattle.std.specs.Prelude.{Option, Some, None, Ok, Err}
use Rattle.std.specs.List.{position_or_len}

-- ---- the first run that does not balance

-- the rest of a batch whose first run balances
later : {r : Run} {runs : List Run} {place : ℕ} → FirstUnbalanced (r ∷ runs) (suc place) → FirstUnbalanced runs place
later h =
    record { there = let l = h.there in omega arith; fails = h.fails; before = λ i l. h.before (suc i) (omega arith) }

-- how many runs balance from the front on: as many as come before it
balance_before : (runs : List Run) (place : ℕ) → FirstUnbalanced runs place → position_or_len (λ r. not (balances r)) runs ≡ place
balance_before [] place h = let l = h.there in absurd (omega arith)
balance_before (r ∷ runs) zero h = let e = ne_eqb r.admitted (r.sent + r.lost + r.waiting) h.fails in rw e refl
balance_before (r ∷ runs) (suc place) h =
    let e = eq-eqb r.admitted (r.sent + r.lost + r.waiting) (h.before 0 (omega arith)) in
    let rest = balance_before runs place (later h) in
    rw e (omega arith)

-- or all
balance_all : (runs : List Run) → AllBalanced runs → position_or_len (λ r. not (balances r)) runs ≡ length runs
balance_all [] h = refl
balance_all (r ∷ runs) h =
    let e = eq-eqb r.admitted (r.sent + r.lost + r.waiting) (h 0 (omega arith)) in
    let rest = balance_all runs (λ i l. h (suc i) (omega arith)) in
    rw e (omega arith)

-- it is found
first_found : (runs : List Run) (place : ℕ) → FirstUnbalanced runs place → unbalanced runs ≡ Some place
first_found runs place h =
    ap (λ n. cond (ltb n (length runs)) (Some n) None) (balance_before runs place h)
    ∙ ap (λ t. cond t (Some place) None) (lt-ltb place (length runs) h.there)

-- none is
none_found : (runs : List Run) → AllBalanced runs → unbalanced runs ≡ None
none_found runs h =
    ap (λ n. cond (ltb n (length runs)) (Some n) None) (balance_all runs h)
    ∙ ap (λ t. cond t (Some (length runs)) None) (le-ltb (length runs) (length runs) (omega arith))

-- one of the two holds
pub first_or_all : (runs : List Run) → ((place : ℕ) × FirstUnbalanced runs place) ⊎ AllBalanced runs
first_or_all [] = inr (λ i l. absurd (omega arith))
first_or_all (r ∷ runs) = go (balances r) refl (first_or_all runs)
  where
    go :
        (t : Bool) → balances r ≡ t → ((place : ℕ) × FirstUnbalanced runs place) ⊎ AllBalanced runs
        → ((place : ℕ) × FirstUnbalanced (r ∷ runs) place) ⊎ AllBalanced (r ∷ runs)
    go false e rest =
        inl (
          0,
          record {
            there = omega arith;
            fails = eqb-false r.admitted (r.sent + r.lost + r.waiting) e;
            before = λ i l. absurd (omega arith);
          },
        )
    go true e (inl x) = inl (suc x.0, record { there = let l = x.1.there in omega arith; fails = x.1.fails; before = before })
      where
        before : (i : ℕ) → i < suc x.0 → Balanced (get_or (r ∷ runs) i no_run)
        before zero l = eqb-true r.admitted (r.sent + r.lost + r.waiting) e
        before (suc i) l = x.1.before i (omega arith)
    go true e (inr all) = inr each
      where
        each : (i : ℕ) → i < suc (length runs) → Balanced (get_or (r ∷ runs) i no_run)
        each zero l = eqb-true r.admitted (r.sent + r.lost + r.waiting) e
        each (suc i) l = all i (omega arith)

-- ---- what is drawn

module _ (row : List Run) (count : ℕ) where
  -- '23, over 256 runs'
  pub drawn_many : most_runs < count → drawn row count ≡ Err TooMany
  drawn_many h = ap (λ t. cond t (Err TooMany) (drawn_of (take count row))) (lt-ltb most_runs count h)

  module _ (few : count ≤ most_runs) where
    abbrev runs : List Run
    runs = take count row

    -- by the first run that does not balance
    found : (place : Option ℕ) → unbalanced runs ≡ place → drawn row count ≡ drawn_by runs place
    found place e =
        ap (λ t. cond t (Err TooMany) (drawn_of runs)) (le-ltb most_runs count few)
        ∙ ap (drawn_by runs) e

    -- '24, a run whose admitted count is not sent + lost + waiting'; the first of them
    pub drawn_uneven : (place : ℕ) → FirstUnbalanced runs place → drawn row count ≡ Err (Unbalanced place)
    drawn_uneven place h = found (Some place) (first_found runs place h)

    -- nothing else refuses a batch
    pub drawn_whole : AllBalanced runs → drawn row count ≡ Ok (sheet_of runs)
    drawn_whole h = found None (none_found runs h)
