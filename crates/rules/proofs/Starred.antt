-- The starred examples of paper 01 hold: one theorem over the table of specs/Examples.antt, computed part by part, so that a refusal names the row.
-- Assumes nothing.
use Prim.Native.Nat.{ℕ, suc, ◌+◌}
use mathlib.Core.Path.{◌≡◌, refl, sym, ap, ◌∙◌, fun_ext}
use mathlib.Core.Bool.{Bool, true, false}
use mathlib.Core.Option.{Option, none, some}
use mathlib.Core.List.{List, [], ◌∷◌, ◌++◌}
use native.Mathlib.Nat.{add-zero}
use native.Mathlib.Omega.{arith}
use lib.ListN.{length}
use Rattle.window.specs.Splitting.{exponent_of, is_power}
use Rattle.rules.specs.SetUp.{set_up}
use Rattle.rules.specs.Engine.{machine}
use Rattle.rules.specs.Examples.{Row, fact, script, closed, holds, failing_from, settled, orders, edges, bounds, waits, beginnings, passes, turned_aways, table, first_failing}
use Rattle.rules.proofs.Computing.{bus, computed, closed as closing, bus_same, computed_replies, closed_closing}

-- whether a row holds, its script computed state by state
computes : Row → Bool
computes (fact test) = test
computes (script r calls test) = test (computed machine bus (set_up r).1 calls)
computes (closed r calls test) = test (closing machine bus (set_up r).1 calls)

rewritten : (row : Row) → holds row ≡ computes row
unfolding computes
rewritten (fact test) = refl
rewritten (script r calls test) = ap test (sym (computed_replies machine bus bus_same (set_up r).1 calls))
rewritten (closed r calls test) = ap test (sym (closed_closing machine bus bus_same (set_up r).1 calls))

-- where no row of a list fails, and none of another, none of the two together does
both_hold :
    (n m : ℕ) (rows more : List Row) → n + length rows ≡ m → failing_from computes n rows ≡ none → failing_from computes m more ≡ none
    → failing_from computes n (rows ++ more) ≡ none
both_hold n m [] more e h k = ap (λ i. failing_from computes i more) (sym (add-zero n) ∙ e) ∙ k
both_hold n m (row ∷ rows) more e h k = go (computes row) h (both_hold (suc n) m rows more (omega arith))
  where
    go :
        (t : Bool) → ◌≡◌ {A = Option ℕ} (elim t [ true ↦ failing_from computes (suc n) rows | false ↦ some n ]) none
        → (failing_from computes (suc n) rows ≡ none → failing_from computes m more ≡ none → failing_from computes (suc n) (rows ++ more) ≡ none)
        → ◌≡◌ {A = Option ℕ} (elim t [ true ↦ failing_from computes (suc n) (rows ++ more) | false ↦ some n ]) none
    go true h f = f h k
    go false h f = h

-- the parts of the table, computed
settled_hold : failing_from computes 1 settled ≡ none
unfolding computes exponent_of is_power
settled_hold = refl

orders_hold : failing_from computes 29 orders ≡ none
unfolding computes exponent_of is_power
orders_hold = refl

edges_hold : failing_from computes 33 edges ≡ none
unfolding computes exponent_of is_power
edges_hold = refl

bounds_hold : failing_from computes 51 bounds ≡ none
unfolding computes exponent_of is_power
bounds_hold = refl

waits_hold : failing_from computes 56 waits ≡ none
unfolding computes exponent_of is_power
waits_hold = refl

beginnings_hold : failing_from computes 62 beginnings ≡ none
unfolding computes exponent_of is_power
beginnings_hold = refl

passes_hold : failing_from computes 70 passes ≡ none
unfolding computes exponent_of is_power
passes_hold = refl

turned_hold : failing_from computes 78 turned_aways ≡ none
unfolding computes exponent_of is_power
turned_hold = refl

-- no row fails
pub starred : first_failing ≡ none
starred =
    ap (λ holding. failing_from holding 1 table) (fun_ext rewritten)
    ∙ both_hold 1 29 settled (orders ++ (edges ++ (bounds ++ (waits ++ (beginnings ++ (passes ++ turned_aways)))))) refl settled_hold
    (both_hold 29 33 orders (edges ++ (bounds ++ (waits ++ (beginnings ++ (passes ++ turned_aways))))) refl orders_hold
    (both_hold 33 51 edges (bounds ++ (waits ++ (beginnings ++ (passes ++ turned_aways)))) refl edges_hold
    (both_hold 51 56 bounds (waits ++ (beginnings ++ (passes ++ turned_aways))) refl bounds_hold
    (both_hold 56 62 waits (beginnings ++ (passes ++ turned_aways)) refl waits_hold
    (both_hold 62 70 beginnings (passes ++ turned_aways) refl beginnings_hold (both_hold 70 78 passes turned_aways refl passes_hold turned_hold))))))
