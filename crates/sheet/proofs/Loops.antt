-- The loop over the rows of a batch: one row more. Assumes nothing.
use Rattle.std.proofs.Common.{ℕ, suc, ◌+◌, ◌-◌, ◌≤◌, ◌<◌, ◌≡◌, List, [], ◌∷◌, ◌++◌, map, sym, ap, ap₂, ◌∙◌, arith, add-one, length, get_or, take, set, replicate}
use mathlib.Core.List.{map-append}
use lib.ListN.{length-map}
use lib.Seq.{set_at, append_snoc, take-suc, length-take-le}
use Rattle.sheet.specs.Sheet.{Run, most_runs, no_run, row_of}

-- one row more
pub rows_turn :
    (runs : List Run) (i : ℕ) {rows : List Run} {r : Run} → i < length runs → length runs ≤ most_runs
    → rows ≡ map row_of (take i runs) ++ replicate (most_runs - i) no_run → r ≡ row_of (get_or runs i no_run)
    → set rows i r ≡ map row_of (take (i + 1) runs) ++ replicate (most_runs - (i + 1)) no_run
rows_turn runs i {rows} {r} h full e same =
    ap₂ (λ (l : List Run) (x : Run). set l i x) (e ∙ ap (λ n. done ++ replicate n no_run) left) same
    ∙ set_at done no_run (replicate (most_runs - (i + 1)) no_run) (row_of (get_or runs i no_run)) i long
    ∙ sym (append_snoc done (row_of (get_or runs i no_run)) (replicate (most_runs - (i + 1)) no_run))
    ∙ ap (λ (l : List Run). l ++ replicate (most_runs - (i + 1)) no_run) (sym more)
  where
    done : List Run
    done = map row_of (take i runs)

    left : most_runs - i ≡ suc (most_runs - (i + 1))
    left = omega arith

    long : length done ≡ i
    long = length-map (take i runs) row_of ∙ length-take-le i runs (omega arith)

    more : map row_of (take (i + 1) runs) ≡ done ++ (row_of (get_or runs i no_run) ∷ [])
    more =
        ap (λ n. map row_of (take n runs)) (add-one i)
        ∙ ap (map row_of) (take-suc runs i no_run h)
        ∙ map-append row_of (take i runs) (get_or runs i no_run ∷ [])
