-- The highest loss of a batch is what its case says, and only one case says it. Assumes nothing.
use Prim.Native.Nat.{ℕ, zero, suc, ◌*◌, ◌<◌}
use native.Mathlib.Nat.{zero-mul}
use mathlib.Core.Path.{◌≡◌, refl, sym, ap, ◌∙◌, subst}
use mathlib.Core.Bool.{Bool, true, false, cond}
use mathlib.Core.List.{List, [], ◌∷◌, ◌++◌, append-nil}
use native.Mathlib.Numerals.{add-one}
use native.Mathlib.Omega.{arith}
use borrow.Author.Tests.{ltb-true, ltb-false}
use lib.Dec.{ltb}
use lib.ListN.{length, get_or, length-append, get_or-append}
use lib.Seq.{append_snoc, get_or-append_seam}
use Rattle.sheet.specs.Losses.{Loss, Figure, AtMost, Below, above}
use Rattle.std.specs.Prelude.{Option, Some, None}
use Rattle.sheet.specs.Sheet.{Run, Placed, no_run, loss_of, has_figure, placed, loss_at, further, highest_from, highest_of, IsHighest, Says}
use Rattle.sheet.proofs.Order.{at_most_itself, above_is, above_not, at_most_below, below_at_most_itself, not_both}

-- the loss of the run at a place
abbrev loss_in : List Run → ℕ → Loss
loss_in runs i = loss_of (get_or runs i no_run)

-- ---- one run more

module _ (done : List Run) (r : Run) where
  abbrev more : List Run
  more = done ++ (r ∷ [])

  one_more : length more ≡ suc (length done)
  one_more = length-append done (r ∷ []) ∙ add-one (length done)

  -- what holds of the runs that were there and of the one that is new holds of all
  each : (P : Run → Type 0) → ((i : ℕ) → i < length done → P (get_or done i no_run)) → P r → (i : ℕ) → i < length more → P (get_or more i no_run)
  each P earlier last i h = go (ltb i (length done)) refl
    where
      go : (t : Bool) → ltb i (length done) ≡ t → P (get_or more i no_run)
      go true e =
          let l = ltb-true i (length done) e in
          subst P (sym (get_or-append done (r ∷ []) no_run i l)) (earlier i l)
      go false e =
          let l = ltb-false i (length done) e in
          let same : length done ≡ i = omega (arith, one_more) in
          subst (λ (k : ℕ). P (get_or more k no_run)) same (subst P (sym (get_or-append_seam done r [] no_run)) last)

  -- an earlier run is what it was
  was : (i : ℕ) → i < length done → get_or more i no_run ≡ get_or done i no_run
  was i h = get_or-append done (r ∷ []) no_run i h

  last-is : get_or more (length done) no_run ≡ r
  last-is = get_or-append_seam done r [] no_run

  -- the new run comes highest: it has a figure, and every loss before it is below its own
  new_highest :
      Figure (loss_of r) → ((i : ℕ) → i < length done → Figure (loss_in done i) → Below (loss_in done i) (loss_of r))
      → IsHighest more (placed (length done) r)
  new_highest figure below =
      record {
        there = omega (arith, one_more);
        its = ap (placed (length done)) (sym last-is);
        figure = figure;
        most =
            each (λ x. Figure (loss_of x) → AtMost (loss_of x) (loss_of r))
            (λ i h f. below_at_most_itself (loss_in done i) (loss_of r) (below i h f))
            (λ f. at_most_itself (loss_of r));
        first =
            λ i h.
            subst (λ (x : Run). Figure (loss_of x) → Below (loss_of x) (loss_of r)) (sym (was i h)) (below i h);
      }

  -- the highest stays: the new run's loss is not above it
  old_highest : (p : Placed) → IsHighest done p → AtMost (loss_of r) (loss_at p) → IsHighest more p
  old_highest p h under =
      record {
        there = omega (arith, one_more, h.there);
        its = h.its ∙ ap (placed p.place) (sym (was p.place h.there));
        figure = h.figure;
        most = each (λ x. Figure (loss_of x) → AtMost (loss_of x) (loss_at p)) h.most (λ f. under);
        first =
            λ i l.
            let there = h.there in
            subst (λ (x : Run). Figure (loss_of x) → Below (loss_of x) (loss_at p)) (sym (was i (omega arith))) (h.first i l);
      }

  -- what the highest so far says, it says with one run more
  says_more : (h : Option Placed) → Says done h → Says more (further h (length done) r)
  says_more None none = go (has_figure r) refl
    where
      go : (t : Bool) → has_figure r ≡ t → Says more (cond t (Some (placed (length done) r)) None)
      go true e = new_highest (ltb-true 0 (loss_of r).ended e) (λ i l f. absurd (none i l f))
      go false e =
          each (λ x. ¬ Figure (loss_of x)) none (λ f. let l = ltb-false 0 (loss_of r).ended e in omega arith)
  says_more (Some p) h = go (above (loss_of r) (loss_at p)) refl
    where
      figure : Below (loss_at p) (loss_of r) → Figure (loss_of r)
      figure below = some (loss_of r).lost refl
        where
          some : (n : ℕ) → (loss_of r).lost ≡ n → Figure (loss_of r)
          some zero e =
              let none : (loss_of r).lost * p.ended ≡ 0 * p.ended = ap (λ (k : ℕ). k * p.ended) e in
              absurd (omega (arith, below, zero-mul p.ended))
          some (suc n) e = omega arith

      go : (t : Bool) → above (loss_of r) (loss_at p) ≡ t → Says more (cond t (Some (placed (length done) r)) (Some p))
      go true e =
          let below = above_is (loss_of r) (loss_at p) e in
          new_highest (figure below) (λ i l f. at_most_below (loss_in done i) (loss_at p) (loss_of r) f (h.most i l f) below)
      go false e = old_highest p h (above_not (loss_of r) (loss_at p) e)

-- ---- all runs

says_all : (runs done : List Run) (h : Option Placed) → Says done h → Says (done ++ runs) (highest_from h (length done) runs)
says_all [] done h says = subst (λ (l : List Run). Says l h) (sym (append-nil done)) says
says_all (r ∷ runs) done h says =
    subst (λ (l : List Run). Says l (highest_from (further h (length done) r) (suc (length done)) runs)) (append_snoc done r runs)
    (subst (λ (n : ℕ). Says ((done ++ (r ∷ [])) ++ runs) (highest_from (further h (length done) r) n runs)) (one_more done r)
    (says_all runs (done ++ (r ∷ [])) (further h (length done) r) (says_more done r h says)))

-- The highest of a batch is what its case says.
pub highest_says : (runs : List Run) → Says runs (highest_of runs)
highest_says runs = says_all runs [] None (λ i h f. absurd (omega arith))

-- ---- no other case says the same

-- the run that a case names has the loss that it names
its_loss : (runs : List Run) (p : Placed) → IsHighest runs p → loss_at p ≡ loss_in runs p.place
its_loss runs p h = ap loss_at h.its

-- the place of one is not before that of the other
not-before : (runs : List Run) (p q : Placed) → IsHighest runs p → IsHighest runs q → ¬ (p.place < q.place)
not-before runs p q h k l =
    let same = its_loss runs p h in
    let below = subst (λ (a : Loss). Figure a → Below a (loss_at q)) (sym same) (k.first p.place l) h.figure in
    let under =
    subst (λ (a : Loss). Figure a → AtMost a (loss_at p)) (sym (its_loss runs q k)) (h.most q.place k.there) k.figure in
    not_both (loss_at p) (loss_at q) below under

pub says_only : (runs : List Run) (x y : Option Placed) → Says runs x → Says runs y → x ≡ y
says_only runs None None h k = refl
says_only runs None (Some q) h k = absurd (h q.place k.there (subst Figure (its_loss runs q k) k.figure))
says_only runs (Some p) None h k = absurd (k p.place h.there (subst Figure (its_loss runs p h) h.figure))
says_only runs (Some p) (Some q) h k =
    let same : p.place ≡ q.place = omega (arith, not-before runs p q h k, not-before runs q p k h) in
    ap Some (h.its ∙ ap (λ n. placed n (get_or runs n no_run)) same ∙ sym k.its)
