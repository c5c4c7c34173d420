-- The round, in numbers: how many contentions can still be won, and end idle, before a waiting circuit's own turn, and the slot
-- spared in them. `circuits` are capabilities, of all circuits or of some, `mine` is the waiting one's, and `last` is the round's last winner.
-- Assumes nothing.
use Prim.Native.Nat.{ℕ, suc, ◌+◌, ◌-◌, ◌≤◌, ◌<◌, min}
use mathlib.Core.Path.{◌≡◌, refl, ap}
use mathlib.Core.Logic.{◌⊎◌, inl, inr}
use mathlib.Core.Bool.{Bool, true, false, ◌&&◌, cond}
use mathlib.Core.Option.{Option, none, some}
use mathlib.Core.List.{List, [], ◌∷◌}
use native.Mathlib.Omega.{arith}
use lib.Dec.{leb, ltb}
use lib.ListN.{length}
use borrow.Author.Tests.{leb-true, leb-false, ltb-true, le-leb, lt-leb, lt-ltb, le-ltb}
use Rattle.rules.specs.Lists.{bit, count, Among, at_head, Some}
use Rattle.rules.specs.Bus.{RTVC}
use Rattle.rules.specs.Begin.{sits_out}
use Rattle.rules.proofs.Laws.{clash, and-true, true-and, count-le, count_some, count_less, count_apart}

-- the circuits above one, and those up to one
abbrev pub above : List ℕ → ℕ → ℕ
above circuits v = count (λ k. ltb v k) circuits

abbrev up_to : List ℕ → ℕ → ℕ
up_to circuits mine = count (λ k. leb k mine) circuits

-- the circuits that may win before mine has: those above the last winner, up to mine; or, if mine sits out, all above the last
-- winner in this round, and those up to mine in the next
abbrev pub wins_left : List ℕ → ℕ → Option ℕ → ℕ
wins_left circuits mine none = up_to circuits mine
wins_left circuits mine (some v) = cond (leb mine v) (above circuits v + up_to circuits mine) (count (λ k. ltb v k && leb k mine) circuits)

-- and one idle contention, if mine sits out
abbrev pub idles_left : ℕ → Option ℕ → ℕ
idles_left mine last = bit (sits_out RTVC last mine)

-- and one slot is spared by a circuit with none above it: where it wins it has no rival, so that it wins at the first probe. Mine is
-- that circuit; or mine sits out, and one of those above the last winner is
abbrev pub spare_left : List ℕ → ℕ → Option ℕ → ℕ
spare_left circuits mine none = 1 - above circuits mine
spare_left circuits mine (some v) = cond (leb mine v) (min 1 (above circuits v + (1 - above circuits mine))) (1 - above circuits mine)

-- of N circuits each wins at most once; and where an idle contention is to come, one of them is not to win, or a slot is spared
abbrev pub Most : List ℕ → ℕ → Option ℕ → ℕ → Type 0
Most circuits mine last N =
    (wins_left circuits mine last ≤ N) × (wins_left circuits mine last + idles_left mine last ≤ N + spare_left circuits mine last)

-- what x's win leaves: one win fewer; and the slot spared is still to come, or the probes left pay for it, if two are left or a circuit is above x
abbrev pub Fewer : List ℕ → ℕ → Option ℕ → ℕ → Type 0
Fewer circuits mine last x =
    (suc (wins_left circuits mine (some x)) ≤ wins_left circuits mine last)
    × (idles_left mine (some x) ≤ idles_left mine last)
    × ((left : ℕ) → 1 ≤ left → 2 ≤ left + above circuits x
    → suc (idles_left mine (some x) + spare_left circuits mine last) ≤ idles_left mine last + left + spare_left circuits mine (some x))

module _ (circuits : List ℕ) (mine : ℕ) where
  -- a circuit up to mine is not above one that is not below mine
  above_up_to : (v : ℕ) → mine ≤ v → above circuits v + up_to circuits mine ≤ length circuits
  above_up_to v h =
      count_apart (λ k. ltb v k) (λ k. leb k mine) circuits (λ k i a. let b = ltb-true v k a in lt-leb k mine (omega arith))

  -- so it is of the number of all circuits
  pub wins_most : (last : Option ℕ) → Most circuits mine last (length circuits)
  wins_most none = omega (arith, count-le (λ k. leb k mine) circuits)
  wins_most (some v) = go (leb mine v) refl
    where
      go : (t : Bool) → leb mine v ≡ t → Most circuits mine (some v) (length circuits)
      go true e = let h = leb-true mine v e in rw e (omega (arith, above_up_to v h, above_up_to mine (omega arith)))
      go false e = rw e (omega (arith, count-le (λ k. ltb v k && leb k mine) circuits))

  -- one slot is spared at the most
  spare_most : (last : Option ℕ) → spare_left circuits mine last ≤ 1
  spare_most none = omega arith
  spare_most (some v) = go (leb mine v) refl
    where
      go : (t : Bool) → leb mine v ≡ t → spare_left circuits mine (some v) ≤ 1
      go true e = rw e (omega arith)
      go false e = rw e (omega arith)

  -- A contention that mine wins: its probes left pay for the slot spared, if two are left or a circuit is above mine.
  pub own_wins :
      (last : Option ℕ) (left : ℕ) → sits_out RTVC last mine ≡ false → 1 ≤ left → 2 ≤ left + above circuits mine
      → suc (spare_left circuits mine last) ≤ idles_left mine last + left
  own_wins none left out one two = omega arith
  own_wins (some v) left out one two = rw out (omega arith)

  -- A contention that another circuit wins, one that does not sit out and, unless mine does, is below mine.
  pub other_wins :
      (last : Option ℕ) {x : ℕ} → Among x circuits → sits_out RTVC last x ≡ false → (sits_out RTVC last mine ≡ false → x < mine)
      → Fewer circuits mine last x
  other_wins none {x} i out below =
      let l = below refl in
      let f : leb mine x ≡ false = lt-leb mine x l in
      let c = count_less (λ k. ltb x k && leb k mine) (λ k. leb k mine) circuits (λ k j h. (and-true (ltb x k) (leb k mine) h).1) i (rw (le-ltb x x (omega arith))) (le-leb x mine (omega arith)) in
      rw f (omega arith)
  other_wins (some v) {x} i out below = go (leb mine v) refl
    where
      above_last : v < x
      above_last = leb-false x v out

      go : (t : Bool) → leb mine v ≡ t → Fewer circuits mine (some v) x
      go true e =
          let h = leb-true mine v e in
          let a = above_last in
          let f : leb mine x ≡ true = le-leb mine x (omega arith) in
          let c = count_less (λ k. ltb x k) (λ k. ltb v k) circuits (λ k j g. let b = ltb-true x k g in lt-ltb v k (omega arith)) i (le-ltb x x (omega arith)) (lt-ltb v x a) in
          rw (e, f) (omega arith)
      go false e =
          let l = below e in
          let a = above_last in
          let f : leb mine x ≡ false = lt-leb mine x l in
          let c =
          count_less
          (λ k. ltb x k && leb k mine)
          (λ k. ltb v k && leb k mine)
          circuits
          (λ k j g. let b = and-true (ltb x k) (leb k mine) g in let d = ltb-true x k b.0 in true-and (lt-ltb v k (omega arith)) b.1)
          i
          (rw (le-ltb x x (omega arith)))
          (true-and (lt-ltb v x a) (le-leb x mine (omega arith))) in
          rw (e, f) (omega arith)

  -- A contention that ends idle while mine sits out: the next round, no further idle one, and the slot spared still to come or wins fewer.
  pub idle_ends :
      (last : Option ℕ) → sits_out RTVC last mine ≡ true
      → (wins_left circuits mine none ≤ wins_left circuits mine last)
      × (suc (idles_left mine none) ≤ idles_left mine last)
      × (wins_left circuits mine none + spare_left circuits mine last ≤ wins_left circuits mine last + spare_left circuits mine none)
  idle_ends none out = clash out refl
  idle_ends (some v) out = rw out (omega arith)

  -- where mine has just won, all circuits may win before it wins again, one contention may end idle, and the slot is spared
  pub own_again : (wins_left circuits mine (some mine) ≤ length circuits) × (idles_left mine (some mine) ≡ 1) × (spare_left circuits mine (some mine) ≡ 1)
  own_again = let e : leb mine mine ≡ true = le-leb mine mine (omega arith) in ((wins_most (some mine)).0, rw e, rw e (omega arith))

-- the wins left to several circuits are those left to each
wins_parts :
    (x : ℕ) (circuits : List ℕ) (mine : ℕ) (last : Option ℕ)
    → wins_left (x ∷ circuits) mine last ≡ wins_left (x ∷ []) mine last + wins_left circuits mine last
wins_parts x circuits mine none = omega arith
wins_parts x circuits mine (some v) = go (leb mine v) refl
  where
    go : (t : Bool) → leb mine v ≡ t → wins_left (x ∷ circuits) mine (some v) ≡ wins_left (x ∷ []) mine (some v) + wins_left circuits mine (some v)
    go true e = rw e (omega arith)
    go false e = rw e (omega arith)

module _ (circuits : List ℕ) (mine : ℕ) where
  -- A contention that some circuit wins, as in `other_wins`, leaves none of these more wins, whether or not it is one of them.
  pub wins_stay :
      (last : Option ℕ) {x : ℕ} → sits_out RTVC last x ≡ false → (sits_out RTVC last mine ≡ false → x < mine)
      → wins_left circuits mine (some x) ≤ wins_left circuits mine last
  wins_stay last {x} out below =
      omega (
        arith,
        (other_wins (x ∷ circuits) mine last (at_head refl) out below).0,
        (wins_most (x ∷ []) mine last).0,
        wins_parts x circuits mine last,
        wins_parts x circuits mine (some x),
      )

module _ (circuits : List ℕ) (mine : ℕ) (among : Among mine circuits) where
  -- mine is one of those up to mine
  own_up : 1 ≤ up_to circuits mine
  own_up = count_some (λ k. leb k mine) circuits among (le-leb mine mine (omega arith))

  -- mine is still to win
  pub wins_left_some : (last : Option ℕ) → 1 ≤ wins_left circuits mine last
  wins_left_some none = own_up
  wins_left_some (some v) = go (leb mine v) refl
    where
      go : (t : Bool) → leb mine v ≡ t → 1 ≤ wins_left circuits mine (some v)
      go true e = rw e (omega (arith, own_up))
      go false e =
          rw e
          (count_some (λ k. ltb v k && leb k mine) circuits among (true-and (lt-ltb v mine (leb-false mine v e)) (le-leb mine mine (omega arith))))

  -- At any time: what is left pays for the slot spared, if two probes are left or a circuit other than mine takes part.
  pub spare_paid :
      (last : Option ℕ) (left : ℕ) → 1 ≤ left → (2 ≤ left) ⊎ Some (λ y. (sits_out RTVC last y ≡ false) × (¬ (y ≡ mine))) circuits
      → 2 + spare_left circuits mine last ≤ wins_left circuits mine last + idles_left mine last + left
  spare_paid last left one (inl two) = omega (arith, spare_most circuits mine last, wins_left_some last)
  spare_paid last left one (inr (y, i, (part, other))) = go (sits_out RTVC last mine) refl (leb y mine) refl
    where
      go :
          (t : Bool) → sits_out RTVC last mine ≡ t → (t' : Bool) → leb y mine ≡ t'
          → 2 + spare_left circuits mine last ≤ wins_left circuits mine last + idles_left mine last + left
      go true e t' e' = omega (arith, spare_most circuits mine last, wins_left_some last, ap bit e)
      go false e true e' =
          let l = leb-true y mine e' in
          omega (arith, spare_most circuits mine last, wins_left_some (some y), (other_wins circuits mine last i part (λ out. omega arith)).0)
      go false e false e' =
          let l = count_some (λ k. ltb mine k) circuits i (lt-ltb mine y (leb-false y mine e')) in
          omega (arith, wins_left_some last, own_wins circuits mine last 1 e (omega arith) (omega arith), ap bit e)
