-- Arrivals inserted by their times: how many they are, that they stay in order, and that those of one time stay as they were. Assumes nothing.
use Prim.Native.Nat.{ℕ, suc, ◌+◌, ◌≤◌, ◌<◌}
use mathlib.Core.Path.{◌≡◌, refl, sym, ap, ap₂, ◌∙◌}
use mathlib.Core.Bool.{Bool, true, false, cond}
use mathlib.Core.List.{List, [], ◌∷◌, ◌++◌, append_assoc, append-nil}
use native.Mathlib.Omega.{arith}
use borrow.Author.Tests.{ltb-true, ltb-false, eqb-true, eq-eqb, ne_eqb}
use lib.Dec.{ltb, eqb}
use lib.ListN.{length}
use Rattle.rules.specs.Lists.{kept, at_head, in_tail, All}
use Rattle.rules.proofs.Laws.{all_cons}
use Rattle.state.specs.declared.Arrival.{Arrival}
use Rattle.scenario.specs.Writing.{InOrder}
use Rattle.layout.specs.Layout.{inserted, inserted_all}
use Rattle.layout.specs.Said.{at_time}

-- ---- one arrival

module _ (a : Arrival) where
  -- an arrival before others, or among the later of them
  abbrev placed_by : Bool → Arrival → List Arrival → List Arrival
  placed_by t x later = cond t (a ∷ x ∷ later) (x ∷ inserted a later)

  inserted_count : (xs : List Arrival) → length (inserted a xs) ≡ suc (length xs)
  inserted_count [] = refl
  inserted_count (x ∷ later) = go (ltb a.time.0 x.time.0) (inserted_count later)
    where
      go : (t : Bool) → length (inserted a later) ≡ suc (length later) → length (placed_by t x later) ≡ suc (suc (length later))
      go true e = refl
      go false e = ap suc e

  inserted_each : {P : Arrival → Type 0} (xs : List Arrival) → P a → All P xs → All P (inserted a xs)
  inserted_each [] h k = all_cons a h k
  inserted_each {P} (x ∷ later) h k = go (ltb a.time.0 x.time.0) (inserted_each later h (λ y i. k y (in_tail i)))
    where
      go : (t : Bool) → All P (inserted a later) → All P (placed_by t x later)
      go true more = all_cons a h k
      go false more = all_cons x (k x (at_head refl)) more

  pub inserted_order : (previous : ℕ) (xs : List Arrival) → previous ≤ a.time.0 → InOrder previous xs → InOrder previous (inserted a xs)
  inserted_order previous [] h o = (h, tt)
  inserted_order previous (x ∷ later) h o = go (ltb a.time.0 x.time.0) refl (inserted_order x.time.0 later)
    where
      go :
          (t : Bool) → ltb a.time.0 x.time.0 ≡ t
          → (x.time.0 ≤ a.time.0 → InOrder x.time.0 later → InOrder x.time.0 (inserted a later)) → InOrder previous (placed_by t x later)
      go true e more = let below = ltb-true a.time.0 x.time.0 e in (h, (omega arith, o.1))
      go false e more = (o.0, more (ltb-false a.time.0 x.time.0 e) o.1)

-- of arrivals in order none has a time below the first one's
none_before : (t first : ℕ) (xs : List Arrival) → t < first → InOrder first xs → at_time t xs ≡ []
none_before t first [] h o = refl
none_before t first (x ∷ later) h o =
    let early : x.time.0 ≡ t → ⊥ = λ e. omega (arith, o.0) in
    ap₂ (λ b ys. kept b x ys) (ne_eqb x.time.0 t early) (none_before t x.time.0 later (omega (arith, o.0)) o.1)

-- an arrival comes after those of its time
pub inserted_last :
    (t : ℕ) (a : Arrival) (previous : ℕ) (xs : List Arrival) → InOrder previous xs → at_time t (inserted a xs) ≡ at_time t xs ++ at_time t (a ∷ [])
inserted_last t a previous [] o = refl
inserted_last t a previous (x ∷ later) o = go (ltb a.time.0 x.time.0) refl (inserted_last t a x.time.0 later o.1)
  where
    before : (u : Bool) → eqb a.time.0 t ≡ u → a.time.0 < x.time.0 → kept u a (at_time t (x ∷ later)) ≡ at_time t (x ∷ later) ++ kept u a []
    before true e h =
        let none_of : at_time t (x ∷ later) ≡ [] =
        none_before t x.time.0 (x ∷ later) (omega (arith, eqb-true a.time.0 t e)) (omega arith, o.1) in
        ap (λ ys. a ∷ ys) none_of ∙ ap (λ ys. ys ++ (a ∷ [])) (sym none_of)
    before false e h = sym (append-nil (at_time t (x ∷ later)))

    behind :
        (u : Bool) → at_time t (inserted a later) ≡ at_time t later ++ at_time t (a ∷ [])
        → kept u x (at_time t (inserted a later)) ≡ kept u x (at_time t later) ++ at_time t (a ∷ [])
    behind true e = ap (λ ys. x ∷ ys) e
    behind false e = e

    go :
        (u : Bool) → ltb a.time.0 x.time.0 ≡ u → at_time t (inserted a later) ≡ at_time t later ++ at_time t (a ∷ [])
        → at_time t (placed_by a u x later) ≡ at_time t (x ∷ later) ++ at_time t (a ∷ [])
    go true e more = before (eqb a.time.0 t) refl (ltb-true a.time.0 x.time.0 e)
    go false e more = behind (eqb x.time.0 t) more

-- ---- one arrival after the other

pub all_count : (more xs : List Arrival) → length (inserted_all more xs) ≡ length more + length xs
all_count [] xs = omega arith
all_count (a ∷ more) xs = omega (arith, all_count more (inserted a xs), inserted_count a xs)

pub all_each : {P : Arrival → Type 0} (more xs : List Arrival) → All P more → All P xs → All P (inserted_all more xs)
all_each [] xs h k = k
all_each (a ∷ more) xs h k = all_each more (inserted a xs) (λ y i. h y (in_tail i)) (inserted_each a xs (h a (at_head refl)) k)

pub all_order : (more xs : List Arrival) → InOrder 0 xs → InOrder 0 (inserted_all more xs)
all_order [] xs o = o
all_order (a ∷ more) xs o = all_order more (inserted a xs) (inserted_order a 0 xs (omega arith) o)

-- first some and then others
pub all_then : (more others xs : List Arrival) → inserted_all (more ++ others) xs ≡ inserted_all others (inserted_all more xs)
all_then [] others xs = refl
all_then (a ∷ more) others xs = all_then more others (inserted a xs)

-- those of one time stay in their order, after those that were there
pub all_last : (t : ℕ) (more xs : List Arrival) → InOrder 0 xs → at_time t (inserted_all more xs) ≡ at_time t xs ++ at_time t more
all_last t [] xs o = sym (append-nil (at_time t xs))
all_last t (a ∷ more) xs o =
    all_last t more (inserted a xs) (inserted_order a 0 xs (omega arith) o)
    ∙ ap (λ ys. ys ++ at_time t more) (inserted_last t a 0 xs o)
    ∙ append_assoc (at_time t xs) (at_time t (a ∷ [])) (at_time t more)
    ∙ ap (λ ys. at_time t xs ++ ys) (apart (eqb a.time.0 t))
  where
    apart : (u : Bool) → kept u a [] ++ at_time t more ≡ kept u a (at_time t more)
    apart true = refl
    apart false = refl

-- ---- order and what is there at each time are all that there is to arrivals

first-kept : (x : Arrival) (later : List Arrival) → at_time x.time.0 (x ∷ later) ≡ x ∷ at_time x.time.0 later
first-kept x later = ap (λ b. kept b x (at_time x.time.0 later)) (eq-eqb x.time.0 x.time.0 refl)

-- what has a first arrival has some at its time
some_there : (x : Arrival) (later : List Arrival) → at_time x.time.0 (x ∷ later) ≡ [] → ⊥
some_there x later e = let z : ◌≡◌ {A = ℕ} 0 1 = cc (first-kept x later) in omega arith

-- two rows of arrivals in order that have the same ones at each time are the same
pub all_there :
    (p q : ℕ) (xs ys : List Arrival) → InOrder p xs → InOrder q ys → ((t : ℕ) → at_time t xs ≡ at_time t ys) → xs ≡ ys
all_there p q [] [] o r h = refl
all_there p q [] (y ∷ ys) o r h = absurd (some_there y ys (sym (h y.time.0)))
all_there p q (x ∷ xs) [] o r h = absurd (some_there x xs (h x.time.0))
all_there p q (x ∷ xs) (y ∷ ys) o r h =
    ap₂
    ◌∷◌
    same
    (all_there x.time.0 y.time.0 xs ys o.1 r.1 λ t.
    tail t (eqb x.time.0 t) (h t ∙ ap (λ n. kept (eqb n t) y (at_time t ys)) (sym times)))
  where
    not-before : ¬ (x.time.0 < y.time.0)
    not-before l = some_there x xs (h x.time.0 ∙ none_before x.time.0 y.time.0 (y ∷ ys) l (omega arith, r.1))

    not_behind : ¬ (y.time.0 < x.time.0)
    not_behind l = some_there y ys (sym (h y.time.0) ∙ none_before y.time.0 x.time.0 (x ∷ xs) l (omega arith, o.1))

    times : x.time.0 ≡ y.time.0
    times = omega (arith, not-before, not_behind)

    same : x ≡ y
    same =
        cc (
          first-kept x xs,
          h x.time.0,
          ap (λ b. kept b y (at_time x.time.0 ys)) (eq-eqb y.time.0 x.time.0 (sym times)),
        )

    tail : (t : ℕ) (b : Bool) → kept b x (at_time t xs) ≡ kept b y (at_time t ys) → at_time t xs ≡ at_time t ys
    tail t true e = cc
    tail t false e = e
