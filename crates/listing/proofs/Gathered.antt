-- The arrivals that come next in the input: how many bytes they take, that they are the first of those that stand there, and how a loop
-- gathers them. Assumes nothing.
use Prim.Native.Nat.{ℕ, zero, suc, ◌+◌, ◌-◌, ◌*◌, ◌≤◌, ◌<◌}
use mathlib.Core.Path.{◌≡◌, refl, sym, ap, ap₂, ◌∙◌, subst}
use mathlib.Core.Bool.{Bool, true, false, cond}
use mathlib.Core.List.{List, [], ◌∷◌, ◌++◌, append-nil}
use native.Mathlib.Omega.{arith}
use lib.Dec.{eqb}
use lib.ListN.{length, drop, set, replicate, length-append}
use lib.Seq.{set_at, append_snoc}
use borrow.Author.Tests.{eqb-true, eqb-false}
use Rattle.std.specs.Prelude.{Option, Some, None}
use Rattle.state.specs.declared.Arrival.{Arrival}
use Rattle.bus.specs.Stretch.{row_places, no_arrival}
use Rattle.scenario.specs.Format.{Said, read_record}
use Rattle.scenario.specs.Reading.{arrival_bytes, arrival_from}
use Rattle.scenario.specs.Parts.{ArrivalsAt}
use Rattle.scenario.proofs.Arrivals.{arrivals_here, arrivals_none}
use Rattle.scenario.proofs.ReadingLaws.{arrival_within}
use Rattle.listing.specs.Turns.{arrivals_in, next_arrivals, arrivals_form}
use Rattle.listing.specs.Parts.{arrival_if}

-- the bytes of arrivals that were found are within the input
pub bytes_within :
    (most : ℕ) (input : List ℕ) (at taken : ℕ) → 0 < taken → taken ≤ length (arrivals_in most input at)
    → at + arrival_bytes * taken ≤ length input
unfolding arrivals_in
bytes_within zero input at taken some few = absurd (omega arith)
bytes_within (suc most) input at zero some few = absurd (omega arith)
bytes_within (suc most) input at (suc taken) some few = go (eqb x.kind 3) refl few (bytes_within most input (at + 16) taken)
  where
    x : Said
    x = read_record (drop at input)

    later : List Arrival
    later = arrivals_in most input (at + 16)

    last : (n : ℕ) → at + 16 ≤ length input → (0 < n → at + 16 + 16 * n ≤ length input) → at + 16 * suc n ≤ length input
    last zero within more = omega arith
    last (suc n) within more = let h = more (omega arith) in omega arith

    go :
        (t : Bool) → eqb x.kind 3 ≡ t → suc taken ≤ length (cond t (arrival_from x.values ∷ later) [])
        → (0 < taken → taken ≤ length later → at + 16 + 16 * taken ≤ length input)
        → at + 16 * suc taken ≤ length input
    go true kind few more = last taken (arrival_within input at (eqb-true x.kind 3 kind)) (λ some. more some (omega arith))
    go false kind few more = absurd (omega arith)

-- The arrivals that stand in the input from an offset on are those that were found, of so many that were looked for, and others only if all
-- of these were found; and past the bytes of any that were found stand those after them.
pub record Found (input : List ℕ) (at most : ℕ) (found arrivals : List Arrival) : Type 0 where
  pub others : List Arrival
  pub are : arrivals ≡ found ++ others
  pub all : length found < most → others ≡ []
  pub past : (taken : ℕ) → taken ≤ length found → ArrivalsAt input (at + arrival_bytes * taken) (drop taken arrivals)

-- of none
here_still :
    (input : List ℕ) (at taken : ℕ) (arrivals : List Arrival) → ArrivalsAt input at arrivals → taken ≤ 0
    → ArrivalsAt input (at + arrival_bytes * taken) (drop taken arrivals)
here_still input at taken arrivals here few =
    let none : taken ≡ 0 = omega arith in
    let same : at + 16 * taken ≡ at = omega arith in
    subst (λ (n : ℕ). ArrivalsAt input n (drop taken arrivals)) (sym same)
    (subst (λ (n : ℕ). ArrivalsAt input at (drop n arrivals)) (sym none) here)

pub found_here :
    (most : ℕ) (input : List ℕ) (at : ℕ) (arrivals : List Arrival) → ArrivalsAt input at arrivals
    → Found input at most (arrivals_in most input at) arrivals
unfolding arrivals_in
found_here zero input at arrivals here =
    record { others = arrivals; are = refl; all = λ h. absurd (omega arith); past = λ taken few. here_still input at taken arrivals here few }
found_here (suc most) input at arrivals here = go (eqb x.kind 3) refl (found_here most input (at + 16))
  where
    x : Said
    x = read_record (drop at input)

    a : Arrival
    a = arrival_from x.values

    later : List Arrival
    later = arrivals_in most input (at + 16)

    one_more :
        (os : List Arrival) → arrivals ≡ a ∷ os → Found input (at + 16) most later os → Found input at (suc most) (a ∷ later) arrivals
    one_more os e f = record {
      others = f.others;
      are = e ∙ ap (λ (l : List Arrival). a ∷ l) f.are;
      all = λ h. f.all (omega arith);
      past = past;
    }
      where
        past : (taken : ℕ) → taken ≤ suc (length later) → ArrivalsAt input (at + 16 * taken) (drop taken arrivals)
        past zero few = here_still input at 0 arrivals here (omega arith)
        past (suc taken) few =
            let same : at + 16 + 16 * taken ≡ at + 16 * suc taken = omega arith in
            subst (λ (n : ℕ). ArrivalsAt input n (drop (suc taken) arrivals)) same
            (subst (λ (l : List Arrival). ArrivalsAt input (at + 16 + 16 * taken) (drop (suc taken) l)) (sym e) (f.past taken (omega arith)))

    go :
        (t : Bool) → eqb x.kind 3 ≡ t
        → ((os : List Arrival) → ArrivalsAt input (at + 16) os → Found input (at + 16) most later os)
        → Found input at (suc most) (cond t (a ∷ later) []) arrivals
    go true kind more =
        let first = arrivals_here here (eqb-true x.kind 3 kind) in one_more first.0 first.1 (more first.0 first.2)
    go false kind more = record {
      others = [];
      are = arrivals_none here (eqb-false x.kind 3 kind);
      all = λ h. refl;
      past = λ taken few. here_still input at taken arrivals here few;
    }

-- no more are found than were looked for
pub found_few : (most : ℕ) (input : List ℕ) (at : ℕ) → length (arrivals_in most input at) ≤ most
unfolding arrivals_in
found_few zero input at = omega arith
found_few (suc most) input at = go (eqb (read_record (drop at input)).kind 3) (found_few most input (at + 16))
  where
    go :
        (t : Bool) → length (arrivals_in most input (at + 16)) ≤ most
        → length (cond t (arrival_from (read_record (drop at input)).values ∷ arrivals_in most input (at + 16)) []) ≤ suc most
    go true few = omega arith
    go false few = omega arith

-- ---- a row that is filled

-- what has been gathered so far, in the row, and the arrivals from here on
pub record So-far (input : List ℕ) (from at many : ℕ) (row : List Arrival) : Type 0 where
  pub first : List Arrival
  pub filled : row ≡ first ++ replicate (row_places - many) no_arrival
  pub long : length first ≡ many
  pub goes : next_arrivals input from ≡ first ++ arrivals_in (row_places - many) input at

pub at_first : (input : List ℕ) (from : ℕ) → So-far input from from 0 (replicate row_places no_arrival)
at_first input from = record { first = []; filled = refl; long = refl; goes = refl }

-- an arrival that was found is the first of them
one_found :
    (most : ℕ) (input : List ℕ) (at : ℕ) (a : Arrival) → Some a ≡ arrival_if (read_record (drop at input))
    → arrivals_in (suc most) input at ≡ a ∷ arrivals_in most input (at + arrival_bytes)
unfolding arrivals_in
one_found most input at a e = go (eqb x.kind 3) e
  where
    x : Said
    x = read_record (drop at input)

    arrival_or : Option Arrival → Arrival
    arrival_or (Some b) = b
    arrival_or None = a

    go :
        (t : Bool) → Some a ≡ cond t (Some (arrival_from x.values)) None
        → cond t (arrival_from x.values ∷ arrivals_in most input (at + 16)) [] ≡ a ∷ arrivals_in most input (at + 16)
    go true same = ap (λ (b : Option Arrival). arrival_or b ∷ arrivals_in most input (at + 16)) (sym same)
    go false same = absurd (cc same)

-- one arrival more
pub one_more :
    {input : List ℕ} {from at many : ℕ} {row : List Arrival} (a : Arrival) → many < row_places → So-far input from at many row
    → Some a ≡ arrival_if (read_record (drop at input)) → So-far input from (at + arrival_bytes) (many + 1) (set row many a)
one_more {input} {from} {at} {many} {row} a h x e =
    let rest = row_places - (many + 1) in
    let free : row_places - many ≡ suc rest = omega arith in
    record {
      first = x.first ++ (a ∷ []);
      filled =
          ap (λ (l : List Arrival). set l many a) (x.filled ∙ ap (λ (k : ℕ). x.first ++ replicate k no_arrival) free)
          ∙ set_at x.first no_arrival (replicate rest no_arrival) a many x.long
          ∙ sym (append_snoc x.first a (replicate rest no_arrival));
      long = length-append x.first (a ∷ []) ∙ ap (λ (k : ℕ). k + 1) x.long;
      goes =
          x.goes
          ∙ ap (λ (k : ℕ). x.first ++ arrivals_in k input at) free
          ∙ ap (λ (l : List Arrival). x.first ++ l) (one_found rest input at a e)
          ∙ sym (append_snoc x.first a (arrivals_in rest input (at + 16)));
    }

-- none was found, or the row is full
pub none_found : (most : ℕ) (input : List ℕ) (at : ℕ) → None ≡ arrival_if (read_record (drop at input)) → arrivals_in most input at ≡ []
unfolding arrivals_in
none_found zero input at e = refl
none_found (suc most) input at e = go (eqb x.kind 3) e
  where
    x : Said
    x = read_record (drop at input)

    go :
        (t : Bool) → None ≡ cond t (Some (arrival_from x.values)) None
        → cond t (arrival_from x.values ∷ arrivals_in most input (at + 16)) [] ≡ []
    go true same = absurd (cc same)
    go false same = refl

pub row_full : (input : List ℕ) (at many : ℕ) → row_places ≤ many → arrivals_in (row_places - many) input at ≡ []
unfolding arrivals_in
row_full input at many full =
    let none : row_places - many ≡ 0 = omega arith in ap (λ (k : ℕ). arrivals_in k input at) none

-- and so all are in the row
pub at_last :
    {input : List ℕ} {from at many : ℕ} {row : List Arrival} → So-far input from at many row → arrivals_in (row_places - many) input at ≡ []
    → record { row = row; length = many } ≡ arrivals_form (next_arrivals input from)
at_last {input} {from} {at} {many} {row} x e =
    ap₂ (λ (l : List Arrival) (k : ℕ). record { row = l; length = k })
    (x.filled ∙ ap (λ (k : ℕ). x.first ++ replicate (row_places - k) no_arrival) (sym x.long))
    (sym x.long)
    ∙ ap arrivals_form (sym (x.goes ∙ ap (λ (l : List Arrival). x.first ++ l) e ∙ append-nil x.first))
