-- Laws of the table of kinds and of a record's body. Assumes nothing.
use Prim.Native.Nat.{ℕ, ◌+◌, ◌≤◌}
use mathlib.Core.Path.{◌≡◌, refl, sym, ap, ap₂, subst, ◌∙◌}
use mathlib.Core.Bool.{Bool, true, false, ◌&&◌, cond, true≢false, false≢true}
use mathlib.Core.Option.{Option, none, some}
use mathlib.Core.List.{List, [], ◌∷◌}
use native.Mathlib.Omega.{arith}
use lib.Dec.{ltb, eqb}
use lib.ListN.{length}
use borrow.Author.Tests.{eqb-true, le-ltb}
use Rattle.scenario.specs.Format.{Kind, Said, kinds, row_of, refused_record, length_in, kind_in, said_by, body_in, read_body, read_record}
use Rattle.scenario.specs.Parts.{known, is_kind, said_by_kind}
use Rattle.scenario.proofs.Numbers.{fields_from, fields_are_from}

-- A row is there exactly where the test for it passes.
pub known_row : (t : Bool) (row : Kind) → known (cond t (some row) none) ≡ t
known_row true row = refl
known_row false row = refl

-- What holds of the kind and the length of each row.
abbrev Each : (ℕ → ℕ → Type 0) → List Kind → Type 0
Each P [] = Unit
Each P (row ∷ rows) = P row.kind row.length × Each P rows

-- What holds of each row holds of a kind and a length that have one.
by_rows : (P : ℕ → ℕ → Type 0) (rows : List Kind) → Each P rows → (kind long : ℕ) → known (row_of kind long rows) ≡ true → P kind long
by_rows P [] each kind long e = absurd (false≢true e)
by_rows P (row ∷ rows) each kind long e =
    go (eqb kind row.kind) refl (eqb long row.length) refl (by_rows P rows each.1 kind long) e
  where
    go :
        (t : Bool) → eqb kind row.kind ≡ t → (u : Bool) → eqb long row.length ≡ u
        → (known (row_of kind long rows) ≡ true → P kind long)
        → known (cond (t && u) (some row) (row_of kind long rows)) ≡ true → P kind long
    go true p true q later h =
        subst (λ (k : ℕ). P k long) (sym (eqb-true _ _ p)) (subst (λ (l : ℕ). P row.kind l) (sym (eqb-true _ _ q)) each.0)
    go true p false q later h = later h
    go false p u q later h = later h

-- What holds of the four kinds with their lengths holds of every known one.
by_kind :
    (P : ℕ → ℕ → Type 0) → P 1 14 → P 2 6 → P 3 14 → P 4 4 → (kind long : ℕ) → is_kind kind long ≡ true → P kind long
by_kind P a b c d = by_rows P kinds (a, (b, (c, (d, tt))))

-- A known kind's record has a kind before its end.
pub known_long : (kind long : ℕ) → is_kind kind long ≡ true → 4 ≤ 2 + long
known_long = by_kind (λ (kind long : ℕ). 4 ≤ 2 + long) (omega arith) (omega arith) (omega arith) (omega arith)

-- A known kind's record is read by its kind.
known_body :
    (rest : List ℕ) (kind long : ℕ) → is_kind kind long ≡ true
    → read_body (row_of kind long kinds) rest ≡ cond (ltb (length rest) (2 + long)) (refused_record 18) (said_by_kind kind (body_in long rest))
known_body rest =
    by_kind
    (λ (kind long : ℕ).
    read_body (row_of kind long kinds) rest ≡ cond (ltb (length rest) (2 + long)) (refused_record 18) (said_by_kind kind (body_in long rest)))
    refl
    refl
    refl
    refl

-- A record with no row is refused.
unknown_body : (row : Option Kind) (rest : List ℕ) → known row ≡ false → read_body row rest ≡ refused_record 19
unknown_body none rest e = refl
unknown_body (some row) rest e = absurd (true≢false e)

module _ (rest : List ℕ) (kind long : ℕ) (four : 4 ≤ length rest) (k : kind ≡ kind_in rest) (l : long ≡ length_in rest) where
  -- A record of at least four bytes is read by the kind and the length that they hold.
  read_as : read_record rest ≡ read_body (row_of kind long kinds) rest
  read_as =
      ap (λ (t : Bool). cond t (refused_record 18) (read_body (row_of (kind_in rest) (length_in rest) kinds) rest)) (le-ltb _ _ four)
      ∙ ap₂ (λ (x y : ℕ). read_body (row_of x y kinds) rest) (sym k) (sym l)

  -- One of an unknown kind, or of a length not that of its kind, is refused.
  pub read_unknown : is_kind kind long ≡ false → refused_record 19 ≡ read_record rest
  read_unknown e = sym (read_as ∙ unknown_body (row_of kind long kinds) rest e)

  -- One of a known kind is refused where its body is short, and else says what its body says.
  pub read_known :
      (short : Bool) → ltb (length rest) (2 + long) ≡ short → is_kind kind long ≡ true
      → cond short (refused_record 18) (said_by_kind kind (body_in long rest)) ≡ read_record rest
  read_known short s e =
      ap (λ (t : Bool). cond t (refused_record 18) (said_by_kind kind (body_in long rest))) (sym s)
      ∙ sym (read_as ∙ known_body rest kind long e)

-- What a body says by its row, from the numbers at the offsets of its fields.
pub said_so_by :
    (row : Kind) (body : List ℕ) (values : List ℕ) → values ≡ fields_from row.widths 0 body
    → ◌≡◌ {A = Said} (record { refusal = 0; kind = row.kind; values = values }) (said_by row body)
said_so_by row body values e =
    ap {B = Said} (λ (vs : List ℕ). record { refusal = 0; kind = row.kind; values = vs }) (e ∙ sym (fields_are_from row.widths 0 body))
