-- Records as they are written and as they are read: the bytes of a number, of fields and of a record, and what is read from them; for the
-- proofs about written scenarios. Assumes nothing.
use Prim.Native.Nat.{ℕ, zero, suc, ◌+◌, ◌-◌, ◌*◌, ◌/◌, ◌%◌, ◌^◌, ◌≤◌, ◌<◌}
use mathlib.Core.Path.{◌≡◌, refl, sym, ap, ap₂, subst, ◌∙◌}
use mathlib.Core.Bool.{Bool, true, false, ◌&&◌, cond}
use mathlib.Core.Option.{Option, some}
use mathlib.Core.List.{List, [], ◌∷◌, ◌++◌}
use native.Mathlib.Nat.{pow-suc, one-le-pow}
use native.Mathlib.Omega.{arith}
use lib.Dec.{ltb, eqb}
use lib.ListN.{length, take, drop, length-append, length-drop, take-append-drop}
use lib.Seq.{length-take-le, take_at, drop_at, drop-drop}
use borrow.Author.Tests.{le-ltb, ltb-false, eqb-true, ne_eqb}
use Rattle.rules.specs.Lists.{total, at_head, in_tail, All}
use Rattle.rules.proofs.Laws.{all_cons, all_nil}
use Rattle.scenario.specs.Format.{number, fields, Kind, set_up_kind, station_kind, arrival_kind, run_kind, kinds, row_of, Said, refused_record}
use Rattle.scenario.specs.Format.{length_in, kind_in, said_by, body_in, read_body, read_record, out_of_place}
use Rattle.scenario.specs.Writing.{Bytes, bytes_of, body_bytes, record_bytes}

-- ---- numbers

-- a number takes as many bytes as its width
bytes_count : (w n : ℕ) → length (bytes_of w n) ≡ w
bytes_count zero n = refl
bytes_count (suc w) n = ap suc (bytes_count w (n / 256))

-- the number that the bytes of a number stand for is that number, if its width is enough
number_bytes : (w n : ℕ) → n < 256 ^ w → number (bytes_of w n) ≡ n
number_bytes zero n h = omega arith
number_bytes (suc w) n h =
    let below : n / 256 < 256 ^ w = omega (arith, pow-suc 256 w) in
    omega (arith, number_bytes w (n / 256) below)

-- bytes are those of the number that they stand for
bytes_number : (w : ℕ) (xs : List ℕ) → length xs ≡ w → Bytes xs → bytes_of w (number xs) ≡ xs
bytes_number zero [] e b = refl
bytes_number zero (x ∷ xs) e b = absurd (omega arith)
bytes_number (suc w) [] e b = absurd (omega arith)
bytes_number (suc w) (x ∷ xs) e b =
    let below = b x (at_head refl) in
    let first : (x + 256 * number xs) % 256 ≡ x = omega arith in
    let others : (x + 256 * number xs) / 256 ≡ number xs = omega arith in
    ap₂ (λ n m. n ∷ bytes_of w m) first others
    ∙ ap (λ l. x ∷ l) (bytes_number w xs (omega arith) (λ y i. b y (in_tail i)))

-- and that is below what their width holds
number_below : (w : ℕ) (xs : List ℕ) → Bytes xs → number (take w xs) < 256 ^ w
number_below zero xs b = omega arith
number_below (suc w) [] b = omega (arith, one-le-pow (suc w) 256 (omega arith))
number_below (suc w) (x ∷ xs) b = omega (arith, pow-suc 256 w, b x (at_head refl), number_below w xs (λ y i. b y (in_tail i)))

-- of bytes the first may be taken
bytes_take : (n : ℕ) (xs : List ℕ) → Bytes xs → Bytes (take n xs)
bytes_take zero xs b = all_nil (λ x. x < 256)
bytes_take (suc n) [] b = b
bytes_take (suc n) (x ∷ xs) b = all_cons x (b x (at_head refl)) (bytes_take n xs (λ y i. b y (in_tail i)))

-- or dropped
pub bytes_drop : (n : ℕ) (xs : List ℕ) → Bytes xs → Bytes (drop n xs)
bytes_drop zero xs b = b
bytes_drop (suc n) [] b = b
bytes_drop (suc n) (x ∷ xs) b = bytes_drop n xs (λ y i. b y (in_tail i))

-- a number at the front of bytes is written there
number_first : (w n : ℕ) (xs : List ℕ) → w ≤ length xs → Bytes xs → number (take w xs) ≡ n → xs ≡ bytes_of w n ++ drop w xs
number_first w n xs h b e =
    sym (take-append-drop w xs)
    ∙ ap
    (λ l. l ++ drop w xs)
    (sym (bytes_number w (take w xs) (length-take-le w xs h) (bytes_take w xs b)) ∙ ap (bytes_of w) e)

-- ---- fields

-- each value is below what its width holds, and there is one for each
abbrev pub Fit : List ℕ → List ℕ → Type 0
Fit [] [] = Unit {0}
Fit [] (v ∷ vs) = ⊥
Fit (w ∷ ws) [] = ⊥
Fit (w ∷ ws) (v ∷ vs) = (v < 256 ^ w) × Fit ws vs

-- the bytes of a body
abbrev size : List ℕ → ℕ
size ws = total (λ w. w) ws

-- a body takes the bytes of its fields
body_count : (ws vs : List ℕ) → Fit ws vs → length (body_bytes ws vs) ≡ size ws
body_count [] [] f = refl
body_count [] (v ∷ vs) f = absurd f
body_count (w ∷ ws) [] f = absurd f
body_count (w ∷ ws) (v ∷ vs) f =
    length-append (bytes_of w v) (body_bytes ws vs) ∙ ap₂ (λ m n. m + n) (bytes_count w v) (body_count ws vs f.1)

-- the fields of a body are the values it was written from
fields_body : (ws vs : List ℕ) → Fit ws vs → fields ws (body_bytes ws vs) ≡ vs
fields_body [] [] f = refl
fields_body [] (v ∷ vs) f = absurd f
fields_body (w ∷ ws) [] f = absurd f
fields_body (w ∷ ws) (v ∷ vs) f =
    ap₂
    (λ n ns. n ∷ ns)
    (ap number (take_at (bytes_of w v) (body_bytes ws vs) w (bytes_count w v)) ∙ number_bytes w v f.0)
    (ap (fields ws) (drop_at (bytes_of w v) (body_bytes ws vs) w (bytes_count w v)) ∙ fields_body ws vs f.1)

-- a body is written from its fields
body_fields : (ws body : List ℕ) → length body ≡ size ws → Bytes body → body_bytes ws (fields ws body) ≡ body
body_fields [] [] e b = refl
body_fields [] (x ∷ body) e b = absurd (omega arith)
body_fields (w ∷ ws) body e b =
    ap (λ l. bytes_of w (number (take w body)) ++ l) (body_fields ws (drop w body) (omega (arith, length-drop w body)) (bytes_drop w body b))
    ∙ sym (number_first w (number (take w body)) body (omega arith) b refl)

-- and its fields fit
fields_fit : (ws body : List ℕ) → Bytes body → Fit ws (fields ws body)
fields_fit [] body b = tt
fields_fit (w ∷ ws) body b = (number_below w body b, fields_fit ws (drop w body) (bytes_drop w body b))

-- ---- records as they are written

-- the row with this kind
abbrev of_kind : ℕ → Kind
of_kind kind = cond (eqb kind 1) set_up_kind (cond (eqb kind 2) station_kind (cond (eqb kind 3) arrival_kind run_kind))

-- a row of the table: it is found by its kind and its length and has its kind alone, which is not 0; its length is that of a kind and its
-- body; and both are of two bytes
pub record InTable (row : Kind) : Type 0 where
  found : row_of row.kind row.length kinds ≡ some row
  alone : of_kind row.kind ≡ row
  named : 0 < row.kind
  sized : row.length ≡ 2 + size row.widths
  kind_fits : row.kind < 65_536
  length_fits : row.length < 65_536

-- the four rows
pub set_up_row : InTable set_up_kind
set_up_row =
    record { found = refl; alone = refl; named = omega arith; sized = refl; kind_fits = omega arith; length_fits = omega arith }

pub station_row : InTable station_kind
station_row =
    record { found = refl; alone = refl; named = omega arith; sized = refl; kind_fits = omega arith; length_fits = omega arith }

pub arrival_row : InTable arrival_kind
arrival_row =
    record { found = refl; alone = refl; named = omega arith; sized = refl; kind_fits = omega arith; length_fits = omega arith }

pub run_row : InTable run_kind
run_row =
    record { found = refl; alone = refl; named = omega arith; sized = refl; kind_fits = omega arith; length_fits = omega arith }

-- one record in front of any bytes
module _ (row : Kind) (vs more : List ℕ) (known : InTable row) (f : Fit row.widths vs) where
  -- it takes the bytes of its length, and two for that
  record_count : length (record_bytes row vs) ≡ 2 + row.length
  record_count = omega (arith, body_count row.widths vs f, known.sized)

  -- past it comes what was behind it
  pub past_record : drop (2 + row.length) (record_bytes row vs ++ more) ≡ more
  past_record = drop_at (record_bytes row vs) more (2 + row.length) record_count

  -- it says its kind and its values
  pub record_read : read_record (record_bytes row vs ++ more) ≡ record { refusal = 0; kind = row.kind; values = vs }
  record_read =
      ap (λ t. cond t (refused_record 18) (read_body (row_of (kind_in rest) (length_in rest) kinds) rest)) (le-ltb (length rest) 4 (omega arith))
      ∙ ap₂
      (λ k l. read_body (row_of k l kinds) rest)
      (number_bytes 2 row.kind known.kind_fits)
      (number_bytes 2 row.length known.length_fits)
      ∙ ap (λ o. read_body o rest) known.found
      ∙ ap (λ t. cond t (refused_record 18) (said_by row (body_in row.length rest))) (le-ltb (length rest) (2 + row.length) long)
      ∙ ap {B = Said} (λ values. record { refusal = 0; kind = row.kind; values = values })
      (ap (fields row.widths) body ∙ fields_body row.widths vs f)
    where
      rest : List ℕ
      rest = record_bytes row vs ++ more

      long : 2 + row.length ≤ length rest
      long = omega (arith, length-append (record_bytes row vs) more, record_count)

      body : body_in row.length rest ≡ body_bytes row.widths vs
      body = take_at (body_bytes row.widths vs) more (row.length - 2) (omega (arith, body_count row.widths vs f, known.sized))

-- ---- records as they are read

-- what can be said by the rest of an input: a refusal, or what a whole record says by its row of the table
pub data Told (rest : List ℕ) : Said → Type 0 where
  nothing : (n : ℕ) → 0 < n → Told rest (refused_record n)
  by_row :
      (row : Kind) → InTable row → kind_in rest ≡ row.kind → length_in rest ≡ row.length → 2 + row.length ≤ length rest
      → Told rest (said_by row (body_in row.length rest))

-- what the rows say
rows_told : (rest : List ℕ) (rows : List Kind) → All InTable rows → Told rest (read_body (row_of (kind_in rest) (length_in rest) rows) rest)
rows_told rest [] known = nothing 19 (omega arith)
rows_told rest (row ∷ rows) known =
    go
    (eqb (kind_in rest) row.kind)
    refl
    (eqb (length_in rest) row.length)
    refl
    (rows_told rest rows (λ x i. known x (in_tail i)))
  where
    others : Option Kind
    others = row_of (kind_in rest) (length_in rest) rows

    short : (s : Bool) → ltb (length rest) (2 + row.length) ≡ s → kind_in rest ≡ row.kind → length_in rest ≡ row.length
        → Told rest (cond s (refused_record 18) (said_by row (body_in row.length rest)))
    short true q k l = nothing 18 (omega arith)
    short false q k l = by_row row (known row (at_head refl)) k l (ltb-false (length rest) (2 + row.length) q)

    go :
        (t : Bool) → eqb (kind_in rest) row.kind ≡ t → (u : Bool) → eqb (length_in rest) row.length ≡ u
        → Told rest (read_body others rest) → Told rest (read_body (cond (t && u) (some row) others) rest)
    go true k true l later = short (ltb (length rest) (2 + row.length)) refl (eqb-true _ _ k) (eqb-true _ _ l)
    go true k false l later = later
    go false k u l later = later

-- what a record says
pub told : (rest : List ℕ) → Told rest (read_record rest)
told rest = go (ltb (length rest) 4)
  where
    table : All InTable kinds
    table =
        all_cons
        set_up_kind
        set_up_row
        (all_cons station_kind station_row (all_cons arrival_kind arrival_row (all_cons run_kind run_row (all_nil InTable))))

    go : (t : Bool) → Told rest (cond t (refused_record 18) (read_body (row_of (kind_in rest) (length_in rest) kinds) rest))
    go true = nothing 18 (omega arith)
    go false = rows_told rest kinds table

-- what is out of place is refused
pub place_refused : (rest : List ℕ) (x : Said) → Told rest x → ¬ (out_of_place x ≡ 0)
place_refused rest x (nothing n h) e = omega arith
place_refused rest x (by_row row known k l long) e =
    let some! : ¬ (row.kind ≡ 0) = λ z. omega (arith, known.named) in
    let z : ◌≡◌ {A = ℕ} 20 0 = ap (λ t. cond t 0 20) (sym (ne_eqb row.kind 0 some!)) ∙ e in
    omega arith

-- a whole record is written from the fields of its body
whole_record :
    (row : Kind) (rest : List ℕ) → InTable row → Bytes rest → kind_in rest ≡ row.kind → length_in rest ≡ row.length
    → 2 + row.length ≤ length rest
    → rest ≡ record_bytes row (fields row.widths (body_in row.length rest)) ++ drop (2 + row.length) rest
whole_record row rest known b k l long =
    number_first 2 row.length rest (omega arith) b l
    ∙ ap
    (λ xs. bytes_of 2 row.length ++ xs)
    (number_first 2 row.kind (drop 2 rest) (omega (arith, length-drop 2 rest, known.sized)) (bytes_drop 2 rest b) k)
    ∙ ap
    (λ xs. bytes_of 2 row.length ++ (bytes_of 2 row.kind ++ xs))
    (drop-drop 2 2 rest
    ∙ sym (take-append-drop (row.length - 2) (drop 4 rest))
    ∙ ap₂
    (λ body more. body ++ more)
    (sym (body_fields row.widths (body_in row.length rest) count (bytes_take (row.length - 2) (drop 4 rest) (bytes_drop 4 rest b))))
    (drop-drop (row.length - 2) 4 rest ∙ ap (λ n. drop n rest) all))
  where
    all : 4 + (row.length - 2) ≡ 2 + row.length
    all = omega (arith, known.sized)

    count : length (body_in row.length rest) ≡ size row.widths
    count = length-take-le (row.length - 2) (drop 4 rest) (omega (arith, length-drop 4 rest)) ∙ omega (arith, known.sized)

-- a record of a row's kind is written from its values, if `again` gives the fields of any body
pub record_written :
    (row : Kind) → InTable row → (again : List ℕ → List ℕ) → ((body : List ℕ) → again (fields row.widths body) ≡ fields row.widths body)
    → (rest : List ℕ) (x : Said) → Told rest x → Bytes rest → x.kind ≡ row.kind
    → (rest ≡ record_bytes row (again x.values) ++ drop (2 + row.length) rest) × Fit row.widths (again x.values)
record_written row known again same rest x (nothing n h) b e = absurd (omega (arith, known.named))
record_written row known again same rest x (by_row row' known' k l long) b e =
    subst
    (λ (y : Kind). (rest ≡ record_bytes y (again values) ++ drop (2 + y.length) rest) × Fit y.widths (again values))
    one (
      whole_record row' rest known' b k l long ∙ ap (λ vs. record_bytes row' vs ++ drop (2 + row'.length) rest) (sym as_read),
      subst (Fit row'.widths) (sym as_read) (fields_fit row'.widths body (bytes_take (row'.length - 2) (drop 4 rest) (bytes_drop 4 rest b))),
    )
  where
    body : List ℕ
    body = body_in row'.length rest

    values : List ℕ
    values = fields row'.widths body

    one : row' ≡ row
    one = sym known'.alone ∙ ap of_kind e ∙ known.alone

    as_read : again values ≡ values
    as_read = subst (λ (y : Kind). again (fields y.widths body) ≡ fields y.widths body) (sym one) (same body)
