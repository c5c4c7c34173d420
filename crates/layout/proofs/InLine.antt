-- The words and numbers of a line, as the code finds them. Assumes nothing.
use Prim.Native.Nat.{ℕ, zero, suc, ◌+◌, ◌-◌, ◌≤◌, ◌<◌}
use mathlib.Core.Path.{◌≡◌, refl, sym, ap, subst, ◌∙◌}
use mathlib.Core.Bool.{Bool, true, false, cond, true≢false}
use mathlib.Core.List.{List, [], ◌∷◌, ◌++◌, append_assoc}
use native.Mathlib.Omega.{arith}
use borrow.Author.Tests.{leb-true}
use native.Mathlib.Numerals.{add-one}
use lib.Dec.{eqb, leb}
use lib.ListN.{length, take, drop, get_or, set, replicate, length-append}
use lib.Seq.{drop-cons, set-append_seam}
use Rattle.rules.specs.Lists.{verdict, first_of}
use Rattle.rules.specs.declared.Discipline.TheVariants.{RTDG, RTVC}
use Rattle.rules.specs.Bus.{code}
use Rattle.words.specs.Words.{first_word, after_word, word_span}
use Rattle.words.specs.declared.Span.{Span}
use Rattle.words.proofs.Spans.{span_within, span_word, span_after}
use Rattle.layout.specs.Layout.{label_table, label_bytes, labels_table, labels_of, Fields, fields_in, faulty, with_value}
use Rattle.std.proofs.lemmas.List.{get_or-map}
use Rattle.std.specs.Prelude.{map}
use Rattle.layout.specs.declared.labels.Label.{Label}
use Rattle.layout.specs.Faults.{label_number}
use Rattle.layout.specs.Parts.{padded, before}

-- ---- the words before numbers

-- what holds of each verdict holds of the first
abbrev Each : {Out : Type 0} → (Out → Type 0) → List (Out × Bool) → Type 0
Each P [] = Unit {0}
Each P (t ∷ ts) = P t.0 × Each P ts

pub of_first : {Out : Type 0} (P : Out → Type 0) (d : Out) (ts : List (Out × Bool)) → P d → Each P ts → P (first_of d ts)
of_first P d [] h each = h
of_first P d (t ∷ ts) h each = go t.1 (of_first P d ts h each.1)
  where
    go : (b : Bool) → P (first_of d ts) → P (verdict b t.0 (first_of d ts))
    go true later = each.0
    go false later = later

pub label_short : (code : ℕ) → length (label_bytes code) ≤ 10
label_short code =
    of_first
    (λ (w : List ℕ). length w ≤ 10)
    []
    (label_table code)
    (omega arith)
    (omega arith, (omega arith, (omega arith, (omega arith, (omega arith, (omega arith, (omega arith, (omega arith, (omega arith, (omega arith, (omega arith, (omega arith, (omega arith, tt)))))))))))))

-- ---- the first word of a line, by where it begins and ends

pub record Spanned (line : List ℕ) (from to : ℕ) : Type 0 where
  pub within : to ≤ length line
  pub word : take (to - from) (drop from line) ≡ first_word line
  pub after : drop to line ≡ after_word line

pub spanned : (line : List ℕ) (s : Span) → s ≡ word_span line 0 → Spanned line s.from s.to
spanned line s e =
    subst
    (λ (s : Span). Spanned line s.from s.to)
    (sym e)
    (record {
      within = span_within line 0 (omega arith);
      word = span_word line 0;
      after = span_after line 0;
    })

-- ---- the numbers found so far

abbrev small : ℕ → List ℕ → Bool
small n [] = true
small zero (x ∷ codes) = false
small (suc n) (x ∷ codes) = cond (leb x 13) (small n codes) false

small_few : (n : ℕ) (codes : List ℕ) → small n codes ≡ true → length codes ≤ n
small_few n [] h = omega arith
small_few zero (x ∷ codes) h = absurd (true≢false (sym h))
small_few (suc n) (x ∷ codes) h = go (leb x 13) h (small_few n codes)
  where
    go : (t : Bool) → cond t (small n codes) false ≡ true → (small n codes ≡ true → length codes ≤ n) → suc (length codes) ≤ suc n
    go true h few = let less = few h in omega arith
    go false h few = absurd (true≢false (sym h))

small_each : (n : ℕ) (codes : List ℕ) → small n codes ≡ true → (i : ℕ) → get_or codes i 0 ≤ 13
small_each n [] h zero = omega arith
small_each n [] h (suc i) = omega arith
small_each zero (x ∷ codes) h i = absurd (true≢false (sym h))
small_each (suc n) (x ∷ codes) h i = go (leb x 13) refl h i (small_each n codes)
  where
    go :
        (t : Bool) → leb x 13 ≡ t → cond t (small n codes) false ≡ true → (i : ℕ) → (small n codes ≡ true → (i : ℕ) → get_or codes i 0 ≤ 13)
        → get_or (x ∷ codes) i 0 ≤ 13
    go true e h zero each = leb-true x 13 e
    go true e h (suc i) each = each h i
    go false e h i each = absurd (true≢false (sym h))

labels_pass : (kind discipline : ℕ) → small 6 (labels_of kind discipline) ≡ true
labels_pass kind discipline =
    of_first
    (λ codes. small 6 codes ≡ true)
    []
    (labels_table kind discipline)
    refl
    (refl, (station (eqb discipline (code RTVC)), (refl, (six (eqb discipline (code RTDG)), (refl, (refl, tt))))))
  where
    station : (t : Bool) → small 6 (cond t (4 ∷ 5 ∷ []) (4 ∷ [])) ≡ true
    station true = refl
    station false = refl

    six : (t : Bool) → small 6 (9 ∷ 10 ∷ 11 ∷ 4 ∷ cond t 12 7 ∷ 8 ∷ []) ≡ true
    six true = refl
    six false = refl

-- a kind of line has no more than six words, each with a number up to 13
pub labels_few : (kind discipline : ℕ) → length (labels_of kind discipline) ≤ 6
labels_few kind discipline = small_few 6 (labels_of kind discipline) (labels_pass kind discipline)

pub labels_small : (kind discipline i : ℕ) → get_or (labels_of kind discipline) i 0 ≤ 13
labels_small kind discipline = small_each 6 (labels_of kind discipline) (labels_pass kind discipline)

-- numbers found are stored before zeros
pub padded_next : (found : List ℕ) (n : ℕ) → length found < 6 → set (padded found) (length found) n ≡ padded (found ++ (n ∷ []))
padded_next found n h =
    let k = 5 - length found in
    let left : 6 - length found ≡ suc k = omega arith in
    let less : 6 - length (found ++ (n ∷ [])) ≡ k = omega (arith, length-append found (n ∷ [])) in
    ap (λ m. set (found ++ replicate m 0) (length found) n) left
    ∙ set-append_seam found 0 (replicate k 0) n
    ∙ sym (append_assoc found (n ∷ []) (replicate k 0))
    ∙ ap (λ m. (found ++ (n ∷ [])) ++ replicate m 0) (sym less)

pub padded_get_d : (found : List ℕ) (k i : ℕ) → get_or (found ++ replicate k 0) i 0 ≡ get_or found i 0
padded_get_d [] zero zero = refl
padded_get_d [] zero (suc i) = refl
padded_get_d [] (suc k) zero = refl
padded_get_d [] (suc k) (suc i) = padded_get_d [] k i ∙ none_there i
  where
    none_there : (i : ℕ) → get_or {A = ℕ} [] i 0 ≡ 0
    none_there zero = refl
    none_there (suc i) = refl
padded_get_d (x ∷ found) k zero = refl
padded_get_d (x ∷ found) k (suc i) = padded_get_d found k i

-- what has been found in a line when i of its words have been read, from an offset of what is left
pub record Found (codes rest values left : List ℕ) (i : ℕ) : Type 0 where
  pub numbers : List ℕ
  pub counted : length numbers ≡ i
  pub stored : values ≡ padded numbers
  pub said : fields_in codes rest ≡ before numbers (fields_in (drop i codes) left)

module _ (codes rest values left : List ℕ) (i : ℕ) (f : Found codes rest values left i) (h : i < length codes) where
  word_next : drop i codes ≡ get_or codes i 0 ∷ drop (suc i) codes
  word_next = drop-cons codes i 0 h

  -- the next word says what it and the later ones say
  pub found_said : (all : List ℕ → Fields) → ((later : List ℕ) → fields_in (get_or codes i 0 ∷ later) left ≡ all later)
      → fields_in codes rest ≡ before f.numbers (all (drop (suc i) codes))
  found_said all said = f.said ∙ ap (before f.numbers) (ap (λ cs. fields_in cs left) word_next ∙ said (drop (suc i) codes))

  pub found_faulty :
      (fault : ℕ) → ((later : List ℕ) → fields_in (get_or codes i 0 ∷ later) left ≡ faulty fault) → (fields_in codes rest).fault ≡ fault
  found_faulty fault said = ap (λ (x : Fields). x.fault) (found_said (λ later. faulty fault) said)

  -- and with its number one more is found
  pub found_more :
      (value : ℕ) (next : List ℕ) → ((later : List ℕ) → fields_in (get_or codes i 0 ∷ later) left ≡ with_value value (fields_in later next))
      → length codes ≤ 6 → Found codes rest (set values i value) next (suc i)
  found_more value next said few =
      record {
        numbers = f.numbers ++ (value ∷ []);
        counted = length-append f.numbers (value ∷ []) ∙ ap (λ n. n + 1) f.counted ∙ add-one i;
        stored =
            ap (λ vs. set vs i value) f.stored
            ∙ ap (λ j. set (padded f.numbers) j value) (sym f.counted)
            ∙ padded_next f.numbers value (omega (arith, f.counted));
        said =
            found_said (λ later. with_value value (fields_in later next)) said
            ∙ more f.numbers value (fields_in (drop (suc i) codes) next);
      }
    where
      more : (numbers : List ℕ) (n : ℕ) (y : Fields) → before numbers (with_value n y) ≡ before (numbers ++ (n ∷ [])) y
      more numbers n y = ap (λ vs. record { fault = y.fault; values = vs }) (sym (append_assoc numbers (n ∷ []) y.values))

-- what a word of the line says, by the word's number
pub label_here :
    (labels : List Label) (i : ℕ) (d : Label) (left : List ℕ) {said : List ℕ → Fields} → i < length labels
    → ((later : List ℕ) → fields_in (label_number (get_or labels i d) ∷ later) left ≡ said later)
    → (later : List ℕ) → fields_in (get_or (map label_number labels) i 0 ∷ later) left ≡ said later
label_here labels i d left h said later =
    ap (λ n. fields_in (n ∷ later) left) (get_or-map label_number labels i d 0 h) ∙ said later
