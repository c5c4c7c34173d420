-- Laws of rows of words. Assumes nothing.
use Prim.Native.Nat.{ℕ, ◌≤◌, ◌<◌}
use mathlib.Core.Path.{◌≡◌, refl, ap, ◌∙◌}
use mathlib.Core.Bool.{Bool, true, false, cond}
use mathlib.Core.Logic.{◌≢◌}
use mathlib.Core.List.{List, [], ◌∷◌}
use native.Mathlib.Omega.{arith}
use borrow.Author.Tests.{leb-true, ne_eqb}
use lib.Dec.{ltb, leb, eqb}
use lib.ListN.{length}
use Rattle.text.specs.Text.{bytes}
use Rattle.scenario.specs.Format.{kind_in}
use Rattle.meanings.specs.Meanings.{Row, words_in, set_up_rows, call_rows, other_rows, other_meaning, call_meaning, meaning_of}
use Rattle.meanings.specs.Refused.{kinds, kind_words, record_words}

-- ---- a number that rows do not have

-- a number is none of these: what the last arm of a `match` knows, the last of its keys first
abbrev pub NoneOf : ℕ → List ℕ → Type 0
NoneOf n [] = Unit {0}
NoneOf n (key ∷ keys) = NoneOf n keys × (n ≢ key)

-- the numbers of rows before others, the last first
abbrev pub keys_of : List Row → List ℕ → List ℕ
keys_of [] keys = keys
keys_of (r ∷ rows) keys = keys_of rows (r.number ∷ keys)

none_before : (rows : List Row) (keys : List ℕ) (n : ℕ) → NoneOf n (keys_of rows keys) → NoneOf n keys
none_before [] keys n none = none
none_before (r ∷ rows) keys n none = (none_before rows (r.number ∷ keys) n none).0

-- it has the other words
pub others : (rows : List Row) (keys other : List ℕ) (n : ℕ) → NoneOf n (keys_of rows keys) → words_in rows other n ≡ other
others [] keys other n none = refl
others (r ∷ rows) keys other n none =
    ap (λ t. cond t (bytes r.words) (words_in rows other n)) (ne_eqb n r.number (none_before rows (r.number ∷ keys) n none).1)
    ∙ others rows (r.number ∷ keys) other n none

-- ---- what each row is like

abbrev each : (Row → Bool) → List Row → Bool
each test [] = true
each test (r ∷ rows) = cond (test r) (each test rows) false

first_of : (t u : Bool) → cond t u false ≡ true → t ≡ true
first_of true u e = refl
first_of false u e = e

later_of : (t u : Bool) → cond t u false ≡ true → u ≡ true
later_of true u e = e
later_of false u e = absurd (let z : ◌≡◌ {A = ℕ} 0 1 = cc in omega arith)

-- where no row has more than so many bytes of words, nor have the other ones, no number has
abbrev short : ℕ → Row → Bool
short most r = leb (length (bytes r.words)) most

words_short :
    (most : ℕ) (rows : List Row) (other : List ℕ) (n : ℕ) → each (short most) rows ≡ true → length other ≤ most
    → length (words_in rows other n) ≤ most
words_short most [] other n e h = h
words_short most (r ∷ rows) other n e h =
    go
    (eqb n r.number)
    (leb-true (length (bytes r.words)) most (first_of (short most r) (each (short most) rows) e))
    (words_short most rows other n (later_of (short most r) (each (short most) rows) e) h)
  where
    go :
        (t : Bool) → length (bytes r.words) ≤ most → length (words_in rows other n) ≤ most
        → length (cond t (bytes r.words) (words_in rows other n)) ≤ most
    go true here later = here
    go false here later = later

-- where no row has a number above this one, a number above it has the other words
abbrev within : ℕ → Row → Bool
within last r = leb r.number last

above : (last : ℕ) (rows : List Row) (other : List ℕ) (n : ℕ) → each (within last) rows ≡ true → last < n → words_in rows other n ≡ other
above last [] other n e h = refl
above last (r ∷ rows) other n e h =
    let low = leb-true r.number last (first_of (within last r) (each (within last) rows) e) in
    ap (λ t. cond t (bytes r.words) (words_in rows other n)) (ne_eqb n r.number (λ same. omega arith))
    ∙ above last rows other n (later_of (within last r) (each (within last) rows) e) h

-- ---- the table

pub meaning_short : (n : ℕ) → length (meaning_of n) ≤ 80
unfolding other_meaning call_meaning meaning_of
meaning_short n =
    words_short 80 set_up_rows (call_meaning n) n refl
    (words_short 80 call_rows (other_meaning n) n refl (words_short 80 other_rows (bytes "unknown number") n refl (omega arith)))

pub unknown : (n : ℕ) → 26 < n → meaning_of n ≡ bytes "unknown number"
unfolding other_meaning call_meaning meaning_of
unknown n h =
    above 26 set_up_rows (call_meaning n) n refl h ∙ (above 26 call_rows (other_meaning n) n refl h ∙ above 26 other_rows (bytes "unknown number") n refl h)

-- ---- records

kind_short : (n : ℕ) → length (kind_words n) ≤ 20
unfolding kind_words
kind_short n = words_short 20 kinds (bytes "of no known kind") n refl (omega arith)

pub record_short : (rest : List ℕ) → length (record_words rest) ≤ 20
unfolding record_words
record_short rest = go (eqb (length rest) 0) (ltb (length rest) 4)
  where
    go : (none few : Bool) → length (cond none (bytes "where the input ends") (cond few (bytes "cut short") (kind_words (kind_in rest)))) ≤ 20
    go true few = omega arith
    go false true = omega arith
    go false false = kind_short (kind_in rest)
