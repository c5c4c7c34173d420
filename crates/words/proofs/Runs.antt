-- Bytes that go together at the start of a text: a turn of the loop that passes them, and how they stand in the text. Assumes nothing.
use Prim.Native.Nat.{ℕ, suc, ◌+◌, ◌≤◌, ◌<◌}
use mathlib.Core.Path.{◌≡◌, refl, sym, ap, ap₂, ◌∙◌}
use mathlib.Core.Bool.{Bool, true, false, cond}
use mathlib.Core.List.{List, [], ◌∷◌, ◌++◌}
use native.Mathlib.Numerals.{add-one}
use native.Mathlib.Omega.{arith}
use lib.ListN.{length, take, drop, get_or, drop_of_length-le}
use lib.Seq.{drop-cons}
use Rattle.words.specs.Words.{while}

-- ---- the loop

-- what stands from an offset on, by whether the byte there passes the test
while_here :
    (test : ℕ → Bool) (text : List ℕ) (at : ℕ) {t : Bool} → at < length text → t ≡ test (get_or text at 0)
    → while test (drop at text) ≡ cond t (get_or text at 0 ∷ while test (drop (suc at) text)) []
while_here test text at h e =
    ap (while test) (drop-cons text at 0 h) ∙ ap (λ t. cond t (get_or text at 0 ∷ while test (drop (suc at) text)) []) (sym e)

-- the offset past the bytes from an offset on: that from the next on, where the byte passes; the offset itself, where it does not, or past the end
pub past_more :
    (test : ℕ → Bool) (text : List ℕ) (at : ℕ) {t : Bool} → at < length text → t ≡ test (get_or text at 0) → t ≡ true
    → at + length (while test (drop at text)) ≡ at + 1 + length (while test (drop (at + 1) text))
past_more test text at h e passed =
    let here = ap length (while_here test text at h (sym passed ∙ e)) in
    let next = ap (λ n. length (while test (drop n text))) (add-one at) in
    omega arith

pub past_stop :
    (test : ℕ → Bool) (text : List ℕ) (at : ℕ) {t : Bool} → at < length text → t ≡ test (get_or text at 0) → t ≡ false
    → at + length (while test (drop at text)) ≡ at
past_stop test text at h e stopped = let here = ap length (while_here test text at h (sym stopped ∙ e)) in omega arith

pub past_end : (test : ℕ → Bool) (text : List ℕ) (at : ℕ) → length text ≤ at → at + length (while test (drop at text)) ≡ at
past_end test text at h = let none = ap (λ (l : List ℕ). length (while test l)) (drop_of_length-le text h) in omega arith

-- ---- how they stand in the text

-- they are no more than the text, and its start
pub while_few : (test : ℕ → Bool) (text : List ℕ) → length (while test text) ≤ length text
while_few test [] = omega arith
while_few test (b ∷ rest) = go (test b) (while_few test rest)
  where
    go : (t : Bool) → length (while test rest) ≤ length rest → length (cond t (b ∷ while test rest) []) ≤ suc (length rest)
    go true few = omega arith
    go false few = omega arith

pub while_taken : (test : ℕ → Bool) (text : List ℕ) → take (length (while test text)) text ≡ while test text
while_taken test [] = refl
while_taken test (b ∷ rest) = go (test b) (while_taken test rest)
  where
    go :
        (t : Bool) → take (length (while test rest)) rest ≡ while test rest
        → take (length (cond t (b ∷ while test rest) [])) (b ∷ rest) ≡ cond t (b ∷ while test rest) []
    go true e = ap (λ (l : List ℕ). b ∷ l) e
    go false e = refl

-- ---- bytes that all pass: `while test xs ≡ xs`

-- the first passes, and the others do
pub passes_first : (test : ℕ → Bool) (b : ℕ) (rest : List ℕ) → while test (b ∷ rest) ≡ b ∷ rest → test b ≡ true
passes_first test b rest h = go (test b) h
  where
    go : (t : Bool) → cond t (b ∷ while test rest) [] ≡ b ∷ rest → t ≡ true
    go true h = refl
    go false h = cc

pub passes_others : (test : ℕ → Bool) (b : ℕ) (rest : List ℕ) → while test (b ∷ rest) ≡ b ∷ rest → while test rest ≡ rest
passes_others test b rest h =
    let tail : ◌≡◌ {A = List ℕ} (b ∷ while test rest) (b ∷ rest)
    = sym (ap (λ t. cond t (b ∷ while test rest) []) (passes_first test b rest h)) ∙ h in
    cc

-- one more before them
pub passes_one : (test : ℕ → Bool) (b : ℕ) (rest : List ℕ) → test b ≡ true → while test rest ≡ rest → while test (b ∷ rest) ≡ b ∷ rest
passes_one test b rest e h = ap₂ (λ t (l : List ℕ). cond t (b ∷ l) []) e h

-- before other bytes those go on that pass after them
pub while_append :
    (test : ℕ → Bool) (xs ys : List ℕ) → while test xs ≡ xs → while test (xs ++ ys) ≡ xs ++ while test ys
while_append test [] ys h = refl
while_append test (b ∷ rest) ys h =
    ap₂ (λ t (l : List ℕ). cond t (b ∷ l) []) (passes_first test b rest h) (while_append test rest ys (passes_others test b rest h))

-- two such texts
pub passes_append : (test : ℕ → Bool) (xs ys : List ℕ) → while test xs ≡ xs → while test ys ≡ ys → while test (xs ++ ys) ≡ xs ++ ys
passes_append test xs ys h k = while_append test xs ys h ∙ ap (λ (l : List ℕ). xs ++ l) k
