-- Lines of a sheet in room that is lent, put together from what the calls store. Assumes nothing.
use Prim.Native.Nat.{ℕ, suc, ◌+◌, ◌≤◌, ◌<◌, min}
use mathlib.Core.Path.{◌≡◌, refl, sym, ap, ◌∙◌}
use mathlib.Core.List.{List, [], ◌∷◌, ◌++◌, append_assoc, append-nil}
use native.Mathlib.Nat.{add-zero, zero-add, min-eq_left, min-eq_right}
use mathlib.Core.Bool.{Bool, true, false}
use borrow.Author.Tests.{leb-true, leb-false}
use lib.Dec.{leb}
use native.Mathlib.Numerals.{add-one}
use native.Mathlib.Omega.{arith}
use lib.ListN.{length, get_or, take, length-append}
use lib.Seq.{take-length as take_length, take_all, take-suc, length-take-le}
use Rattle.text.specs.Text.{decimal, fields}
use Rattle.text.specs.Room.{room_bytes, room_with}
use Rattle.text.proofs.Stores.{room_kept}
use Rattle.sheet.specs.declared.Run.{Run}
use Rattle.sheet.specs.Sheet.{no_run}
use Rattle.page.specs.Page.{name_bytes, shown, refusal_words, line_text, place_text, rows_text}
use Rattle.page.specs.declared.Entry.TheVariants as Has

-- the room stays as long as it is, so that the text is in it
pub text_within :
    (x a : List ℕ) {b : List ℕ} {n : ℕ} → room_bytes ≡ length a → (n ≡ length x) × ((b ≡ room_with x a) × (n ≤ room_bytes))
    → (room_bytes ≡ length b) × (n ≤ length b)
text_within x a {b} long said =
    let kept : length b ≡ length a = ap length said.1.0 ∙ room_kept x a in (omega arith, omega (arith, said.1.1))

-- a number is shown whole
pub number_is_shown : (n : ℕ) → length (decimal n) ≤ 20 → shown (decimal n) ≡ decimal n
unfolding shown
number_is_shown n few = take_all name_bytes (decimal n) (omega arith)

-- the first so many, or all where there are fewer
pub take_within : {A : Type 0} (l : List A) (most : ℕ) {n : ℕ} → n ≡ min most (length l) → take n l ≡ take most l
take_within l most {n} e = ap (λ k. take k l) e ∙ go (leb most (length l)) refl
  where
    go : (t : Bool) → leb most (length l) ≡ t → take (min most (length l)) l ≡ take most l
    go true h = ap (λ k. take k l) (min-eq_left (leb-true most (length l) h))
    go false h =
        let over : length l < most = leb-false most (length l) h in
        ap (λ k. take k l) (min-eq_right (omega arith)) ∙ take_length l ∙ sym (take_all most l (omega arith))

-- how long 'REFUSED number offset' is
pub refused_length : (n o : ℕ) → length (refusal_words n o) ≡ 9 + length (decimal n) + length (decimal o)
refused_length n o = omega (arith, length-append (decimal n) (fields (o ∷ [])), length-append (decimal o) [])

-- ---- the lines of the runs

-- one line more
rows_more :
    (place : ℕ) (runs : List Run) (r : Run)
    → rows_text place (runs ++ (r ∷ [])) ≡ rows_text place runs ++ line_text (Has.Run r) (place_text (place + length runs))
rows_more place [] r = append-nil (line_text (Has.Run r) (place_text place)) ∙ ap (λ n. line_text (Has.Run r) (place_text n)) (sym (add-zero place))
rows_more place (x ∷ runs) r =
    ap (λ (l : List ℕ). line_text (Has.Run x) (place_text place) ++ l) (rows_more (suc place) runs r)
    ∙ sym (append_assoc (line_text (Has.Run x) (place_text place)) (rows_text (suc place) runs) (line_text (Has.Run r) (place_text (suc place + length runs))))
    ∙ ap
    (λ n. (line_text (Has.Run x) (place_text place) ++ rows_text (suc place) runs) ++ line_text (Has.Run r) (place_text n))
    (omega arith)

pub rows_turn :
    (runs : List Run) (i : ℕ) → i < length runs
    → rows_text 0 (take (i + 1) runs) ≡ rows_text 0 (take i runs) ++ line_text (Has.Run (get_or runs i no_run)) (place_text i)
rows_turn runs i h =
    ap (λ (l : List Run). rows_text 0 l) (ap (λ n. take n runs) (add-one i) ∙ take-suc runs i no_run h)
    ∙ rows_more 0 (take i runs) (get_or runs i no_run)
    ∙ ap
    (λ n. rows_text 0 (take i runs) ++ line_text (Has.Run (get_or runs i no_run)) (place_text n))
    (zero-add (length (take i runs)) ∙ length-take-le i runs (omega arith))
