-- Storing a text part by part: what is left of it, and that storing the rest comes to storing the whole. Assumes nothing.
use Prim.Native.Nat.{ℕ, ◌+◌, ◌<◌}
use mathlib.Core.Path.{◌≡◌, refl, sym, ap, ap₂, ◌∙◌}
use mathlib.Core.List.{List, [], ◌∷◌, ◌++◌}
use native.Mathlib.Nat.{add-zero}
use native.Mathlib.Numerals.{add-one}
use native.Mathlib.Omega.{arith}
use lib.ListN.{length, get_or, drop, length-append}
use lib.Seq.{drop-cons}
use Rattle.text.specs.Room.{room_bytes, stored, past}
use Rattle.text.specs.Parts.{roomy}
use Rattle.text.proofs.Stores.{past_fits, stored_fits, past_not, stored_not, past_then, stored_then}
use Rattle.rules.specs.SetUp.{Request}
use Rattle.state.specs.declared.Arrival.{Arrival}
use Rattle.scenario.specs.Format.{set_up_kind}
use Rattle.scenario.specs.Writing.{record_bytes, set_up_values, stations_bytes, ending_bytes, written}

-- a text that does not fit: the offset and the room as they were
pub none_stored :
    (room : List ℕ) (at : ℕ) (text : List ℕ) → room_bytes < at + length text → (at ≡ past at text) × (room ≡ stored room at text)
none_stored room at text h = (sym (past_not at text h), sym (stored_not room at text h))

-- a text is being stored in a room from an offset on, and a rest of it, which fits, is left: the rest, stored in the room as it is now from the
-- next offset on, leaves the room and the offset that the whole text does
pub record Left (before : List ℕ) (at : ℕ) (text now : List ℕ) (next : ℕ) (rest : List ℕ) : Type 0 where
  pub fits : roomy next (length rest)
  pub offset : past next rest ≡ past at text
  pub room : stored now next rest ≡ stored before at text

-- first all of it
pub left_all : (room : List ℕ) (at : ℕ) (text : List ℕ) → roomy at (length text) → Left room at text room at text
left_all room at text h = record { fits = h; offset = refl; room = refl }

-- a part less, once it is stored
pub left_less :
    {before : List ℕ} {at : ℕ} {text now : List ℕ} {next : ℕ} (x rest : List ℕ) {later : ℕ} {after : List ℕ}
    → Left before at text now next (x ++ rest) → (later ≡ past next x) × (after ≡ stored now next x) → Left before at text after later rest
left_less {now = now} {next = next} x rest left said =
    let long = length-append x rest in
    let h : roomy next (length x + length rest) = omega (arith, left.fits) in
    record {
      fits = omega (arith, said.0, past_fits next x (omega arith));
      offset = rw said.0 (past_then next x rest h ∙ left.offset);
      room = ap₂ (λ (l : List ℕ) n. stored l n rest) said.1 said.0 ∙ stored_then now next x rest h ∙ left.room;
    }

-- the last part
pub left_last :
    {before : List ℕ} {at : ℕ} {text now : List ℕ} {next : ℕ} {rest : List ℕ} {later : ℕ} {after : List ℕ} → Left before at text now next rest
    → (later ≡ past next rest) × (after ≡ stored now next rest) → (later ≡ past at text) × (after ≡ stored before at text)
left_last left said = (said.0 ∙ left.offset, said.1 ∙ left.room)

-- nothing
pub left_none :
    {before : List ℕ} {at : ℕ} {text now : List ℕ} {next : ℕ} → Left before at text now next []
    → (next ≡ past at text) × (now ≡ stored before at text)
left_none {now = now} {next = next} left =
    left_last left (sym (past_fits next [] left.fits ∙ add-zero next), sym (stored_fits now next [] left.fits))

-- what is left of a row from a place on: the element there, and what is left from the next place on
pub next_left : {A : Type 0} (row : List A) (i : ℕ) (d : A) → i < length row → drop i row ≡ get_or row i d ∷ drop (i + 1) row
next_left row i d h = drop-cons row i d h ∙ ap (λ k. get_or row i d ∷ drop k row) (sym (add-one i))

-- ---- a whole scenario

-- its set-up, its stations and its ending, each stored past the one before, are the whole, which fits
pub whole_stored :
    (room : List ℕ) (at : ℕ) (r : Request) (arrivals : List Arrival) (steps : ℕ) {m n o : ℕ} {a b c : List ℕ}
    → roomy at (length (written r arrivals steps))
    → (m ≡ past at (record_bytes set_up_kind (set_up_values r))) × (a ≡ stored room at (record_bytes set_up_kind (set_up_values r)))
    → (n ≡ past m (stations_bytes r.row)) × (b ≡ stored a m (stations_bytes r.row))
    → (o ≡ past n (ending_bytes arrivals steps)) × (c ≡ stored b n (ending_bytes arrivals steps))
    → (o ≡ past at (written r arrivals steps)) × (c ≡ stored room at (written r arrivals steps))
whole_stored room at r arrivals steps h first second third =
    let all = left_all room at (written r arrivals steps) h in
    let listed = left_less (record_bytes set_up_kind (set_up_values r)) (stations_bytes r.row ++ ending_bytes arrivals steps) all first in
    left_last (left_less (stations_bytes r.row) (ending_bytes arrivals steps) listed second) third
