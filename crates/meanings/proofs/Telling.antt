-- The text of a refused scenario, from what the calls write; and offsets within room that is lent, for callers. Assumes nothing.
use Prim.Native.Nat.{ℕ, ◌+◌, ◌≤◌, min}
use mathlib.Core.Path.{◌≡◌, refl, sym, ap, subst, ◌∙◌}
use mathlib.Core.Bool.{Bool, true, false, cond}
use mathlib.Core.Logic.{◌≢◌}
use mathlib.Core.List.{List, [], ◌++◌, append-nil}
use native.Mathlib.Omega.{arith}
use borrow.Author.Tests.{leb-true, eq-eqb, ne_eqb}
use lib.Dec.{leb}
use lib.ListN.{length, take}
use lib.Seq.{length-take-le}
use Rattle.text.specs.Room.{room_bytes, stored, past, room_with}
use Rattle.text.specs.Parts.{Wrote}
use Rattle.text.specs.declared.Writer.{Writer}
use Rattle.text.proofs.Stores.{stored_kept, room_kept}
use Rattle.meanings.specs.Refused.{number_text, record_text, refused_text}

-- the same text in another form
pub wrote_as : {a b : Writer} {x y : List ℕ} {p : ℕ} → Wrote a b x p → x ≡ y → Wrote a b y p
wrote_as {a} {b} {p = p} said e = subst (λ (z : List ℕ). Wrote a b z p) e said

-- ---- the text of a refused scenario

-- of one that is too long
pub too_long : (input : List ℕ) (number offset : ℕ) → number ≡ 22 → number_text number ≡ refused_text input number offset
too_long input number offset e =
    sym (append-nil (number_text number))
    ∙ ap (λ t. number_text number ++ cond t [] (record_text input (min offset (length input)))) (sym (eq-eqb number 22 e))

-- of any other
pub of_a_record :
    (input : List ℕ) (number offset : ℕ) {at : ℕ} → number ≢ 22 → at ≡ min offset (length input)
    → number_text number ++ record_text input at ≡ refused_text input number offset
of_a_record input number offset e f =
    ap (λ k. number_text number ++ record_text input k) f
    ∙ ap (λ t. number_text number ++ cond t [] (record_text input (min offset (length input)))) (sym (ne_eqb number 22 e))

-- ---- for callers

-- an offset is within the room, which has all its bytes
pub record Within (room : List ℕ) (at : ℕ) : Type 0 where
  pub long : room_bytes ≡ length room
  pub inside : at ≤ room_bytes

-- its start is
pub room_start : (room : List ℕ) → room_bytes ≡ length room → Within room 0
room_start room long = record { long = long; inside = omega arith }

-- whatever is stored from such an offset on, so is the offset past it
pub stored_within :
    {room : List ℕ} {at : ℕ} (text : List ℕ) {after : List ℕ} {next : ℕ} → Within room at
    → (next ≡ past at text) × (after ≡ stored room at text) → Within after next
stored_within {room} {at} text {next = next} h said =
    record {
      long = h.long ∙ sym (ap length said.1 ∙ stored_kept room at text);
      inside = go (leb (at + length text) room_bytes) refl said.0;
    }
  where
    go : (t : Bool) → leb (at + length text) room_bytes ≡ t → next ≡ cond t (at + length text) at → next ≤ room_bytes
    go true fits e = omega (arith, leb-true (at + length text) room_bytes fits)
    go false fits e = omega (arith, h.inside)

-- and so is the end of what stands at the room's start
pub start_within :
    (text room : List ℕ) {after : List ℕ} {next : ℕ} → room_bytes ≡ length room
    → (next ≡ length text) × ((after ≡ room_with text room) × (next ≤ room_bytes)) → Within after next
start_within text room long said = record { long = long ∙ sym (ap length said.1.0 ∙ room_kept text room); inside = said.1.1 }

-- the part before it is there, and has as many bytes
pub part_there : {room : List ℕ} {at : ℕ} → Within room at → at ≤ length room
part_there h = omega (arith, h.long, h.inside)

pub part_length : {room : List ℕ} {at : ℕ} → Within room at → at ≡ length (take at room)
part_length {room} {at} h = sym (length-take-le at room (part_there h))
