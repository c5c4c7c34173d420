-- Text stored in room that is lent: a byte before text, text after text, and what the room has then; what a text comes to that fits, and one
-- that does not. Assumes nothing.
use Prim.Native.Nat.{ℕ, suc, ◌+◌, ◌≤◌, ◌<◌}
use mathlib.Core.Path.{◌≡◌, refl, sym, ap, ap₂, ◌∙◌}
use mathlib.Core.Bool.{Bool, true, false, cond}
use mathlib.Core.List.{List, [], ◌∷◌, ◌++◌}
use Rattle.std.proofs.Common.{append_assoc}
use native.Mathlib.Nat.{add-zero}
use native.Mathlib.Omega.{arith}
use borrow.Author.Tests.{le-leb, lt-leb}
use lib.ListN.{length, take, drop, set, length-append}
use borrow.Rule.Slice.PartMut.{put_mid}
use lib.Seq.{drop-drop, sets, set_comm, sets-eq, length-sets}
use Rattle.text.specs.Room.{room_bytes, fits, stored, past, room_with}
use Rattle.text.specs.Parts.{roomy, Told, Stores, Wrote}
use Rattle.text.specs.declared.Writer.{Writer}

-- text after text is one text
pub sets_then : (room x y : List ℕ) (at : ℕ) → sets (sets room at x) (at + length x) y ≡ sets room at (x ++ y)
sets_then room [] y at = ap (λ n. sets room n y) (add-zero at)
sets_then room (b ∷ x) y at =
    let same : at + suc (length x) ≡ suc at + length x = omega arith in
    ap (λ n. sets (sets (set room at b) (suc at) x) n y) same ∙ sets_then (set room at b) x y (suc at)

-- a byte that is stored before text
pub sets_before : (room text : List ℕ) (at from byte : ℕ) → at < from → set (sets room from text) at byte ≡ sets (set room at byte) from text
sets_before room [] at from byte h = refl
sets_before room (b ∷ text) at from byte h =
    sets_before (set room from b) text at (suc from) byte (omega arith)
    ∙ ap (λ (l : List ℕ). sets l (suc from) text) (set_comm room from at b byte (λ e. omega arith))

-- ---- what was told

-- nothing
pub told_none : (room : List ℕ) (at most : ℕ) → Told room room at at [] most
told_none room at most = record { room = refl; past = sym (add-zero at); few = omega arith }

-- text after text
pub told_then :
    {a b c : List ℕ} {at m n : ℕ} {x y : List ℕ} {p q : ℕ} → Told a b at m x p → Told b c m n y q → Told a c at n (x ++ y) (p + q)
told_then {a = a} {at = at} {x = x} {y = y} first second =
    let long = length-append x y in
    record {
      room = second.room
          ∙ ap₂ (λ (l : List ℕ) (k : ℕ). sets l k y) first.room first.past
          ∙ sets_then a x y at;
      past = omega (arith, first.past, second.past);
      few = omega (arith, first.few, second.few);
    }

-- no more than so many bytes is no more than more of them
pub told_within : {a b : List ℕ} {at n : ℕ} {x : List ℕ} {p q : ℕ} → Told a b at n x p → p ≤ q → Told a b at n x q
told_within told h = record { room = told.room; past = told.past; few = omega (arith, told.few) }

-- ---- text at the start of the room

-- what is stored past a byte
sets_past : (room text : List ℕ) (old at : ℕ) → sets (old ∷ room) (suc at) text ≡ old ∷ sets room at text
sets_past room [] old at = refl
sets_past room (b ∷ text) old at = sets_past (set room at b) text old (suc at)

-- and past the end of the room
sets_none : (text : List ℕ) (at : ℕ) → sets [] at text ≡ []
sets_none [] at = refl
sets_none (b ∷ text) at = sets_none text (suc at)

-- text that is stored byte by byte from the start on is over the room's start
pub sets_start : (room text : List ℕ) → sets room 0 text ≡ room_with text room
sets_start room [] = refl
sets_start [] (b ∷ text) = sets_none text 1
sets_start (old ∷ room) (b ∷ text) = sets_past room text b 0 ∙ ap (λ (l : List ℕ). b ∷ l) (sets_start room text)

-- the room that has as many bytes as a text has the text at its start, and after it what it had
pub room_starts : (text room : List ℕ) → length text ≤ length room → room_with text room ≡ text ++ drop (length text) room
room_starts [] room h = refl
room_starts (b ∷ text) [] h = absurd (omega arith)
room_starts (b ∷ text) (old ∷ room) h = ap (λ (l : List ℕ). b ∷ l) (room_starts text room (omega arith))

-- it stays as long as it is
pub room_kept : (text room : List ℕ) → length (room_with text room) ≡ length room
room_kept [] room = refl
room_kept (b ∷ text) [] = refl
room_kept (b ∷ text) (old ∷ room) = ap suc (room_kept text room)

-- ---- a text that fits, and one that does not

pub past_fits : (at : ℕ) (text : List ℕ) → roomy at (length text) → past at text ≡ at + length text
past_fits at text h = ap (λ t. cond t (at + length text) at) (le-leb (at + length text) room_bytes h)

pub stored_fits : (room : List ℕ) (at : ℕ) (text : List ℕ) → roomy at (length text) → stored room at text ≡ sets room at text
stored_fits room at text h = ap (λ t. cond t (sets room at text) room) (le-leb (at + length text) room_bytes h)

pub past_not : (at : ℕ) (text : List ℕ) → room_bytes < at + length text → past at text ≡ at
past_not at text h = ap (λ t. cond t (at + length text) at) (lt-leb (at + length text) room_bytes h)

pub stored_not : (room : List ℕ) (at : ℕ) (text : List ℕ) → room_bytes < at + length text → stored room at text ≡ room
stored_not room at text h = ap (λ t. cond t (sets room at text) room) (lt-leb (at + length text) room_bytes h)

-- what a contract of src/ says of a text, of no more bytes than there is room for: it was told
pub told_stored :
    (room : List ℕ) (at : ℕ) (text : List ℕ) (most : ℕ) {next : ℕ} {after : List ℕ} → roomy at most → length text ≤ most
    → (next ≡ past at text) × (after ≡ stored room at text) → Told room after at next text most
told_stored room at text most h few said =
    record {
      room = said.1 ∙ stored_fits room at text (omega arith);
      past = said.0 ∙ past_fits at text (omega arith);
      few = few;
    }

-- ---- what a writer wrote

-- a text of no more than so many bytes
pub wrote : {a b : Writer} {text : List ℕ} (most : ℕ) → Stores a b text → length text ≤ most → Wrote a b text most
wrote {a} {b} {text} most said few =
    record { told = λ h. told_stored a.room.now a.at text most h few (said.past, said.room); same = said.same }

-- text after text
pub wrote_then : {a b c : Writer} {x y : List ℕ} {p q : ℕ} → Wrote a b x p → Wrote b c y q → Wrote a c (x ++ y) (p + q)
wrote_then {p = p} first second =
    record {
      told =
          λ h.
          let told = first.told (omega arith) in
          told_then told (second.told (omega (arith, told.past, told.few)));
      same = second.same ∙ first.same;
    }

-- no more than so many bytes is no more than more of them
pub wrote_within : {a b : Writer} {x : List ℕ} {p q : ℕ} → Wrote a b x p → p ≤ q → Wrote a b x q
wrote_within said h = record { told = λ r. told_within (said.told (omega arith)) h; same = said.same }

-- text from the start of the room on is over its start, and fits it
pub wrote_start :
    {a b : Writer} {x : List ℕ} {p : ℕ} → a.at ≡ 0 → p ≤ room_bytes → Wrote a b x p
    → (b.at ≡ length x) × ((b.room.now ≡ room_with x a.room.now) × (b.at ≤ room_bytes))
wrote_start {a} {b} {x} e h said =
    let told = said.told (omega arith) in
    (omega (arith, told.past), (told.room ∙ ap (λ n. sets a.room.now n x) e ∙ sets_start a.room.now x, omega (arith, told.past, told.few)))

-- the text stands at the offset, and all else is as it was
pub stands :
    (room : List ℕ) (at : ℕ) (text : List ℕ) → length room ≡ room_bytes → roomy at (length text)
    → stored room at text ≡ take at room ++ text ++ drop (at + length text) room
stands room at text long h = stored_fits room at text h ∙ sets-eq text room at (omega arith)

-- a text that is copied into that part of the room is stored there
pub stored_over :
    (room part text : List ℕ) (at long : ℕ) → length room ≡ room_bytes → roomy at (length text) → part ≡ text → long ≡ length text
    → put_mid at long room part ≡ stored room at text
stored_over room part text at long whole h e f =
    ap₂ (λ (l : List ℕ) (m : ℕ). put_mid at m room l) e f
    ∙ sym (append_assoc (take at room) text (drop (length text) (drop at room)))
    ∙ ap (λ (l : List ℕ). take at room ++ text ++ l) (drop-drop (length text) at room)
    ∙ sym (stands room at text whole h)

-- the room stays as long as it is, whatever the text
pub stored_kept : (room : List ℕ) (at : ℕ) (text : List ℕ) → length (stored room at text) ≡ length room
stored_kept room at text = go (fits at text)
  where
    go : (t : Bool) → length (cond t (sets room at text) room) ≡ length room
    go true = length-sets room at text
    go false = refl

-- text after text that fits with it is one text
pub past_then : (at : ℕ) (x y : List ℕ) → roomy at (length x + length y) → past (past at x) y ≡ past at (x ++ y)
past_then at x y h =
    let long = length-append x y in
    ap (λ n. past n y) (past_fits at x (omega arith))
    ∙ past_fits (at + length x) y (omega arith)
    ∙ (omega arith)
    ∙ sym (past_fits at (x ++ y) (omega arith))

pub stored_then :
    (room : List ℕ) (at : ℕ) (x y : List ℕ) → roomy at (length x + length y)
    → stored (stored room at x) (past at x) y ≡ stored room at (x ++ y)
stored_then room at x y h =
    let long = length-append x y in
    ap₂ (λ (l : List ℕ) n. stored l n y) (stored_fits room at x (omega arith)) (past_fits at x (omega arith))
    ∙ stored_fits (sets room at x) (at + length x) y (omega arith)
    ∙ sets_then room x y at
    ∙ sym (stored_fits room at (x ++ y) (omega arith))

-- from the start on it is over the room's start
pub stored_start : (room text : List ℕ) → length text ≤ room_bytes → stored room 0 text ≡ room_with text room
stored_start room text h = stored_fits room 0 text (omega arith) ∙ sets_start room text
