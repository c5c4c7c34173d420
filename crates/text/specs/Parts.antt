-- What private functions that write text are held to, in the crates that stand on this one; for readers of those alone. Assumes nothing.
use Rattle.std.specs.Prelude.{ℕ, ◌+◌, ◌≤◌, ◌≡◌, List, length}
use Rattle.std.proofs.lemmas.List.Edits.{sets}
use Rattle.text.specs.Room.{room_bytes, stored, past}
use Rattle.text.specs.declared.Writer.{Writer}

-- the room has so many bytes from an offset on
abbrev pub roomy : ℕ → ℕ → Type 0
roomy at most = at + most ≤ room_bytes

-- a text, of no more than so many bytes, was stored in the room byte by byte from an offset on; the next offset is past it
pub record Told (before after : List ℕ) (at next : ℕ) (text : List ℕ) (most : ℕ) : Type 0 where
  pub room : after ≡ sets before at text
  pub past : next ≡ at + length text
  pub few : length text ≤ most

-- a writer has stored a text in its room, and stands past it; one that does not fit is not stored at all. It is the same room that it holds.
pub record Stores (before after : Writer) (text : List ℕ) : Type 0 where
  pub room : after.room.now ≡ stored before.room.now before.at text
  pub past : after.at ≡ past before.at text
  pub same : after.room.ghost_name ≡ before.room.ghost_name

-- the same of a text of no more than so many bytes, wherever the room has space for so many: a text byte by byte
pub record Wrote (before after : Writer) (text : List ℕ) (most : ℕ) : Type 0 where
  pub told : roomy before.at most → Told before.room.now after.room.now before.at after.at text most
  pub same : after.room.ghost_name ≡ before.room.ghost_name
