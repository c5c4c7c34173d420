-- The room that is lent for text, and what it holds when a text has been stored in it. Assumes nothing.
use Rattle.std.specs.Prelude.{ℕ, ◌+◌, Bool, cond, List, [], ◌∷◌, leb, length}
use Rattle.std.proofs.lemmas.List.Edits.{sets}

-- the bytes of the room
abbrev pub room_bytes : ℕ
room_bytes = 65536

-- whether a text fits the room from an offset on
abbrev pub fits : ℕ → List ℕ → Bool
fits at text = leb (at + length text) room_bytes

-- the room with a text stored byte by byte from an offset on; one that does not fit is not stored at all
abbrev pub stored : List ℕ → ℕ → List ℕ → List ℕ
stored room at text = cond (fits at text) (sets room at text) room

-- the offset past the text; of one that does not fit, the offset as it was
abbrev pub past : ℕ → List ℕ → ℕ
past at text = cond (fits at text) (at + length text) at

-- the room with a text over its start, and the rest as it was
abbrev pub room_with : List ℕ → List ℕ → List ℕ
room_with [] room = room
room_with (byte ∷ text) [] = []
room_with (byte ∷ text) (old ∷ room) = byte ∷ room_with text room
