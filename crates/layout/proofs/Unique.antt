-- Each contract says all of the result and of the room: two that meet it are equal, whatever the arguments. A line for each, by what the
-- function's own contract says. The room is the second parameter of `read`. Assumes nothing.
use Rattle.std.specs.Prelude.{◌≡◌}
use Rattle.window.specs.Determined.{Determines, DeterminesBytes}
use Rattle.window.proofs.Unique.{unique}
use Rattle.layout.proofs.read.Reads as read
use Rattle.layout.proofs.word_of.Reads as word_of

pub read_determined : Determines read.Learnt
read_determined κs args r r' end end' p q = unique p.0 q.0

pub read_room_determined : DeterminesBytes read.Learnt (λ κs end. end.1.0.now)
read_room_determined κs args r r' end end' p q = unique p.1.0 q.1.0

-- the letters of the word that is handed out by reference
pub word_of_determined :
    (κs : _) (args : _) (r r' : _) (end end' : _) → word_of.Learnt κs args r end → word_of.Learnt κs args r' end' → r.now ≡ r'.now
word_of_determined κs args r r' end end' = unique
