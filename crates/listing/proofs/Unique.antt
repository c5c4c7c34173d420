-- Each contract says all of the result and of the room: two that meet it are equal, whatever the arguments. A line for each, by what the
-- function's own contract says. The room is the second parameter of `open` and the third of `next`. Assumes nothing.
use Rattle.window.specs.Determined.{Determines, DeterminesBytes}
use Rattle.window.proofs.Unique.{unique}
use Rattle.listing.proofs.«open».Reads as «open»
use Rattle.listing.proofs.gather.Reads as gather
use Rattle.listing.proofs.next.Reads as next

pub open_determined : Determines «open».Learnt
open_determined κs args r r' end end' p q = unique p.0 q.0

pub open_room_determined : DeterminesBytes «open».Learnt (λ κs end. end.1.0.now)
open_room_determined κs args r r' end end' p q = unique p.1.0 q.1.0

pub gather_determined : Determines gather.Learnt
gather_determined κs args r r' end end' = unique

pub next_determined : Determines next.Learnt
next_determined κs args r r' end end' p q = unique p.0 q.0

pub next_room_determined : DeterminesBytes next.Learnt (λ κs end. end.1.1.0.now)
next_room_determined κs args r r' end end' p q = unique p.1.0 q.1.0
