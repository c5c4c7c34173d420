-- Each contract says all of the result and of the room: two that meet it are equal, whatever the arguments. A line for each, by what the
-- function's own contract says. The room is the first parameter of `meaning`, and the last of `refused`. Assumes nothing.
use Rattle.window.specs.Determined.{Determines, DeterminesBytes}
use Rattle.window.proofs.Unique.{unique}
use Rattle.meanings.proofs.meaning.Reads as meaning
use Rattle.meanings.proofs.refused.Reads as refused

pub meaning_determined : Determines meaning.Learnt
meaning_determined κs args r r' end end' p q = unique p.0 q.0

pub meaning_room_determined : DeterminesBytes meaning.Learnt (λ κs end. end.0.now)
meaning_room_determined κs args r r' end end' p q = unique p.1 q.1

pub refused_determined : Determines refused.Learnt
refused_determined κs args r r' end end' p q = unique p.0 q.0

pub refused_room_determined : DeterminesBytes refused.Learnt (λ κs end. end.1.1.1.0.now)
refused_room_determined κs args r r' end end' p q = unique p.1.0 q.1.0
