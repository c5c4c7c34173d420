-- The contract of `show` says all of the result and of the room: two that meet it are equal, whatever the arguments. The room is the third
-- parameter. Assumes nothing.
use Rattle.window.specs.Determined.{Determines, DeterminesBytes}
use Rattle.window.proofs.Unique.{unique}
use Rattle.shown.proofs.show.Reads as show

pub show_determined : Determines show.Learnt
show_determined κs args r r' end end' p q = unique p.0 q.0

pub show_room_determined : DeterminesBytes show.Learnt (λ κs end. end.1.1.0.now)
show_room_determined κs args r r' end end' p q = unique p.1.0 q.1.0
