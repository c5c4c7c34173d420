-- Each contract says all of the result and of the room: two that meet it are equal, whatever the arguments. A line for each, by what the
-- function's own contract says. The room is the last parameter of each function. Assumes nothing.
use Rattle.window.specs.Determined.{Determines, DeterminesBytes}
use Rattle.window.proofs.Unique.{unique}
use Rattle.page.proofs.heading.Reads as heading
use Rattle.page.proofs.line.Reads as line
use Rattle.page.proofs.closing.Reads as closing
use Rattle.page.proofs.write.Reads as write

pub heading_determined : Determines heading.Learnt
heading_determined κs args r r' end end' p q = unique p.0 q.0

pub heading_room_determined : DeterminesBytes heading.Learnt (λ κs end. end.0.now)
heading_room_determined κs args r r' end end' p q = unique p.1.0 q.1.0

pub line_determined : Determines line.Learnt
line_determined κs args r r' end end' p q = unique p.0 q.0

pub line_room_determined : DeterminesBytes line.Learnt (λ κs end. end.1.1.0.now)
line_room_determined κs args r r' end end' p q = unique p.1.0 q.1.0

pub closing_determined : Determines closing.Learnt
closing_determined κs args r r' end end' p q = unique p.0 q.0

pub closing_room_determined : DeterminesBytes closing.Learnt (λ κs end. end.1.1.1.0.now)
closing_room_determined κs args r r' end end' p q = unique p.1.0 q.1.0

pub write_determined : Determines write.Learnt
write_determined κs args r r' end end' p q = unique p.0 q.0

pub write_room_determined : DeterminesBytes write.Learnt (λ κs end. end.1.0.now)
write_room_determined κs args r r' end end' p q = unique p.1.0 q.1.0
