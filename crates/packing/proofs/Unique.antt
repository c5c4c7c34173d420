-- Each contract says all of the result and of the room: two that meet it are equal, whatever the arguments. A line for each, by what the
-- function's own contract says. The room is the first parameter. Assumes nothing.
use Rattle.window.specs.Determined.{Determines, DeterminesBytes}
use Rattle.window.proofs.Unique.{unique}
use Rattle.packing.proofs.set_up.Reads as set_up_call
use Rattle.packing.proofs.station.Reads as station
use Rattle.packing.proofs.arrival.Reads as arrival
use Rattle.packing.proofs.run.Reads as run
use Rattle.packing.proofs.stations.Reads as stations
use Rattle.packing.proofs.ending.Reads as ending

pub set_up_determined : Determines set_up_call.Learnt
set_up_determined κs args r r' end end' p q = unique p.0 q.0

pub set_up_room_determined : DeterminesBytes set_up_call.Learnt (λ κs end. end.0.now)
set_up_room_determined κs args r r' end end' p q = unique p.1 q.1

pub station_determined : Determines station.Learnt
station_determined κs args r r' end end' p q = unique p.0 q.0

pub station_room_determined : DeterminesBytes station.Learnt (λ κs end. end.0.now)
station_room_determined κs args r r' end end' p q = unique p.1 q.1

pub arrival_determined : Determines arrival.Learnt
arrival_determined κs args r r' end end' p q = unique p.0 q.0

pub arrival_room_determined : DeterminesBytes arrival.Learnt (λ κs end. end.0.now)
arrival_room_determined κs args r r' end end' p q = unique p.1 q.1

pub run_determined : Determines run.Learnt
run_determined κs args r r' end end' p q = unique p.0 q.0

pub run_room_determined : DeterminesBytes run.Learnt (λ κs end. end.0.now)
run_room_determined κs args r r' end end' p q = unique p.1 q.1

pub stations_determined : Determines stations.Learnt
stations_determined κs args r r' end end' p q = unique p.0 q.0

pub stations_room_determined : DeterminesBytes stations.Learnt (λ κs end. end.0.now)
stations_room_determined κs args r r' end end' p q = unique p.1 q.1

pub ending_determined : Determines ending.Learnt
ending_determined κs args r r' end end' p q = unique p.0 q.0

pub ending_room_determined : DeterminesBytes ending.Learnt (λ κs end. end.0.now)
ending_room_determined κs args r r' end end' p q = unique p.1 q.1
