-- Each contract says all of the result: two results that meet it are equal, whatever the arguments. A line for each exported function, by
-- what its own contract says. Assumes nothing.
use Rattle.window.specs.Determined.{Determines}
use Rattle.window.proofs.Unique.{unique}
use Rattle.bus.proofs.U32FromPhase.from.Reads as phase_number
use Rattle.bus.proofs.U32FromEvent.from.Reads as event_number
use Rattle.bus.proofs.admit.Reads as admit
use Rattle.bus.proofs.begin.Reads as begin
use Rattle.bus.proofs.probe.Reads as probe
use Rattle.bus.proofs.step.Reads as step
use Rattle.bus.proofs.play.Reads as play
use Rattle.bus.proofs.closing.Reads as closing

pub admit_determined : Determines admit.Learnt
admit_determined κs args r r' end end' = unique

pub begin_determined : Determines begin.Learnt
begin_determined κs args r r' end end' = unique

pub probe_determined : Determines probe.Learnt
probe_determined κs args r r' end end' = unique

pub step_determined : Determines step.Learnt
step_determined κs args r r' end end' = unique

pub play_determined : Determines play.Learnt
play_determined κs args r r' end end' = unique

pub closing_determined : Determines closing.Learnt
closing_determined κs args r r' end end' = unique

pub phase_number_determined : Determines phase_number.Learnt
phase_number_determined κs args r r' end end' = unique

pub event_number_determined : Determines event_number.Learnt
event_number_determined κs args r r' end end' = unique
