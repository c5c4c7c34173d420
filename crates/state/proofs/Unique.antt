-- Each contract says all of the result: two results that meet it are equal, whatever the arguments. A line for each exported function, by
-- what its own contract says. Assumes nothing.
use Rattle.window.specs.Determined.{Determines}
use Rattle.window.proofs.Unique.{unique}
use Rattle.state.proofs.all_zero.Reads as all-zero
use Rattle.state.proofs.settings_refusal.Reads as settings-refusal
use Rattle.state.proofs.set_up.Reads as set_up_call
use Rattle.state.proofs.standing.stands.Reads as stands
use Rattle.state.proofs.standing.waiting_in.Reads as waiting_in

pub all_zero_determined : Determines all-zero.Learnt
all_zero_determined κs args r r' end end' = unique

pub settings_refusal_determined : Determines settings-refusal.Learnt
settings_refusal_determined κs args r r' end end' = unique

pub set_up_determined : Determines set_up_call.Learnt
set_up_determined κs args r r' end end' = unique

pub stands_determined : Determines stands.Learnt
stands_determined κs args r r' end end' = unique

pub waiting_in_determined : Determines waiting_in.Learnt
waiting_in_determined κs args r r' end end' = unique
