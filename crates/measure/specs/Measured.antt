-- A run measured (P2): from the bytes of a scenario to its finished run, or to the number and the offset of what refuses it. The counts are those
-- of the rules' machine at the run's end, and the longest wait is over its answers. Assumes nothing.
use Rattle.std.specs.Prelude.{ℕ, ◌<◌, max, Bool, cond, List, [], ◌∷◌, eqb, Result, Ok, Err}
use Rattle.rules.specs.Bus.{Bus, waiting}
use Rattle.rules.specs.SetUp.{set_up}
use Rattle.rules.specs.Probe.{Answer, success}
use Rattle.scenario.specs.Reading.{Numbered, Reading, refused, accepted, reading}
use Rattle.listing.specs.Run.{answers_of, end_of}
use Rattle.sheet.specs.declared.Run.{Run}
use Rattle.sheet.specs.Sheet.{no_run, Balanced}

-- whether an answer tells of a success
abbrev pub succeeded : Answer → Bool
succeeded a = eqb a.event success

-- the wait of a success, and 0 of any other answer
abbrev pub wait_in : Answer → ℕ
wait_in a = cond (succeeded a) a.wait 0

-- the longer of two waits
unfoldable pub longer : ℕ → ℕ → ℕ
longer first second = max first second

-- the longest wait of a success, and 0 if there is none
abbrev pub longest_wait : List Answer → ℕ
longest_wait [] = 0
longest_wait (a ∷ later) = longer (wait_in a) (longest_wait later)

-- the run that has come to a bus, with a longest wait
abbrev pub run_of : Bus → ℕ → Run
run_of b wait =
    record { admitted = b.admitted; sent = b.sent; lost = b.lost; waiting = waiting b.stations; turned = b.turned; wait = wait }

-- a finished run, from the bus at its end and the answers to its steps
abbrev pub finished : Bus → List Answer → Run
finished b answers = run_of b (longest_wait answers)

-- 'A refused scenario': its number and offset, and no run
abbrev pub measured_of : Reading → Result Run Numbered
measured_of (refused number offset) = Err (record { number = number; offset = offset })
measured_of (accepted r arrivals steps) = Ok (finished (end_of steps (set_up r).1 arrivals) (answers_of steps (set_up r).1 arrivals))

-- a scenario measured
abbrev pub measured : List ℕ → Result Run Numbered
measured input = measured_of (reading input)

-- its run; of a refused scenario, no run
abbrev pub run_in : Result Run Numbered → Run
run_in (Ok x) = x
run_in (Err e) = no_run

-- a run that a sheet can have: it balances, and each of its numbers has 32 bits
pub record Fits (x : Run) : Type 0 where
  pub balanced : Balanced x
  pub admitted : x.admitted < 4_294_967_296
  pub sent : x.sent < 4_294_967_296
  pub lost : x.lost < 4_294_967_296
  pub waiting : x.waiting < 4_294_967_296
  pub turned : x.turned < 4_294_967_296
  pub wait : x.wait < 4_294_967_296
