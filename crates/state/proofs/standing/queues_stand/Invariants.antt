-- The loops' invariants: the test is what is left of it at place i, behind the numbers before it; and those of the packets gone through stand
-- behind them.
use Rattle.std.proofs.Common.{◌+◌, ◌≤◌, ◌*◌, ◌≡◌, length, take}
use lib.Seq.{paste}
use Rattle.rules.specs.Bus.{numbers_in}
use Rattle.state.specs.Parts.{queues_sound}
use Rattle.state.proofs.StandingParts.{from_place}
use Rattle.state.proofs.standing.queues_stand.Given as goal

abbrev pub invariant-loop-p : goal.invariant-loop-p
invariant-loop-p l = (l.waiting ≡ l.initial.waiting + l.p-index)
    × (l.numbers ≡ paste l.initial.numbers l.initial.waiting (numbers_in l.p-items) l.p-index)

abbrev pub invariant-loop-i : goal.invariant-loop-i
invariant-loop-i l = (l.waiting ≤ 16 * l.i) × (length l.numbers ≡ 1024) × (queues_sound l.g l.queues ≡ from_place l.g l.queues (take l.waiting l.numbers) l.i)
