-- The loop's invariant: the ending is that of the arrivals from here on.
use Rattle.std.proofs.Common.{suc, ◌-◌, ◌≡◌, length, drop}
use Rattle.scenario.specs.Reading.{arrivals_from}
use Rattle.scenario.specs.Parts.{ending_form, ending_at}
use Rattle.scenario.proofs.pass_arrivals.Given as goal

abbrev pub invariant-loop-arrival : goal.invariant-loop-arrival
invariant-loop-arrival l = ending_form (ending_at l.input l.from) ≡ ending_form (arrivals_from (suc (length l.input)) l.previous.0 l.at (drop l.at l.input))

abbrev pub decreases-loop-arrival : goal.decreases-loop-arrival
decreases-loop-arrival l = length l.input - l.at
