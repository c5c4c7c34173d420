-- The loop's invariant: what the text says is what the lines that are left make of the plan.
use Rattle.std.proofs.Common.{ℕ, ◌+◌, ◌≤◌, ◌≡◌, List, length}
use Rattle.words.specs.Words.{lines_of}
use Rattle.layout.specs.declared.plan.Plan as Coded
use Rattle.layout.specs.Layout.{layout_says, read_lines}
use Rattle.layout.specs.Parts.{plan_of}
use Rattle.layout.proofs.read_lines.Given as goal

-- what a turn begins with
pub record Going (text rest : List ℕ) (plan : Coded.Plan) (line : ℕ) : Type 0 where
  pub few : line + length rest ≤ length text
  pub left : layout_says text ≡ read_lines line (plan_of plan) (lines_of rest)

abbrev pub invariant-loop-fault : goal.invariant-loop-fault
invariant-loop-fault l = Going l.text l.rest l.plan l.line

abbrev pub decreases-loop-fault : goal.decreases-loop-fault
decreases-loop-fault l = length l.rest
