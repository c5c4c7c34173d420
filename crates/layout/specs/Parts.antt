-- What the private functions of src/ are held to; for readers of those alone. Assumes nothing.
use Rattle.std.specs.Prelude.{ℕ, ◌-◌, ◌≡◌, Result, Ok, Err, List, ◌++◌, map, length, take, replicate}
use Rattle.std.proofs.Common.{Bor}
use Rattle.layout.specs.declared.faults.Fault.{Fault}
use Rattle.state.specs.SetUp.{asked_of}
use Rattle.layout.specs.declared.plan.Plan as Coded
use Rattle.layout.specs.declared.WrongLine.{WrongLine}
use Rattle.layout.specs.Layout.{request_in, Saying, wrong, says, Plan, Taken, Fields, with_value, faulty, fields_in}
use Rattle.layout.specs.Faults.{fault_number, fault_in, stage_number}

-- ---- the words and numbers of a line

-- the numbers of a line, as the code has them
abbrev pub most_labels : ℕ
most_labels = 6

abbrev pub padded : List ℕ → List ℕ
padded numbers = numbers ++ replicate (most_labels - length numbers) 0

-- what a field says before the later ones
abbrev pub field_said : Result (ℕ × Bor (List ℕ)) Fault → List ℕ → Fields
field_said (Ok x) later = with_value x.0 (fields_in later x.1.now)
field_said (Err fault) later = faulty (fault_number fault)

-- numbers before those of later fields
abbrev pub before : List ℕ → Fields → Fields
before numbers x = record { fault = x.fault; values = numbers ++ x.values }

-- what the words and numbers of a line are
abbrev pub FieldsSaid : Result (List ℕ) Fault → Fields → Type 0
FieldsSaid (Ok values) x = (x.fault ≡ 0) × (values ≡ padded x.values)
FieldsSaid (Err fault) x = x.fault ≡ fault_number fault

-- ---- what has been said so far

-- what the code's plan means: the first n stations and the first `count` arrivals
abbrev pub plan_of : Coded.Plan → Plan
plan_of p =
    record {
      stage = stage_number p.stage;
      settings = p.settings;
      asked = map asked_of (take p.settings.n p.stations);
      arrivals = take p.count p.arrivals;
      steps = p.steps;
    }

-- what becomes of it by a line
abbrev pub taken_of : {X : Type 0} → Result X Fault → Coded.Plan → Taken
taken_of outcome p = record { fault = fault_in outcome; plan = plan_of p }

-- what has been read says
abbrev pub saying_of : Result Coded.Plan WrongLine → Saying
saying_of (Ok p) = says (request_in (plan_of p)) (plan_of p).arrivals p.steps
saying_of (Err w) = wrong w.line w.fault
