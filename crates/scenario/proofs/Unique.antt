-- Each contract says all of the result: two results that meet it are equal, whatever the arguments. A line for each exported function, by
-- what its own contract says. Assumes nothing.
use mathlib.Core.Path.{◌≡◌, refl, sym, ap, ◌∙◌}
use mathlib.Core.Bool.{cond}
use lib.Dec.{eqb}
use lib.ListN.{get_or}
use Rattle.std.specs.Prelude.{Result, Ok, Err}
use Rattle.rules.specs.declared.Refusal.{Refusal}
use Rattle.window.specs.Determined.{Determines}
use Rattle.window.proofs.Unique.{unique}
use Rattle.scenario.specs.Format.{Record, Said, said}
use Rattle.scenario.specs.declared.Record.TheVariants as Is
use Rattle.scenario.specs.Reading.{settings_from, arrival_from, steps_from}
use Rattle.scenario.proofs.Refusals.{refusal_of, refusal_number, by_number_injective}
use Rattle.scenario.proofs.record_at.Reads as record_at
use Rattle.scenario.proofs.read.Reads as read

-- The answer that says this.
abbrev saying : Said → Result Record Refusal
saying x =
    cond (eqb x.kind 0) (Err (refusal_of x.refusal))
    (cond (eqb x.kind 1) (Ok (Is.SetUp (settings_from x.values)))
    (cond (eqb x.kind 2)
    (Ok (Is.Station (record { address = record { 0 = get_or x.values 0 0 }; capability = record { 0 = get_or x.values 1 0 } })))
    (cond (eqb x.kind 3) (Ok (Is.Arrival (arrival_from x.values))) (Ok (Is.Run (steps_from x.values))))))

-- Each answer is the one that says what it says.
saying_said : (r : Result Record Refusal) → saying (said r) ≡ r
saying_said (Err refusal) = ap Err (refusal_number refusal)
saying_said (Ok (Is.SetUp g)) = refl
saying_said (Ok (Is.Station s)) = refl
saying_said (Ok (Is.Arrival a)) = refl
saying_said (Ok (Is.Run steps)) = refl

-- Two answers that say the same are equal.
pub said_injective : (r r' : Result Record Refusal) → said r ≡ said r' → r ≡ r'
said_injective r r' e = sym (saying_said r) ∙ ap saying e ∙ saying_said r'

pub record_at_determined : Determines record_at.Learnt
record_at_determined κs args r r' end end' p q = said_injective r r' (unique p q)

pub read_determined : Determines read.Learnt
read_determined κs args r r' end end' p q = by_number_injective r r' (unique p q)
