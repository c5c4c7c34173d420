-- The arrivals that stand in a scenario's bytes from an offset on, for a caller that takes them one by one. Assumes nothing.
use Prim.Native.Nat.{ℕ, zero, suc, ◌+◌}
use mathlib.Core.Path.{◌≡◌, refl, sym, ap, ◌∙◌}
use mathlib.Core.Bool.{Bool, true, false, cond}
use mathlib.Core.List.{List, [], ◌∷◌}
use native.Mathlib.Omega.{arith}
use lib.Dec.{ltb, eqb}
use lib.ListN.{length, drop}
use lib.Seq.{drop-drop}
use borrow.Author.Tests.{eq-eqb, ne_eqb}
use Rattle.rules.proofs.Laws.{clash}
use Rattle.state.specs.declared.Arrival.{Arrival}
use Rattle.scenario.specs.Format.{Said, read_record, out_of_place}
use Rattle.scenario.specs.Reading.{arrival_bytes, run_bytes, arrival_from, steps_from}
use Rattle.scenario.specs.Reading.{EndingRead, refused_ending, with_arrival, run_from, arrivals_from}
use Rattle.scenario.specs.Parts.{ArrivalsAt}
use Rattle.scenario.proofs.ReadingLaws.{arrivals_by}

-- what no turn refuses is, where the record says an arrival, that arrival and those after it
taken :
    (x : Said) (turns previous at : ℕ) (rest : List ℕ) → x.kind ≡ 3 → (arrivals_by x turns previous at rest).refusal ≡ 0
    → arrivals_by x turns previous at rest
    ≡ with_arrival
    (arrival_from x.values)
    (arrivals_from turns (arrival_from x.values).time.0 (at + arrival_bytes) (drop arrival_bytes rest))
taken x turns previous at rest e f = go (eqb x.kind 3) (ltb a previous) (eq-eqb x.kind 3 e) f
  where
    a : ℕ
    a = (arrival_from x.values).time.0

    more : EndingRead
    more = with_arrival (arrival_from x.values) (arrivals_from turns a (at + arrival_bytes) (drop arrival_bytes rest))

    run : EndingRead
    run = run_from x at (length (drop run_bytes rest))

    go :
        (t late : Bool) → t ≡ true → (cond t (cond late (refused_ending 21 at) more) run).refusal ≡ 0
        → cond t (cond late (refused_ending 21 at) more) run ≡ more
    go true true k f = absurd (omega arith)
    go true false k f = refl
    go false late k f = clash k refl

-- and where it says none, no arrivals
ended : (x : Said) (turns previous at : ℕ) (rest : List ℕ) → ¬ (x.kind ≡ 3) → (arrivals_by x turns previous at rest).arrivals ≡ []
ended x turns previous at rest e = simp (ne_eqb x.kind 3 e) (go (eqb x.kind 4) (eqb (length (drop run_bytes rest)) 0))
  where
    go :
        (t u : Bool)
        → (cond
        t
        (cond u (record { refusal = 0; offset = 0; arrivals = []; steps = steps_from x.values }) (refused_ending 20 (at + run_bytes)))
        (refused_ending (out_of_place x) at)
        ).arrivals
        ≡ []
    go true true = refl
    go true false = refl
    go false u = refl

module _ {input : List ℕ} {at : ℕ} {arrivals : List Arrival} where
  -- where the record at an offset is an arrival, it is the first of those that stand there, and the others stand past its bytes
  pub arrivals_here :
      ArrivalsAt input at arrivals → (read_record (drop at input)).kind ≡ 3
      → (later : List Arrival) × (arrivals ≡ arrival_from (read_record (drop at input)).values ∷ later) × ArrivalsAt input (at + 16) later
  arrivals_here here e = go here.turns here.fine here.collected
    where
      x : Said
      x = read_record (drop at input)

      a : ℕ
      a = (arrival_from x.values).time.0

      go :
          (turns : ℕ) → (arrivals_from turns here.previous at (drop at input)).refusal ≡ 0
          → (arrivals_from turns here.previous at (drop at input)).arrivals ≡ arrivals
          → (later : List Arrival) × (arrivals ≡ arrival_from (read_record (drop at input)).values ∷ later) × ArrivalsAt input (at + 16) later
      go zero f c = absurd (omega arith)
      go (suc turns) f c =
          let turn = taken x turns here.previous at (drop at input) e f in
          let past = ap (arrivals_from turns a (at + 16)) (drop-drop 16 at input) in (
            (arrivals_from turns a (at + 16) (drop 16 (drop at input))).arrivals,
            sym c ∙ ap (λ (x : EndingRead). x.arrivals) turn,
            record {
              turns = turns;
              previous = a;
              fine = ap (λ (x : EndingRead). x.refusal) (sym past) ∙ ap (λ (x : EndingRead). x.refusal) (sym turn) ∙ f;
              collected = ap (λ (x : EndingRead). x.arrivals) (sym past);
            },
          )

  -- where it is none, none stand there
  pub arrivals_none : ArrivalsAt input at arrivals → ¬ ((read_record (drop at input)).kind ≡ 3) → arrivals ≡ []
  arrivals_none here e = go here.turns here.fine here.collected
    where
      go :
          (turns : ℕ) → (arrivals_from turns here.previous at (drop at input)).refusal ≡ 0
          → (arrivals_from turns here.previous at (drop at input)).arrivals ≡ arrivals
          → arrivals ≡ []
      go zero f c = absurd (omega arith)
      go (suc turns) f c = sym c ∙ ended (read_record (drop at input)) turns here.previous at (drop at input) e
