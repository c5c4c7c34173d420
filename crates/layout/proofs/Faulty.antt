-- What an outcome's fault is, and what becomes of a plan by it. Assumes nothing.
use Prim.Native.Nat.{ℕ, ◌-◌, ◌≤◌, ◌<◌}
use mathlib.Core.Path.{◌≡◌, refl, sym, ap, ap₂, ◌∙◌}
use mathlib.Core.Bool.{false, cond}
use mathlib.Core.List.{List, [], map}
use native.Mathlib.Omega.{arith}
use borrow.Author.Tests.{ne_eqb}
use lib.Dec.{eqb}
use lib.ListN.{get_or, length, take, length-map}
use lib.Seq.{length-take-le}
use Rattle.rules.specs.declared.Discipline.{Discipline}
use Rattle.rules.specs.declared.Discipline.TheVariants.{PRI, RTDG, RTVC}
use Rattle.rules.specs.declared.Refusal.{Refusal}
use Rattle.rules.specs.Bus.{code}
use Rattle.rules.specs.Refusals.{number_of}
use Rattle.state.specs.declared.Settings.{Settings}
use Rattle.layout.specs.declared.faults.Fault.{Fault}
use Rattle.layout.specs.declared.faults.Fault.TheVariants.{SetUp, Engine, WordMissing, NumberMissing, GoesOn, NoBus, NoStation, NoRecord, NoArrivalLine, PastRun, AddressLarge, LengthLarge, StepsLarge, EveryZero, ToEarly}
use Rattle.layout.specs.declared.labels.Kind.{Kind}
use Rattle.layout.specs.declared.labels.Kind.TheVariants.{Bus, Station, Arrival, Arrivals, Attempt, Run}
use Rattle.words.specs.Words.{first_word, after_word}
use Rattle.layout.specs.Faults.{fault_number, kind_number}
use Rattle.layout.specs.Layout.{bus_line, discipline_named, fields_in, labels_of, take_said, take_fields, take_kind, take_line, wordless, place_fault, kind_of}
use Rattle.layout.specs.Layout.{Plan, Taken, taken, Fields, settings_said, bus_fault, with_bus, take_bus}
use Rattle.state.specs.SetUp.{asked_of}
use Rattle.layout.specs.declared.plan.Plan as Coded
use Rattle.layout.specs.Layout.{in_stations}
use Rattle.layout.specs.Parts.{padded, plan_of}
use Rattle.layout.proofs.InLine.{padded_get_d}

-- ---- faults

-- a fault's number is not 0
refusal_some : (r : Refusal) → 1 ≤ number_of r
refusal_some r = grind arith

pub fault_some : (f : Fault) → fault_number f ≡ 0 → ⊥
fault_some (SetUp r) e = let h = r.ok in omega arith
fault_some (Engine r) e = let h = refusal_some r in omega arith
fault_some (WordMissing l) e = omega arith
fault_some (NumberMissing l) e = omega arith
fault_some GoesOn e = omega arith
fault_some NoBus e = omega arith
fault_some NoStation e = omega arith
fault_some NoRecord e = omega arith
fault_some NoArrivalLine e = omega arith
fault_some PastRun e = omega arith
fault_some AddressLarge e = omega arith
fault_some LengthLarge e = omega arith
fault_some StepsLarge e = omega arith
fault_some EveryZero e = omega arith
fault_some ToEarly e = omega arith

-- a discipline that has a number is one of the three
pub code_small : (d : Discipline) → code d < 3
code_small PRI = omega arith
code_small RTDG = omega arith
code_small RTVC = omega arith

-- ---- what becomes of a plan

-- it stays, with a fault, or goes on
pub taken_faulty : (f : Fault) {fault : ℕ} (p q : Plan) → fault_number f ≡ fault → record { fault = fault_number f; plan = p } ≡ taken fault p q
taken_faulty f p q e =
    ap (λ t. record { fault = fault_number f; plan = cond t q p }) (sym (ne_eqb (fault_number f) 0 (fault_some f))) ∙ ap (λ n. taken n p q) e

pub taken_fine : {fault : ℕ} (p q : Plan) → 0 ≡ fault → record { fault = 0; plan = q } ≡ taken fault p q
taken_fine p q e = ap (λ n. taken n p q) e

-- ---- the bus

module _ (p : Plan) (discipline : ℕ) (x : Fields) where
  abbrev settled : ℕ → Taken
  settled fault = cond (eqb fault 0) (taken (bus_fault (settings_said discipline x.values)) p (with_bus p (settings_said discipline x.values))) (taken fault p p)

  pub bus_named : (discipline ≡ 3 → ⊥) → settled x.fault ≡ take_bus p discipline x
  bus_named h = ap (λ t. cond t (taken 2 p p) (settled x.fault)) (sym (ne_eqb discipline 3 h))

  pub bus_said :
      (discipline ≡ 3 → ⊥) → x.fault ≡ 0
      → taken (bus_fault (settings_said discipline x.values)) p (with_bus p (settings_said discipline x.values)) ≡ take_bus p discipline x
  bus_said h e = ap settled (sym e) ∙ bus_named h

-- a number of a line, as the code has it
pub value_said : (values vs : List ℕ) (i : ℕ) → values ≡ padded vs → get_or values i 0 ≡ get_or vs i 0
value_said values vs i e = ap (λ xs. get_or xs i 0) e ∙ padded_get_d vs (6 - length vs) i

pub settings_are_said :
    (discipline named : ℕ) (values vs : List ℕ) → discipline ≡ named → values ≡ padded vs
    → record { discipline = discipline; d = get_or values 0 0; a = get_or values 1 0; q = get_or values 2 0; n = 0 } ≡ settings_said named vs
settings_are_said discipline named values vs e f = ap₂ settings_here e f ∙ same
  where
    settings_here : ℕ → List ℕ → Settings
    settings_here discipline values = record { discipline = discipline; d = get_or values 0 0; a = get_or values 1 0; q = get_or values 2 0; n = 0 }

    same : settings_here named (padded vs) ≡ settings_said named vs
    same = simp (value_said (padded vs) vs 0 refl, value_said (padded vs) vs 1 refl, value_said (padded vs) vs 2 refl)

-- the plan with the bus
pub bus_planned :
    (p : Coded.Plan) {g h : Settings} → g ≡ h → p.settings.n ≡ 0
    → ◌≡◌
    {A = Taken}
    (record { fault = 0; plan = record { stage = in_stations; settings = g; asked = []; arrivals = take p.count p.arrivals; steps = p.steps } })
    (record { fault = 0; plan = with_bus (plan_of p) h })
bus_planned p same none =
    ap₂
    (λ (g : Settings) k. record { fault = 0; plan = record { stage = in_stations; settings = g; asked = map asked_of (take k p.stations); arrivals = take p.count p.arrivals; steps = p.steps } })
    same
    (sym none)

-- ---- what the numbers of a line say

pub said_same : (p : Plan) (kind : ℕ) (values vs : List ℕ) → values ≡ padded vs → take_said p kind values ≡ take_said p kind vs
said_same p kind values vs e =
    simp (
      value_said values vs 0 e,
      value_said values vs 1 e,
      value_said values vs 2 e,
      value_said values vs 3 e,
      value_said values vs 4 e,
      value_said values vs 5 e,
    )

not_bus : (kind : Kind) → (kind ≡ Bus → ⊥) → eqb (kind_number kind) bus_line ≡ false
not_bus Bus h = absurd (h refl)
not_bus Station h = refl
not_bus Arrival h = refl
not_bus Arrivals h = refl
not_bus Attempt h = refl
not_bus Run h = refl

-- a line of another kind than the bus's
module _ (p : Plan) (kind : Kind) (rest : List ℕ) (h : kind ≡ Bus → ⊥) where
  abbrev x : Fields
  x = fields_in (labels_of (kind_number kind) p.settings.discipline) rest

  other : take_fields p (kind_number kind) x ≡ take_kind p (kind_number kind) rest
  other =
      ap
      (λ t. cond t (take_bus p (discipline_named (first_word rest)) (fields_in (labels_of bus_line 0) (after_word rest))) (take_fields p (kind_number kind) x))
      (sym (not_bus kind h))

  -- a fault in its words and numbers, or what they say
  pub kind_faulty : (f : Fault) → x.fault ≡ fault_number f → ◌≡◌ {A = Taken} (record { fault = fault_number f; plan = p }) (take_kind p (kind_number kind) rest)
  kind_faulty f e =
      taken_faulty f p p refl
      ∙ ap (λ t. cond t (take_said p (kind_number kind) x.values) (taken (fault_number f) p p)) (sym (ne_eqb (fault_number f) 0 (fault_some f)))
      ∙ ap (λ n. cond (eqb n 0) (take_said p (kind_number kind) x.values) (taken n p p)) (sym e)
      ∙ other

  pub kind_said :
      (values : List ℕ) → x.fault ≡ 0 → values ≡ padded x.values → take_said p (kind_number kind) values ≡ take_kind p (kind_number kind) rest
  kind_said values e f =
      said_same p (kind_number kind) values x.values f
      ∙ ap (λ n. cond (eqb n 0) (take_said p (kind_number kind) x.values) (taken n p p)) (sym e)
      ∙ other

-- ---- a line

module _ (p : Plan) (line : List ℕ) (h : wordless line ≡ false) where
  abbrev fault : ℕ
  fault = place_fault p.stage p.settings.n (kind_of (first_word line))

  abbrev by_kind : Taken
  by_kind = take_kind p (kind_of (first_word line)) (after_word line)

  some_word : cond (eqb fault 0) by_kind (taken fault p p) ≡ take_line p line
  some_word = ap (λ t. cond t (taken 0 p p) (cond (eqb fault 0) by_kind (taken fault p p))) (sym h)

  pub line_misplaced : (f : Fault) → fault_number f ≡ fault → ◌≡◌ {A = Taken} (record { fault = fault_number f; plan = p }) (take_line p line)
  line_misplaced f e =
      taken_faulty f p p refl
      ∙ ap (λ t. cond t by_kind (taken (fault_number f) p p)) (sym (ne_eqb (fault_number f) 0 (fault_some f)))
      ∙ ap (λ n. cond (eqb n 0) by_kind (taken n p p)) e
      ∙ some_word

  pub line_placed : 0 ≡ fault → by_kind ≡ take_line p line
  line_placed e = ap (λ n. cond (eqb n 0) by_kind (taken n p p)) e ∙ some_word

-- ---- how many there are, of stations and of arrivals

pub stations_counted : (p : Coded.Plan) → length p.stations ≡ 64 → length (plan_of p).asked ≡ p.settings.n
stations_counted p e =
    length-map (take p.settings.n p.stations) asked_of ∙ length-take-le p.settings.n p.stations (omega (arith, p.few))

pub arrivals_counted : (p : Coded.Plan) → length p.arrivals ≡ 4096 → length (plan_of p).arrivals ≡ p.count
arrivals_counted p e = length-take-le p.count p.arrivals (omega (arith, p.short))
