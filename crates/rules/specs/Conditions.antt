-- Paper 01's table of refusal numbers as conditions, in the order in which they are tried, and the statement that each number is
-- given exactly when its condition holds and none tried earlier does. Assumes nothing.
use Rattle.std.specs.Prelude.{ℕ, suc, ◌≤◌, ◌<◌, ◌≡◌, ◌⊎◌, ◌≢◌, List, [], ◌∷◌, ◌++◌, length, take}
use Rattle.std.proofs.Math.Option.{none}
use Rattle.rules.specs.Lists.{All, Some, Given}
use Rattle.rules.specs.Bus.{most_stations, least_space, most_space, most_step, places, longest_packet, last_slot, most_admitted, Discipline, PRI, RTDG, RTVC, code, Bus}
use Rattle.rules.specs.SetUp.{Asked, Request, Verdict, fine, fault, set_up_verdict}
use Rattle.rules.specs.Standing.{ValueFits, Standing}
use Rattle.rules.specs.Admission.{Arrival, admission_refusal}
use Rattle.rules.specs.Step.{begin_refusal, probe_refusal, step_refusal}

-- outside the range from least to most
abbrev pub Outside : ℕ → ℕ → ℕ → Type 0
Outside least most n = (n < least) ⊎ (most < n)

-- 'q: RTDG: 1 to 65,535; otherwise exactly 1'
abbrev pub StepOutside : ℕ → ℕ → Type 0
StepOutside discipline q = ((discipline ≡ code RTDG) × Outside 1 most_step q) ⊎ ((discipline ≢ code RTDG) × (q ≢ 1))

-- 'capability: RTVC: 0 to D - 1; otherwise 0'
abbrev pub CapabilityOutside : ℕ → ℕ → ℕ → Type 0
CapabilityOutside discipline D capability =
    ((discipline ≡ code RTVC) × (D ≤ capability)) ⊎ ((discipline ≢ code RTVC) × (capability ≢ 0))

-- '3, 4, 5, 6: D, A, q, N outside its range above'; 'a station row shorter than N gives 6'
abbrev pub settings_conditions : Request → List (Verdict × Type 0)
settings_conditions r =
    (fault 2 0, 2 < r.discipline)
    ∷ (fault 3 0, Outside least_space most_space r.D)
    ∷ (fault 4 0, Outside least_space most_space r.A)
    ∷ (fault 5 0, StepOutside r.discipline r.q)
    ∷ (fault 6 0, Outside 1 most_stations r.N ⊎ (length r.row < r.N))
    ∷ []

-- '7, 8: address at or above A; address of an earlier station. 9, 10: capability outside its range; RTVC capability of an earlier station'
abbrev pub station_conditions : Request → ℕ → List Asked → Asked → List (Verdict × Type 0)
station_conditions r i earlier s =
    (fault 7 i, r.A ≤ s.address)
    ∷ (fault 8 i, Some (λ e. s.address ≡ e.address) earlier)
    ∷ (fault 9 i, CapabilityOutside r.discipline r.D s.capability)
    ∷ (fault 10 i, (r.discipline ≡ code RTVC) × Some (λ e. s.capability ≡ e.capability) earlier)
    ∷ []

-- the stations in turn
abbrev pub row_conditions : Request → ℕ → List Asked → List Asked → List (Verdict × Type 0)
row_conditions r i earlier [] = []
row_conditions r i earlier (s ∷ later) = station_conditions r i earlier s ++ row_conditions r (suc i) (earlier ++ (s ∷ [])) later

-- 'Set-up tries 2 to 6, then the stations in turn, each 7 to 10; .. what stands past N is unread.'
abbrev pub set_up_conditions : Request → List (Verdict × Type 0)
set_up_conditions r = settings_conditions r ++ row_conditions r 0 [] (take r.N r.row)

-- '14: RTDG latest start below the present clock'
abbrev pub Late : Discipline → ℕ → ℕ → Type 0
Late PRI clock value = ⊥
Late RTDG clock value = value < clock
Late RTVC clock value = ⊥

-- 'Admission tries 1, then 11 to 16.'
abbrev pub admission_conditions : Bus → Arrival → List (ℕ × Type 0)
admission_conditions b a =
    (1, ¬ Standing b)
    ∷ (11, All (λ s. a.address ≢ s.address) b.stations)
    ∷ (12, ¬ ValueFits b.discipline b.D a.value)
    ∷ (13, Outside 1 longest_packet a.length)
    ∷ (14, Late b.discipline b.clock a.value)
    ∷ (15, Some (λ s. (a.address ≡ s.address) × (places ≤ length s.queue)) b.stations)
    ∷ (16, most_admitted ≤ b.admitted)
    ∷ []

-- '25, begin while one is under way; .. after 1'
abbrev pub begin_conditions : Bus → List (ℕ × Type 0)
begin_conditions b = (1, ¬ Standing b) ∷ (25, ¬ (b.contention ≡ none)) ∷ []

-- '26, probe while none is; .. after 1, and 26 before 17, which belongs to the probe'
abbrev pub probe_conditions : Bus → List (ℕ × Type 0)
probe_conditions b = (1, ¬ Standing b) ∷ (26, b.contention ≡ none) ∷ (17, last_slot < b.clock) ∷ []

-- 'a step tries 1, then 17'
abbrev pub step_conditions : Bus → List (ℕ × Type 0)
step_conditions b = (1, ¬ Standing b) ∷ (17, last_slot < b.clock) ∷ []

-- 'Given exactly when'
pub record RefusalsExact : Type 0 where
  pub set_up_call : (r : Request) → Given fine (set_up_conditions r) (set_up_verdict r)
  pub admission : (b : Bus) (a : Arrival) → Given 0 (admission_conditions b a) (admission_refusal b a)
  pub begin : (b : Bus) → Given 0 (begin_conditions b) (begin_refusal b)
  pub probe : (b : Bus) → Given 0 (probe_conditions b) (probe_refusal b)
  pub step : (b : Bus) → Given 0 (step_conditions b) (step_refusal b)
