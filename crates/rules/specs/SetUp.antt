-- Set-up (paper 01, 'The bus and its numbers' and refusals 2 to 10): what is asked for, what refuses it, the state it gives.
-- 'Set-up tries 2 to 6, then the stations in turn, each 7 to 10; the first faulty station in the listed order decides.'
-- Assumes nothing.
use Rattle.std.specs.Prelude.{ℕ, zero, suc, Bool, not, ◌&&◌, ◌||◌, cond, List, [], ◌∷◌, ◌++◌, map, leb, ltb, eqb, length, take}
use Rattle.std.proofs.Math.Option.{none}
pub use Rattle.rules.specs.declared.Verdict.{Verdict}
use Rattle.rules.specs.Lists.{has, outside, first_of}
use Rattle.rules.specs.Bus.{most_stations, least_space, most_space, most_step, Discipline, PRI, RTDG, RTVC, code, Station, Bus, nothing}

-- a station as it is asked for
pub record Asked : Type 0 where
  pub address : ℕ
  pub capability : ℕ

-- a set-up as it is asked for: any numbers, any row
pub record Request : Type 0 where
  pub discipline : ℕ
  pub D : ℕ
  pub A : ℕ
  pub q : ℕ
  pub N : ℕ
  pub row : List Asked

-- an accepted set-up's answer
abbrev pub fine : Verdict
fine = record { refusal = 0; station = 0 }

-- a refused set-up's answer
abbrev pub fault : ℕ → ℕ → Verdict
fault number station = record { refusal = number; station = station }

-- 'RTDG: 1 to 65,535; otherwise exactly 1'
abbrev pub step_outside : ℕ → ℕ → Bool
step_outside discipline q = cond (eqb discipline (code RTDG)) (outside 1 most_step q) (not (eqb q 1))

-- 'RTVC: 0 to D - 1, distinct; otherwise 0'
abbrev pub capability_outside : ℕ → ℕ → ℕ → Bool
capability_outside discipline D capability = cond (eqb discipline (code RTVC)) (leb D capability) (not (eqb capability 0))

-- 2 to 6. 'A station row shorter than N gives 6.'
abbrev pub settings_tests : Request → List (Verdict × Bool)
settings_tests r =
    (fault 2 0, ltb 2 r.discipline)
    ∷ (fault 3 0, outside least_space most_space r.D)
    ∷ (fault 4 0, outside least_space most_space r.A)
    ∷ (fault 5 0, step_outside r.discipline r.q)
    ∷ (fault 6 0, outside 1 most_stations r.N || ltb (length r.row) r.N)
    ∷ []

-- 7 to 10, of the station s at place i of the row, after the earlier ones
abbrev pub station_tests : Request → ℕ → List Asked → Asked → List (Verdict × Bool)
station_tests r i earlier s =
    (fault 7 i, leb r.A s.address)
    ∷ (fault 8 i, has s.address (map (λ e. e.address) earlier))
    ∷ (fault 9 i, capability_outside r.discipline r.D s.capability)
    ∷ (fault 10 i, eqb r.discipline (code RTVC) && has s.capability (map (λ e. e.capability) earlier))
    ∷ []

-- the stations in turn, from place i of the row on
abbrev pub row_tests : Request → ℕ → List Asked → List Asked → List (Verdict × Bool)
row_tests r i earlier [] = []
row_tests r i earlier (s ∷ later) = station_tests r i earlier s ++ row_tests r (suc i) (earlier ++ (s ∷ [])) later

-- 'what stands past N is unread'
abbrev pub set_up_tests : Request → List (Verdict × Bool)
set_up_tests r = settings_tests r ++ row_tests r 0 [] (take r.N r.row)

-- the first of them that holds, or no refusal
abbrev pub set_up_verdict : Request → Verdict
set_up_verdict r = first_of fine (set_up_tests r)

-- the discipline that a number names; past 2, which set-up refuses, any
abbrev pub discipline_of : ℕ → Discipline
discipline_of zero = PRI
discipline_of (suc zero) = RTDG
discipline_of (suc (suc n)) = RTVC

-- a station as set up: no packets, no offer
abbrev pub fresh_station : Asked → Station
fresh_station s = record { address = s.address; capability = s.capability; queue = []; offer = none }

-- the state that an accepted set-up gives: slot 0, empty queues, nothing counted, no contention, no circuit has won
abbrev pub fresh_bus : Request → Bus
fresh_bus r =
    record {
      discipline = discipline_of r.discipline;
      D = r.D;
      A = r.A;
      q = r.q;
      stations = map fresh_station (take r.N r.row);
      clock = 0;
      admitted = 0;
      sent = 0;
      lost = 0;
      turned = 0;
      last = none;
      contention = none;
    }

-- 'A refused set-up hands back its number and an all-zero state.'
abbrev pub set_up : Request → Verdict × Bus
set_up r = (set_up_verdict r, cond (eqb (set_up_verdict r).refusal 0) (fresh_bus r) nothing)
