-- The bytes of a scenario (paper 01, 'The scenario and its listing'), and which scenarios are good. An input of bytes is accepted exactly
-- when it is the writing of a good scenario: proofs/Written.antt, accepted-if and accepted-only. Assumes nothing.
use Rattle.std.specs.Prelude.{ℕ, zero, suc, ◌/◌, ◌%◌, ◌≤◌, ◌<◌, ◌≡◌, List, [], ◌∷◌, ◌++◌, length}
use Rattle.rules.specs.Lists.{All}
use Rattle.rules.specs.SetUp.{Asked, Request, set_up_verdict}
use Rattle.state.specs.declared.Arrival.{Arrival}
use Rattle.scenario.specs.Format.{Kind, set_up_kind, station_kind, arrival_kind, run_kind}
use Rattle.scenario.specs.Reading.{most_bytes}

-- each number is a byte
abbrev pub Bytes : List ℕ → Type 0
Bytes xs = All (λ x. x < 256) xs

-- 'little-endian': the bytes of a number, by a width in bytes
abbrev pub bytes_of : ℕ → ℕ → List ℕ
bytes_of zero n = []
bytes_of (suc width) n = n % 256 ∷ bytes_of width (n / 256)

-- 'a body': the values of its fields one after the other, each by its width
abbrev pub body_bytes : List ℕ → List ℕ → List ℕ
body_bytes [] values = []
body_bytes (width ∷ widths) [] = []
body_bytes (width ∷ widths) (value ∷ values) = bytes_of width value ++ body_bytes widths values

-- 'a two-byte length (of what follows it), a two-byte kind, a body'
abbrev pub record_bytes : Kind → List ℕ → List ℕ
record_bytes row values = bytes_of 2 row.length ++ (bytes_of 2 row.kind ++ body_bytes row.widths values)

-- ---- the values of each record, in the order of its fields

-- 'discipline, D, A, q, N'
abbrev pub set_up_values : Request → List ℕ
set_up_values r = r.discipline ∷ r.D ∷ r.A ∷ r.q ∷ r.N ∷ []

-- 'address, capability'
abbrev pub station_values : Asked → List ℕ
station_values s = s.address ∷ s.capability ∷ []

-- 'time, address, value, packet length'
abbrev pub arrival_values : Arrival → List ℕ
arrival_values a = a.time.0 ∷ a.address.0 ∷ a.value ∷ a.length ∷ []

-- 'steps'
abbrev pub run_values : ℕ → List ℕ
run_values steps = steps ∷ []

-- ---- the whole

-- a record for each station, in order
abbrev pub stations_bytes : List Asked → List ℕ
stations_bytes [] = []
stations_bytes (s ∷ later) = record_bytes station_kind (station_values s) ++ stations_bytes later

-- a record for each arrival, in order, and then one run
abbrev pub ending_bytes : List Arrival → ℕ → List ℕ
ending_bytes [] steps = record_bytes run_kind (run_values steps)
ending_bytes (a ∷ later) steps = record_bytes arrival_kind (arrival_values a) ++ ending_bytes later steps

-- 'Order: one set-up, N stations, any arrivals, one run'
abbrev pub written : Request → List Arrival → ℕ → List ℕ
written r arrivals steps = record_bytes set_up_kind (set_up_values r) ++ (stations_bytes r.row ++ ending_bytes arrivals steps)

-- ---- good scenarios

-- the fields of an arrival fit: 'time 4, address 2, value 4, packet length 2'
pub record ArrivalFits (a : Arrival) : Type 0 where
  pub time : a.time.0 < 4_294_967_296
  pub address : a.address.0 < 65_536
  pub value : a.value < 4_294_967_296
  pub length : a.length < 65_536

-- no arrival's time is below the previous one's
abbrev pub InOrder : ℕ → List Arrival → Type 0
InOrder previous [] = Unit {0}
InOrder previous (a ∷ later) = (previous ≤ a.time.0) × InOrder a.time.0 later

-- a good scenario: its set-up is accepted and has N stations, its arrivals fit and come in order, its steps fit ('steps 2'), and it is not
-- too long. No time is below 0, from which the order starts.
pub record Good (r : Request) (arrivals : List Arrival) (steps : ℕ) : Type 0 where
  pub set_up_call : (set_up_verdict r).refusal ≡ 0
  pub stations : length r.row ≡ r.N
  pub fit : All ArrivalFits arrivals
  pub order : InOrder 0 arrivals
  pub few : steps < 65_536
  pub short : length (written r arrivals steps) ≤ most_bytes
