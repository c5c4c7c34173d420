-- The records of a scenario (paper 01, 'The scenario and its listing'): 'a two-byte length (of what follows it), a two-byte kind, a body, all
-- little-endian'. What a record says is its kind and its values, or the number that refuses it. Assumes nothing.
use Rattle.std.specs.Prelude.{ℕ, ◌+◌, ◌-◌, ◌*◌, ◌&&◌, cond, List, [], ◌∷◌, ltb, eqb, length, take, drop, Result, Ok, Err}
use Rattle.std.proofs.Math.Option.{Option, none, some}
use Rattle.rules.specs.declared.Refusal.{Refusal}
use Rattle.rules.specs.Refusals.{number_of}
pub use Rattle.scenario.specs.declared.Record.{Record}
use Rattle.scenario.specs.declared.Record.TheVariants as Is

-- 'little-endian': the number that bytes stand for
abbrev pub number : List ℕ → ℕ
number [] = 0
number (b ∷ bytes) = b + 256 * number bytes

-- the fields of a body, by their widths in bytes
abbrev pub fields : List ℕ → List ℕ → List ℕ
fields [] body = []
fields (width ∷ widths) body = number (take width body) ∷ fields widths (drop width body)

-- a row of the table of kinds: the kind, the widths of its body's fields, and its length
pub record Kind : Type 0 where
  pub kind : ℕ
  pub widths : List ℕ
  pub length : ℕ

-- 1 set-up: discipline 1, D 4, A 4, q 2, N 1
abbrev pub set_up_kind : Kind
set_up_kind = record { kind = 1; widths = 1 ∷ 4 ∷ 4 ∷ 2 ∷ 1 ∷ []; length = 14 }

-- 2 station: address 2, capability 2
abbrev pub station_kind : Kind
station_kind = record { kind = 2; widths = 2 ∷ 2 ∷ []; length = 6 }

-- 3 arrival: time 4, address 2, value 4, packet length 2
abbrev pub arrival_kind : Kind
arrival_kind = record { kind = 3; widths = 4 ∷ 2 ∷ 4 ∷ 2 ∷ []; length = 14 }

-- 4 run: steps 2
abbrev pub run_kind : Kind
run_kind = record { kind = 4; widths = 2 ∷ []; length = 4 }

-- the table
abbrev pub kinds : List Kind
kinds = set_up_kind ∷ station_kind ∷ arrival_kind ∷ run_kind ∷ []

-- the row with this kind and this length, if there is one
abbrev pub row_of : ℕ → ℕ → List Kind → Option Kind
row_of kind long [] = none
row_of kind long (row ∷ rows) = cond (eqb kind row.kind && eqb long row.length) (some row) (row_of kind long rows)

-- what a record says: its kind and the values of its fields, or the number that refuses it and zeros
pub record Said : Type 0 where
  pub refusal : ℕ
  pub kind : ℕ
  pub values : List ℕ

abbrev pub refused_record : ℕ → Said
refused_record number = record { refusal = number; kind = 0; values = [] }

-- 'two-byte length', 'two-byte kind'
abbrev pub length_in : List ℕ → ℕ
length_in rest = number (take 2 rest)

abbrev pub kind_in : List ℕ → ℕ
kind_in rest = number (take 2 (drop 2 rest))

-- what a body says by its row of the table
abbrev pub said_by : Kind → List ℕ → Said
said_by row body = record { refusal = 0; kind = row.kind; values = fields row.widths body }

-- the body of a record of this length
abbrev pub body_in : ℕ → List ℕ → List ℕ
body_in long rest = take (long - 2) (drop 4 rest)

-- '19: unknown kind, or length not that of its kind'; '18 for a short body'
abbrev pub read_body : Option Kind → List ℕ → Said
read_body none rest = refused_record 19
read_body (some row) rest =
    cond
    (ltb (length rest) (2 + row.length))
    (refused_record 18)
    (said_by row (body_in row.length rest))

-- 'Each record is taken from the rest of the lent input': '18 if under four bytes remain, 19, 18 for a short body'
abbrev pub read_record : List ℕ → Said
read_record rest = cond (ltb (length rest) 4) (refused_record 18) (read_body (row_of (kind_in rest) (length_in rest) kinds) rest)

-- What the code's answer to a record read says: for each of its cases the kind and the values, or the number.
abbrev pub said : Result Record Refusal → Said
said (Err refusal) = refused_record (number_of refusal)
said (Ok (Is.SetUp g)) = record { refusal = 0; kind = set_up_kind.kind; values = g.discipline ∷ g.d ∷ g.a ∷ g.q ∷ g.n ∷ [] }
said (Ok (Is.Station s)) = record { refusal = 0; kind = station_kind.kind; values = s.address.0 ∷ s.capability.0 ∷ [] }
said (Ok (Is.Arrival a)) = record { refusal = 0; kind = arrival_kind.kind; values = a.time.0 ∷ a.address.0 ∷ a.value ∷ a.length ∷ [] }
said (Ok (Is.Run steps)) = record { refusal = 0; kind = run_kind.kind; values = steps ∷ [] }

-- what refuses a record that is not of the kind that has its place here: its own refusal, or '20: record out of place'
abbrev pub out_of_place : Said → ℕ
out_of_place x = cond (eqb x.kind 0) x.refusal 20
