-- What is proved of the records of a scenario in room that is lent, in one place. Their bytes are those of crates/scenario/specs/Writing.antt,
-- and `stored` and `past`, which the contracts of src/ cite, are in crates/text/specs/Room.antt; that each contract says all of its result and of
-- the room is proofs/Unique.antt. Assumes nothing.
use Prim.Native.Nat.{ℕ, ◌+◌, ◌*◌, ◌≤◌}
use mathlib.Core.Path.{◌≡◌, refl}
use mathlib.Core.List.{List}
use lib.ListN.{length}
use Rattle.text.specs.Room.{room_bytes, stored, past}
use Rattle.rules.specs.SetUp.{Asked, Request}
use Rattle.state.specs.declared.Settings.{Settings}
use Rattle.state.specs.declared.Listed.{Listed}
use Rattle.state.specs.declared.Arrival.{Arrival}
use Rattle.state.specs.SetUp.{asked_of, request_with}
use Rattle.scenario.specs.Format.{set_up_kind, station_kind, arrival_kind, run_kind}
use Rattle.scenario.specs.Writing.{record_bytes, set_up_values, station_values, arrival_values, run_values, stations_bytes, ending_bytes, written}
use Rattle.packing.specs.Packing.{settings_values, listed_values}
use Rattle.packing.proofs.Sizes as Sizes
use Rattle.packing.proofs.Left as Left

-- ---- what is written is what is asked for

-- the values of the code's settings and stations are those of the set-up that they ask for
pub settings_asked : (g : Settings) (row : List Asked) → settings_values g ≡ set_up_values (request_with g row)
settings_asked g row = refl

pub listed_asked : (l : Listed) → listed_values l ≡ station_values (asked_of l)
listed_asked l = refl

-- ---- how many bytes

-- a record of each kind
pub set_up_size : (g : Settings) → length (record_bytes set_up_kind (settings_values g)) ≡ 16
set_up_size g = refl

pub station_size : (l : Listed) → length (record_bytes station_kind (listed_values l)) ≡ 8
station_size l = refl

pub arrival_size : (a : Arrival) → length (record_bytes arrival_kind (arrival_values a)) ≡ 16
arrival_size a = refl

pub run_size : (steps : ℕ) → length (record_bytes run_kind (run_values steps)) ≡ 6
run_size steps = refl

-- stations, an ending, and a whole scenario
pub stations_size : (row : List Asked) → length (stations_bytes row) ≡ 8 * length row
stations_size = Sizes.stations_size

pub ending_size : (arrivals : List Arrival) (steps : ℕ) → length (ending_bytes arrivals steps) ≡ 16 * length arrivals + 6
ending_size = Sizes.ending_size

pub written_size :
    (r : Request) (arrivals : List Arrival) (steps : ℕ)
    → length (written r arrivals steps) ≡ 16 + 8 * length r.row + 16 * length arrivals + 6
written_size = Sizes.written_size

-- ---- a whole scenario

-- its set-up, its stations and its ending, each stored past the one before, are the whole, which fits
pub whole_stored :
    (room : List ℕ) (at : ℕ) (r : Request) (arrivals : List Arrival) (steps : ℕ) {m n o : ℕ} {a b c : List ℕ}
    → at + length (written r arrivals steps) ≤ room_bytes
    → (m ≡ past at (record_bytes set_up_kind (set_up_values r))) × (a ≡ stored room at (record_bytes set_up_kind (set_up_values r)))
    → (n ≡ past m (stations_bytes r.row)) × (b ≡ stored a m (stations_bytes r.row))
    → (o ≡ past n (ending_bytes arrivals steps)) × (c ≡ stored b n (ending_bytes arrivals steps))
    → (o ≡ past at (written r arrivals steps)) × (c ≡ stored room at (written r arrivals steps))
whole_stored = Left.whole_stored
