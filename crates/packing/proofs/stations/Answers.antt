-- `stations` meets its contract.
use Rattle.std.proofs.Common.{◌≡◌, ℕ, ap, subst, ◌∙◌, arith, rules, List, length, get_or, map, min, take, length-take}
use Rattle.std.proofs.lemmas.List.{take_min, drop_all}
use Rattle.text.specs.Room.{past, stored}
use Rattle.state.specs.declared.Listed.{Listed}
use Rattle.state.specs.State.{nobody}
use Rattle.state.specs.SetUp.{asked_of}
use Rattle.scenario.specs.Format.{station_kind}
use Rattle.scenario.specs.Writing.{record_bytes, stations_bytes}
use Rattle.packing.specs.Packing.{listed_values}
use Rattle.packing.proofs.Sizes.{listed_size}
use Rattle.packing.proofs.Left.{none_stored, left_all, left_less, left_none, next_left}
use Rattle.packing.proofs.stations.Goals as goal

-- the records of stations
abbrev records : List Listed → List ℕ
records row = stations_bytes (map asked_of row)

-- the stations that are taken are the first n
first_ones : (row : List Listed) (n k : ℕ) → length row ≡ 64 → k ≡ min n 64 → take k row ≡ take n row
first_ones row n k full e = ap (λ (j : ℕ). take j row) (rw full e) ∙ take_min n row

-- what is stored of them is stored of those
stored_of :
    {row row' : List Listed} (room now : List ℕ) (at next : ℕ) → row ≡ row'
    → (next ≡ past at (records row)) × (now ≡ stored room at (records row))
    → (next ≡ past at (records row')) × (now ≡ stored room at (records row'))
stored_of room now at next same both =
    subst (λ (r : List Listed). (next ≡ past at (records r)) × (now ≡ stored room at (records r))) same both

pub returns-then-at-listed : goal.returns-then-at-listed
returns-then-at-listed c =
    let args = c.args in
    let full : length args.stations ≡ 64 = search rules in
    let long = listed_size (take c.min.result args.stations) in
    let both = stored_of args.room.now _ args.at _ (first_ones args.stations args.n c.min.result full c.min.ensures)
    (none_stored args.room.now args.at (records (take c.min.result args.stations)) (omega arith)) in
    record {
      value = both.0;
      room_after = both.1;
    }

pub loop-place-init : goal.loop-place-init
loop-place-init c =
    let args = c.args in
    let full : length args.stations ≡ 64 = search rules in
    let few = length-take c.min.result args.stations in
    let long = listed_size (take c.min.result args.stations) in
    left_all args.room.now args.at (records (take c.min.result args.stations)) (omega arith)

pub loop-place-preserved : goal.loop-place-preserved
loop-place-preserved c =
    let row = take c.min.result c.args.stations in
    let one = next_left row c.loop-place.place-index nobody c.loop-place-test.true in
    left_less
    (record_bytes station_kind (listed_values (get_or row c.loop-place.place-index nobody)))
    _
    (rw one at c.loop-place.invariant)
    (c.station-next.ensures.value, c.station-next.ensures.room_after)

pub returns : goal.returns
returns c =
    let full : length c.args.stations ≡ 64 = search rules in
    let row = take c.min.result c.args.stations in
    let over = drop_all c.loop-place.place-index row c.loop-place-test.false in
    let both = stored_of c.args.room.now _ c.args.at _ (first_ones c.args.stations c.args.n c.min.result full c.min.ensures)
    (left_none (rw over at c.loop-place.invariant)) in
    record {
      value = both.0;
      room_after = both.1;
    }
