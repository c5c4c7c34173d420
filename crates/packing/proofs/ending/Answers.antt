-- `ending` meets its contract.
use Rattle.std.proofs.Common.{◌≡◌, [], arith, rules, length, get_or, take, length-take}
use Rattle.std.proofs.lemmas.List.{drop_all}
use Rattle.scenario.specs.Format.{arrival_kind}
use Rattle.scenario.specs.Reading.{arrival_from}
use Rattle.scenario.specs.Writing.{record_bytes, arrival_values, ending_bytes}
use Rattle.packing.proofs.Sizes.{ending_size}
use Rattle.packing.proofs.Left.{none_stored, left_all, left_less, left_last, next_left}
use Rattle.packing.proofs.ending.Goals as goal

pub returns-then-count-ge4096 : goal.returns-then-count-ge4096
returns-then-count-ge4096 c =
    let args = c.args in
    let full : length args.arrivals ≡ 4096 = search rules in
    let few = length-take args.count args.arrivals in
    let long = ending_size (take args.count args.arrivals) args.steps in
    let both = none_stored args.room.now args.at (ending_bytes (take args.count args.arrivals) args.steps) (omega arith) in
    record {
      value = both.0;
      room_after = both.1;
    }

pub returns-then-at-due : goal.returns-then-at-due
returns-then-at-due c =
    let args = c.args in
    let long = ending_size (take args.count args.arrivals) args.steps in
    let both = none_stored args.room.now args.at (ending_bytes (take args.count args.arrivals) args.steps) (omega arith) in
    record {
      value = both.0;
      room_after = both.1;
    }

pub loop-a-init : goal.loop-a-init
loop-a-init c =
    let args = c.args in
    let few = length-take args.count args.arrivals in
    let long = ending_size (take args.count args.arrivals) args.steps in
    left_all args.room.now args.at (ending_bytes (take args.count args.arrivals) args.steps) (omega arith)

pub loop-a-preserved : goal.loop-a-preserved
loop-a-preserved c =
    let row = take c.args.count c.args.arrivals in
    let one = next_left row c.loop-a.a-index (arrival_from []) c.loop-a-test.true in
    left_less
    (record_bytes arrival_kind (arrival_values (get_or row c.loop-a.a-index (arrival_from []))))
    _
    (rw one at c.loop-a.invariant)
    (c.arrival-next.ensures.value, c.arrival-next.ensures.room_after)

pub returns : goal.returns
returns c =
    let over = drop_all c.loop-a.a-index (take c.args.count c.args.arrivals) c.loop-a-test.false in
    let both = left_last (rw over at c.loop-a.invariant) (c.run.ensures.value, c.run.ensures.room_after) in
    record {
      value = both.0;
      room_after = both.1;
    }
