-- `arrivals::insert` meets its contract.
use Rattle.std.proofs.Common.{◌-◌, arith, length, length-take-le}
use Rattle.layout.proofs.Inserting.{inserted_there}
use Rattle.layout.proofs.arrivals.insert.Goals as goal

pub returns : goal.returns
returns c =
    inserted_there c.args.places.now c.rotate_right.new.self c.before-at.result c.args.arrival (omega (arith, c.before-at.ensures.upper_bound, length-take-le (length c.args.places.now - 1) c.args.places.now (omega arith))) c.rotate_right.ensures.after c.before-at.ensures.value
