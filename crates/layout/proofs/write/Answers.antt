-- `write` meets its contract: the set-up, the stations and the ending, which fit.
use Rattle.std.proofs.Common.{◌+◌, ◌≤◌, ◌≡◌, ◌∙◌, rules, zero-add, arith, length}
use Rattle.text.specs.Room.{stored, past}
use Rattle.text.proofs.Promises.{past_fits}
use Rattle.scenario.specs.Writing.{written}
use Rattle.packing.proofs.Promises.{written_size, whole_stored}
use Rattle.layout.specs.Layout.{request_in}
use Rattle.layout.specs.Parts.{plan_of}
use Rattle.layout.proofs.Faulty.{stations_counted, arrivals_counted}
use Rattle.layout.proofs.write.Goals as goal
use Rattle.layout.proofs.write.Goals.{After-ending}

-- all of it is stored
fits : (c : After-ending) → let p = plan_of c.args.plan.now in 0 + length (written (request_in p) p.arrivals c.args.plan.now.steps) ≤ 65536
fits c =
    let g = c.args.plan.now in
    let p = plan_of g in
    omega (arith, g.short, written_size (request_in p) p.arrivals g.steps, stations_counted g (search rules), arrivals_counted g (search rules))

-- what is stored, and the offset past it
whole : (c : After-ending) → let p = plan_of c.args.plan.now in let bytes = written (request_in p) p.arrivals c.args.plan.now.steps in
    (c.ending.result ≡ past 0 bytes) × (c.ending.new.room ≡ stored c.args.room.now 0 bytes)
whole c =
    let p = plan_of c.args.plan.now in
    whole_stored
    c.args.room.now
    0
    (request_in p)
    p.arrivals
    c.args.plan.now.steps
    (fits c)
    (c.set_up-after.ensures.value, c.set_up-after.ensures.room_after)
    (c.stations-past.ensures.value, c.stations-past.ensures.room_after)
    (c.ending.ensures.value, c.ending.ensures.room_after)

counted : (c : After-ending) → let p = plan_of c.args.plan.now in c.ending.result ≡ length (written (request_in p) p.arrivals c.args.plan.now.steps)
counted c = let p = plan_of c.args.plan.now in (whole c).0 ∙ past_fits 0 (written (request_in p) p.arrivals c.args.plan.now.steps) (fits c) ∙ zero-add _

pub returns-clause-value : goal.returns-clause-value
returns-clause-value c = counted c

pub returns-clause-room_after : goal.returns-clause-room_after
returns-clause-room_after c = (whole c).1
