-- `record` meets its contract: the two parts, one past the other, are the whole.
use Rattle.std.proofs.Common.{ap₂, ◌∙◌, arith, rules, length, ◌≡◌}
use Rattle.text.specs.Room.{stored}
use Rattle.text.proofs.Stores.{stored_then}
use Rattle.packing.proofs.record.Goals as goal

pub returns-clause-room_after : goal.returns-clause-room_after
returns-clause-room_after c =
    let four : length c.args.beginning ≡ 4 = search rules in
    c.letters.ensures.room_after
    ∙ ap₂ (λ room next. stored room next c.args.body.now) c.letters-next.ensures.room_after c.letters-next.ensures.value
    ∙ stored_then c.args.room.now c.args.at c.args.beginning c.args.body.now (omega arith)
