-- `open` meets its contract: what the reader answers is played, or its refusal told.
use Rattle.std.proofs.Common.{ap, ◌∙◌, arith, rules}
use Rattle.text.specs.Room.{room_bytes}
use Rattle.text.proofs.Stores.{told_within}
use Rattle.listing.specs.Turns.{over, opened_by}
use Rattle.listing.proofs.TurnLaws.{turn-of}
use Rattle.listing.proofs.open.Goals as goal

pub returns-in-Err : goal.returns-in-Err
returns-in-Err c =
    let told = told_within {q = room_bytes} (c.refused.ensures.told (omega arith)) (omega arith) in
    let all = turn-of
    (ap opened_by c.in-Err.ensures)
    (record { play = c.over.ensures ∙ ap over c.all_zero.ensures; told = rw c.from.ensures at told }) in
    record {
      value = all.0;
      room_after = search (rules, all);
      length_bound = all.1.1;
    }
