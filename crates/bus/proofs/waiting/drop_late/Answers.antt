-- `waiting::drop_late` meets its contract.
use Rattle.std.proofs.Common.{◌<◌, ◌≤◌, ap, arith, get_or}
use Rattle.bus.specs.Types.{Queue}
use Rattle.bus.specs.Parts.{stays, Late}
use Rattle.bus.proofs.ClosingUp.{left_none, left_here, left_formed, left_more, left_all}
use Rattle.bus.proofs.waiting.drop_late.Goals as goal
use Rattle.bus.proofs.waiting.drop_late.Goals.{In-loop-i}

pub loop-i-init : goal.loop-i-init
loop-i-init c = (c.requires.rows, left_none (stays (Late c.args.discipline c.args.slot)) c.args.queues.now 0)

-- station i, which comes next, still has its queue
module _ (c : In-loop-i) where
  here! : c.loop-i.i < 64
  here! = omega (arith, c.loop-i-test.true, c.requires.n_bound)

  room! : get_or c.loop-i.queues.lengths c.loop-i.i 0 ≤ 16
  room! =
      let same = left_here (stays (Late c.args.discipline c.args.slot)) c.args.queues.now 0 c.loop-i.i c.loop-i.queues here! c.loop-i.invariant.1 in
      omega (arith, ap (λ (queue : Queue). queue.length) same, c.requires.lengths_bound c.loop-i.i here!)

pub close_up-requires : goal.close_up-requires
close_up-requires c =
    let at = (goal.at.close_up-requires c).In-loop-i in
    let f = stays (Late c.args.discipline c.args.slot) in
    record {
      place_bound = here! at;
      rows = c.loop-i.invariant.0;
      padded = left_formed f c.args.queues.now 0 c.loop-i.i c.loop-i.queues (here! at) c.loop-i.invariant.1 (c.requires.padded c.loop-i.i (here! at));
      length_bound = room! at;
    }

pub loop-i-preserved : goal.loop-i-preserved
loop-i-preserved c =
    let at = (goal.at.loop-i-preserved c).In-loop-i in
    let f = stays (Late c.args.discipline c.args.slot) in
    let turn = c.loop-i in
    let after = left_more f c.args.queues.now 0 turn.i turn.queues (omega arith) (here! at) turn.invariant.0.0 turn.invariant.0.1 (room! at) turn.invariant.1 _ c.close_up.ensures in
    ((after.0, after.1), after.2)

pub returns : goal.returns
returns c =
    let turn = c.loop-i in
    let f = stays (Late c.args.discipline c.args.slot) in
    record {
      rows = turn.invariant.0;
      left = left_all f c.args.queues.now 0 turn.i c.args.n turn.queues (omega arith) (omega arith) turn.invariant.1;
    }
