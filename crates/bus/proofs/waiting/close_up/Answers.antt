-- `waiting::close_up` meets its contract.
use Rattle.std.proofs.Common.{◌<◌, ◌+◌, ◌*◌, ◌≡◌, refl, sym, ap, ◌∙◌, subst, arith, length, get_or, set}
use Rattle.bus.specs.Types.{Queues}
use Rattle.bus.specs.Parts.{stays}
use Rattle.bus.proofs.ClosingUp.{ClosedUp, closed_none, closed_leaves, closed_stays, closed_all}
use Rattle.bus.proofs.waiting.close_up.Goals as goal
use Rattle.bus.proofs.waiting.close_up.Goals.{else-stays, then-stays}

pub loop-j-init : goal.loop-j-init
loop-j-init c = (omega arith, refl, closed_none (stays c.args.leaving) c.args.queues.now.packets (16 * c.args.place))

pub loop-j-preserved : goal.loop-j-preserved
loop-j-preserved c =
    let xs = c.args.queues.now.packets in
    let f = stays c.args.leaving in
    let first = 16 * c.args.place in
    let said = sym c.stays.ensures in
    let closed = c.loop-j.invariant.2 in
    let within : first + c.loop-j.j < length xs = omega (arith, c.requires.rows.1, c.requires.place_bound, c.requires.length_bound) in
    elim c.if-stays.branch [
      | then-stays w ↦ (
        omega (arith, w.filled-is),
        ap (λ (qs : Queues). qs.lengths) w.queues-is ∙ c.loop-j.invariant.1,
        rw (w.queues-is, w.filled-is)
            (closed_stays f xs first c.loop-j.j within c.loop-j.queues.packets c.loop-j.filled closed (said ∙ w.if-stays.true)),
      )
      | else-stays w ↦ (
        omega (arith, w.filled-is),
        ap (λ (qs : Queues). qs.lengths) w.queues-is ∙ c.loop-j.invariant.1,
        rw (w.queues-is, w.filled-is)
            (closed_leaves f xs first c.loop-j.j within c.loop-j.queues.packets c.loop-j.filled closed (said ∙ w.if-stays.false)),
      )
    ]

pub returns : goal.returns
returns c =
    let qs = c.args.queues.now in
    let inner = c.loop-j in
    let i = c.args.place in
    let f = stays c.args.leaving in
    let all : inner.j ≡ get_or qs.lengths i 0 = omega arith in
    let closed = subst (λ j. ClosedUp f qs.packets (16 * i) j inner.queues.packets inner.filled) all inner.invariant.2 in
    closed_all f qs _ i inner.filled c.requires.place_bound c.requires.rows.1 c.requires.padded closed (ap (λ ls. set ls i inner.filled) inner.invariant.1)
