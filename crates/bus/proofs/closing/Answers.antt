-- `closing` meets its contract: of a state that stands the clock and the counts, and what waits by the lengths of the queues.
use Rattle.std.proofs.Common.{ap, not, ℕ, ◌∙◌}
use Rattle.bus.specs.Types.{State}
use Rattle.bus.specs.Coded.{Totals}
use Rattle.state.proofs.Tested.{denied, granted}
use Rattle.state.proofs.Stands.{lent, waiting_counted}
use Rattle.bus.proofs.closing.Goals as goal

pub returns-then-not-stands : goal.returns-then-not-stands
returns-then-not-stands c = rw (denied c.stands.ensures (ap not c.if-not-stands.true))

-- the totals of a state with this many packets waiting
abbrev totals : State → ℕ → Totals
totals s waiting =
    record {
      refusal = 0;
      clock = s.segment.clock;
      admitted = s.segment.admitted;
      sent = s.segment.sent;
      lost = s.segment.lost;
      waiting = waiting;
      turned = s.segment.turned;
    }

pub returns : goal.returns
returns c =
    let s = c.args.s in
    let stood! = granted c.stands.ensures (ap not c.if-not-stands.false) in
    let r = lent s _ c.well_formed.0 stood! in
    let waiting! = c.waiting_in-waiting.ensures ∙ waiting_counted s r in
    rw stood! (ap (totals s) waiting!)
