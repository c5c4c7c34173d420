-- `playing::calls` meets its contract: each way through the loop is one call.
use Rattle.std.proofs.Common.{ℕ, Bool, List, subst, ◌<◌, ◌≡◌, refl, sym, ap, ◌∙◌}
use Rattle.bus.specs.Types.{State}
use Rattle.bus.specs.Stretch.{in_row, may_be_more, Arrivals, Report}
use Rattle.bus.specs.Parts.{addresses_of, stepped_to, admission_to}
use Rattle.state.proofs.Stands.{lent}
use Rattle.state.proofs.StandingParts.{state_held}
use Rattle.bus.proofs.Stretched.{on, at_last, arrivals_array, row_few, row_full}
use Rattle.bus.proofs.InPlace.{Sound, sound_of, held_of, told_of, Going, at_outset, with_one_arrival, with_step}
use Rattle.bus.proofs.playing.calls.Goals as goal
use Rattle.bus.proofs.playing.calls.Goals.{In-loop-arrivals, then-is_due, else-is_due}

-- what a stretch has come to, of equal things
going_as :
    {stands : Bool} {outset : State} {x : Arrivals} {steps made : ℕ} {s s' : State} {reports reports' : List Report} {taken taken' left left' : ℕ}
    → s' ≡ s → reports' ≡ reports → taken' ≡ taken → left' ≡ left
    → Going stands outset x steps s.segment s.queues reports made taken left
    → Going stands outset x steps s'.segment s'.queues reports' made taken' left'
going_as {stands} {outset} {x} {steps} {made} {s} {s'} {reports} {reports'} {taken} {taken'} {left} {left'} a b c d y =
    subst (λ (k : ℕ). Going stands outset x steps s'.segment s'.queues reports' made taken' k) (sym d)
    (subst (λ (k : ℕ). Going stands outset x steps s'.segment s'.queues reports' made k left) (sym c)
    (subst (λ (rs : List Report). Going stands outset x steps s'.segment s'.queues rs made taken left) (sym b)
    (subst (λ (u : State). Going stands outset x steps u.segment u.queues reports made taken left) (sym a) y)))

pub loop-arrivals-init : goal.loop-arrivals-init
loop-arrivals-init c =
    let s = c.args.s in (
      at_outset c.args.stands s c.args.arrivals c.args.steps
          (sound_of s c.args.stands (state_held s _ c.well_formed.0) (lent s _ c.well_formed.0) c.requires),
      refl,
    )

-- ---- in a turn of the loop

module _ (t : In-loop-arrivals) where
  abbrev s : State
  s = t.loop-arrivals.s

  sound! : Sound t.args.stands s
  sound! = t.loop-arrivals.invariant.0.sound

  turned : (t.loop-arrivals.made < 512) × (t.loop-arrivals.taken < 64) × (0 < t.loop-arrivals.left)
  turned = on t.loop-arrivals.made t.loop-arrivals.taken t.loop-arrivals.left (sym t.goes_on.ensures ∙ t.loop-arrivals-test.true)

pub admit_in-admitted-requires : goal.admit_in-admitted-requires
admit_in-admitted-requires c =
    let t = (goal.at.admit_in-admitted-requires c).In-loop-arrivals in
    record { held = held_of c.args.stands (s t) (sound! t); stands = told_of c.args.stands (s t) (sound! t) }

pub step_in-answer-requires : goal.step_in-answer-requires
step_in-answer-requires c =
    let t = (goal.at.step_in-answer-requires c).In-loop-arrivals in
    record {
      held = held_of c.args.stands (s t) (sound! t);
      stands = told_of c.args.stands (s t) (sound! t);
      addresses = c.addresses_of-addresses.ensures ∙ ap addresses_of (sym c.loop-arrivals.invariant.1);
    }

pub loop-arrivals-preserved : goal.loop-arrivals-preserved
loop-arrivals-preserved c =
    let t = (goal.at.loop-arrivals-preserved c).In-loop-arrivals in
    let x = c.args.arrivals in
    let places = arrivals_array x _ c.well_formed.1.1.0 in
    let turn = c.loop-arrivals in
    let all = turned t in
    elim c.if-is_due.branch [
      | then-is_due w ↦
          let done = w.admit_in-admitted in (
            going_as w.s-is w.reports-is w.taken-is w.left-is
                (with_one_arrival c.args.stands x places c.args.s c.args.steps turn.s.segment turn.s.queues turn.reports turn.made turn.taken turn.left turn.invariant.0 all.0 all.1 all.2
                (sym c.is_due.ensures ∙ w.if-is_due.true)
                (admission_to done.result done.new.s)
                done.ensures.admitted
                _
                refl),
            ap (λ (s : State). s.segment.listed) w.s-is ∙ done.ensures.listed ∙ turn.invariant.1,
          )
      | else-is_due w ↦
          let done = w.step_in-answer in (
            going_as w.s-is w.reports-is w.taken-is w.left-is
                (with_step c.args.stands x places c.args.s c.args.steps turn.s.segment turn.s.queues turn.reports turn.made turn.taken turn.left turn.invariant.0 all.0 all.1 all.2
                (sym c.is_due.ensures ∙ w.if-is_due.false)
                (stepped_to done.result done.new.s)
                done.ensures.stepped
                _
                refl),
            ap (λ (s : State). s.segment.listed) w.s-is ∙ done.ensures.listed ∙ turn.invariant.1,
          )
    ]

pub returns : goal.returns
returns c =
    let turn = c.loop-arrivals in
    let x = c.args.arrivals in
    let places = arrivals_array x _ c.well_formed.1.1.0 in
    at_last c.args.s (in_row x) (may_be_more x) c.args.steps turn.s turn.reports turn.made turn.taken
    turn.left
    turn.invariant.0.so_far (row_few x places) (row_full x places turn.taken turn.invariant.0.here) (sym c.goes_on.ensures ∙ c.loop-arrivals-test.false)
