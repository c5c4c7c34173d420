-- `played` meets its contract.
use Rattle.std.proofs.Common.{ℕ, ◌+◌, ◌*◌, ◌<◌, ◌≡◌, sym, subst, ⊎_elim, arith}
use Rattle.bus.specs.Stretch.{stretch_form}
use Rattle.listing.proofs.TurnLaws.{stretch_is, taken_few, taken_within}
use Rattle.measure.specs.Parts.{Finishes}
use Rattle.measure.proofs.Finishing.{play_of, stretch_on, one_stretch, turns_fall, Fit, totals_fit, run_with, at_last}
use Rattle.measure.proofs.played.Goals as goal
use Rattle.measure.proofs.played.Goals.{After-closing-totals, After-play-stretch}

-- what the stretch is
is :
    (c : After-play-stretch)
    → c.play-stretch.result ≡ stretch_form (stretch_on c.args.input.now c.loop-steps.state c.loop-steps.at c.loop-steps.steps)
is c =
    stretch_is
    c.args.input.now
    (play_of c.loop-steps.state c.loop-steps.at c.loop-steps.steps)
    c.gather-arrivals.result
    c.play-stretch.result
    c.gather-arrivals.ensures
    c.play-stretch.ensures

-- the next offset is one
next_fits :
    (c : After-play-stretch)
    → c.loop-steps.at + 16 * c.play-stretch.result.taken < 18_446_744_073_709_551_616
next_fits c =
    let here = c.loop-steps.invariant.0 in
    let within = c.well_formed.0 in
    ⊎_elim
    (λ h. omega arith)
    (λ h. omega arith)
    (taken_within
    c.args.input.now
    (play_of c.loop-steps.state c.loop-steps.at c.loop-steps.steps)
    c.play-stretch.result
    (is c))

pub overflow_mul-at : goal.overflow_mul-at
overflow_mul-at c =
    let few =
    taken_few
    c.args.input.now
    (play_of c.loop-steps.state c.loop-steps.at c.loop-steps.steps)
    c.play-stretch.result
    (is (goal.at.overflow_mul-at c).After-play-stretch) in
    omega arith

pub overflow_add-at : goal.overflow_add-at
overflow_add-at c = let h = next_fits (goal.at.overflow_add-at c).After-play-stretch in omega arith

pub loop-steps-smaller : goal.loop-steps-smaller
loop-steps-smaller c =
    turns_fall
    c.args.input.now
    c.loop-steps.state
    c.loop-steps.at
    c.loop-steps.steps
    c.play-stretch.result
    (is (goal.at.loop-steps-smaller c).After-play-stretch)
    c.loop-steps-test.true

pub loop-steps-preserved : goal.loop-steps-preserved
loop-steps-preserved c =
    let x = c.play-stretch.result in
    let input = c.args.input.now in (
      next_fits (goal.at.loop-steps-preserved c).After-play-stretch,
      λ r rest.
          c.loop-steps.invariant.1 r
          (one_stretch input c.loop-steps.at c.loop-steps.steps c.loop-steps.longest r c.loop-steps.state x (is (goal.at.loop-steps-preserved c).After-play-stretch)
          (subst
          (λ (w : ℕ). Finishes input x.state (c.loop-steps.at + 16 * x.taken) x.left w r)
          c.longest_in-longest.ensures
          rest)),
    )

-- the counts of the state fit
fit : (c : After-closing-totals) → Fit c.closing-totals.result
fit c = subst Fit (sym c.closing-totals.ensures) (totals_fit c.loop-steps.state)

pub overflow_cast-result : goal.overflow_cast-result
overflow_cast-result c = let h = fit (goal.at.overflow_cast-result c).After-closing-totals in omega (arith, h.admitted)

pub overflow_cast-result-2 : goal.overflow_cast-result-2
overflow_cast-result-2 c = let h = fit (goal.at.overflow_cast-result-2 c).After-closing-totals in omega (arith, h.sent)

pub overflow_cast-result-3 : goal.overflow_cast-result-3
overflow_cast-result-3 c = let h = fit (goal.at.overflow_cast-result-3 c).After-closing-totals in omega (arith, h.lost)

pub overflow_cast-result-4 : goal.overflow_cast-result-4
overflow_cast-result-4 c = let h = fit (goal.at.overflow_cast-result-4 c).After-closing-totals in omega (arith, h.waiting)

pub overflow_cast-result-5 : goal.overflow_cast-result-5
overflow_cast-result-5 c = let h = fit (goal.at.overflow_cast-result-5 c).After-closing-totals in omega (arith, h.turned)

pub returns : goal.returns
returns c =
    let input = c.args.input.now in
    let run = run_with c.closing-totals.result c.loop-steps.longest in
    let none : c.loop-steps.steps ≡ 0 = omega (arith, c.loop-steps-test.false) in
    c.loop-steps.invariant.1 run
    (subst
    (λ (n : ℕ). Finishes input c.loop-steps.state c.loop-steps.at n c.loop-steps.longest run)
    (sym none)
    (at_last input c.loop-steps.state c.loop-steps.at c.loop-steps.longest c.closing-totals.result c.closing-totals.ensures))
