-- `go_on` meets its contract: the arrivals that come next are gathered, the stretch is made, and its reports are told.
use Rattle.std.proofs.Common.{◌≡◌, ⊎_elim, arith}
use Rattle.bus.specs.Stretch.{stretch_form}
use Rattle.listing.specs.Turns.{next_arrivals, course_of}
use Rattle.listing.proofs.TurnLaws.{stretch_is, taken_few, taken_within}
use Rattle.listing.proofs.go_on.Goals as goal
use Rattle.listing.proofs.go_on.Goals.{After-play-stretch}

-- what the stretch is
is :
    (c : After-play-stretch)
    → let args = c.args in
    c.play-stretch.result ≡ stretch_form (course_of (next_arrivals args.input.now args.play.at) args.play)
is c =
    let args = c.args in
    stretch_is args.input.now args.play c.gather-arrivals.result c.play-stretch.result c.gather-arrivals.ensures c.play-stretch.ensures

pub overflow_mul-next : goal.overflow_mul-next
overflow_mul-next c =
    let args = c.args in
    let few = taken_few args.input.now args.play c.play-stretch.result (is (goal.at.overflow_mul-next c).After-play-stretch) in
    omega arith

pub overflow_add-next : goal.overflow_add-next
overflow_add-next c =
    let args = c.args in
    let here = c.well_formed.1.0.1.1.1.0.1 in
    let within = c.well_formed.0 in
    ⊎_elim
    (λ h. omega (arith, here))
    (λ h. omega arith)
    (taken_within args.input.now args.play c.play-stretch.result (is (goal.at.overflow_add-next c).After-play-stretch))
