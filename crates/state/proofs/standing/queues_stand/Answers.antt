-- `standing::queues_stand` meets its contract.
use Rattle.std.proofs.Common.{ap, not, ◌≤◌, ◌<◌, ◌+◌, ◌≡◌, sym, ◌∙◌, true, ◌&&◌, ◌++◌, get_or, arith, eqb, length, take, length-take-le}
use lib.ListN.{length-take}
use Rattle.rules.specs.Lists.{distinct}
use Rattle.rules.specs.Bus.{numbers_in}
use Rattle.state.specs.State.{queue_at}
use Rattle.state.specs.Parts.{place_test, place_sound, queues_sound}
use Rattle.state.proofs.Tested.{denied, passed}
use Rattle.state.proofs.Places.{cut, cut_out, written_one, written_all}
use Rattle.state.proofs.StandingParts.{next, place_fails, place_passes, places-end}
use Rattle.state.proofs.standing.queues_stand.Goals as goal
use Rattle.state.proofs.standing.queues_stand.Goals.{Else-not-place_stands, After-loop-i}

sound : (c : Else-not-place_stands) → place_sound c.args.g.now c.args.queues.now c.loop-i.i ≡ true
sound c =
    let n = get_or c.args.queues.now.lengths c.loop-i.i 0 in
    sym (c.place_stands.ensures ∙ ap (place_test c.args.g.now c.loop-i.i n) (cut_out c.args.queues.now c.loop-i.i)) ∙ c.if-not-place_stands.false

pub returns-then-not-place_stands : goal.returns-then-not-place_stands
returns-then-not-place_stands c =
    let n = get_or c.args.queues.now.lengths c.loop-i.i 0 in
    let told = c.place_stands.ensures ∙ ap (place_test c.args.g.now c.loop-i.i n) (cut_out c.args.queues.now c.loop-i.i) in
    let none = place_fails c.args.g.now c.args.queues.now (take c.loop-i.waiting c.loop-i.numbers) c.loop-i.i c.loop-i-test.true in
    sym (c.loop-i.invariant.2 ∙ none (denied told (ap not c.if-not-place_stands.true)))

-- the packets of place i have room
room :
    (c : Else-not-place_stands)
    → let n = get_or c.args.queues.now.lengths c.loop-i.i 0 in
    (n ≤ 16) × (length (take n (cut c.args.queues.now c.loop-i.i)) ≤ 16)
room c =
    let few = (next c.args.g.now c.args.queues.now c.loop-i.i (sound c)).0 in
    (few, omega (arith, few, length-take (get_or c.args.queues.now.lengths c.loop-i.i 0) (cut c.args.queues.now c.loop-i.i)))

pub loop-p-preserved : goal.loop-p-preserved
loop-p-preserved c =
    let few = (room (goal.at.loop-p-preserved c).Else-not-place_stands).1 in
    let held = take (get_or c.args.queues.now.lengths c.loop-i.i 0) (cut c.args.queues.now c.loop-i.i) in
    let inside : c.loop-i.waiting + c.loop-p.p-index < length c.loop-i.numbers =
    omega (arith, c.loop-i.invariant.0, c.loop-i.invariant.1, c.loop-i-test.true, c.loop-p-test.true, few) in (
      omega (arith, c.loop-p.invariant.0),
      written_one held c.loop-i.waiting c.loop-i.numbers c.loop-p.p-index c.loop-p.invariant.0 inside c.loop-p-test.true c.loop-p.invariant.1,
    )

pub loop-i-preserved : goal.loop-i-preserved
loop-i-preserved c =
    let g = c.args.g.now in
    let qs = c.args.queues.now in
    let i = c.loop-i.i in
    let c' = (goal.at.loop-i-preserved c).Else-not-place_stands in
    let held = take (get_or qs.lengths i 0) (cut c.args.queues.now c.loop-i.i) in
    let few = (room c').1 in
    let same : held ≡ queue_at qs i = ap (take (get_or qs.lengths i 0)) (cut_out c.args.queues.now c.loop-i.i) in
    let inside : c.loop-i.waiting + length held ≤ length c.loop-i.numbers =
    omega (arith, few, c.loop-i.invariant.0, c.loop-i.invariant.1, c.loop-i-test.true) in
    let done : c.loop-p.p-index ≡ length held = omega (arith, c.loop-p.auto.p-index-end, c.loop-p-test.false) in
    let all = written_all held c.loop-i.waiting c.loop-i.numbers c.loop-p.p-index done inside c.loop-p.invariant.1 in
    let numbers =
    ap (λ n. take n c.loop-p.numbers) c.loop-p.invariant.0 ∙ all.1 ∙ ap (λ ps. take c.loop-i.waiting c.loop-i.numbers ++ numbers_in ps) same in (
      omega (arith, c.loop-p.invariant.0, c.loop-i.invariant.0, done, few),
      all.0 ∙ c.loop-i.invariant.1,
      c.loop-i.invariant.2 ∙ place_passes g qs (take c.loop-i.waiting c.loop-i.numbers) i c.loop-i-test.true (sound c') numbers,
    )

-- at the end: the count and the numbers are left
ended :
    (c : After-loop-i)
    → let g = c.args.g.now in
    queues_sound g c.args.queues.now
    ≡ (eqb g.admitted (g.sent + g.lost + c.loop-i.waiting) && distinct (take c.loop-i.waiting c.loop-i.numbers))
ended c =
    let count = length-take-le c.loop-i.waiting c.loop-i.numbers (omega (arith, c.loop-i.invariant.0, c.loop-i.invariant.1)) in
    c.loop-i.invariant.2
    ∙ places-end c.args.g.now c.args.queues.now (take c.loop-i.waiting c.loop-i.numbers) c.loop-i.i c.requires c.loop-i-test.false count

pub returns-then-counts_stand : goal.returns-then-counts_stand
returns-then-counts_stand c =
    c.none_twice.ensures
    ∙ sym (passed (ended (goal.at.returns-then-counts_stand c).After-loop-i) (sym c.counts_stand.ensures ∙ c.if-counts_stand.true))
