-- `beginning::offers_of` meets its contract.
use Rattle.std.proofs.Common.{◌<◌, ◌≡◌, sym, ap, ◌∙◌, ◌+◌, ◌-◌, ◌*◌, arith, eqb, get_or, take, drop, length-take-le}
use Rattle.std.proofs.lemmas.List.{take-take}
use borrow.Author.Tests.{eqb-false}
use Rattle.rules.proofs.Laws.{or-false}
use Rattle.state.specs.State.{nobody, places_at, queue_at}
use Rattle.state.proofs.Contenders.{none_recorded}
use Rattle.state.proofs.Places.{queues_arrays, places_count}
use Rattle.bus.proofs.BeginningLaws.{nothing_by, nothing_offered, place_for, places_to, places_none, places_more, places_same, offered_contends}
use Rattle.bus.proofs.beginning.offers_of.Invariants.{offering_with}
use Rattle.bus.proofs.beginning.offers_of.Goals as goal

pub loop-i-init : goal.loop-i-init
loop-i-init c = (omega arith, ap (offering_with c.args.g) (none_recorded ∙ places_none (place_for c.args.g c.args.queues)))

pub loop-i-preserved-then-offers_nothing : goal.loop-i-preserved-then-offers_nothing
loop-i-preserved-then-offers_nothing c =
    let g = c.args.g in
    let qs = c.args.queues in
    let still = nothing_offered g qs c.loop-i.i (sym (c.offers_nothing.ensures ∙ ap (nothing_by (get_or qs.lengths c.loop-i.i 0) g.round (get_or g.listed c.loop-i.i nobody)) c.from-discipline.ensures) ∙ c.if-offers_nothing.true) in
    (omega arith, c.loop-i.invariant.1 ∙ ap (offering_with g) (places_same (place_for g qs) c.loop-i.i still))

pub contender_for-c-requires : goal.contender_for-c-requires
contender_for-c-requires c =
    let none = eqb (get_or c.args.queues.lengths c.loop-i.i 0) 0 in
    let sits = (or-false none _ (sym (c.offers_nothing.ensures ∙ ap (nothing_by (get_or c.args.queues.lengths c.loop-i.i 0) c.args.g.round (get_or c.args.g.listed c.loop-i.i nobody)) c.from-discipline.ensures) ∙ c.if-offers_nothing.false)).1 in
    record {
      q_positive = c.requires.q_positive;
      d_positive = c.requires.d_positive;
      takes_part = sits;
    }

pub loop-i-preserved : goal.loop-i-preserved
loop-i-preserved c =
    let g = c.args.g in
    let qs = c.args.queues in
    let i = c.loop-i.i in
    let here : i < 64 = omega (arith, c.requires.n_bound) in
    let row = (queues_arrays qs _ c.well_formed.1.0).1 in
    let many : 16 * i + get_or qs.lengths i 0 - 16 * i ≡ get_or qs.lengths i 0 = omega arith in
    let all : take (16 * i + get_or qs.lengths i 0 - 16 * i) (drop (16 * i) qs.packets) ≡ queue_at qs i =
    ap (λ k. take k (drop (16 * i) qs.packets)) many ∙ sym (take-take (get_or qs.lengths i 0) 16 (drop (16 * i) qs.packets) (c.requires.lengths_bound i (omega arith))) in
    let none = eqb (get_or qs.lengths i 0) 0 in
    let told = or-false none _ (sym (c.offers_nothing.ensures ∙ ap (nothing_by (get_or qs.lengths i 0) g.round (get_or g.listed i nobody)) c.from-discipline.ensures) ∙ c.if-offers_nothing.false) in
    let waits = eqb-false (get_or qs.lengths i 0) 0 told.0 in
    let held = length-take-le (get_or qs.lengths i 0) (places_at qs i) (omega (arith, places_count qs i here row, c.requires.lengths_bound i (omega arith))) in
    let contends = offered_contends g.settings g.clock g.round (get_or g.listed i nobody) (queue_at qs i) (λ e. waits (sym held ∙ e)) told.1 in
    (omega arith, rw (c.set.ensures, c.loop-i.invariant.1, c.contender_for-c.ensures, all) (ap (offering_with g) (places_more (place_for g qs) i here contends)))

pub returns : goal.returns
returns c =
    let turn = c.loop-i in
    let all : turn.i ≡ c.args.g.settings.n = omega arith in
    turn.invariant.1 ∙ ap (λ k. offering_with c.args.g (places_to (place_for c.args.g c.args.queues) k)) all
