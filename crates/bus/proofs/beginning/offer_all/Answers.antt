-- `beginning::offer_all` meets its contract: each station's offer is the packet chosen of its queue.
use Rattle.std.proofs.Common.{ℕ, Bool, ◌+◌, ◌*◌, ◌≤◌, ◌<◌, ◌≡◌, sym, ap, ap₂, ◌∙◌, subst, false, ◌||◌, eqb, get_or, rules}
use Rattle.rules.specs.declared.Discipline.{Discipline}
use Rattle.std.proofs.Math.Option.{some}
use Rattle.rules.specs.Bus.{late}
use Rattle.rules.specs.Begin.{sits_out}
use Rattle.rules.proofs.Laws.{or-false}
use Rattle.bus.specs.Types.{Segment, Queues, State}
use Rattle.state.specs.State.{no_packet, nobody, meaning, last_of}
use Rattle.bus.specs.Parts.{rank_of, looked_of}
use Rattle.state.proofs.Stands.{Lent, lent_held, few_packets}
use Rattle.bus.proofs.InTurn.{below, below_length, below_of, slot_in, slot_fits, slot_offset, within_rows, within_offset, at_end, spaces, offer_recorded}
use Rattle.bus.proofs.BeginningLaws.{nothing_by}
use Rattle.bus.proofs.OffersInPlace.{Best, offered_to, InTimeTo, offering_none, in_time_none, offering_same, in_time_same, in_time_offered, best_first, best_better, best_stays, best_offered, looked_some}
use Rattle.bus.proofs.beginning.offer_all.Goals as goal
use Rattle.bus.proofs.beginning.offer_all.Goals.{Start, In-loop-i, Else-offers_nothing, then-rank-least, else-rank-least}

lent! : (c : Start) → Lent c.args.s.now
lent! c = lent_held c.args.s.now c.requires.held c.requires.stands

pub loop-i-init : goal.loop-i-init
loop-i-init c =
    let s = c.args.s.now in
    let r = lent! (goal.at.loop-i-init c).Start in
    (ap (λ (g : Segment). record { segment = g; queues = s.queues }) (offering_none s r c.requires.between), λ e. in_time_none s r)

-- station i is one of the rows
row! : (c : In-loop-i) → c.loop-i.i < 64
row! c =
    below c.loop-i.i c.args.s.now.segment.settings.n c.loop-i-test.true (lent_held c.args.s.now c.requires.held c.requires.stands).few

pub offset_bounds-s-i : goal.offset_bounds-s-i
offset_bounds-s-i c = let h = row! c in search rules

pub bounds-s-i : goal.bounds-s-i
bounds-s-i c = row! (goal.at.bounds-s-i c).In-loop-i

pub offset_bounds-s-i-in-loop-i : goal.offset_bounds-s-i-in-loop-i
offset_bounds-s-i-in-loop-i c = let h = row! (goal.at.offset_bounds-s-i-in-loop-i c).In-loop-i in search rules

pub bounds-s-i-in-loop-i : goal.bounds-s-i-in-loop-i
bounds-s-i-in-loop-i c = row! (goal.at.bounds-s-i-in-loop-i c).In-loop-i

-- whether a station offers nothing, which no offer before it changes
abbrev nothing_of : State → State → ℕ → Bool
nothing_of s x i =
    eqb (get_or x.queues.lengths i 0) 0
    || sits_out (meaning s).discipline (last_of s.segment.round) (get_or x.segment.listed i nobody).capability.0

pub loop-i-preserved-then-offers_nothing : goal.loop-i-preserved-then-offers_nothing
loop-i-preserved-then-offers_nothing c =
    let s = c.args.s.now in
    let i = c.loop-i.i in
    let r = lent_held s c.requires.held c.requires.stands in
    let nothing =
    sym (c.offers_nothing.ensures ∙ ap (nothing_by (get_or c.loop-i.s.queues.lengths i 0) s.segment.round (get_or c.loop-i.s.segment.listed i nobody)) c.from-discipline.ensures ∙ ap (λ (x : State). nothing_of s x i) c.loop-i.invariant.0) ∙ c.if-offers_nothing.true in (
      c.loop-i.invariant.0 ∙ ap (λ (g : Segment). record { segment = g; queues = s.queues }) (offering_same s r i c.loop-i-test.true nothing),
      λ e. in_time_same s r i c.loop-i-test.true nothing (c.loop-i.invariant.1 e),
    )

-- the station offers a packet
module _ (c : Else-offers_nothing) where
  abbrev s : State
  s = c.args.s.now

  abbrev i : ℕ
  i = c.loop-i.i

  r : Lent s
  r = lent_held s c.requires.held c.requires.stands

  here! : i < s.segment.settings.n
  here! = c.loop-i-test.true

  offers! : nothing_of s s i ≡ false
  offers! =
      sym (c.offers_nothing.ensures ∙ ap (nothing_by (get_or c.loop-i.s.queues.lengths i 0) s.segment.round (get_or c.loop-i.s.segment.listed i nobody)) c.from-discipline.ensures ∙ ap (λ (x : State). nothing_of s x i) c.loop-i.invariant.0)
      ∙ c.if-offers_nothing.false

  within_row! : i < 64
  within_row! = below i s.segment.settings.n here! r.few

  room! : get_or s.queues.lengths i 0 ≤ 16
  room! = few_packets s r i within_row!

  -- the queues are those at the outset
  queues! : c.loop-i.s.queues ≡ s.queues
  queues! = ap (λ (x : State). x.queues) c.loop-i.invariant.0

  looked_as :
      (looked : ℕ) → looked ≡ looked_of c.from-discipline.result (get_or c.loop-i.s.queues.lengths i 0)
      → looked ≡ looked_of (meaning s).discipline (get_or s.queues.lengths i 0)
  looked_as looked e =
      e ∙ ap₂ (λ (d : Discipline) (q : Queues). looked_of d (get_or q.lengths i 0)) c.from-discipline.ensures queues!

  -- no more packets are looked at than there are
  looked_room : (looked : ℕ) → looked ≡ looked_of c.from-discipline.result (get_or c.loop-i.s.queues.lengths i 0) → (j : ℕ) → j < looked → j < 16
  looked_room looked e j more =
      let few = (looked_some s r i here! offers! looked (looked_as looked e)).1 in
      below_length j (get_or s.queues.lengths i 0) (below_of j looked (get_or s.queues.lengths i 0) more few) room!

  -- the best packet so far, in the queues at the outset and in those of the turn
  as_now : (looked place least j : ℕ) → Best (meaning s).discipline s.queues i looked place least j → Best (meaning s).discipline c.loop-i.s.queues i looked place least j
  as_now looked place least j = subst (λ (q : Queues). Best (meaning s).discipline q i looked place least j) (sym queues!)

  at_outset : (looked place least j : ℕ) → Best (meaning s).discipline c.loop-i.s.queues i looked place least j → Best (meaning s).discipline s.queues i looked place least j
  at_outset looked place least j = subst (λ (q : Queues). Best (meaning s).discipline q i looked place least j) queues!

  abbrev rank_at : Queues → ℕ → ℕ
  rank_at q place = rank_of (get_or q.packets place no_packet)

  rank_as : (place rank : ℕ) → rank ≡ rank_at c.loop-i.s.queues place → rank ≡ rank_at s.queues place
  rank_as place rank e = e ∙ ap (λ (q : Queues). rank_at q place) queues!

pub loop-j-init : goal.loop-j-init
loop-j-init c =
    let on = (goal.at.loop-j-init c).Else-offers_nothing in
    let looked = c.looked_at-looked.result in
    as_now on looked (16 * i on) c.rank-least.result 1
    (best_first (s on) (r on) (i on) (here! on) (offers! on) looked (looked_as on looked c.looked_at-looked.ensures) (rank_as on (16 * i on) c.rank-least.result c.rank-least.ensures))

pub overflow_add-at : goal.overflow_add-at
overflow_add-at c =
    let on = (goal.at.overflow_add-at c).Else-offers_nothing in
    slot_fits (i on) c.loop-j.j (within_row! on) (looked_room on c.looked_at-looked.result c.looked_at-looked.ensures c.loop-j.j c.loop-j-test.true)

pub offset_bounds-s-at : goal.offset_bounds-s-at
offset_bounds-s-at c =
    let on = (goal.at.offset_bounds-s-at c).Else-offers_nothing in
    slot_offset (i on) c.loop-j.j (within_row! on) (looked_room on c.looked_at-looked.result c.looked_at-looked.ensures c.loop-j.j c.loop-j-test.true)

pub bounds-s-at : goal.bounds-s-at
bounds-s-at c =
    let on = (goal.at.bounds-s-at c).Else-offers_nothing in
    slot_in (i on) c.loop-j.j (within_row! on) (looked_room on c.looked_at-looked.result c.looked_at-looked.ensures c.loop-j.j c.loop-j-test.true)

pub loop-j-preserved : goal.loop-j-preserved
loop-j-preserved c =
    let on = (goal.at.loop-j-preserved c).Else-offers_nothing in
    let at = c.loop-j in
    let looked = c.looked_at-looked.result in
    let looked! = looked_as on looked c.looked_at-looked.ensures in
    let so_far = at_outset on looked at.place at.least at.j at.invariant in
    let rank = rank_as on (16 * i on + at.j) c.rank-rank.result c.rank-rank.ensures in
    let discipline = (meaning (s on)).discipline in
    elim c.if-rank-least.branch [
      | then-rank-least w ↦
          subst (λ (k : ℕ). Best discipline c.loop-i.s.queues (i on) looked c.if-rank-least.place k (at.j + 1)) (sym w.least-is)
          (subst (λ (k : ℕ). Best discipline c.loop-i.s.queues (i on) looked k c.rank-rank.result (at.j + 1)) (sym w.place-is)
          (as_now on looked (16 * i on + at.j) c.rank-rank.result (at.j + 1)
          (best_better (s on) (r on) (i on) (here! on) (offers! on) looked looked! at.place at.least at.j so_far c.loop-j-test.true rank w.if-rank-least.true)))
      | else-rank-least w ↦
          subst (λ (k : ℕ). Best discipline c.loop-i.s.queues (i on) looked c.if-rank-least.place k (at.j + 1)) (sym w.least-is)
          (subst (λ (k : ℕ). Best discipline c.loop-i.s.queues (i on) looked k at.least (at.j + 1)) (sym w.place-is)
          (as_now on looked at.place at.least (at.j + 1)
          (best_stays (s on) (r on) (i on) (here! on) (offers! on) looked looked! at.place at.least at.j so_far c.loop-j-test.true rank w.if-rank-least.false)))
    ]

pub offset_bounds-s-place : goal.offset_bounds-s-place
offset_bounds-s-place c =
    let on = (goal.at.offset_bounds-s-place c).Else-offers_nothing in
    let so_far = at_outset on c.looked_at-looked.result c.loop-j.place c.loop-j.least c.loop-j.j c.loop-j.invariant in
    within_offset c.loop-j.place (within_rows (i on) (get_or (s on).queues.lengths (i on) 0) c.loop-j.place (within_row! on) (room! on) so_far.1)

pub bounds-s-place : goal.bounds-s-place
bounds-s-place c =
    let on = (goal.at.bounds-s-place c).Else-offers_nothing in
    let so_far = at_outset on c.looked_at-looked.result c.loop-j.place c.loop-j.least c.loop-j.j c.loop-j.invariant in
    within_rows (i on) (get_or (s on).queues.lengths (i on) 0) c.loop-j.place (within_row! on) (room! on) so_far.1

pub parameter-requires-clause-q_positive : goal.parameter-requires-clause-q_positive
parameter-requires-clause-q_positive c =
    let on = (goal.at.parameter-requires-clause-q_positive c).Else-offers_nothing in (spaces (s on) (r on)).0

pub parameter-requires-clause-d_positive : goal.parameter-requires-clause-d_positive
parameter-requires-clause-d_positive c =
    let on = (goal.at.parameter-requires-clause-d_positive c).Else-offers_nothing in (spaces (s on) (r on)).1

pub loop-i-preserved : goal.loop-i-preserved
loop-i-preserved c =
    let on = (goal.at.loop-i-preserved c).Else-offers_nothing in
    let at = c.loop-j in
    let looked = c.looked_at-looked.result in
    let p = get_or c.loop-i.s.queues.packets at.place no_packet in
    let so_far = at_outset on looked at.place at.least at.j at.invariant in
    let offered =
    best_offered (s on) (r on) (i on) (here! on) (offers! on) looked (looked_as on looked c.looked_at-looked.ensures) at.place at.least at.j so_far c.loop-j-test.false
    ∙ ap (λ (q : Queues). some (get_or q.packets at.place no_packet)) (sym (queues! on)) in (
      (λ k.
          record {
            segment =
                offer_recorded (s on) (r on) (i on) (here! on) (offers! on) p offered c.loop-i.s.segment (ap (λ (x : State). x.segment) c.loop-i.invariant.0)
                c.set-s.result c.set-s.ensures c.parameter.result c.parameter.ensures k;
            queues = queues! on k;
          }),
      λ e.
          let both = or-false c.loop-i.late (late (meaning (s on)).discipline (s on).segment.clock.0 p.value) (sym c.late_offered-late.ensures ∙ e) in
          in_time_offered (s on) (r on) (i on) (here! on) (offers! on) p offered both.1 (c.loop-i.invariant.1 both.0),
    )

pub returns-clause-offers : goal.returns-clause-offers
returns-clause-offers c =
    let s = c.args.s.now in
    c.loop-i.invariant.0 ∙ ap (offered_to s) (at_end c.loop-i.i s.segment.settings.n c.loop-i.auto.i-end c.loop-i-test.false)

pub returns-clause-in_time : goal.returns-clause-in_time
returns-clause-in_time c =
    let s = c.args.s.now in
    λ e. subst (InTimeTo s) (at_end c.loop-i.i s.segment.settings.n c.loop-i.auto.i-end c.loop-i-test.false) (c.loop-i.invariant.1 e)
