-- `beginning::begin_in` meets its contract: the state is the form of the bus in which a contention has begun.
use Rattle.std.proofs.Common.{ℕ, ◌-◌, ◌≤◌, ◌<◌, ◌≡◌, sym, ap, ◌∙◌, subst, length, get_or}
use Rattle.bus.specs.Types.{Segment, State, Queues}
use Rattle.state.specs.State.{meaning, queue_at, waiting_in}
use Rattle.state.specs.Parts.{queue_of}
use Rattle.bus.specs.Parts.{IsRow, offering_all, queue_form, stays, Late}
use Rattle.state.proofs.Stands.{Lent, lent_held, few_packets}
use Rattle.bus.proofs.ClosingUp.{LeftIn}
use Rattle.rules.specs.Begin.{drops_of}
use Rattle.bus.proofs.OffersInPlace.{offering_to}
use Rattle.bus.proofs.BeginningLaws.{in_time_at, all_formed}
use Rattle.bus.proofs.InTurn.{fewer_left, drops_are, MayBegin, may_begin_so, begun_late, begun_on_time, opened_late, opened_on_time, none_dropped}
use Rattle.bus.proofs.beginning.begin_in.Goals as goal
use Rattle.bus.proofs.beginning.begin_in.Goals.{After-offer_all}

module _ (c : After-offer_all) where
  abbrev s : State
  s = c.args.s.now

  r : Lent s
  r = lent_held s c.requires.held c.requires.stands

  -- the state with the offers
  abbrev x : State
  x = c.offer_all.new.s

  x! : x ≡ offering_all s
  x! = c.offer_all.ensures.offers

  queues! : s.queues ≡ x.queues
  queues! = ap (λ (y : State). y.queues) (sym x!)

pub returns-then-not-offer_all-clause-begun : goal.returns-then-not-offer_all-clause-begun
returns-then-not-offer_all-clause-begun c =
    let at = (goal.at.returns-then-not-offer_all-clause-begun c).After-offer_all in
    begun_on_time (s at) (r at) (c.offer_all.ensures.in_time c.if-not-offer_all.true) (x at) (x! at) c.opening-s.result c.opening-s.ensures

pub returns-then-not-offer_all-clause-drops : goal.returns-then-not-offer_all-clause-drops
returns-then-not-offer_all-clause-drops c =
    let at = (goal.at.returns-then-not-offer_all-clause-drops c).After-offer_all in
    none_dropped (s at) (r at) (c.offer_all.ensures.in_time c.if-not-offer_all.true)

pub drop_late-requires-clause-n_bound : goal.drop_late-requires-clause-n_bound
drop_late-requires-clause-n_bound c = (r (goal.at.drop_late-requires-clause-n_bound c).After-offer_all).few

pub drop_late-requires-clause-padded : goal.drop_late-requires-clause-padded
drop_late-requires-clause-padded c =
    let at = (goal.at.drop_late-requires-clause-padded c).After-offer_all in
    subst (λ (q : Queues). (j : ℕ) → j < 64 → queue_of q j ≡ queue_form (queue_at q j)) (queues! at) (all_formed (s at) (r at))

pub drop_late-requires-clause-lengths_bound : goal.drop_late-requires-clause-lengths_bound
drop_late-requires-clause-lengths_bound c =
    let at = (goal.at.drop_late-requires-clause-lengths_bound c).After-offer_all in
    subst (λ (q : Queues). (j : ℕ) → j < 64 → get_or q.lengths j 0 ≤ 16) (queues! at) (few_packets (s at) (r at))

-- late packets have left
module _ (at : After-offer_all) (rest : Queues) where
  abbrev n : ℕ
  n = (s at).segment.settings.n

  abbrev LeftOf : State → Type 0
  LeftOf y = LeftIn (stays (Late (s at).segment.settings.discipline y.segment.clock)) y.queues 0 n rest

  left! : LeftOf (x at) → LeftIn (in_time_at (s at)) (s at).queues 0 n rest
  left! = subst LeftOf (x! at)

  dropped! : (drops : ℕ) → drops ≡ waiting_in (x at).queues.lengths n - waiting_in rest.lengths n → drops ≡ waiting_in (s at).queues.lengths n - waiting_in rest.lengths n
  dropped! drops = subst (λ (q : Queues). drops ≡ waiting_in q.lengths n - waiting_in rest.lengths n) (sym (queues! at))

pub dropped-drops-requires : goal.dropped-drops-requires
dropped-drops-requires c =
    let at = (goal.at.dropped-drops-requires c).After-offer_all in
    let rest = c.drop_late.new.queues in
    subst (λ (q : Queues). waiting_in rest.lengths (n at rest) ≤ waiting_in q.lengths (n at rest)) (queues! at)
    (fewer_left (s at) (r at) rest (left! at rest c.drop_late.ensures.left) c.drop_late.ensures.rows)

-- they have been counted
module _ (at : After-offer_all) (rest : Queues) (left : LeftOf at rest (x at)) (arrays : (length rest.lengths ≡ 64) × (length rest.packets ≡ 1024))
    (drops : ℕ) (drops! : drops ≡ waiting_in (x at).queues.lengths (n at rest) - waiting_in rest.lengths (n at rest)) where
  abbrev offered! : (x at).segment ≡ offering_to (s at) (n at rest)
  offered! = ap (λ (y : State). y.segment) (x! at)

  ready! : MayBegin (s at) (r at) rest (left! at rest left) arrays drops (dropped! at rest drops drops!) (x at).segment (n at rest) offered!
  ready! = may_begin_so (s at) (r at) rest (left! at rest left) arrays drops (dropped! at rest drops drops!) (x at).segment (n at rest) offered!

  all! : drops ≡ drops_of (meaning (s at))
  all! = drops_are (s at) (r at) rest (left! at rest left) arrays drops (dropped! at rest drops drops!) (x at).segment (n at rest) offered!

pub begun-s-requires-clause-n_bound : goal.begun-s-requires-clause-n_bound
begun-s-requires-clause-n_bound c =
    let at = (goal.at.begun-s-requires-clause-n_bound c).After-offer_all in
    subst (λ (y : State). y.segment.settings.n ≤ 64) (sym (x! at)) (r at).few

pub begun-s-requires-clause-lengths_bound : goal.begun-s-requires-clause-lengths_bound
begun-s-requires-clause-lengths_bound c =
    let rest = c.drop_late.new.queues in
    (ready! (goal.at.begun-s-requires-clause-lengths_bound c).After-offer_all rest c.drop_late.ensures.left c.drop_late.ensures.rows c.dropped-drops.result c.dropped-drops.ensures).room

pub begun-s-requires-clause-q_positive : goal.begun-s-requires-clause-q_positive
begun-s-requires-clause-q_positive c =
    let rest = c.drop_late.new.queues in
    (ready! (goal.at.begun-s-requires-clause-q_positive c).After-offer_all rest c.drop_late.ensures.left c.drop_late.ensures.rows c.dropped-drops.result c.dropped-drops.ensures).q_positive

pub begun-s-requires-clause-d_positive : goal.begun-s-requires-clause-d_positive
begun-s-requires-clause-d_positive c =
    let rest = c.drop_late.new.queues in
    (ready! (goal.at.begun-s-requires-clause-d_positive c).After-offer_all rest c.drop_late.ensures.left c.drop_late.ensures.rows c.dropped-drops.result c.dropped-drops.ensures).d_positive

pub begun-s-requires-clause-drops_bound : goal.begun-s-requires-clause-drops_bound
begun-s-requires-clause-drops_bound c =
    let rest = c.drop_late.new.queues in
    (ready! (goal.at.begun-s-requires-clause-drops_bound c).After-offer_all rest c.drop_late.ensures.left c.drop_late.ensures.rows c.dropped-drops.result c.dropped-drops.ensures).drops_bound

pub returns-clause-begun : goal.returns-clause-begun
returns-clause-begun c =
    let at = (goal.at.returns-clause-begun c).After-offer_all in
    let rest = c.drop_late.new.queues in
    let drops = c.dropped-drops.result in
    begun_late (s at) (r at) rest (left! at rest c.drop_late.ensures.left) c.drop_late.ensures.rows drops (dropped! at rest drops c.dropped-drops.ensures)
    (x at) (x! at) c.begun-s.result c.begun-s.ensures

pub returns-clause-drops : goal.returns-clause-drops
returns-clause-drops c =
    let rest = c.drop_late.new.queues in
    all! (goal.at.returns-clause-drops c).After-offer_all rest c.drop_late.ensures.left c.drop_late.ensures.rows c.dropped-drops.result c.dropped-drops.ensures

pub drop_late-requires-clause-rows : goal.drop_late-requires-clause-rows
drop_late-requires-clause-rows c =
    let at = (goal.at.drop_late-requires-clause-rows c).After-offer_all in
    subst IsRow (queues! at) ((r at).held.lengths, (r at).held.packets)

-- the stations stay as they were, for the contention has begun in place
pub returns-then-not-offer_all-clause-listed : goal.returns-then-not-offer_all-clause-listed
returns-then-not-offer_all-clause-listed c =
    let at = (goal.at.returns-then-not-offer_all-clause-listed c).After-offer_all in
    (opened_on_time (s at) (r at) c.requires.between (c.offer_all.ensures.in_time c.if-not-offer_all.true) (x at) (x! at) c.opening-s.result c.opening-s.ensures).listed

pub returns-clause-listed : goal.returns-clause-listed
returns-clause-listed c =
    let at = (goal.at.returns-clause-listed c).After-offer_all in
    let rest = c.drop_late.new.queues in
    let drops = c.dropped-drops.result in
    (opened_late (s at) (r at) c.requires.between rest (left! at rest c.drop_late.ensures.left) c.drop_late.ensures.rows drops (dropped! at rest drops c.dropped-drops.ensures)
    (x at) (x! at) c.begun-s.result c.begun-s.ensures).listed
