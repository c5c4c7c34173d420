-- `probing::probe_in` meets its contract: it tells the one who transmits, if one does alone, stores what `moved` makes of that, and the winner's
-- packet leaves its queue.
use Rattle.std.proofs.Common.{ℕ, ◌≤◌, ◌<◌, ◌≡◌, sym, ap, ◌∙◌, arith, rules}
use Rattle.word.specs.Word.{count_of, lowest_of}
use Rattle.bus.specs.Types.{Segment, State}
use Rattle.bus.specs.Parts.{stepped_to, transmitters_of, transmitters_in, Moved, moved_by, progress_of, Sole, sole_of, heard_in}
use Rattle.bus.specs.Coded.{Success}
use Rattle.state.proofs.Stands.{Lent, lent_held, few_packets}
use Rattle.bus.proofs.HeardLaws.{lowest_in, counted!, sole_taken, sole_left}
use Rattle.bus.proofs.BeginningLaws.{all_formed, none_set}
use Rattle.bus.proofs.InPlace.{whole, may_move, is_success, none_success, winner_placed, probed_sent, probed_unsent}
use Rattle.bus.proofs.probing.probe_in.Goals as goal
use Rattle.bus.proofs.probing.probe_in.Goals.{After-count-heard, After-lowest-place, Joined-heard-eq1, then-heard-eq1, else-heard-eq1}

module _ (c : After-count-heard) where
  abbrev s : State
  s = c.args.s.now

  abbrev g : Segment
  g = c.args.s.now.segment

  r : Lent s
  r = lent_held s c.requires.held c.requires.stands

  word! : c.transmitters-transmitters.result ≡ transmitters_in g
  word! =
      c.transmitters-transmitters.ensures
      ∙ ap
      (transmitters_of g.settings.discipline g.clock g.contention g.contenders g.parameters g.values)
      c.requires.addresses

  count! : c.count-heard.result ≡ count_of (transmitters_in g)
  count! = counted! g c.transmitters-transmitters.result c.count-heard.result word! c.count-heard.ensures

in_rows : (c : After-lowest-place) → c.lowest-place.result < 64
in_rows c =
    let at = (goal.at.offset_bounds-s-place c).After-count-heard in
    let one : count_of (transmitters_in (g at)) ≡ 1 = sym (count! at) ∙ c.if-heard-eq1.true in
    omega (arith, c.lowest-place.ensures, ap lowest_of (word! at), lowest_in (transmitters_in (g at)) one)

pub offset_bounds-s-place : goal.offset_bounds-s-place
offset_bounds-s-place c = let h = in_rows c in search rules

pub bounds-s-place : goal.bounds-s-place
bounds-s-place c = in_rows (goal.at.bounds-s-place c).After-lowest-place

pub offset_bounds-s-place-then-heard-eq1 : goal.offset_bounds-s-place-then-heard-eq1
offset_bounds-s-place-then-heard-eq1 c = let h = in_rows (goal.at.offset_bounds-s-place-then-heard-eq1 c).After-lowest-place in search rules

pub bounds-s-place-then-heard-eq1 : goal.bounds-s-place-then-heard-eq1
bounds-s-place-then-heard-eq1 c = in_rows (goal.at.bounds-s-place-then-heard-eq1 c).After-lowest-place

pub offset_bounds-s-place-then-heard-eq1-2 : goal.offset_bounds-s-place-then-heard-eq1-2
offset_bounds-s-place-then-heard-eq1-2 c = let h = in_rows (goal.at.offset_bounds-s-place-then-heard-eq1-2 c).After-lowest-place in search rules

pub bounds-s-place-then-heard-eq1-2 : goal.bounds-s-place-then-heard-eq1-2
bounds-s-place-then-heard-eq1-2 c = in_rows (goal.at.bounds-s-place-then-heard-eq1-2 c).After-lowest-place

pub offset_bounds-s-place-then-heard-eq1-3 : goal.offset_bounds-s-place-then-heard-eq1-3
offset_bounds-s-place-then-heard-eq1-3 c = let h = in_rows (goal.at.offset_bounds-s-place-then-heard-eq1-3 c).After-lowest-place in search rules

pub bounds-s-place-then-heard-eq1-3 : goal.bounds-s-place-then-heard-eq1-3
bounds-s-place-then-heard-eq1-3 c = in_rows (goal.at.bounds-s-place-then-heard-eq1-3 c).After-lowest-place

pub offset_bounds-s-place-then-heard-eq1-4 : goal.offset_bounds-s-place-then-heard-eq1-4
offset_bounds-s-place-then-heard-eq1-4 c = let h = in_rows (goal.at.offset_bounds-s-place-then-heard-eq1-4 c).After-lowest-place in search rules

pub bounds-s-place-then-heard-eq1-4 : goal.bounds-s-place-then-heard-eq1-4
bounds-s-place-then-heard-eq1-4 c = in_rows (goal.at.bounds-s-place-then-heard-eq1-4 c).After-lowest-place

-- the sole winner, if there is one
module _ (c : Joined-heard-eq1) where
  abbrev counted : After-count-heard
  counted = c.before

  abbrev sole : Sole
  sole = record { place = c.if-heard-eq1.place; listed = c.if-heard-eq1.listed; packet = c.if-heard-eq1.packet }

  sole! : sole ≡ sole_of (g counted) (heard_in (g counted))
  sole! =
      let word = c.transmitters-transmitters.result in
      elim c.if-heard-eq1.branch [
        | then-heard-eq1 w ↦
            (λ i. record { place = w.place-is i; listed = w.listed-is i; packet = w.packet-is i })
            ∙ sole_taken (g counted) word c.count-heard.result (word! counted) c.count-heard.ensures w.if-heard-eq1.true w.lowest-place.result w.lowest-place.ensures
        | else-heard-eq1 w ↦
            (λ i. record { place = w.place-is i; listed = w.listed-is i; packet = w.packet-is i })
            ∙ sole_left (g counted) word c.count-heard.result (word! counted) c.count-heard.ensures w.if-heard-eq1.false
      ]

  moved_in! : (c.args.s.now.segment.clock.0 ≤ 1073741824) × ((sole.packet.length ≤ 4096) × (c.count-heard.result ≡ 1 → c.args.s.now.segment.sent < 4294967295))
  moved_in! = may_move (s counted) (r counted) c.requires.begun sole sole! c.count-heard.result (count! counted)

  -- what is moved
  moved_as : (m : Moved) → m ≡ moved_by (g counted).settings (progress_of (g counted)) c.args.drops c.count-heard.result sole.listed sole.packet → m ≡ moved_by (g counted).settings (progress_of (g counted)) c.args.drops (count_of (transmitters_in (g counted))) sole.listed sole.packet
  moved_as m e = e ∙ ap (λ (n : ℕ). moved_by (g counted).settings (progress_of (g counted)) c.args.drops n sole.listed sole.packet) (count! counted)

pub moved-moved-requires-clause-clock_bound : goal.moved-moved-requires-clause-clock_bound
moved-moved-requires-clause-clock_bound c = (moved_in! (goal.at.moved-moved-requires-clause-clock_bound c).Joined-heard-eq1).0

pub moved-moved-requires-clause-length_bound : goal.moved-moved-requires-clause-length_bound
moved-moved-requires-clause-length_bound c = (moved_in! (goal.at.moved-moved-requires-clause-length_bound c).Joined-heard-eq1).1.0

pub moved-moved-requires-clause-sent_bound : goal.moved-moved-requires-clause-sent_bound
moved-moved-requires-clause-sent_bound c = (moved_in! (goal.at.moved-moved-requires-clause-sent_bound c).Joined-heard-eq1).1.1

-- the winner is a station
module _ (c : Joined-heard-eq1) (m : Moved)
    (e : m ≡ moved_by (g c.before).settings (progress_of (g c.before)) c.args.drops c.count-heard.result (sole c).listed (sole c).packet)
    (won : m.answer.event ≡ Success) where
  placed! : (sole c).place < 64
  placed! = winner_placed (g c.before) (s c.before).queues c.args.drops (r c.before) c.requires.begun (sole c) (sole! c) m (moved_as c m e) won

pub close_up-requires-clause-place_bound : goal.close_up-requires-clause-place_bound
close_up-requires-clause-place_bound c =
    placed! (goal.at.close_up-requires-clause-place_bound c).Joined-heard-eq1 c.moved-moved.result c.moved-moved.ensures (is_success _ c.eq.ensures c.if-eq.true)

pub close_up-requires-clause-padded : goal.close_up-requires-clause-padded
close_up-requires-clause-padded c =
    let at = (goal.at.close_up-requires-clause-padded c).Joined-heard-eq1 in
    all_formed (s at.before) (r at.before) c.if-heard-eq1.place
    (placed! at c.moved-moved.result c.moved-moved.ensures (is_success _ c.eq.ensures c.if-eq.true))

pub close_up-requires-clause-length_bound : goal.close_up-requires-clause-length_bound
close_up-requires-clause-length_bound c =
    let at = (goal.at.close_up-requires-clause-length_bound c).Joined-heard-eq1 in
    few_packets (s at.before) (r at.before) c.if-heard-eq1.place
    (placed! at c.moved-moved.result c.moved-moved.ensures (is_success _ c.eq.ensures c.if-eq.true))

pub returns-then-eq-clause-probed : goal.returns-then-eq-clause-probed
returns-then-eq-clause-probed c =
    let at = (goal.at.returns-then-eq-clause-probed c).Joined-heard-eq1 in
    let m = c.moved-moved.result in
    ap (λ (x : Segment). stepped_to m.answer (whole x c.close_up.new.queues)) c.store.ensures
    ∙ probed_sent (g at.before) (s at.before).queues c.args.drops (r at.before) c.requires.begun (sole at) (sole! at) m (moved_as at m c.moved-moved.ensures)
    (is_success _ c.eq.ensures c.if-eq.true) c.close_up.new.queues c.close_up.ensures

pub returns-else-eq-clause-probed : goal.returns-else-eq-clause-probed
returns-else-eq-clause-probed c =
    let at = (goal.at.returns-else-eq-clause-probed c).Joined-heard-eq1 in
    let m = c.moved-moved.result in
    ap (λ (x : Segment). stepped_to m.answer (whole x (s at.before).queues)) c.store.ensures
    ∙ probed_unsent (g at.before) (s at.before).queues c.args.drops (r at.before) c.requires.begun (sole at) (sole! at) m (moved_as at m c.moved-moved.ensures)
    (none_success _ c.eq.ensures c.if-eq.false)

pub store-requires : goal.store-requires
store-requires c = none_set (s (goal.at.store-requires c).After-count-heard) (r (goal.at.store-requires c).After-count-heard)
