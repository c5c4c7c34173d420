-- The offers recorded in place, station by station, as a stretch of a run makes them: what is recorded before station i, the search for its
-- offer, and that no packet before it is late. Assumes nothing.
use Prim.Native.Nat.{ℕ, ◌+◌, ◌-◌, ◌*◌, ◌^◌, ◌≤◌, ◌<◌}
use mathlib.Core.Path.{◌≡◌, refl, sym, ap, ◌∙◌, subst}
use mathlib.Core.Bool.{Bool, true, false, not, ◌||◌, cond}
use mathlib.Core.Option.{some}
use mathlib.Core.List.{List}
use native.Mathlib.Nat.{add-zero}
use native.Mathlib.Omega.{arith}
use lib.Dec.{eqb, ltb}
use lib.ListN.{length, get_or, take}
use lib.Seq.{slice, get_or-take}
use borrow.Author.Tests.{eqb-true, eqb-false, lt-ltb, le-ltb}
use Rattle.rules.specs.Lists.{Among}
use Rattle.rules.specs.declared.Discipline.{Discipline}
use Rattle.rules.specs.declared.Discipline.TheVariants.{PRI, RTDG, RTVC}
use Rattle.rules.specs.Bus.{late}
use Rattle.rules.specs.Begin.{sits_out, goes_before, chosen, choice}
use Rattle.rules.specs.Standing.{StationStands}
use Rattle.rules.proofs.Laws.{or-false, among_none, keep_all, clash}
use Rattle.bus.specs.Types.{Listed, Contender, Segment, Queues, State, Packet}
use Rattle.state.specs.State.{Recorded, no_packet, nobody, places_at, queue_at, station_at, last_of, meaning}
use Rattle.state.specs.Parts.{queue_of}
use Rattle.bus.specs.Parts.{queue_form, rank_of, looked_of, parameter_for, contender_on, segment_counting}
use Rattle.state.proofs.Rows.{among_values}
use Rattle.state.proofs.Places.{places_count, place_at}
use Rattle.state.proofs.Form.{at_place}
use Rattle.state.proofs.Tested.{left_turn, left_end}
use Rattle.state.proofs.Stands.{Lent, few_packets}
use Rattle.bus.proofs.Choosing.{better_first, rank_tells, numbers_at_most, looked_choice, in_time_all}
use Rattle.bus.proofs.ClosingUp.{in_range, range_tells, queue_if, LeftIn}
use Rattle.bus.proofs.BeginningLaws.{in_time_at, place_for, places_to, contending_at, places_none, places_more, places_same, nothing_offered, nobody_recorded, all_formed}

module _ (s : State) where
  abbrev f : ℕ → Contender
  f = place_for s.segment s.queues

  abbrev n : ℕ
  n = s.segment.settings.n

  abbrev d : Discipline
  d = (meaning s).discipline

  -- the segment with these contenders
  abbrev pub with_contenders : Recorded → Segment
  with_contenders = segment_counting s.segment s.segment.admitted s.segment.lost s.segment.contention

  -- the segment where the offers of the stations before i are recorded
  abbrev pub offering_to : ℕ → Segment
  offering_to i = with_contenders (places_to f i)

  -- the same of the state, whose queues stay
  abbrev pub offered_to : ℕ → State
  offered_to i = record { segment = offering_to i; queues = s.queues }

  -- their packets are in time
  abbrev pub InTimeTo : ℕ → Type 0
  InTimeTo i = (j : ℕ) → j < i → (p : Packet) → Among p (queue_at s.queues j) → late d s.segment.clock.0 p.value ≡ false

-- of so many packets of station i, the best so far is at a place of the row, with its rank, and those from j on are left
abbrev pub Best : Discipline → Queues → ℕ → ℕ → ℕ → ℕ → ℕ → Type 0
Best discipline queues i looked place least j =
    (16 * i ≤ place) × (place < 16 * i + get_or queues.lengths i 0) × (j ≤ looked)
    × (least ≡ rank_of (get_or queues.packets place no_packet))
    × (choice discipline (take looked (places_at queues i))
    ≡ chosen
    discipline
    (get_or queues.packets place no_packet)
    (choice discipline (slice j looked (places_at queues i))))
    × (1 ≤ j)

module _ (s : State) (r : Lent s) where
  pub offering_none : s.segment.contention.begun ≡ false → s.segment ≡ offering_to s 0
  offering_none between = ap (with_contenders s) (nobody_recorded s r between ∙ places_none (f s))

  pub in_time_none : InTimeTo s 0
  in_time_none j l p i = absurd (omega arith)

  -- where those of all stations are, no packet leaves
  pub none_leaves : InTimeTo s (n s) → LeftIn (in_time_at s) s.queues 0 (n s) s.queues
  none_leaves all j l = go (in_range 0 (n s) j) refl
    where
      go : (t : Bool) → in_range 0 (n s) j ≡ t → queue_of s.queues j ≡ queue_if t (in_time_at s) s.queues j
      go true e =
          all_formed s r j l
          ∙ ap queue_form (sym (keep_all (in_time_at s) (queue_at s.queues j) (λ p i. ap not (all j (range_tells 0 (n s) j e).1 p i))))
      go false e = refl

  -- station i
  module _ (i : ℕ) (here : i < (n s)) where
    abbrev len : ℕ
    len = get_or s.queues.lengths i 0

    abbrev l : Listed
    l = get_or s.segment.listed i nobody

    abbrev sits : Bool
    sits = sits_out (d s) (last_of s.segment.round) l.capability.0

    abbrev ps : List Packet
    ps = places_at s.queues i

    within_row : i < 64
    within_row = omega (arith, r.few)

    sixteen : length ps ≡ 16
    sixteen = places_count s.queues i within_row r.held.packets

    own : StationStands (meaning s) (station_at s i)
    own = r.stands.each_station (station_at s i) (among_values (station_at s) 0 (n s) i (omega arith) (omega arith))

    -- one station more is in time
    in_time_more :
        InTimeTo s i → ((p : Packet) → Among p (queue_at s.queues i) → late (d s) s.segment.clock.0 p.value ≡ false) → InTimeTo s (i + 1)
    in_time_more before now j m p a = go (eqb j i) refl
      where
        go : (t : Bool) → eqb j i ≡ t → late (d s) s.segment.clock.0 p.value ≡ false
        go true e = now p (subst (λ k. Among p (queue_at s.queues k)) (eqb-true j i e) a)
        go false e = let other = eqb-false j i e in before j (omega arith) p a

    -- it offers nothing
    pub offering_same : (eqb len 0 || sits) ≡ true → offering_to s i ≡ offering_to s (i + 1)
    offering_same h = ap (with_contenders s) (places_same (f s) i (nothing_offered s.segment s.queues i h))

    pub in_time_same : (eqb len 0 || sits) ≡ true → InTimeTo s i → InTimeTo s (i + 1)
    in_time_same h before = in_time_more before (go (eqb len 0) refl (d s) refl h)
      where
        go :
            (t : Bool) → eqb len 0 ≡ t → (k : Discipline) → (d s) ≡ k → (t || sits_out k (last_of s.segment.round) l.capability.0) ≡ true
            → (p : Packet) → Among p (queue_at s.queues i) → late k s.segment.clock.0 p.value ≡ false
        go true e PRI q h p a = refl
        go true e RTVC q h p a = refl
        go true e RTDG q h p a = absurd (among_none (subst (λ m. Among p (take m ps)) (eqb-true len 0 e) a))
        go false e PRI q h p a = refl
        go false e RTVC q h p a = refl
        go false e RTDG q h p a = clash h refl

    -- it offers a packet
    module _ (offers : (eqb len 0 || sits) ≡ false) where
      some! : 0 < len
      some! = let other = eqb-false len 0 (or-false (eqb len 0) sits offers).0 in omega arith

      room! : len ≤ 16
      room! = few_packets s r i within_row

      -- its packet recorded is its place
      pub offering_more :
          (p : Packet) → choice (d s) (queue_at s.queues i) ≡ some p
          → (with_contenders s)
          (contending_at
          (places_to (f s) i)
          i
          (record { contends = true; parameter = parameter_for (d s) s.segment.settings s.segment.clock l.capability p; packet = p }))
          ≡ offering_to s (i + 1)
      offering_more p e =
          ap (λ (c : Contender). (with_contenders s) (contending_at (places_to (f s) i) i c)) (sym its_place)
          ∙ ap (with_contenders s) (places_more (f s) i within_row (ap (λ (c : Contender). c.contends) its_place))
        where
          its_place :
              f s i ≡ record { contends = true; parameter = parameter_for (d s) s.segment.settings s.segment.clock l.capability p; packet = p }
          its_place =
              ap (contender_on s.segment.settings s.segment.clock s.segment.round l) e
              ∙ rw (or-false (eqb len 0) sits offers).1

      pub in_time_offered :
          (p : Packet) → choice (d s) (queue_at s.queues i) ≡ some p → late (d s) s.segment.clock.0 p.value ≡ false → InTimeTo s i
          → InTimeTo s (i + 1)
      in_time_offered p e h before = in_time_more before (in_time_all (d s) s.segment.clock.0 (queue_at s.queues i) p e h)

      -- the search, of so many of its packets
      module _ (looked : ℕ) (looked! : looked ≡ looked_of (d s) len) where
        -- the packet at a place of the row
        abbrev packet : ℕ → Packet
        packet place = get_or s.queues.packets place no_packet

        pub looked_some : (1 ≤ looked) × (looked ≤ len)
        looked_some = go (d s) looked!
          where
            go : (k : Discipline) → looked ≡ looked_of k len → (1 ≤ looked) × (looked ≤ len)
            go PRI e = (omega (arith, some!), omega arith)
            go RTDG e = (omega (arith, some!), omega arith)
            go RTVC e = (omega arith, omega (arith, some!))

        abbrev best_so_far : ℕ → ℕ → ℕ → Type 0
        best_so_far = Best (d s) s.queues i looked

        pub best_first : {least : ℕ} → least ≡ rank_of (packet (16 * i)) → best_so_far (16 * i) least 1
        best_first e = (
          omega arith,
          omega (arith, some!),
          looked_some.0,
          e,
          ap (choice (d s)) (left_turn looked ps 0 no_packet (omega (arith, looked_some.0)) (omega (arith, looked_some.1, room!, sixteen)))
              ∙ ap (λ (q : Packet). chosen (d s) q (choice (d s) (slice 1 looked ps))) (place_at s.queues i 0 (omega arith) ∙ ap packet (add-zero (16 * i))),
          omega arith,
        )

        module _ (place least j : ℕ) (best : best_so_far place least j) (more : j < looked) where
          -- the numbers have 32 bits
          short : (k : ℕ) → k < len → (packet (16 * i + k)).number < 2 ^ 32
          short k m =
              let all = numbers_at_most 0 s.segment.admitted (queue_at s.queues i) own.rises in
              let at = at_place (λ p. p.number ≤ s.segment.admitted) (queue_at s.queues i) no_packet k (omega arith) all in
              let same = get_d_queue k m in
              omega (arith, ap (λ (p : Packet). p.number) same, r.stands.admitted_in)
            where
              get_d_queue : (k : ℕ) → k < len → get_or (queue_at s.queues i) k no_packet ≡ packet (16 * i + k)
              get_d_queue k m = get_or-take len ps k no_packet m ∙ place_at s.queues i k (omega (arith, room!))

          -- it is a search by rank
          searched : ¬ ((d s) ≡ RTVC)
          searched q = let one = looked! ∙ ap (λ k. looked_of k len) q in omega (arith, best.5)

          tells : goes_before (d s) (packet (16 * i + j)) (packet place) ≡ ltb (rank_of (packet (16 * i + j))) least
          tells =
              let back : 16 * i + (place - 16 * i) ≡ place = omega (arith, best.0) in
              let its = subst (λ k. (packet k).number < 2 ^ 32) back (short (place - 16 * i) (omega (arith, best.0, best.1))) in
              rank_tells (d s) searched (packet (16 * i + j)) (packet place) (short j (omega (arith, looked_some.1))) its
              ∙ ap (λ m. ltb (rank_of (packet (16 * i + j))) m) (sym best.3)

          -- the choice among the better of the two and those after place j
          looked_at :
              {t : Bool} → goes_before (d s) (packet (16 * i + j)) (packet place) ≡ t
              → choice (d s) (take looked ps) ≡ chosen (d s) (cond t (packet (16 * i + j)) (packet place)) (choice (d s) (slice (j + 1) looked ps))
          looked_at e =
              best.4
              ∙ ap
              (λ qs. chosen (d s) (packet place) (choice (d s) qs))
              (left_turn looked ps j no_packet more (omega (arith, looked_some.1, room!, sixteen)))
              ∙ ap
              (λ (q : Packet). chosen (d s) (packet place) (chosen (d s) q (choice (d s) (slice (j + 1) looked ps))))
              (place_at s.queues i j (omega (arith, looked_some.1, room!)))
              ∙ better_first (d s) (packet place) (packet (16 * i + j)) (choice (d s) (slice (j + 1) looked ps))
              ∙ ap (λ t. chosen (d s) (cond t (packet (16 * i + j)) (packet place)) (choice (d s) (slice (j + 1) looked ps))) e

          pub best_better : {rank : ℕ} → rank ≡ rank_of (packet (16 * i + j)) → rank < least → best_so_far (16 * i + j) rank (j + 1)
          best_better e m = (
            omega arith,
            omega (arith, looked_some.1),
            omega arith,
            e,
            looked_at (tells ∙ lt-ltb (rank_of (packet (16 * i + j))) least (omega arith)),
            omega arith,
          )

          pub best_stays : {rank : ℕ} → rank ≡ rank_of (packet (16 * i + j)) → least ≤ rank → best_so_far place least (j + 1)
          best_stays e m = (
            best.0,
            best.1,
            omega arith,
            best.3,
            looked_at (tells ∙ le-ltb (rank_of (packet (16 * i + j))) least (omega arith)),
            omega arith,
          )

        -- at its end the best is the packet that the station offers
        pub best_offered : (place least j : ℕ) → best_so_far place least j → looked ≤ j → choice (d s) (queue_at s.queues i) ≡ some (packet place)
        best_offered place least j best done =
            sym (looked_choice (d s) len looked s.segment.admitted ps looked! some! own.rises)
            ∙ best.4
            ∙ ap (λ qs. chosen (d s) (packet place) (choice (d s) qs)) (left_end looked ps j done)
