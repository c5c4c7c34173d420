-- One probe of a state: what `probed` makes of the segment, with the winner's packet gone from its queue, is the form of
-- what the machine's probe makes of the state's meaning. Assumes nothing.
use Prim.Native.Nat.{ℕ, zero, suc, ◌+◌, ◌-◌, ◌≤◌, ◌<◌}
use mathlib.Core.Path.{◌≡◌, refl, sym, ap, ap₂, ◌∙◌, subst, subst₂}
use mathlib.Core.Bool.{Bool, true, false, not, ◌&&◌, ◌||◌, cond}
use mathlib.Core.Option.{Option, none, some}
use mathlib.Core.List.{List, [], ◌∷◌, ◌++◌, map, append-nil}
use native.Mathlib.Numerals.{add-one}
use native.Mathlib.Omega.{arith}
use lib.Dec.{leb, eqb}
use lib.ListN.{length, get_or}
use borrow.Author.Tests.{eqb-true, ne_eqb}
use Rattle.window.specs.declared.Side.{Side}
use Rattle.window.specs.declared.Side.TheVariants.{Left, Right}
use Rattle.word.specs.Word.{bit_at, places_from, placed, first_or}
use Rattle.word.proofs.Laws.{members_word, places_same, places_none, places_split}
use Rattle.window.specs.Splitting as Splitting
use Rattle.window.specs.Splitting.{first_window, left_half, move_right, moved_right, in_window}
use Rattle.window.proofs.Facts.{moved_right_free}
use Rattle.rules.specs.Lists.{kept, keep, Among}
use Rattle.rules.specs.Bus as Machine
use Rattle.rules.specs.declared.Discipline.{Discipline}
use Rattle.rules.specs.declared.Discipline.TheVariants.{PRI, RTDG, RTVC}
use Rattle.rules.specs.Bus.{Station, Bus, places, most_stations, late}
use Rattle.rules.specs.SetUp.{discipline_of}
use Rattle.rules.specs.Standing.{OfferStands, StationStands, WindowStands, ContentionStands}
use Rattle.rules.specs.Probe as Probe
use Rattle.rules.specs.Probe.{contending, contenders, lies_in, able, transmits, transmitters, phase_of, tie_phase, parameter_phase, idle, collision, success, wait_of, answered, unsent, sent_by, going_further, withdrawn, unwon, left, last_winner, tied_at, split, heard, probe}
use Rattle.rules.proofs.Laws.{and-true, true-and, count_some, count-le, total_among}
use Rattle.bus.specs.Types.{Packet, Address, Capability, Contention, Round, Segment, Queues, State}
use Rattle.state.specs.State.{Held, recorded_in, recorded_at, place_in, no_packet, no_contender, no_round, no_contention, nobody, queue_at, offer_of, station_with, station_at, values_from, stations_of, last_of, tie_of, contention_of, meaning, form, contender_padded, has_no_station, round_padded, no_window, contention_padded}
use Rattle.bus.specs.Coded.{Answer, Parameter, Tie, Stepped, phase_form, event_form, succeeded, answer_form}
use Rattle.bus.specs.Parts.{open_of, stepped, with_queue, Progress, Moved, Sent, stays, queue_form, contender_at, lies_within, addresses_of, answer_at, split_of, collided_on, unheard_on, round_after, won_on, moved_by, segment_with, with_moved, progress_of, Sole, no_sole, sole_at, sole_of, heard_in}
use Rattle.state.specs.Parts.{no_contenders}
use Rattle.state.proofs.Rows.{values_map, values_same, row_at, among_values}
use Rattle.state.proofs.Contenders.{recorded_held, place_recorded}
use Rattle.state.proofs.Form.{Padded, parts_padded, to_form, bits_past_n}
use Rattle.bus.specs.Parts.{with_queue}
use Rattle.bus.proofs.QueueLaws.{kept_length}
use Rattle.state.proofs.Stands.{Lent}
use Rattle.bus.proofs.Changed.{own_address, requeued, requeued_held, requeued_padded, stations_now}

-- ---- one probe of a segment

-- its answer, the segment after it, and the winner's place where one has won
pub record Probed : Type 0 where
  pub answer : Answer
  pub segment : Segment
  pub winner : ℕ

abbrev probed_with : Segment → Moved → ℕ → Probed
probed_with g m place =
    record { answer = m.answer; segment = with_moved g m; winner = cond (succeeded m.answer.event) place 0 }

-- two or more have no sole winner
pub sole_more : (g : Segment) (i j : ℕ) (places : List ℕ) → sole_of g (i ∷ j ∷ places) ≡ no_sole
sole_more g i j places = ap (λ t. cond t (sole_at g i) no_sole) (ne_eqb (suc (suc (length places))) 1 (λ e. omega arith))

abbrev probed_by : Segment → ℕ → List ℕ → Probed
probed_by g drops places =
    probed_with
    g
    (moved_by g.settings (progress_of g) drops (length places) (sole_of g places).listed (sole_of g places).packet)
    (sole_of g places).place

probed_more :
    (g : Segment) (drops i j : ℕ) (places : List ℕ)
    → probed_by g drops (i ∷ j ∷ places) ≡ probed_with g (collided_on g.settings.a (progress_of g) drops) 0
probed_more g drops i j places =
    ap
    (λ (x : Sole). probed_with g (moved_by g.settings (progress_of g) drops (suc (suc (length places))) x.listed x.packet) x.place)
    (sole_more g i j places)
    ∙ ap₂
    (λ none one.
    probed_with
    g
    (cond
    none
    (unheard_on (progress_of g) drops g.contention.window.side)
    (cond
    one
    (won_on (discipline_of g.settings.discipline) (progress_of g) drops nobody no_packet)
    (collided_on g.settings.a (progress_of g) drops)))
    0)
    (ne_eqb (suc (suc (length places))) 0 (λ e. omega arith))
    (ne_eqb (suc (suc (length places))) 1 (λ e. omega arith))

abbrev pub probed : Segment → ℕ → Probed
probed g drops = probed_by g drops (heard_in g)

-- ---- who transmits

-- the first of the places for which a test holds is one of them
pub first_in :
    (f : ℕ → Bool) (i k : ℕ) {m : ℕ} {ms : List ℕ} → places_from f i k ≡ m ∷ ms → (i ≤ m) × (m < i + k) × (f m ≡ true)
first_in f i zero e = let n = ap length e in absurd (omega arith)
first_in f i (suc k) {m} {ms} e = go (f i) refl e (first_in f (suc i) k)
  where
    go :
        (t : Bool) → f i ≡ t → placed t i (places_from f (suc i) k) ≡ m ∷ ms
        → (places_from f (suc i) k ≡ m ∷ ms → (suc i ≤ m) × (m < suc i + k) × (f m ≡ true)) → (i ≤ m) × (m < i + suc k) × (f m ≡ true)
    go true h q later = let same = ap first_or q in (omega arith, omega arith, ap f (sym same) ∙ h)
    go false h q later = let r = later q in (omega (arith, r.0), omega (arith, r.1), r.2)

module _ (s : State) where
  abbrev n : ℕ
  n = s.segment.settings.n

  -- the contention under way
  abbrev under_way : Machine.Contention
  under_way = record { window = s.segment.contention.window; tie = tie_of s.segment.contention }

  -- whether station i contends and transmits
  abbrev pub transmits_at : ℕ → Bool
  transmits_at i = (recorded_at s.segment i).contends && transmits (meaning s) under_way (contender_at s.segment i)

  -- which is what the numbers that a probe is lent say
  lent_same :
      (i : ℕ) → i < most_stations
      → (bit_at s.segment.contenders i
      && (lies_within s.segment.contention (get_or s.segment.parameters i 0) (get_or (addresses_of s.segment.listed) i 0)
      && not (late (meaning s).discipline s.segment.clock.0 (get_or s.segment.values i 0))))
      ≡ transmits_at i
  lent_same i l =
      ap
      (λ (a : ℕ).
      bit_at s.segment.contenders i
      && (lies_within s.segment.contention (get_or s.segment.parameters i 0) a
      && not (late (meaning s).discipline s.segment.clock.0 (get_or s.segment.values i 0))))
      (row_at most_stations (λ j. (get_or s.segment.listed j nobody).address.0) i 0 l)
      ∙ go s.segment.contention.tied
    where
      x : Probe.Contender
      x = contender_at s.segment i

      go :
          (t : Bool)
          → (bit_at s.segment.contenders i
          && (cond
          t
          (eqb x.parameter s.segment.contention.tie && in_window s.segment.contention.window x.address)
          (in_window s.segment.contention.window x.parameter)
          && able (meaning s).discipline s.segment.clock.0 x))
          ≡ (bit_at s.segment.contenders i
          && (lies_in s.segment.contention.window (cond t (some s.segment.contention.tie) none) x
          && able (meaning s).discipline s.segment.clock.0 x))
      go true = refl
      go false = refl

  -- those who transmit of the k stations from place i on
  abbrev heard_from : ℕ → ℕ → List Probe.Contender
  heard_from i k = keep (transmits (meaning s) under_way) (contenders (values_from (station_at s) i k))

  -- the station at a place comes first, if it transmits
  heard_place : (i k : ℕ) → heard_from i (suc k) ≡ kept (transmits_at i) (contender_at s.segment i) (heard_from (suc i) k)
  heard_place i k = go (recorded_at s.segment i).contends
    where
      x : Probe.Contender
      x = contender_at s.segment i

      go :
          (t : Bool)
          → keep
          (transmits (meaning s) under_way)
          (contending
          (station_at s i)
          (cond t (some (record { parameter = x.parameter; packet = x.packet })) none)
          (contenders (values_from (station_at s) (suc i) k)))
          ≡ kept (t && transmits (meaning s) under_way x) x (heard_from (suc i) k)
      go true = refl
      go false = refl

  heard_places : (i k : ℕ) → heard_from i k ≡ map (contender_at s.segment) (places_from transmits_at i k)
  heard_places i zero = refl
  heard_places i (suc k) = heard_place i k ∙ go (transmits_at i) (heard_places (suc i) k)
    where
      go :
          (t : Bool) → heard_from (suc i) k ≡ map (contender_at s.segment) (places_from transmits_at (suc i) k)
          → kept t (contender_at s.segment i) (heard_from (suc i) k)
          ≡ map (contender_at s.segment) (placed t i (places_from transmits_at (suc i) k))
      go true more = ap (λ xs. contender_at s.segment i ∷ xs) more
      go false more = more

  -- the word's members are the stations that transmit: bits at N and above are clear
  module _ (r : Lent s) where
    nobody_sends : (j : ℕ) → n ≤ j → j < most_stations → transmits_at j ≡ false
    nobody_sends j m l =
        ap (λ t. t && transmits (meaning s) under_way (contender_at s.segment j)) (bits_past_n s r.held r.zeros j m)

    pub members_are : heard_in s.segment ≡ places_from transmits_at 0 n
    members_are =
        let few = r.few in
        let all : n + (most_stations - n) ≡ most_stations = omega arith in
        members_word lent_test
        ∙ places_same lent_test transmits_at 0 most_stations (λ j l m. lent_same j (omega arith))
        ∙ ap (places_from transmits_at 0) (sym all)
        ∙ places_split transmits_at 0 n (most_stations - n)
        ∙ ap
        (λ ms. places_from transmits_at 0 n ++ ms)
        (places_none transmits_at (0 + n) (most_stations - n) (λ j l m. nobody_sends j (omega arith) (omega arith)))
        ∙ append-nil (places_from transmits_at 0 n)
      where
        lent_test : ℕ → Bool
        lent_test i =
            bit_at s.segment.contenders i
            && (lies_within s.segment.contention (get_or s.segment.parameters i 0) (get_or (addresses_of s.segment.listed) i 0)
            && not (late (discipline_of s.segment.settings.discipline) s.segment.clock.0 (get_or s.segment.values i 0)))

    -- all who transmit, as the rules have them
    all_heard : transmitters (meaning s) under_way ≡ map (contender_at s.segment) (heard_in s.segment)
    all_heard = heard_places 0 n ∙ sym (ap (map (contender_at s.segment)) members_are)

    -- the first of them is a station that transmits
    pub first_sends : {m : ℕ} {ms : List ℕ} → heard_in s.segment ≡ m ∷ ms → (m < n) × (transmits_at m ≡ true)
    first_sends e = let r = first_in transmits_at 0 n (sym members_are ∙ e) in (omega (arith, r.1), r.2)

-- ---- what a probe makes of a bus: other stations, clock, sent count, last winner and contention

abbrev moved : Bus → List Station → ℕ → ℕ → Option ℕ → Option Machine.Contention → Bus
moved b stations clock sent last contention =
    record {
      discipline = b.discipline;
      D = b.D;
      A = b.A;
      q = b.q;
      stations = stations;
      clock = clock;
      admitted = b.admitted;
      sent = sent;
      lost = b.lost;
      turned = b.turned;
      last = last;
      contention = contention;
    }

-- ---- the contention goes on

-- the state one slot later, with another contention
abbrev onward : State → Contention → State
onward s c =
    let g = s.segment in
    record { segment = segment_with g (g.clock.0 + 1) g.sent g.round c (recorded_in g); queues = s.queues }

goes_on :
    (s : State) → Lent s → (c : Contention) (m : Machine.Contention) → contention_padded c ≡ true → contention_of c ≡ some m
    → onward s c ≡ form (going_further (meaning s) m)
goes_on s r c m z e =
    to_form
    next
    (going_further (meaning s) m)
    (record { listed = h.listed; contenders = h.contenders; lengths = h.lengths; packets = h.packets })
    (parts_padded
    next
    (record {
      discipline = p.discipline;
      queues = p.queues;
      contenders = p.contenders;
      past_n = p.past_n;
      round = p.round;
      contention = z;
    }))
    (λ i. moved (meaning s) (stations_of s) (add-one s.segment.clock.0 i) s.segment.sent (meaning s).last (e i))
  where
    h : Held s
    h = r.held

    p : Padded s
    p = r.zeros

    next : State
    next = onward s c

module _ (s : State) where
  abbrev now : Contention
  now = s.segment.contention

  -- what a collision makes of the contention
  abbrev split_now : Contention
  split_now = split_of s.segment.settings.a now (leb 2 now.window.size) now.tied

  -- is what the machine makes of it
  split_is : contention_of split_now ≡ some (split (meaning s) (under_way s))
  split_is = go (leb 2 now.window.size) now.tied
    where
      tie_value : Bool → Option ℕ
      tie_value tied = cond tied (some now.tie) none

      go :
          (large tied : Bool)
          → contention_of (split_of s.segment.settings.a now large tied)
          ≡ some
          (cond
          large
          (record { window = left_half now.window; tie = tie_value tied })
          (record { window = first_window s.segment.settings.a; tie = some (tied_at now.window (tie_value tied)) }))
      go true tied = refl
      go false true = refl
      go false false = refl

  -- outside the tie phase the tie value is zero, and it stays so
  tie_padded : Lent s → (now.tied || eqb now.tie 0) ≡ true
  tie_padded r = (and-true (now.begun || (no_window now.window && not now.tied)) (now.tied || eqb now.tie 0) r.zeros.contention).1

  split_padded : Lent s → contention_padded split_now ≡ true
  split_padded r = go (leb 2 now.window.size)
    where
      go : (large : Bool) → contention_padded (split_of s.segment.settings.a now large now.tied) ≡ true
      go true = tie_padded r
      go false = refl

-- ---- the contention ends

nobody_contends : (j : ℕ) → j < most_stations → place_in no_contenders j ≡ no_contender
nobody_contends j l = place_recorded (λ i. no_contender) j l

-- the round after a success
last-is : (d : Discipline) (c : Capability) (x : Probe.Contender) → c.0 ≡ x.capability → last_of (round_after d c) ≡ last_winner d x
last-is PRI c x e = refl
last-is RTDG c x e = refl
last-is RTVC c x e = ap some e

round_zeros : (d : Discipline) (c : Capability) → round_padded (round_after d c) ≡ true
round_zeros PRI c = refl
round_zeros RTDG c = refl
round_zeros RTVC c = refl

-- station i is one of the stations, and stands
station_listed : (s : State) (i : ℕ) → i < n s → Among (station_at s i) (stations_of s)
station_listed s i l = among_values (station_at s) 0 (n s) i (omega arith) (omega arith)

station_stands : (s : State) → Lent s → (i : ℕ) → i < n s → StationStands (meaning s) (station_at s i)
station_stands s r i l = r.stands.each_station (station_at s i) (station_listed s i l)

-- the state with no contention, and another clock, sent count and round
abbrev ended : State → ℕ → ℕ → Round → State
ended s clock sent round =
    record { segment = segment_with s.segment clock sent round no_contention no_contenders; queues = s.queues }

module _ (s : State) (r : Lent s) where
  ended_held : (clock sent : ℕ) (round : Round) → Held (ended s clock sent round)
  ended_held clock sent round =
      record {
        listed = r.held.listed;
        contenders = recorded_held (λ i. no_contender);
        lengths = r.held.lengths;
        packets = r.held.packets;
      }

  ended_padded : (clock sent : ℕ) (round : Round) → round_padded round ≡ true → Padded (ended s clock sent round)
  ended_padded clock sent round z =
      record {
        discipline = r.zeros.discipline;
        queues = r.zeros.queues;
        contenders = λ j l. ap contender_padded (nobody_contends j l);
        past_n = nobody_past;
        round = z;
        contention = refl;
      }
    where
      nobody_past : (i : ℕ) → n s ≤ i → i < most_stations → has_no_station (ended s clock sent round) i ≡ true
      nobody_past i m l =
          let who = get_or s.segment.listed i nobody in
          let none_there = eqb who.address.0 0 && eqb who.capability.0 0 && eqb (get_or s.queues.lengths i 0) 0 in
          true-and
          (and-true none_there (not (recorded_at s.segment i).contends) (r.zeros.past_n i m l)).0
          (ap (λ c. not c.contends) (nobody_contends i l))

  -- without a winner: the stations withdraw
  unwon_is : ended s (s.segment.clock.0 + 1) s.segment.sent no_round ≡ form (unwon (meaning s))
  unwon_is =
      to_form
      next
      (unwon (meaning s))
      (ended_held later s.segment.sent no_round)
      (parts_padded next (ended_padded later s.segment.sent no_round refl))
      (λ i. moved (meaning s) (stations i) (add-one s.segment.clock.0 i) s.segment.sent none none)
    where
      later : ℕ
      later = s.segment.clock.0 + 1

      next : State
      next = ended s later s.segment.sent no_round

      withdraws : (j : ℕ) → j < most_stations → station_at next j ≡ withdrawn (station_at s j)
      withdraws j l =
          λ i.
          record {
            address = (station_at s j).address;
            capability = (station_at s j).capability;
            queue = (station_at s j).queue;
            offer = offer_of (nobody_contends j l i);
          }

      stations : stations_of next ≡ map withdrawn (stations_of s)
      stations =
          let few = r.few in
          values_same (station_at next) (λ j. withdrawn (station_at s j)) 0 (n s) (λ j l m. withdraws j (omega arith))
          ∙ sym (values_map withdrawn (station_at s) 0 (n s))

  -- station i has sent its packet, which leaves its queue
  module _ (i : ℕ) (here : i < n s) where
    abbrev winner : Probe.Contender
    winner = contender_at s.segment i

    abbrev clock : ℕ
    clock = s.segment.clock.0 + winner.packet.length

    abbrev its_capability : Capability
    its_capability = (get_or s.segment.listed i nobody).capability

    abbrev round : Round
    round = round_after (meaning s).discipline its_capability

    abbrev next : State
    next = ended s clock (s.segment.sent + 1) round

    -- what stays of a queue
    abbrev staying : ℕ → List Packet
    staying j = keep (stays (Sent winner.packet.number)) (queue_at s.queues j)

    room : length (staying i) ≤ places
    room =
        let own = (station_stands s r i here).room in
        omega (arith, kept_length (stays (Sent winner.packet.number)) (queue_at s.queues i))

    held : Held next
    held = ended_held clock (s.segment.sent + 1) round

    zeros : Padded next
    zeros = ended_padded clock (s.segment.sent + 1) round (round_zeros (meaning s).discipline its_capability)

    left_is :
        (j : ℕ) → j < n s
        → station_with next.segment j (cond (eqb j i) (staying i) (queue_at s.queues j)) ≡ left winner (station_at s j)
    left_is j l =
        let few = r.few in
        λ k.
        record {
          address = (station_at s j).address;
          capability = (station_at s j).capability;
          queue = (go (eqb j i) refl ∙ sym (ap (λ t. cond t (staying j) (queue_at s.queues j)) (own_address s r.stands i j here l))) k;
          offer = offer_of (nobody_contends j (omega arith) k);
        }
      where
        go : (t : Bool) → eqb j i ≡ t → cond t (staying i) (queue_at s.queues j) ≡ cond t (staying j) (queue_at s.queues j)
        go true e = ap staying (sym (eqb-true j i e))
        go false e = refl

    won_is : requeued next i (staying i) ≡ form (Probe.won (meaning s) winner)
    won_is =
        to_form
        (requeued next i (staying i))
        (Probe.won (meaning s) winner)
        (requeued_held next held zeros r.few i here (staying i) room)
        (parts_padded (requeued next i (staying i)) (requeued_padded next held zeros r.few i here (staying i) room))
        (λ k.
        moved
        (meaning s)
        (stations_now next held zeros r.few i here (staying i) room (left winner) (station_at s) left_is k)
        clock
        (add-one s.segment.sent k)
        (last-is (meaning s).discipline its_capability winner refl k)
        none)

-- ---- one probe

-- the queues without the winner's packet
abbrev pub queues_after : State → Probed → Queues
queues_after s p =
    with_queue s.queues p.winner (queue_form (keep (stays (Sent p.answer.number)) (queue_at s.queues p.winner)))

-- what a probe of the segment makes of these queues
abbrev pub slot_with : Probed → Queues → Stepped
slot_with p queues = record { answer = p.answer; state = record { segment = p.segment; queues = queues } }

-- on success the packet leaves the winner's queue
abbrev pub slot_of : State → Probed → Stepped
slot_of s p = slot_with p (cond (succeeded p.answer.event) (queues_after s p) s.queues)

phase_is : (c : Contention) → cond c.tied Tie Parameter ≡ phase_form (phase_of (tie_of c))
phase_is c = go c.tied
  where
    go : (t : Bool) → cond t Tie Parameter ≡ phase_form (phase_of (cond t (some c.tie) none))
    go true = refl
    go false = refl

answer_is :
    (s : State) (drops event : ℕ) (address : Address) (number length wait ended : ℕ)
    → answer_at (progress_of s.segment) drops (event_form event) address number length wait (not (eqb ended 0))
    ≡ answer_form (answered (open_of s drops) event address.0 number length wait ended)
answer_is s drops event address number length wait ended =
    λ i.
    record {
      refusal = 0;
      drops = drops;
      slot = s.segment.clock;
      phase = phase_is s.segment.contention i;
      start = s.segment.contention.window.start;
      size = s.segment.contention.window.size;
      event = event_form event;
      address = address;
      number = number;
      length = length;
      wait = wait;
      ended = not (eqb ended 0);
    }

module _ (s : State) (drops : ℕ) where
  abbrev progress : Progress
  progress = progress_of s.segment

  abbrev its_side : Side
  its_side = s.segment.contention.window.side

-- the winner is a station, and 0 stands for none
pub winner_there : (s : State) → Lent s → (drops : ℕ) (p : Probed) → p ≡ probed s.segment drops → p.winner < most_stations
winner_there s r drops p is =
    subst (λ (q : Probed). q.winner < most_stations) (sym is) (go (heard_in s.segment) refl (its_side s drops))
  where
    by_side : (side : Side) → (probed_with s.segment (unheard_on (progress s drops) drops side) 0).winner < most_stations
    by_side Left = omega arith
    by_side Right = omega arith

    go : (ms : List ℕ) → heard_in s.segment ≡ ms → (side : Side) → (probed_by s.segment drops ms).winner < most_stations
    go [] e side = by_side (its_side s drops)
    go (i ∷ []) e side = omega (arith, (first_sends s r e).0, r.few)
    go (i ∷ j ∷ ms) e side = subst (λ (q : Probed). q.winner < most_stations) (sym (probed_more s.segment drops i j ms)) (omega arith)

module _ (s : State) (r : Lent s) (begun : s.segment.contention.begun ≡ true) where
  -- the window is placed in the space of the phase
  window_placed : (space : ℕ) × (Splitting.placed space (now s).window ≡ true)
  window_placed =
      go (now s).tied (subst (λ t. ContentionStands (meaning s) (cond t (some (under_way s)) none)) begun r.stands.window)
    where
      go :
          (t : Bool) → WindowStands (meaning s) (under_way s) (cond t (some (now s).tie) none)
          → (space : ℕ) × (Splitting.placed space (now s).window ≡ true)
      go true w = ((meaning s).A, w.1)
      go false w = ((meaning s).D, w)

  module _ (i : ℕ) (here : i < n s) (sends : transmits_at s i ≡ true) where
    -- a station that transmits does so with a packet of its queue
    queued : Among (contender_at s.segment i).packet (queue_at s.queues i)
    queued =
        let c = recorded_at s.segment i in
        (subst₂
        (λ (t u : Bool).
        OfferStands
        (meaning s)
        (station_at s i)
        (cond t (some (under_way s)) none)
        (cond u (some (record { parameter = c.parameter; packet = c.packet })) none))
        begun
        (and-true c.contends (transmits (meaning s) (under_way s) (contender_at s.segment i)) sends).0
        (station_stands s r i here).offered
        ).0

    -- which is not too long, and which is not counted as sent yet
    pub sent_short : (contender_at s.segment i).packet.length ≤ 4096
    sent_short = ((station_stands s r i here).packets (contender_at s.segment i).packet queued).most

    pub sent_counted : s.segment.sent < 4294967295
    sent_counted =
        let one = count_some (λ (q : Packet). true) (queue_at s.queues i) queued refl in
        let its = count-le (λ (q : Packet). true) (queue_at s.queues i) in
        let all = total_among (λ (x : Station). length x.queue) (stations_of s) (station_listed s i here) in
        omega (arith, r.stands.counts, r.stands.admitted_in)

  module _ (drops : ℕ) where
    unheard_is :
        (side : Side) → slot_of s (probed_with s.segment (unheard_on (progress s drops) drops side) 0) ≡ stepped (Probe.unheard (open_of s drops) side)
    unheard_is Left =
        let c = now s in
        λ i.
        record {
          answer = answer_is s drops idle (record { 0 = 0 }) 0 0 0 0 i;
          state =
              goes_on
              s
              r
              (record { begun = true; window = moved_right c.window; tied = c.tied; tie = c.tie })
              (record { window = move_right c.window; tie = tie_of c })
              (tie_padded s r)
              (ap (λ w. some (record { window = w; tie = tie_of c })) (moved_right_free window_placed.0 c.window window_placed.1))
              i;
        }
    unheard_is Right =
        λ i.
        record {
          answer = answer_is s drops idle (record { 0 = 0 }) 0 0 0 1 i;
          state = unwon_is s r i;
        }

    collided_is :
        slot_of s (probed_with s.segment (collided_on s.segment.settings.a (progress s drops) drops) 0)
        ≡ stepped (unsent (open_of s drops) collision 0, going_further (meaning s) (split (meaning s) (under_way s)))
    collided_is =
        λ i.
        record {
          answer = answer_is s drops collision (record { 0 = 0 }) 0 0 0 0 i;
          state = goes_on s r (split_now s) (split (meaning s) (under_way s)) (split_padded s r) (split_is s) i;
        }

    sent_is :
        (k : ℕ) → k < n s
        → slot_of
        s
        (probed_with
        s.segment
        (won_on (meaning s).discipline (progress s drops) drops (sole_at s.segment k).listed (sole_at s.segment k).packet)
        k)
        ≡ stepped (sent_by (open_of s drops) (contender_at s.segment k), Probe.won (meaning s) (contender_at s.segment k))
    sent_is k l =
        let x = contender_at s.segment k in
        λ i.
        record {
          answer =
              answer_is
              s
              drops
              success
              (get_or s.segment.listed k nobody).address
              x.packet.number
              x.packet.length
              (wait_of x.packet s.segment.clock.0)
              1
              i;
          state = won_is s r k l i;
        }

    -- by the places of those who transmit
    pub probed_is : (p : Probed) → p ≡ probed s.segment drops → slot_of s p ≡ stepped (probe (open_of s drops))
    probed_is p is =
        ap (slot_of s) is
        ∙ go (heard_in s.segment) refl
        ∙ sym (ap (λ xs. stepped (heard (open_of s drops) xs)) (all_heard s r))
      where
        go :
            (ms : List ℕ) → heard_in s.segment ≡ ms
            → slot_of s (probed_by s.segment drops ms) ≡ stepped (heard (open_of s drops) (map (contender_at s.segment) ms))
        go [] e = unheard_is (its_side s drops)
        go (k ∷ []) e = sent_is k (first_sends s r e).0
        go (k ∷ j ∷ ms) e = ap (slot_of s) (probed_more s.segment drops k j ms) ∙ collided_is
