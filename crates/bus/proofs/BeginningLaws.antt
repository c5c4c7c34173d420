-- A contention begins: late packets leave the queues, each station takes its place among the contenders, and what becomes of the state.
-- Assumes nothing.
use Prim.Native.Nat.{ℕ, zero, suc, ◌+◌, ◌≤◌, ◌<◌}
use mathlib.Core.Path.{◌≡◌, refl, sym, ap, ◌∙◌, subst}
use mathlib.Core.Bool.{Bool, true, false, not, ◌&&◌, ◌||◌, cond}
use mathlib.Core.Option.{Option, none, some}
use mathlib.Core.List.{List, [], ◌∷◌}
use native.Mathlib.Omega.{arith}
use lib.Dec.{eqb, ltb}
use lib.ListN.{length, get_or, take, set}
use borrow.Author.Tests.{eqb-true, eqb-false, ltb-true, ltb-false, lt-ltb, le-ltb, not-true}
use Rattle.std.proofs.lemmas.Option.{none-some, cond_some}
use Rattle.std.specs.Prelude.{Some}
use Rattle.word.specs.Word.{bit_at}
use Rattle.word.proofs.Laws.{bit_none}
use Rattle.rules.specs.Lists.{keep, count, total}
use Rattle.rules.specs.declared.Discipline.{Discipline}
use Rattle.rules.specs.declared.Discipline.TheVariants.{PRI, RTDG, RTVC}
use Rattle.rules.specs.Bus.{Offer, Station, Bus, most_admitted, late}
use Rattle.rules.specs.SetUp.{discipline_of}
use Rattle.rules.specs.Standing.{OfferStands}
use Rattle.rules.specs.Begin.{sits_out, parameter_of, offers, chosen, goes_before, choice, entered, drops_of, begin}
use Rattle.rules.proofs.Laws.{and-true, true-and, kept_failed, count-le, total_mono}
use Rattle.word.specs.Word.{bit_at, set_at}
use Rattle.word.proofs.Laws.{bit_word, word_same}
use Rattle.bus.specs.Types.{Slot, Settings, Listed, Contender, Contention, Round, Segment, Queues, State, Packet, Queue}
use Rattle.state.specs.State.{Held, Recorded, recorded_in, recorded_at, recorded, no_contender, nobody, places_at, queue_at, offer_of, station_at, values_from, stations_of, last_of, contention_of, meaning, contender_form, form, row, waiting_in, queue_padded, contender_padded, has_no_station}
use Rattle.bus.specs.Parts.{opening_of, Late, queue_form, stays, chosen_form, parameter_for, contender_on, contender_for, segment_counting}
use Rattle.state.specs.Parts.{queue_of, packets_of, no_contenders}
use Rattle.state.proofs.Contenders.{recorded_held, place_recorded, recorded_ext, recorded_same}
use Rattle.state.proofs.Rows.{values_take, values_map, values_same, among_values, row_same, row_set}
use Rattle.state.proofs.Form.{Padded, parts_padded, contender_is_form, queue_length, to_form}
use Rattle.bus.proofs.QueueLaws.{kept_room, packets_of_form, form_padded}
use Rattle.bus.proofs.ClosingUp.{in_range, queue_if, LeftIn, left_in, left_out}
use Rattle.state.proofs.StandingParts.{held_whole}
use Rattle.state.proofs.Stands.{Lent, few_packets}
use Rattle.bus.proofs.Changed.{queue_formed, recounted}

-- another station is before i + 1 if it is before i
before_more : (j i : ℕ) → ¬ (j ≡ i) → ltb j i ≡ ltb j (i + 1)
before_more j i n = go (ltb j i) refl
  where
    go : (t : Bool) → ltb j i ≡ t → t ≡ ltb j (i + 1)
    go true e = sym (lt-ltb j (i + 1) (omega (arith, ltb-true j i e)))
    go false e = sym (le-ltb j (i + 1) (omega (arith, ltb-false j i e)))

-- ---- a station's place among the contenders

-- it contends if a packet is found and it does not sit out
pub contender_found :
    (g : Settings) (clock : Slot) (round : Round) (l : Listed) (o : Option Packet) (p : Packet) → chosen_form o ≡ Some p
    → sits_out (discipline_of g.discipline) (last_of round) l.capability.0 ≡ false
    → record { contends = true; parameter = parameter_for (discipline_of g.discipline) g clock l.capability p; packet = p }
    ≡ contender_on g clock round l o
contender_found g clock round l none p e sits = absurd (none-some p e)
contender_found g clock round l (some q) p e sits =
    sym (rw sits (ap (λ (r : Packet). record { contends = true; parameter = parameter_for (discipline_of g.discipline) g clock l.capability r; packet = r }) ((cond_some true q p e).1)))

-- it does not if it sits out
sitting :
    (g : Settings) (clock : Slot) (round : Round) (l : Listed) (o : Option Packet)
    → sits_out (discipline_of g.discipline) (last_of round) l.capability.0 ≡ true → contender_on g clock round l o ≡ no_contender
sitting g clock round l none h = refl
sitting g clock round l (some p) h = rw h

-- the place of station j
abbrev pub place_for : Segment → Queues → ℕ → Contender
place_for g qs j = contender_for g.settings g.clock g.round (get_or g.listed j nobody) (queue_at qs j)

-- whether it has no packet, or sits out
abbrev pub nothing_by : ℕ → Round → Listed → Discipline → Bool
nothing_by len round l d = eqb len 0 || sits_out d (last_of round) l.capability.0

-- with no packet, or where it sits out, it does not contend
pub nothing_offered :
    (g : Segment) (qs : Queues) (j : ℕ)
    → (eqb (get_or qs.lengths j 0) 0
    || sits_out (discipline_of g.settings.discipline) (last_of g.round) (get_or g.listed j nobody).capability.0)
    ≡ true
    → place_for g qs j ≡ no_contender
nothing_offered g qs j = go (eqb (get_or qs.lengths j 0) 0) refl
  where
    l : Listed
    l = get_or g.listed j nobody

    go :
        (t : Bool) → eqb (get_or qs.lengths j 0) 0 ≡ t
        → (t || sits_out (discipline_of g.settings.discipline) (last_of g.round) l.capability.0) ≡ true
        → place_for g qs j ≡ no_contender
    go true e h =
        ap
        (λ n. contender_for g.settings g.clock g.round l (take n (places_at qs j)))
        (eqb-true (get_or qs.lengths j 0) 0 e)
    go false e h = sitting g.settings g.clock g.round l (choice (discipline_of g.settings.discipline) (queue_at qs j)) h

-- the places of the stations before i; the others do not contend
abbrev pub place_to : (ℕ → Contender) → ℕ → ℕ → Contender
place_to f i j = cond (ltb j i) (f j) no_contender

abbrev pub places_to : (ℕ → Contender) → ℕ → Recorded
places_to f i = recorded (place_to f i)

-- what is recorded, with a contender more at place i
abbrev pub contending_at : Recorded → ℕ → Contender → Recorded
contending_at r i c =
    record {
      word = set_at r.word i;
      parameters = set r.parameters i c.parameter;
      numbers = set r.numbers i c.packet.number;
      values = set r.values i c.packet.value;
      lengths = set r.lengths i c.packet.length;
      admissions = set r.admissions i c.packet.admission;
    }

module _ (f : ℕ → Contender) where
  -- before the first station
  pub places_none : no_contenders ≡ places_to f 0
  places_none = recorded_same (λ j. no_contender) (place_to f 0) none_yet
    where
      none_yet : (j : ℕ) → j < 64 → no_contender ≡ place_to f 0 j
      none_yet j l = ap (λ t. cond t (f j) no_contender) (sym (le-ltb j 0 (omega arith)))

  -- one station more: the place of station i is its own, the others stay
  place_more : (i j : ℕ) (t : Bool) → eqb j i ≡ t → cond t (f i) (place_to f i j) ≡ place_to f (i + 1) j
  place_more i j true e =
      let same = eqb-true j i e in ap f (sym same) ∙ ap (λ t. cond t (f j) no_contender) (sym (lt-ltb j (i + 1) (omega arith)))
  place_more i j false e = ap (λ t. cond t (f j) no_contender) (before_more j i (eqb-false j i e))

  -- in a row of what each has
  row_more :
      {X : Type 0} (of : Contender → X) (i : ℕ) → i < 64
      → set (row 64 (λ j. of (place_to f i j))) i (of (f i)) ≡ row 64 (λ j. of (place_to f (i + 1) j))
  row_more of i h =
      row_set 64 (λ j. of (place_to f i j)) i (of (f i)) h
      ∙ row_same
      64
      (λ j. cond (eqb j i) (of (f i)) (of (place_to f i j)))
      (λ j. of (place_to f (i + 1) j))
      (λ j l. go j (eqb j i) ∙ ap of (place_more i j (eqb j i) refl))
    where
      go : (j : ℕ) (t : Bool) → cond t (of (f i)) (of (place_to f i j)) ≡ of (cond t (f i) (place_to f i j))
      go j true = refl
      go j false = refl

  -- in the word, where it contends
  word_more : (i : ℕ) → (f i).contends ≡ true → set_at (places_to f i).word i ≡ (places_to f (i + 1)).word
  word_more i contends =
      word_same
      (λ j. eqb j i || bit_at (places_to f i).word j)
      (λ j. (place_to f (i + 1) j).contends)
      64
      (λ j l.
      ap (λ t. eqb j i || t) (bit_word (λ k. (place_to f i k).contends) 64 j l)
      ∙ go j (eqb j i)
      ∙ ap (λ c. c.contends) (place_more i j (eqb j i) refl))
    where
      go : (j : ℕ) (t : Bool) → (t || (place_to f i j).contends) ≡ (cond t (f i) (place_to f i j)).contends
      go j true = sym contends
      go j false = refl

  pub places_more : (i : ℕ) → i < 64 → (f i).contends ≡ true → contending_at (places_to f i) i (f i) ≡ places_to f (i + 1)
  places_more i h contends =
      λ k.
      record {
        word = word_more i contends k;
        parameters = row_more (λ c. c.parameter) i h k;
        numbers = row_more (λ c. c.packet.number) i h k;
        values = row_more (λ c. c.packet.value) i h k;
        lengths = row_more (λ c. c.packet.length) i h k;
        admissions = row_more (λ c. c.packet.admission) i h k;
      }

  -- one station more, which does not contend
  pub places_same : (i : ℕ) → f i ≡ no_contender → places_to f i ≡ places_to f (i + 1)
  places_same i still = recorded_same (place_to f i) (place_to f (i + 1)) (λ j l. place j (eqb j i) refl)
    where
      place : (j : ℕ) (t : Bool) → eqb j i ≡ t → place_to f i j ≡ place_to f (i + 1) j
      place j true e =
          let same = eqb-true j i e in rw (le-ltb j i (omega arith), lt-ltb j (i + 1) (omega arith)) (sym (ap f same ∙ still))
      place j false e = ap (λ t. cond t (f j) no_contender) (before_more j i (eqb-false j i e))

-- a station that has a packet and does not sit out contends
some_chosen : (d : Discipline) (p : Packet) (ps : List Packet) → (q : Packet) × (choice d (p ∷ ps) ≡ some q)
some_chosen d p ps = go (choice d ps)
  where
    go : (rest : Option Packet) → (q : Packet) × (chosen d p rest ≡ some q)
    go none = (p, refl)
    go (some o) = (cond (goes_before d o p) o p, refl)

pub offered_contends :
    (g : Settings) (clock : Slot) (round : Round) (l : Listed) (ps : List Packet) → ¬ (length ps ≡ 0)
    → sits_out (discipline_of g.discipline) (last_of round) l.capability.0 ≡ false → (contender_for g clock round l ps).contends ≡ true
offered_contends g clock round l [] n sits = absurd (n refl)
offered_contends g clock round l (p ∷ ps) n sits =
    let some-packet = some_chosen (discipline_of g.discipline) p ps in
    ap (λ o. (contender_on g clock round l o).contends) some-packet.1 ∙ rw sits

-- ---- a place among the contenders is zero or contends, and its offer is the offer of the rules

place_padded :
    (g : Settings) (clock : Slot) (round : Round) (l : Listed) (o : Option Packet) → contender_padded (contender_on g clock round l o) ≡ true
place_padded g clock round l none = refl
place_padded g clock round l (some p) = go (sits_out (discipline_of g.discipline) (last_of round) l.capability.0)
  where
    contending : Contender
    contending = record { contends = true; parameter = parameter_for (discipline_of g.discipline) g clock l.capability p; packet = p }

    go : (t : Bool) → contender_padded (cond t no_contender contending) ≡ true
    go true = refl
    go false = refl

module _ (s : State) (i : ℕ) where
  parameter_same :
      (d : Discipline) (p : Packet)
      → parameter_for d s.segment.settings s.segment.clock (get_or s.segment.listed i nobody).capability p
      ≡ parameter_of d (meaning s) (station_at s i) p
  parameter_same PRI p = refl
  parameter_same RTDG p = refl
  parameter_same RTVC p = refl

  offer_same :
      (o : Option Packet)
      → offer_of (contender_on s.segment.settings s.segment.clock s.segment.round (get_or s.segment.listed i nobody) o)
      ≡ offers (meaning s) (station_at s i) o
  offer_same none = refl
  offer_same (some p) =
      go (sits_out (meaning s).discipline (meaning s).last (station_at s i).capability) (parameter_same (meaning s).discipline p)
    where
      go :
          (t : Bool) {m n : ℕ} → m ≡ n
          → offer_of (cond t no_contender (record { contends = true; parameter = m; packet = p }))
          ≡ cond t none (some (record { parameter = n; packet = p }))
      go true e = refl
      go false e = ap (λ (n : ℕ). some (record { parameter = n; packet = p })) e

-- ---- the state in which a contention has begun

-- the state with the packets that are left, and with so many packets more lost
abbrev pub begun_state : State → Queues → ℕ → State
begun_state s rest drops =
    record {
      segment =
          segment_counting
          s.segment
          s.segment.admitted
          (s.segment.lost + drops)
          (opening_of s.segment.settings.d)
          (places_to (place_for s.segment rest) s.segment.settings.n);
      queues = rest;
    }

-- the packets that are late, and those that are not
abbrev pub late_at : State → Packet → Bool
late_at s p = late (meaning s).discipline (meaning s).clock p.value

abbrev pub in_time_at : State → Packet → Bool
in_time_at s = stays (Late s.segment.settings.discipline s.segment.clock)

-- a sum over places whose terms are those of another sum, and more of something
total_more :
    {X : Type 0} (f g : ℕ → ℕ) (more : X → ℕ) (x : ℕ → X) (i k : ℕ) → ((j : ℕ) → i ≤ j → j < i + k → f j ≡ g j + more (x j))
    → total (λ n. n) (values_from f i k) ≡ total (λ n. n) (values_from g i k) + total more (values_from x i k)
total_more f g more x i zero h = refl
total_more f g more x i (suc k) h =
    omega (arith, h i (omega arith) (omega arith), total_more f g more x (suc i) k (λ j l m. h j (omega arith) (omega arith)))

module _ (s : State) (r : Lent s) where
  -- its queues are the forms of their packets
  pub all_formed : (j : ℕ) → j < 64 → queue_of s.queues j ≡ queue_form (queue_at s.queues j)
  all_formed = queue_formed s r.held r.zeros

  -- no more are dropped than wait
  pub lost_counted : s.segment.lost + drops_of (meaning s) ≤ most_admitted
  lost_counted =
      let dropped = total_mono (meaning s).stations (λ x i. count-le (late_at s) x.queue) in
      omega (arith, r.stands.counts, r.stands.admitted_in)

  module _ (rest : Queues) (left : LeftIn (in_time_at s) s.queues 0 s.segment.settings.n rest) where
    -- a station's packets are those in time
    left_at : (j : ℕ) → j < s.segment.settings.n → queue_of rest j ≡ queue_form (keep (in_time_at s) (queue_at s.queues j))
    left_at j l = left_in (in_time_at s) s.queues 0 s.segment.settings.n rest left j (omega arith) (omega arith) l

    packets_at : (j : ℕ) → j < s.segment.settings.n → queue_at rest j ≡ keep (in_time_at s) (queue_at s.queues j)
    packets_at j l = ap packets_of (left_at j l) ∙ packets_of_form (keep (in_time_at s) (queue_at s.queues j))

    length_at : (j : ℕ) → j < s.segment.settings.n → get_or rest.lengths j 0 ≡ length (keep (in_time_at s) (queue_at s.queues j))
    length_at j l = ap (λ (queue : Queue). queue.length) (left_at j l)

    pub room_left : (j : ℕ) → j < s.segment.settings.n → get_or rest.lengths j 0 ≤ 16
    room_left j l = omega (arith, length_at j l, kept_room (in_time_at s) s.queues j (few_packets s r j (omega arith)))

    -- ---- the padding is zero

    queue_zeros : (j : ℕ) → j < 64 → queue_padded (get_or rest.lengths j 0) (places_at rest j) ≡ true
    queue_zeros j l = ap zeros (left j l) ∙ go (in_range 0 s.segment.settings.n j)
      where
        zeros : Queue → Bool
        zeros queue = queue_padded queue.length queue.packets

        go : (t : Bool) → zeros (queue_if t (in_time_at s) s.queues j) ≡ true
        go true = form_padded (keep (in_time_at s) (queue_at s.queues j)) (kept_room (in_time_at s) s.queues j (few_packets s r j l))
        go false = r.zeros.queues j l

    module _ (drops : ℕ) where
      place_of :
          (j : ℕ) → j < 64
          → recorded_at (begun_state s rest drops).segment j
          ≡ place_to (place_for s.segment rest) s.segment.settings.n j
      place_of j l = place_recorded (place_to (place_for s.segment rest) s.segment.settings.n) j l

      contender_zeros : (j : ℕ) → j < 64 → contender_padded (recorded_at (begun_state s rest drops).segment j) ≡ true
      contender_zeros j l = ap contender_padded (place_of j l) ∙ go (ltb j s.segment.settings.n)
        where
          go : (t : Bool) → contender_padded (cond t (place_for s.segment rest j) no_contender) ≡ true
          go true =
              place_padded
              s.segment.settings
              s.segment.clock
              s.segment.round
              (get_or s.segment.listed j nobody)
              (choice (meaning s).discipline (queue_at rest j))
          go false = refl

      past_zeros : (j : ℕ) → s.segment.settings.n ≤ j → j < 64 → has_no_station (begun_state s rest drops) j ≡ true
      past_zeros j m l =
          let who = get_or s.segment.listed j nobody in
          let n = get_or s.queues.lengths j 0 in
          let c = recorded_at s.segment j in
          let nobody-there = eqb who.address.0 0 && eqb who.capability.0 0 in
          let abc = and-true (nobody-there && eqb n 0) (not c.contends) (r.zeros.past_n j m l) in
          let ab = and-true nobody-there (eqb n 0) abc.0 in
          let same = left_out (in_time_at s) s.queues 0 s.segment.settings.n rest left j l (λ a b. omega arith) in
          true-and
          (true-and ab.0 (ap (λ (queue : Queue). eqb queue.length 0) same ∙ ab.1))
          (ap (λ place. not place.contends) (place_of j l)
          ∙ ap (λ t. not (cond t (place_for s.segment rest j) no_contender).contends) (le-ltb j s.segment.settings.n m))

      begun_padded : Padded (begun_state s rest drops)
      begun_padded =
          record {
            discipline = r.zeros.discipline;
            queues = queue_zeros;
            contenders = contender_zeros;
            past_n = past_zeros;
            round = r.zeros.round;
            contention = refl;
          }

      -- ---- the stations are those of the rules

      station_begun : (j : ℕ) → j < s.segment.settings.n → station_at (begun_state s rest drops) j ≡ entered (meaning s) (station_at s j)
      station_begun j l =
          λ i.
          record {
            address = (station_at s j).address;
            capability = (station_at s j).capability;
            queue = packets_at j l i;
            offer = offer i;
          }
        where
          offer :
              offer_of (recorded_at (begun_state s rest drops).segment j)
              ≡ offers (meaning s) (station_at s j) (choice (meaning s).discipline (keep (in_time_at s) (queue_at s.queues j)))
          offer =
              ap offer_of (place_of j (omega arith))
              ∙ ap (λ t. offer_of (cond t (place_for s.segment rest j) no_contender)) (lt-ltb j s.segment.settings.n l)
              ∙ offer_same s j (choice (meaning s).discipline (queue_at rest j))
              ∙ ap (λ ps. offers (meaning s) (station_at s j) (choice (meaning s).discipline ps)) (packets_at j l)

      stations_begun : stations_of (begun_state s rest drops) ≡ (begin (meaning s)).stations
      stations_begun =
          let n = s.segment.settings.n in
          values_same
          (station_at (begun_state s rest drops))
          (λ j. entered (meaning s) (station_at s j))
          0
          n
          (λ j l m. station_begun j (omega arith))
          ∙ sym (values_map (entered (meaning s)) (station_at s) 0 n)

      meaning_begun : drops ≡ drops_of (meaning s) → meaning (begun_state s rest drops) ≡ begin (meaning s)
      meaning_begun e =
          λ i. recounted (meaning s) (stations_begun i) (meaning s).admitted ((meaning s).lost + e i) (begin (meaning s)).contention

    -- ---- what is dropped

    -- those waiting before are those waiting after and those dropped
    pub waiting_dropped :
        length rest.lengths ≡ 64
        → total (λ n. n) (take s.segment.settings.n s.queues.lengths)
        ≡ total (λ n. n) (take s.segment.settings.n rest.lengths) + drops_of (meaning s)
    waiting_dropped ls =
        let n = s.segment.settings.n in
        ap (total (λ k. k)) (values_take s.queues.lengths 0 n (omega (arith, r.held.lengths)))
        ∙ total_more
        (λ j. get_or s.queues.lengths j 0)
        (λ j. get_or rest.lengths j 0)
        late_in
        (station_at s)
        0
        n
        (λ j l m. here j (omega arith))
        ∙ ap (λ ns. total (λ k. k) ns + drops_of (meaning s)) (sym (values_take rest.lengths 0 n (omega arith)))
      where
        late_in : Station → ℕ
        late_in x = count (late_at s) x.queue

        here : (j : ℕ) → j < s.segment.settings.n → get_or s.queues.lengths j 0 ≡ get_or rest.lengths j 0 + late_in (station_at s j)
        here j l =
            omega (
              arith,
              queue_length s r.held r.zeros j (omega arith),
              length_at j l,
              kept_failed (late_at s) (queue_at s.queues j),
            )

    -- the same as the code counts them
    pub late_counted :
        length rest.lengths ≡ 64
        → waiting_in s.queues.lengths s.segment.settings.n
        ≡ waiting_in rest.lengths s.segment.settings.n + drops_of (meaning s)
    late_counted ls =
        let n = s.segment.settings.n in
        rw (
          held_whole s.queues.lengths n (λ i l. few_packets s r i (omega (arith, r.few))),
          held_whole rest.lengths n room_left,
        )
        (waiting_dropped ls)

    -- ---- it is the state of the rules

    pub begun_is :
        (drops : ℕ) → drops ≡ drops_of (meaning s) → length rest.lengths ≡ 64 → length rest.packets ≡ 1024
        → begun_state s rest drops ≡ form (begin (meaning s))
    begun_is drops e ls ps =
        to_form
        (begun_state s rest drops)
        (begin (meaning s))
        held
        (parts_padded (begun_state s rest drops) (begun_padded drops))
        (meaning_begun drops e)
      where
        held : Held (begun_state s rest drops)
        held =
            record {
              listed = r.held.listed;
              contenders = recorded_held (place_to (place_for s.segment rest) s.segment.settings.n);
              lengths = ls;
              packets = ps;
            }

-- ---- no packet leaves

-- between contentions a station that stands has no offer
none_offered : (b : Bus) (x : Station) (o : Option Offer) → OfferStands b x none o → o ≡ none
none_offered b x none h = refl
none_offered b x (some o) h = absurd h

module _ (s : State) (r : Lent s) where
  -- between contentions none contends
  module _ (between : s.segment.contention.begun ≡ false) where
    none_contends : (j : ℕ) → j < 64 → recorded_at s.segment j ≡ no_contender
    none_contends j l =
        contender_is_form (recorded_at s.segment j) (r.zeros.contenders j l)
        ∙ ap contender_form (go (ltb j s.segment.settings.n) refl)
      where
        place : Contender
        place = recorded_at s.segment j

        begun_by : Bool → Contention
        begun_by t =
            record {
              begun = t;
              window = s.segment.contention.window;
              tied = s.segment.contention.tied;
              tie = s.segment.contention.tie;
            }

        go : (t : Bool) → ltb j s.segment.settings.n ≡ t → offer_of place ≡ none
        go true e =
            let here = ltb-true j s.segment.settings.n e in
            let among = among_values (station_at s) 0 s.segment.settings.n j (omega arith) (omega arith) in
            none_offered
            (meaning s)
            (station_at s j)
            (offer_of place)
            (subst
            (λ t. OfferStands (meaning s) (station_at s j) (contention_of (begun_by t)) (offer_of place))
            between
            (r.stands.each_station (station_at s j) among).offered)
        go false e =
            let who = get_or s.segment.listed j nobody in
            let nothing-there = eqb who.address.0 0 && eqb who.capability.0 0 && eqb (get_or s.queues.lengths j 0) 0 in
            let past = r.zeros.past_n j (ltb-false j s.segment.settings.n e) l in
            let still = not-true place.contends (and-true nothing-there (not place.contends) past).1 in
            ap (λ t. cond t (some (record { parameter = place.parameter; packet = place.packet })) none) still

    pub nobody_recorded : recorded_in s.segment ≡ no_contenders
    nobody_recorded = recorded_ext (λ j. no_contender) (recorded_in s.segment) r.held.contenders none_contends

  -- nor does any where no bit is set
  pub none_set : s.segment.contenders ≡ 0 → recorded_in s.segment ≡ no_contenders
  none_set e =
      recorded_ext (λ j. no_contender) (recorded_in s.segment) r.held.contenders
      (λ j l. contender_is_form (recorded_at s.segment j) (r.zeros.contenders j l) ∙ ap contender_form (no_offer j))
    where
      no_offer : (j : ℕ) → offer_of (recorded_at s.segment j) ≡ none
      no_offer j =
          let place = recorded_at s.segment j in
          ap (λ t. cond t (some (record { parameter = place.parameter; packet = place.packet })) none) (ap (λ w. bit_at w j) e ∙ bit_none j)
