-- `form` and `meaning` (specs/State.antt) undo each other: a state whose padding is zero is the form of its meaning, and a bus of at most
-- 64 stations with at most 16 packets each is the meaning of its form, whose padding is zero. Assumes nothing.
use Prim.Native.Nat.{ℕ, zero, suc, ◌+◌, ◌-◌, ◌*◌, ◌/◌, ◌%◌, ◌≤◌, ◌<◌}
use mathlib.Core.Path.{◌≡◌, refl, sym, ap, ap₂, ◌∙◌}
use mathlib.Core.Bool.{Bool, true, false, not, ◌&&◌, cond}
use mathlib.Core.Option.{Option, none, some}
use mathlib.Core.List.{List, [], ◌∷◌}
use native.Mathlib.Nat.{zero-add}
use native.Mathlib.Omega.{arith}
use lib.Dec.{eqb, leb, ltb}
use lib.ListN.{length, get_or, take, drop, length-take, length-drop, get_or-eq_default}
use lib.Seq.{ext_get_or, length-take-le, get_or-take, get_or-drop}
use borrow.Author.Tests.{eqb-true, leb-true, ltb-true, ltb-false, not-true, le-leb}
use Rattle.word.specs.Word.{bit_at}
use Rattle.word.proofs.Laws.{bit_past}
use Rattle.window.specs.declared.Side.{Side}
use Rattle.window.specs.declared.Side.TheVariants.{Left, Right}
use Rattle.window.specs.declared.Window.{Window}
use Rattle.window.specs.Splitting.{same_side}
use Rattle.rules.specs.Lists.{each_of, All, at_head, in_tail}
use Rattle.rules.specs.Bus as Machine
use Rattle.rules.specs.declared.Discipline.{Discipline}
use Rattle.rules.specs.declared.Discipline.TheVariants.{PRI, RTDG, RTVC}
use Rattle.rules.specs.Bus.{Bus, places, most_stations, code, nothing}
use Rattle.rules.specs.SetUp.{discipline_of}
use Rattle.rules.specs.Standing.{Standing}
use Rattle.rules.proofs.Laws.{clash, and-true, true-and, all_nil, each_view}
use Rattle.rules.proofs.Standing.{set_up_stands}
use Rattle.state.specs.State.{Packet, Contender, Contention, Round, State, Held, no_packet, no_contender, nobody, recorded_in, recorded_at, recorded, contender_in, places_at, queue_at, offer_of, station_at, stations_of, last_of, contention_of, meaning, no_station, station_or, listed_form, contender_form, round_form, tied_form, contention_form, segment_form, queues_form, form, has_no_packet, queue_padded, contender_padded, station_padded, has_no_station, each_place, round_padded, no_window, contention_padded, padded}
use Rattle.state.proofs.Contenders.{recorded_held, place_recorded, recorded_ext}
use Rattle.state.proofs.Places.{places_count, place_at}
use Rattle.state.proofs.Rows.{each_place_all, all_each_place, values_length, values_at, values_ext, row_length, row_at, row_ext}

-- ---- the rows of a form are as long as the code's arrays

pub held_form : (b : Bus) → Held (form b)
held_form b =
    record {
      listed = row_length most_stations (λ i. listed_form (station_or b i));
      contenders = recorded_held (contender_in b);
      lengths = row_length most_stations (λ i. length (station_or b i).queue);
      packets = row_length (places * most_stations) (λ j. get_or (station_or b (j / places)).queue (j % places) no_packet);
    }

-- ---- what stands at a place of a list

module _ {X : Type 0} where
  -- what holds of all of a list and of what stands past its end holds at each place
  pub at_place : (P : X → Type 0) (xs : List X) (d : X) (i : ℕ) → P d → All P xs → P (get_or xs i d)
  at_place P [] d i p h = p
  at_place P (x ∷ xs) d zero p h = h x (at_head refl)
  at_place P (x ∷ xs) d (suc i) p h = at_place P xs d i p (λ y a. h y (in_tail a))

  -- a test that holds at each place holds for each
  pub each_of_places : (test : X → Bool) (xs : List X) (d : X) → ((i : ℕ) → i < length xs → test (get_or xs i d) ≡ true) → each_of test xs ≡ true
  each_of_places test [] d h = refl
  each_of_places test (x ∷ xs) d h = true-and (h 0 (omega arith)) (each_of_places test xs d (λ i l. h (suc i) (omega arith)))

-- ---- the parts of a state whose padding is zero

-- What `padded` says, part by part. `Held` and this are records without a name, so that what they say of one state they say of any that agrees in
-- what they read.
abbrev pub Padded : State → Type 0
Padded s =
    record {
      discipline : s.segment.settings.discipline ≤ 2;
      queues : (i : ℕ) → i < most_stations → queue_padded (get_or s.queues.lengths i 0) (places_at s.queues i) ≡ true;
      contenders : (i : ℕ) → i < most_stations → contender_padded (recorded_at s.segment i) ≡ true;
      past_n : (i : ℕ) → s.segment.settings.n ≤ i → i < most_stations → has_no_station s i ≡ true;
      round : round_padded s.segment.round ≡ true;
      contention : contention_padded s.segment.contention ≡ true;
    }

pub padded_parts : (s : State) → padded s ≡ true → Padded s
padded_parts s e =
    let n = s.segment.settings.n in
    let a = leb s.segment.settings.discipline 2 in
    let b = each_place (station_padded s) 0 most_stations in
    let c = each_place (has_no_station s) n (most_stations - n) in
    let d = round_padded s.segment.round in
    let abcd = and-true (a && b && c && d) (contention_padded s.segment.contention) e in
    let abc = and-true (a && b && c) d abcd.0 in
    let ab = and-true (a && b) c abc.0 in
    let both = and-true a b ab.0 in
    record {
      discipline = leb-true s.segment.settings.discipline 2 both.0;
      queues = λ i h. (each i both.1 h).0;
      contenders = λ i h. (each i both.1 h).1;
      past_n = λ i l h. each_place_all (has_no_station s) n (most_stations - n) ab.1 i l (omega arith);
      round = abc.1;
      contention = abcd.1;
    }
  where
    each :
        (i : ℕ) → each_place (station_padded s) 0 most_stations ≡ true → i < most_stations
        → (queue_padded (get_or s.queues.lengths i 0) (places_at s.queues i) ≡ true)
        × (contender_padded (recorded_at s.segment i) ≡ true)
    each i all h =
        and-true
        (queue_padded (get_or s.queues.lengths i 0) (places_at s.queues i))
        (contender_padded (recorded_at s.segment i))
        (each_place_all (station_padded s) 0 most_stations all i (omega arith) (omega arith))

pub parts_padded : (s : State) → Padded s → padded s ≡ true
parts_padded s h =
    let n = s.segment.settings.n in
    true-and
    (true-and
    (true-and
    (true-and
    (le-leb s.segment.settings.discipline 2 h.discipline)
    (all_each_place (station_padded s) 0 most_stations (λ i l m. true-and (h.queues i (omega arith)) (h.contenders i (omega arith)))))
    (all_each_place (has_no_station s) n (most_stations - n) (λ i l m. h.past_n i l (omega arith))))
    h.round)
    h.contention

-- where what has no meaning is zero: a packet that is none, and a discipline's number, a contender, a round and a contention, which are
-- the forms of what they mean
pub no_packet_is : (p : Packet) → has_no_packet p ≡ true → p ≡ no_packet
no_packet_is p e =
    let abc = and-true (eqb p.number 0 && eqb p.value 0 && eqb p.length 0) (eqb p.admission.0 0) e in
    let ab = and-true (eqb p.number 0 && eqb p.value 0) (eqb p.length 0) abc.0 in
    let both = and-true (eqb p.number 0) (eqb p.value 0) ab.0 in
    λ i.
    record {
      number = eqb-true p.number 0 both.0 i;
      value = eqb-true p.value 0 both.1 i;
      length = eqb-true p.length 0 ab.1 i;
      admission = record { 0 = eqb-true p.admission.0 0 abc.1 i };
    }

pub code_discipline : (n : ℕ) → n ≤ 2 → n ≡ code (discipline_of n)
code_discipline zero h = refl
code_discipline (suc zero) h = refl
code_discipline (suc (suc zero)) h = refl
code_discipline (suc (suc (suc n))) h = absurd (omega arith)

pub contender_is_form : (c : Contender) → contender_padded c ≡ true → c ≡ contender_form (offer_of c)
contender_is_form c e = go c.contends e
  where
    held : Bool → Contender
    held t = record { contends = t; parameter = c.parameter; packet = c.packet }

    go : (t : Bool) → contender_padded (held t) ≡ true → held t ≡ contender_form (offer_of (held t))
    go true z = refl
    go false z =
        let both = and-true (eqb c.parameter 0) (has_no_packet c.packet) z in
        λ i. record { contends = false; parameter = eqb-true c.parameter 0 both.0 i; packet = no_packet_is c.packet both.1 i }

pub round_is_form : (r : Round) → round_padded r ≡ true → r ≡ round_form (last_of r)
round_is_form r e = go r.won e
  where
    held : Bool → Round
    held t = record { won = t; last = r.last }

    go : (t : Bool) → round_padded (held t) ≡ true → held t ≡ round_form (last_of (held t))
    go true z = refl
    go false z = λ i. record { won = false; last = record { 0 = eqb-true r.last.0 0 z i } }

left_side : (side : Side) → same_side side Left ≡ true → side ≡ Left
left_side Left e = refl
left_side Right e = clash e refl

no_window_is : (w : Window) → no_window w ≡ true → w ≡ record { start = 0; size = 0; side = Left }
no_window_is w e =
    let ab = and-true (eqb w.start 0 && eqb w.size 0) (same_side w.side Left) e in
    let both = and-true (eqb w.start 0) (eqb w.size 0) ab.0 in
    λ i. record { start = eqb-true w.start 0 both.0 i; size = eqb-true w.size 0 both.1 i; side = left_side w.side ab.1 i }

pub contention_is_form : (c : Contention) → contention_padded c ≡ true → c ≡ contention_form (contention_of c)
contention_is_form c e = go c.begun c.tied e
  where
    held : Bool → Bool → Contention
    held begun tied = record { begun = begun; window = c.window; tied = tied; tie = c.tie }

    go : (begun tied : Bool) → contention_padded (held begun tied) ≡ true → held begun tied ≡ contention_form (contention_of (held begun tied))
    go true true z = refl
    go true false z = λ i. record { begun = true; window = c.window; tied = false; tie = eqb-true c.tie 0 z i }
    go false true z = clash (and-true (no_window c.window) false (and-true (no_window c.window && false) true z).0).1 refl
    go false false z =
        let both = and-true (no_window c.window && true) (eqb c.tie 0) z in
        let w = no_window_is c.window (and-true (no_window c.window) true both.0).0 in
        λ i. record { begun = false; window = w i; tied = false; tie = eqb-true c.tie 0 both.1 i }

-- ---- the places of a queue

-- station i has sixteen places
pub places_length : (s : State) → Held s → (i : ℕ) → i < most_stations → length (places_at s.queues i) ≡ places
places_length s h i l = places_count s.queues i l h.packets

-- where the places past a queue's end are zero, its packets are what stands at its places
padded_place :
    (n : ℕ) (packets : List Packet) → queue_padded n packets ≡ true → (m : ℕ) → get_or packets m no_packet ≡ get_or (take n packets) m no_packet
padded_place n packets e m = go (ltb m n) refl
  where
    go : (t : Bool) → ltb m n ≡ t → get_or packets m no_packet ≡ get_or (take n packets) m no_packet
    go true h = sym (get_or-take n packets m no_packet (ltb-true m n h))
    go false h =
        let l = ltb-false m n h in
        let back : n + (m - n) ≡ m = omega arith in
        let zeros = each_view has_no_packet (drop n packets) (and-true (leb n places) (each_of has_no_packet (drop n packets)) e).1 in
        ap (λ k. get_or packets k no_packet) (sym back)
        ∙ sym (get_or-drop n packets (m - n) no_packet)
        ∙ no_packet_is (get_or (drop n packets) (m - n) no_packet) (at_place (λ p. has_no_packet p ≡ true) (drop n packets) no_packet (m - n) refl zeros)
        ∙ sym (get_or-eq_default (take n packets) no_packet (omega (arith, length-take n packets)))

-- ---- a state is the form of its meaning

no_station_is : (s : State) (i : ℕ) → has_no_station s i ≡ true → station_at s i ≡ no_station
no_station_is s i e =
    let who = get_or s.segment.listed i nobody in
    let n = get_or s.queues.lengths i 0 in
    let c = recorded_at s.segment i in
    let abc = and-true (eqb who.address.0 0 && eqb who.capability.0 0 && eqb n 0) (not c.contends) e in
    let ab = and-true (eqb who.address.0 0 && eqb who.capability.0 0) (eqb n 0) abc.0 in
    let both = and-true (eqb who.address.0 0) (eqb who.capability.0 0) ab.0 in
    λ j.
    record {
      address = eqb-true who.address.0 0 both.0 j;
      capability = eqb-true who.capability.0 0 both.1 j;
      queue = take (eqb-true n 0 ab.1 j) (places_at s.queues i);
      offer = cond (not-true c.contends abc.1 j) (some (record { parameter = c.parameter; packet = c.packet })) none;
    }

-- what the meaning has at place i is station i: past N, where both are no station, too
pub station_at_place : (s : State) → Padded s → (i : ℕ) → i < most_stations → station_at s i ≡ station_or (meaning s) i
station_at_place s p i h = go (ltb i s.segment.settings.n) refl
  where
    n : ℕ
    n = s.segment.settings.n

    go : (t : Bool) → ltb i n ≡ t → station_at s i ≡ station_or (meaning s) i
    go true l = sym (values_at (station_at s) 0 n i no_station (ltb-true i n l) ∙ ap (station_at s) (zero-add i))
    go false l =
        no_station_is s i (p.past_n i (ltb-false i n l) h)
        ∙ sym (get_or-eq_default (stations_of s) no_station (omega (arith, values_length (station_at s) 0 n, ltb-false i n l)))

module _ (s : State) (h : Held s) (p : Padded s) where
  listed_is : s.segment.listed ≡ (segment_form (meaning s)).listed
  listed_is =
      row_ext
      most_stations
      (λ i. listed_form (station_or (meaning s) i))
      s.segment.listed
      nobody
      h.listed
      (λ i l. ap listed_form (station_at_place s p i l))

  contenders_is : recorded_in s.segment ≡ recorded (contender_in (meaning s))
  contenders_is =
      recorded_ext
      (contender_in (meaning s))
      (recorded_in s.segment)
      h.contenders
      (λ i l.
      contender_is_form (recorded_at s.segment i) (p.contenders i l)
      ∙ ap (λ x. contender_form x.offer) (station_at_place s p i l))

  pub queue_length : (i : ℕ) → i < most_stations → length (queue_at s.queues i) ≡ get_or s.queues.lengths i 0
  queue_length i l =
      let n = get_or s.queues.lengths i 0 in
      let room = leb-true n places (and-true (leb n places) (each_of has_no_packet (drop n (places_at s.queues i))) (p.queues i l)).0 in
      length-take-le n (places_at s.queues i) (omega (arith, places_length s h i l))

  packet_at :
      (j : ℕ) → j < places * most_stations
      → get_or s.queues.packets j no_packet ≡ get_or (queue_at s.queues (j / places)) (j % places) no_packet
  packet_at j l =
      let split : j ≡ places * (j / places) + j % places = omega arith in
      ap (λ k. get_or s.queues.packets k no_packet) split
      ∙ sym (place_at s.queues (j / places) (j % places) (omega arith))
      ∙ padded_place
      (get_or s.queues.lengths (j / places) 0)
      (places_at s.queues (j / places))
      (p.queues (j / places) (omega arith))
      (j % places)

  lengths_is : s.queues.lengths ≡ (queues_form (meaning s)).lengths
  lengths_is =
      row_ext
      most_stations
      (λ i. length (station_or (meaning s) i).queue)
      s.queues.lengths
      0
      h.lengths
      (λ i l. sym (queue_length i l) ∙ ap (λ x. length x.queue) (station_at_place s p i l))

  packets_is : s.queues.packets ≡ (queues_form (meaning s)).packets
  packets_is =
      row_ext
      (places * most_stations)
      (λ j. get_or (station_or (meaning s) (j / places)).queue (j % places) no_packet)
      s.queues.packets
      no_packet
      h.packets
      (λ j l. packet_at j l ∙ ap (λ x. get_or x.queue (j % places) no_packet) (station_at_place s p (j / places) (omega arith)))

  is_form : s ≡ form (meaning s)
  is_form =
      λ i.
      record {
        segment =
            record {
              settings =
                  record {
                    discipline = code_discipline s.segment.settings.discipline p.discipline i;
                    d = s.segment.settings.d;
                    a = s.segment.settings.a;
                    q = s.segment.settings.q;
                    n = sym (values_length (station_at s) 0 s.segment.settings.n) i;
                  };
              listed = listed_is i;
              clock = s.segment.clock;
              admitted = s.segment.admitted;
              sent = s.segment.sent;
              lost = s.segment.lost;
              turned = s.segment.turned;
              round = round_is_form s.segment.round p.round i;
              contention = contention_is_form s.segment.contention p.contention i;
              contenders = (contenders_is i).word;
              parameters = (contenders_is i).parameters;
              numbers = (contenders_is i).numbers;
              values = (contenders_is i).values;
              lengths = (contenders_is i).lengths;
              admissions = (contenders_is i).admissions;
            };
        queues = record { lengths = lengths_is i; packets = packets_is i };
      }

pub form_meaning : (s : State) → Held s → padded s ≡ true → form (meaning s) ≡ s
form_meaning s h e = sym (is_form s h (padded_parts s e))

pub to_form : (s : State) (b : Bus) → Held s → padded s ≡ true → meaning s ≡ b → s ≡ form b
to_form s b h e m = sym (form_meaning s h e) ∙ ap form m

-- ---- what the padding says of the word: 'bits at N and above are clear', and what a station without its bit has is zero

pub bits_past_n : (s : State) → Held s → Padded s → (i : ℕ) → s.segment.settings.n ≤ i → bit_at s.segment.contenders i ≡ false
bits_past_n s h p i m = go (ltb i most_stations) refl
  where
    go : (t : Bool) → ltb i most_stations ≡ t → bit_at s.segment.contenders i ≡ false
    go true e =
        let who = get_or s.segment.listed i nobody in
        let none_there = eqb who.address.0 0 && eqb who.capability.0 0 && eqb (get_or s.queues.lengths i 0) 0 in
        let c = recorded_at s.segment i in
        not-true c.contends (and-true none_there (not c.contends) (p.past_n i m (ltb-true i most_stations e))).1
    go false e = bit_past most_stations s.segment.contenders i h.contenders.word (ltb-false i most_stations e)

pub zero_without_bit :
    (s : State) → Padded s → (i : ℕ) → i < most_stations → bit_at s.segment.contenders i ≡ false → recorded_at s.segment i ≡ no_contender
zero_without_bit s p i l e =
    let c = recorded_at s.segment i in
    contender_is_form c (p.contenders i l)
    ∙ ap (λ t. contender_form (cond t (some (record { parameter = c.parameter; packet = c.packet })) none)) e

-- ---- a bus is the meaning of its form

-- a bus that fits the code's arrays
pub record Fits (b : Bus) : Type 0 where
  pub few : length b.stations ≤ most_stations
  pub room : All (λ s. length s.queue ≤ places) b.stations

pub standing_fits : (b : Bus) → Standing b → Fits b
standing_fits b h = record { few = (set_up_stands b h).n_most; room = λ s i. (h.each_station s i).room }

pub nothing_fits : Fits nothing
nothing_fits = record { few = omega arith; room = all_nil (λ s. length s.queue ≤ places) }

discipline_code : (d : Discipline) → (discipline_of (code d) ≡ d) × (code d ≤ 2)
discipline_code PRI = (refl, omega arith)
discipline_code RTDG = (refl, omega arith)
discipline_code RTVC = (refl, omega arith)

offer_contender : (o : Option Machine.Offer) → (offer_of (contender_form o) ≡ o) × (contender_padded (contender_form o) ≡ true)
offer_contender none = (refl, refl)
offer_contender (some o) = (refl, refl)

last_round : (last : Option ℕ) → (last_of (round_form last) ≡ last) × (round_padded (round_form last) ≡ true)
last_round none = (refl, refl)
last_round (some c) = (refl, refl)

contention_of_form : (c : Option Machine.Contention) → (contention_of (contention_form c) ≡ c) × (contention_padded (contention_form c) ≡ true)
contention_of_form none = (refl, refl)
contention_of_form (some c) = go c.tie
  where
    go :
        (tie : Option ℕ)
        → (contention_of (tied_form c.window tie) ≡ some (record { window = c.window; tie = tie }))
        × (contention_padded (tied_form c.window tie) ≡ true)
    go none = (refl, refl)
    go (some v) = (refl, refl)

-- sixteen places that hold a queue, and zeros past its end
module _
    (queue packets : List Packet)
    (room : length queue ≤ places)
    (sixteen : length packets ≡ places)
    (same : (m : ℕ) → m < places → get_or packets m no_packet ≡ get_or queue m no_packet)
  where
    front : take (length queue) packets ≡ queue
    front =
        let long = length-take-le (length queue) packets (omega arith) in
        ext_get_or
        no_packet
        (take (length queue) packets)
        queue
        long
        (λ m l. get_or-take (length queue) packets m no_packet (omega arith) ∙ same m (omega arith))

    zeros_past : queue_padded (length queue) packets ≡ true
    zeros_past =
        true-and
        (le-leb (length queue) places room)
        (each_of_places
        has_no_packet
        (drop (length queue) packets)
        no_packet
        (λ m l.
        ap
        has_no_packet
        (get_or-drop (length queue) packets m no_packet
        ∙ same (length queue + m) (omega (arith, length-drop (length queue) packets))
        ∙ get_or-eq_default queue no_packet (omega arith))))

-- what the form has for station i
module _ (b : Bus) where
  pub listed_at : (i : ℕ) → i < most_stations → get_or (form b).segment.listed i nobody ≡ listed_form (station_or b i)
  listed_at i l = row_at most_stations (λ k. listed_form (station_or b k)) i nobody l

  pub contender_at_place : (i : ℕ) → i < most_stations → recorded_at (form b).segment i ≡ contender_form (station_or b i).offer
  contender_at_place i l = place_recorded (contender_in b) i l

  pub length_at : (i : ℕ) → i < most_stations → get_or (form b).queues.lengths i 0 ≡ length (station_or b i).queue
  length_at i l = row_at most_stations (λ k. length (station_or b k).queue) i 0 l

  pub packet_in :
      (i : ℕ) → i < most_stations → (m : ℕ) → m < places
      → get_or (places_at (form b).queues i) m no_packet ≡ get_or (station_or b i).queue m no_packet
  packet_in i l m h =
      let station : (places * i + m) / places ≡ i = omega arith in
      let place : (places * i + m) % places ≡ m = omega arith in
      place_at (form b).queues i m h
      ∙ row_at
      (places * most_stations)
      (λ j. get_or (station_or b (j / places)).queue (j % places) no_packet)
      (places * i + m)
      no_packet
      (omega arith)
      ∙ ap₂ (λ k n. get_or (station_or b k).queue n no_packet) station place

module _ (b : Bus) (fits : Fits b) where
  pub has_room : (i : ℕ) → length (station_or b i).queue ≤ places
  has_room i = at_place (λ s. length s.queue ≤ places) b.stations no_station i (omega arith) fits.room

  pub queue_in : (i : ℕ) → i < most_stations → queue_at (form b).queues i ≡ (station_or b i).queue
  queue_in i l =
      ap (λ n. take n (places_at (form b).queues i)) (length_at b i l)
      ∙ front (station_or b i).queue (places_at (form b).queues i) (has_room i) (places_length (form b) (held_form b) i l) (packet_in b i l)

  pub station_in : (i : ℕ) → i < most_stations → station_at (form b) i ≡ station_or b i
  station_in i l =
      λ j.
      record {
        address = (listed_at b i l j).address.0;
        capability = (listed_at b i l j).capability.0;
        queue = queue_in i l j;
        offer = (ap offer_of (contender_at_place b i l) ∙ (offer_contender (station_or b i).offer).0) j;
      }

  stations_in : stations_of (form b) ≡ b.stations
  stations_in =
      sym
      (values_ext
      (station_at (form b))
      0
      (length b.stations)
      b.stations
      no_station
      refl
      (λ j l. sym (station_in j (omega (arith, fits.few))) ∙ ap (station_at (form b)) (sym (zero-add j))))

  pub meaning_form : meaning (form b) ≡ b
  meaning_form =
      λ i.
      record {
        discipline = (discipline_code b.discipline).0 i;
        D = b.D;
        A = b.A;
        q = b.q;
        stations = stations_in i;
        clock = b.clock;
        admitted = b.admitted;
        sent = b.sent;
        lost = b.lost;
        turned = b.turned;
        last = (last_round b.last).0 i;
        contention = (contention_of_form b.contention).0 i;
      }

  -- ---- the form's padding is zero

  queue_zeros : (i : ℕ) → i < most_stations → queue_padded (get_or (form b).queues.lengths i 0) (places_at (form b).queues i) ≡ true
  queue_zeros i l =
      ap (λ n. queue_padded n (places_at (form b).queues i)) (length_at b i l)
      ∙ zeros_past (station_or b i).queue (places_at (form b).queues i) (has_room i) (places_length (form b) (held_form b) i l) (packet_in b i l)

  past_zeros : (i : ℕ) → length b.stations ≤ i → i < most_stations → has_no_station (form b) i ≡ true
  past_zeros i n l =
      let past = get_or-eq_default b.stations no_station n in
      let listed = listed_at b i l ∙ ap listed_form past in
      true-and
      (true-and
      (true-and (ap (λ x. eqb x.address.0 0) listed) (ap (λ x. eqb x.capability.0 0) listed))
      (ap (λ n. eqb n 0) (length_at b i l ∙ ap (λ s. length s.queue) past)))
      (ap (λ c. not c.contends) (contender_at_place b i l ∙ ap (λ s. contender_form s.offer) past))

  pub padded_form : padded (form b) ≡ true
  padded_form =
      parts_padded
      (form b)
      (record {
        discipline = (discipline_code b.discipline).1;
        queues = queue_zeros;
        contenders = λ i l. ap contender_padded (contender_at_place b i l) ∙ (offer_contender (station_or b i).offer).1;
        past_n = past_zeros;
        round = (last_round b.last).1;
        contention = (contention_of_form b.contention).1;
      })
