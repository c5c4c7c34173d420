-- The standing conditions in the parts that the code tests (specs/Parts.antt): together they are `standing` (specs/State.antt), that the
-- padding is zero and the meaning stands. Assumes nothing.
use Prim.Native.Nat.{ℕ, zero, suc, ◌+◌, ◌-◌, ◌*◌, ◌≤◌, ◌<◌, min}
use mathlib.Core.Path.{◌≡◌, refl, sym, ap, ap₂, ◌∙◌}
use mathlib.Core.Bool.{Bool, true, false, not, ◌&&◌, ◌||◌, cond, and-true as and-last-true, and-false, and_assoc, and_comm}
use mathlib.Core.Option.{none, some}
use mathlib.Core.List.{List, [], ◌∷◌, ◌++◌, map, append-nil, append_assoc}
use native.Mathlib.Nat.{zero-add, add-zero, sub-zero, suc-add, add-suc, min-eq_left, min-eq_right}
use native.Mathlib.Numerals.{add-one}
use native.Mathlib.Omega.{arith}
use mir.Val.{Val}
use denote.Laws.{Is}
use lib.Dec.{leb, ltb, eqb}
use lib.ListN.{length, get_or, take, drop, length-append, length-take, length-map}
use lib.Seq.{take_all}
use borrow.Author.Tests.{eqb-true, leb-true, leb-false, ltb-true, ltb-false, le-leb, lt-ltb, le-ltb, eq-eqb, ne_eqb}
use Rattle.window.specs.Splitting.{placed}
use Rattle.rules.specs.Lists.{each_of, some_of, total, distinct}
use Rattle.rules.specs.Bus as Machine
use Rattle.rules.specs.declared.Discipline.{Discipline}
use Rattle.rules.specs.declared.Discipline.TheVariants.{PRI, RTDG, RTVC}
use Rattle.rules.specs.Bus.{places, most_stations, clock_end, most_admitted, most_turned, waiting, numbers, numbers_in}
use Rattle.std.specs.Prelude.{Result, Ok, Err}
use Rattle.std.specs.Result.{is_ok}
use Rattle.rules.specs.Refusals.{number_of}
use Rattle.rules.specs.SetUp.{Request, discipline_of, set_up_verdict}
use Rattle.rules.specs.Standing.{packet_fits, rising, same_packet, offer_fits, offer_stands, station_stands, last_stands, contention_stands, stands, asked_for, Standing}
use Rattle.rules.proofs.Laws.{clash, and-true, true-and}
use Rattle.rules.proofs.Tests.{Whether, holds, fails}
use Rattle.rules.proofs.Standing.{stands_exactly}
use Rattle.state.specs.State.{Capability, Listed, Contender, Contention, Segment, Queues, State, Held, recorded_at, nobody, places_at, queue_at, station_at, stations_of, values_from, tie_of, meaning, has_no_packet, queue_padded, contender_padded, station_padded, has_no_station, each_place, round_padded, contention_padded, padded, standing, waiting_in}
use Rattle.state.specs.SetUp.{asked_of, request_with}
use Rattle.state.specs.Parts.{Fault, verdict_of, parameter_fits, contender_sound, station_test, nobody_test, place_sound, numbers_from, numbers_sound, queues_sound, winner_sound, round_sound, contention_sound, parts_sound}
use Rattle.state.specs.contracts.State as state
use Rattle.state.proofs.Rows.{rest_suc, rest_none, each_place_turn, each_place_end, values_take}
use Rattle.state.proofs.Form.{padded_parts, places_length}
use Rattle.state.proofs.Places.{queues_arrays}
use Rattle.state.proofs.SettingUp.{refused, set_up_pass, passes_as_asked}

-- ---- tests

-- two conjunctions, their inner parts exchanged
and_four : (a b c d : Bool) → (a && b && (c && d)) ≡ (a && c && (b && d))
and_four false b c d = refl
and_four true false false d = refl
and_four true false true d = refl
and_four true true false d = refl
and_four true true true d = refl

-- ---- each place

-- the places from i on, in two parts
each_split : (test : ℕ → Bool) (i k l : ℕ) → each_place test i (k + l) ≡ (each_place test i k && each_place test (i + k) l)
unfolding each_place
each_split test i zero l = ap₂ (each_place test) (sym (add-zero i)) (zero-add l)
each_split test i (suc k) l =
    ap (each_place test i) (suc-add k l)
    ∙ ap (λ t. test i && t) (each_split test (suc i) k l)
    ∙ sym (and_assoc (test i) (each_place test (suc i) k) (each_place test (suc i + k) l))
    ∙ ap (λ j. test i && each_place test (suc i) k && each_place test j l) (suc-add i k ∙ sym (add-suc i k))

-- a test in two parts
each_both : (one two : ℕ → Bool) (i k : ℕ) → each_place (λ j. one j && two j) i k ≡ (each_place one i k && each_place two i k)
unfolding each_place
each_both one two i zero = refl
each_both one two i (suc k) =
    ap (λ t. one i && two i && t) (each_both one two (suc i) k)
    ∙ and_four (one i) (two i) (each_place one (suc i) k) (each_place two (suc i) k)

-- tests that agree at each of these places
each_same :
    (one two : ℕ → Bool) (i k : ℕ) → ((j : ℕ) → i ≤ j → j < i + k → one j ≡ two j) → each_place one i k ≡ each_place two i k
unfolding each_place
each_same one two i zero h = refl
each_same one two i (suc k) h =
    ap₂ ◌&&◌ (h i (omega arith) (omega arith)) (each_same one two (suc i) k (λ j l m. h j (omega arith) (omega arith)))

-- a test of values, by their places
each_values : {X : Type 0} (test : X → Bool) (f : ℕ → X) (i k : ℕ) → each_of test (values_from f i k) ≡ each_place (λ j. test (f j)) i k
unfolding each_place
each_values test f i zero = refl
each_values test f i (suc k) = ap (λ t. test (f i) && t) (each_values test f (suc i) k)

-- ---- a station

-- `parameter_fits` is `offer_fits` of the station's offer
fits_same :
    (d : Discipline) (s : State) (i : ℕ)
    → parameter_fits d (get_or s.segment.listed i nobody).capability (recorded_at s.segment i)
    ≡ offer_fits
    d
    (station_at s i)
    (record {
      parameter = (recorded_at s.segment i).parameter;
      packet = (recorded_at s.segment i).packet;
    })
fits_same PRI s i = refl
fits_same RTDG s i = refl
fits_same RTVC s i = refl

-- a station's place among the contenders
contender_same :
    (s : State) (i : ℕ)
    → contender_sound
    s.segment
    (get_or s.segment.listed i nobody).capability
    (recorded_at s.segment i)
    (queue_at s.queues i)
    ≡ (contender_padded (recorded_at s.segment i)
    && offer_stands (meaning s) (station_at s i) (meaning s).contention (station_at s i).offer)
contender_same s i = ap (λ t. contender_padded c && t) (go c.contends s.segment.contention.begun)
  where
    c : Contender
    c = recorded_at s.segment i

    go :
        (contends begun : Bool)
        → (not contends
        || (begun
        && some_of (same_packet c.packet) (queue_at s.queues i)
        && ltb c.parameter s.segment.settings.d
        && parameter_fits (discipline_of s.segment.settings.discipline) (get_or s.segment.listed i nobody).capability c))
        ≡ offer_stands
        (meaning s)
        (station_at s i)
        (cond begun (some (record { window = s.segment.contention.window; tie = tie_of s.segment.contention })) none)
        (cond contends (some (record { parameter = c.parameter; packet = c.packet })) none)
    go false begun = refl
    go true false = refl
    go true true =
        ap
        (λ t. some_of (same_packet c.packet) (queue_at s.queues i) && ltb c.parameter s.segment.settings.d && t)
        (fits_same (discipline_of s.segment.settings.discipline) s i)

-- the parts of a station, in the order of the code and in the order of `station_padded` and `station_stands`
station_order : (p r e c o : Bool) → (p && (r && e && (c && o))) ≡ (p && c && (r && e && o))
station_order false r e c o = refl
station_order true r e true o = refl
station_order true false e false o = refl
station_order true true false false o = refl
station_order true true true false o = refl

-- a queue has sixteen places
queue_in_places : (qs : Queues) (i : ℕ) → leb (length (queue_at qs i)) places ≡ true
queue_in_places qs i =
    let some-of-them = length-take (get_or qs.lengths i 0) (places_at qs i) in
    let all-of-them = length-take places (drop (places * i) qs.packets) in
    le-leb (length (queue_at qs i)) places (omega arith)

-- the room of a queue and what is told of its station
station_same :
    (s : State) (i : ℕ)
    → (queue_padded (get_or s.queues.lengths i 0) (places_at s.queues i)
    && station_test s.segment (get_or s.segment.listed i nobody) (recorded_at s.segment i) (queue_at s.queues i))
    ≡ (station_padded s i && station_stands (meaning s) (station_at s i))
station_same s i =
    ap (λ t. queue_padded (get_or s.queues.lengths i 0) (places_at s.queues i) && (rises && fits && t)) (contender_same s i)
    ∙ station_order
    (queue_padded (get_or s.queues.lengths i 0) (places_at s.queues i))
    rises
    fits
    (contender_padded (recorded_at s.segment i))
    offered
    ∙ ap
    (λ t. station_padded s i && (t && rises && fits && offered))
    (sym (queue_in_places s.queues i))
  where
    rises : Bool
    rises = rising 0 s.segment.admitted (queue_at s.queues i)

    fits : Bool
    fits =
        each_of
        (packet_fits (discipline_of s.segment.settings.discipline) s.segment.settings.d s.segment.clock.0)
        (queue_at s.queues i)

    offered : Bool
    offered = offer_stands (meaning s) (station_at s i) (meaning s).contention (station_at s i).offer

-- ---- a place past N

-- the parts of a place past N, in the order of the code and in the order of `station_padded` and `has_no_station`
nobody_order :
    (address capability empty contends parameter packet padded : Bool)
    → (padded && (address && capability && empty && (not contends && parameter && packet)))
    ≡ (padded && (contends || (parameter && packet)) && (address && capability && empty && not contends))
nobody_order address capability empty contends parameter packet false = refl
nobody_order false capability empty contends parameter packet true = sym (and-false (contends || (parameter && packet)))
nobody_order true false empty contends parameter packet true = sym (and-false (contends || (parameter && packet)))
nobody_order true true false contends parameter packet true = sym (and-false (contends || (parameter && packet)))
nobody_order true true true true parameter packet true = refl
nobody_order true true true false parameter packet true = sym (and-last-true (parameter && packet))

nobody_same :
    (s : State) (i : ℕ)
    → (queue_padded (get_or s.queues.lengths i 0) (places_at s.queues i)
    && nobody_test (get_or s.segment.listed i nobody) (recorded_at s.segment i) (get_or s.queues.lengths i 0))
    ≡ (station_padded s i && has_no_station s i)
nobody_same s i =
    let c = recorded_at s.segment i in
    nobody_order
    (eqb (get_or s.segment.listed i nobody).address.0 0)
    (eqb (get_or s.segment.listed i nobody).capability.0 0)
    (eqb (get_or s.queues.lengths i 0) 0)
    c.contends
    (eqb c.parameter 0)
    (has_no_packet c.packet)
    (queue_padded (get_or s.queues.lengths i 0) (places_at s.queues i))

-- ---- all places

-- a place's padding, and the station or nobody
place_same :
    (s : State) (i : ℕ)
    → place_sound s.segment s.queues i
    ≡ (station_padded s i && cond (ltb i s.segment.settings.n) (station_stands (meaning s) (station_at s i)) (has_no_station s i))
place_same s i = go (ltb i s.segment.settings.n)
  where
    room : Bool
    room = queue_padded (get_or s.queues.lengths i 0) (places_at s.queues i)

    go :
        (t : Bool)
        → (room
        && cond
        t
        (station_test s.segment (get_or s.segment.listed i nobody) (recorded_at s.segment i) (queue_at s.queues i))
        (nobody_test (get_or s.segment.listed i nobody) (recorded_at s.segment i) (get_or s.queues.lengths i 0)))
        ≡ (station_padded s i && cond t (station_stands (meaning s) (station_at s i)) (has_no_station s i))
    go true = station_same s i
    go false = nobody_same s i

-- the padding of all places, those past N, the stations
places_same :
    (s : State) → s.segment.settings.n ≤ most_stations
    → each_place (place_sound s.segment s.queues) 0 most_stations
    ≡ (each_place (station_padded s) 0 most_stations
    && each_place (has_no_station s) s.segment.settings.n (most_stations - s.segment.settings.n)
    && each_of (station_stands (meaning s)) (stations_of s))
places_same s h =
    let all : n + m ≡ most_stations = omega arith in
    each_same (place_sound s.segment s.queues) (λ i. station_padded s i && there i) 0 most_stations (λ i l k. place_same s i)
    ∙ each_both (station_padded s) there 0 most_stations
    ∙ ap
    (λ t. each_place (station_padded s) 0 most_stations && t)
    (ap (each_place there 0) (sym all)
    ∙ each_split there 0 n m
    ∙ ap₂
    ◌&&◌
    (each_same there stand 0 n (λ i l k. ap (λ t. cond t (stand i) (has_no_station s i)) (lt-ltb i n (omega arith)))
    ∙ sym (each_values (station_stands (meaning s)) (station_at s) 0 n))
    (ap (λ i. each_place there i m) (zero-add n)
    ∙ each_same there (has_no_station s) n m (λ i l k. ap (λ t. cond t (stand i) (has_no_station s i)) (le-ltb i n l)))
    ∙ and_comm (each_of (station_stands (meaning s)) (stations_of s)) (each_place (has_no_station s) n m))
    ∙ sym
    (and_assoc
    (each_place (station_padded s) 0 most_stations)
    (each_place (has_no_station s) n m)
    (each_of (station_stands (meaning s)) (stations_of s)))
  where
    n : ℕ
    n = s.segment.settings.n

    m : ℕ
    m = most_stations - n

    stand : ℕ → Bool
    stand i = station_stands (meaning s) (station_at s i)

    there : ℕ → Bool
    there i = cond (ltb i n) (stand i) (has_no_station s i)

-- ---- the numbers and lengths of the queues

numbers_same : (s : State) (i k : ℕ) → numbers (values_from (station_at s) i k) ≡ numbers_from s.queues i k
numbers_same s i zero = refl
numbers_same s i (suc k) = ap (λ ns. numbers_in (queue_at s.queues i) ++ ns) (numbers_same s (suc i) k)

-- as many packets wait as there are numbers
numbers_count : (stations : List Machine.Station) → length (numbers stations) ≡ waiting stations
numbers_count [] = refl
numbers_count (s ∷ stations) =
    length-append (numbers_in s.queue) (numbers stations) ∙ ap₂ ◌+◌ (length-map s.queue (λ p. p.number)) (numbers_count stations)

-- the packets waiting at the k stations from i on, by the lengths of their queues
waiting_from :
    (s : State) → Held s → (i k : ℕ) → i + k ≤ most_stations
    → waiting (values_from (station_at s) i k) ≡ total (λ n. min n places) (values_from (λ j. get_or s.queues.lengths j 0) i k)
waiting_from s h i zero l = refl
waiting_from s h i (suc k) l =
    let n = get_or s.queues.lengths i 0 in
    ap₂
    ◌+◌
    (length-take n (places_at s.queues i) ∙ ap (min n) (places_length s h i (omega arith)))
    (waiting_from s h (suc i) k (omega arith))

-- the first n of a list are its first n up to its length
pub first_few : {X : Type 0} (xs : List X) (n k : ℕ) → length xs ≡ k → take (min n k) xs ≡ take n xs
first_few xs n k full = go (leb n k) refl
  where
    go : (t : Bool) → leb n k ≡ t → take (min n k) xs ≡ take n xs
    go true e = ap (λ j. take j xs) (min-eq_left (leb-true n k e))
    go false e =
        let past : k ≤ n = omega (arith, leb-false n k e) in
        ap (λ j. take j xs) (min-eq_right past) ∙ take_all k xs (omega arith) ∙ sym (take_all n xs (omega arith))

-- queues of at most 16 packets hold as many as their lengths say
pub held_whole : (lengths : List ℕ) (n : ℕ) → ((i : ℕ) → i < n → get_or lengths i 0 ≤ places) → waiting_in lengths n ≡ total (λ k. k) (take n lengths)
held_whole [] zero room = refl
held_whole [] (suc n) room = refl
held_whole (k ∷ lengths) zero room = refl
held_whole (k ∷ lengths) (suc n) room =
    ap₂ ◌+◌ (min-eq_left (room 0 (omega arith))) (held_whole lengths n (λ i h. room (suc i) (omega arith)))

-- what waits is what the lengths count
pub waiting_same :
    (s : State) → Held s → s.segment.settings.n ≤ most_stations
    → waiting_in s.queues.lengths s.segment.settings.n ≡ waiting (stations_of s)
waiting_same s h l =
    let n = s.segment.settings.n in
    ap (total (λ k. min k places)) (values_take s.queues.lengths 0 n (omega (arith, h.lengths)))
    ∙ sym (waiting_from s h 0 n (omega arith))

-- ---- the round

-- two tests of values that agree at each place
some_values :
    {X Y : Type 0} (one : X → Bool) (two : Y → Bool) (f : ℕ → X) (g : ℕ → Y) → ((j : ℕ) → one (f j) ≡ two (g j)) → (i k : ℕ)
    → some_of one (values_from f i k) ≡ some_of two (values_from g i k)
some_values one two f g h i zero = refl
some_values one two f g h i (suc k) = ap₂ ◌||◌ (h i) (some_values one two f g h (suc i) k)

-- `held` is whether a station has the last winner's capability
last_same :
    (d : Discipline) (last : Capability) (won : Bool) (listed : List Listed) (stations : List Machine.Station)
    → some_of (λ l. eqb last.0 l.capability.0) listed ≡ some_of (λ s. eqb last.0 s.capability) stations
    → (not won || winner_sound d last listed) ≡ last_stands d stations (cond won (some last.0) none)
last_same PRI last false listed stations e = refl
last_same RTDG last false listed stations e = refl
last_same RTVC last false listed stations e = refl
last_same PRI last true listed stations e = refl
last_same RTDG last true listed stations e = refl
last_same RTVC last true listed stations e = e

-- the round of a segment
abbrev round_test : Segment → Bool
round_test g = round_sound (discipline_of g.settings.discipline) g.round (take g.settings.n g.listed)

round_same :
    (s : State) → Held s → s.segment.settings.n ≤ most_stations
    → round_test s.segment
    ≡ (round_padded s.segment.round && last_stands (meaning s).discipline (meaning s).stations (meaning s).last)
round_same s h l =
    let n = s.segment.settings.n in
    let last = s.segment.round.last in
    ap
    (λ t. round_padded s.segment.round && t)
    (last_same
    (discipline_of s.segment.settings.discipline)
    last
    s.segment.round.won
    (take n s.segment.listed)
    (stations_of s)
    (ap (some_of (λ l. eqb last.0 l.capability.0)) (values_take s.segment.listed nobody n (omega (arith, h.listed)))
    ∙ some_values
    (λ l. eqb last.0 l.capability.0)
    (λ x. eqb last.0 x.capability)
    (λ i. get_or s.segment.listed i nobody)
    (station_at s)
    (λ j. refl)
    0
    n))

-- ---- the contention

contention_same :
    (s : State)
    → contention_sound s.segment.settings s.segment.contention
    ≡ (contention_padded s.segment.contention && contention_stands (meaning s) (meaning s).contention)
contention_same s = ap (λ t. contention_padded c && t) (go c.begun c.tied)
  where
    c : Contention
    c = s.segment.contention

    go :
        (begun tied : Bool)
        → (not begun
        || cond
        tied
        (ltb c.tie s.segment.settings.d && placed s.segment.settings.a c.window)
        (placed s.segment.settings.d c.window))
        ≡ contention_stands (meaning s) (cond begun (some (record { window = c.window; tie = cond tied (some c.tie) none })) none)
    go false tied = refl
    go true false = refl
    go true true = refl

-- ---- the set-up

-- the set-up that the code tries again: the settings, and all places as the row
abbrev pub tried : State → Request
tried s = request_with s.segment.settings (map asked_of s.segment.listed)

pub few_tried : (s : State) → (set_up_verdict (tried s)).refusal ≡ 0 → s.segment.settings.n ≤ most_stations
few_tried s e = (set_up_pass s.segment.settings (tried s).row e).few

-- the code's test is that the discipline is one of the three and the meaning passes
set_up_same :
    (s : State) → Held s
    → (leb s.segment.settings.discipline 2 && eqb (set_up_verdict (asked_for (meaning s))).refusal 0)
    ≡ eqb (set_up_verdict (tried s)).refusal 0
set_up_same s h = go (leb d 2) refl (eqb (set_up_verdict (tried s)).refusal 0) refl
  where
    d : ℕ
    d = s.segment.settings.discipline

    go :
        (t : Bool) → leb d 2 ≡ t → (v : Bool) → eqb (set_up_verdict (tried s)).refusal 0 ≡ v
        → (t && eqb (set_up_verdict (asked_for (meaning s))).refusal 0) ≡ v
    go true e v k = sym (passes_as_asked s h.listed (leb-true d 2 e)) ∙ k
    go false e false k = refl
    go false e true k =
        clash (le-leb d 2 (set_up_pass s.segment.settings (tried s).row (eqb-true (set_up_verdict (tried s)).refusal 0 k)).discipline) e

-- ---- the rows of a state that a function is handed are as long as its arrays

pub state_held : (s : State) (vs : List Val) → Is state.the_row s vs → Held s
state_held s vs owned =
    let segment = owned.1.1.0.1.1 in
    let queues = queues_arrays s.queues _ owned.1.1.1.0 in
    record {
      listed = segment.1.0.1.0.1;
      contenders =
          record {
            word = segment.1.1.1.1.1.1.1.1.1.0.1;
            parameters = segment.1.1.1.1.1.1.1.1.1.1.0.1.0.1;
            numbers = segment.1.1.1.1.1.1.1.1.1.1.1.0.1.0.1;
            values = segment.1.1.1.1.1.1.1.1.1.1.1.1.0.1.0.1;
            lengths = segment.1.1.1.1.1.1.1.1.1.1.1.1.1.0.1.0.1;
            admissions = segment.1.1.1.1.1.1.1.1.1.1.1.1.1.1.0.1.0.1;
          };
      lengths = queues.0;
      packets = queues.1;
    }

-- ---- the standing conditions

-- The parts in the order of `standing`, and as the code has them. `sound` is the test of the 64 places: the tests `zeros`, `past` and
-- `stand`.
parts_order :
    (zeros past round contention clock admitted turned counts stand apart last window sound : Bool) → sound ≡ (zeros && past && stand)
    → (zeros && past && round && contention && (clock && admitted && turned && counts && stand && apart && last && window))
    ≡ (clock && (admitted && (turned && ((round && last) && ((contention && window) && (sound && (counts && apart)))))))
parts_order zeros past round contention clock admitted turned counts stand apart last window sound same =
    and_four (zeros && past && round) contention (clock && admitted && turned && counts && stand && apart && last) window
    ∙ ap (λ t. t && (contention && window)) (and_four (zeros && past) round (clock && admitted && turned && counts && stand && apart) last)
    ∙ ap (λ t. t && (round && last) && (contention && window)) (gather (zeros && past) (clock && admitted && turned))
    ∙ ap (λ t. clock && admitted && turned && (t && (counts && apart)) && (round && last) && (contention && window)) (sym same)
    ∙ queues_last clock admitted turned (round && last) (contention && window) (sound && (counts && apart))
  where
    gather : (a b : Bool) → (a && (b && counts && stand && apart)) ≡ (b && (a && stand && (counts && apart)))
    gather a false = and-false a
    gather false true = refl
    gather true true = ap (λ t. t && apart) (and_comm counts stand) ∙ and_assoc stand counts apart

    queues_last : (a b t c d e : Bool) → (a && b && t && e && c && d) ≡ (a && (b && (t && (c && (d && e)))))
    queues_last false b t c d e = refl
    queues_last true false t c d e = refl
    queues_last true true false c d e = refl
    queues_last true true true c d e = and_assoc e c d ∙ and_comm e (c && d) ∙ and_assoc c d e

-- a state that a set-up would refuse does not stand
pub not_set_up : (s : State) → Held s → ¬ ((set_up_verdict (tried s)).refusal ≡ 0) → standing s ≡ false
not_set_up s h n = go (standing s) refl
  where
    passes : {t : Bool} → Whether (Standing (meaning s)) t → t ≡ true → (set_up_verdict (asked_for (meaning s))).refusal ≡ 0
    passes (holds b) k = b.passes
    passes (fails m) k = clash k refl

    go : (t : Bool) → standing s ≡ t → standing s ≡ false
    go false k = k
    go true k =
        let both = and-true (padded s) (stands (meaning s)) k in
        clash
        (true-and
        (le-leb s.segment.settings.discipline 2 (padded_parts s both.0).discipline)
        (eq-eqb (set_up_verdict (asked_for (meaning s))).refusal 0 (passes (stands_exactly (meaning s)) both.1)))
        (set_up_same s h ∙ ne_eqb (set_up_verdict (tried s)).refusal 0 n)

-- ---- the queues, place by place

module _ (g : Segment) (qs : Queues) where
  -- the numbers from place i on
  abbrev later : ℕ → List ℕ
  later i = numbers_from qs i (g.settings.n - i)

  -- of a place that is sound: its queue has room, and its numbers come next, none past N
  abbrev Next : ℕ → Type 0
  Next i = (get_or qs.lengths i 0 ≤ places) × (later i ≡ numbers_in (queue_at qs i) ++ later (suc i))

  pub next : (i : ℕ) → place_sound g qs i ≡ true → Next i
  next i = go (ltb i g.settings.n) refl
    where
      k : ℕ
      k = get_or qs.lengths i 0

      go :
          (t : Bool) → ltb i g.settings.n ≡ t
          → (queue_padded k (places_at qs i)
          && cond
          t
          (station_test g (get_or g.listed i nobody) (recorded_at g i) (queue_at qs i))
          (nobody_test (get_or g.listed i nobody) (recorded_at g i) k))
          ≡ true
          → Next i
      go true e h =
          let both = and-true (queue_padded k (places_at qs i)) _ h in (
            leb-true k places (and-true (leb k places) _ both.0).0,
            ap (numbers_from qs i) (rest_suc i _ (ltb-true i _ e)),
          )
      go false e h =
          let both = and-true (queue_padded k (places_at qs i)) _ h in
          let l = get_or g.listed i nobody in
          let unnamed = eqb l.address.0 0 && eqb l.capability.0 0 in
          let two = and-true (unnamed && eqb k 0) _ both.1 in
          let none = eqb-true k 0 (and-true unnamed (eqb k 0) two.0).1 in
          let past = ltb-false i g.settings.n e in
          (omega arith, rw (rest_none i _ past, rest_none (suc i) g.settings.n (omega arith), none))

  -- the test from place i on, where `seen` are the numbers before it
  abbrev pub from_place : List ℕ → ℕ → Bool
  from_place seen i = each_place (place_sound g qs) i (most_stations - i) && numbers_sound g (seen ++ later i)

  pub place_first : queues_sound g qs ≡ from_place [] 0
  place_first = rw (sub-zero g.settings.n)

  module _ (seen : List ℕ) (i : ℕ) where
    pub place_fails : i < most_stations → place_sound g qs i ≡ false → from_place seen i ≡ false
    place_fails h e = simp (each_place_turn (place_sound g qs) i most_stations h, e)

    pub place_passes :
        {more : List ℕ} → i < most_stations → place_sound g qs i ≡ true → more ≡ seen ++ numbers_in (queue_at qs i)
        → from_place seen i ≡ from_place more (i + 1)
    place_passes h e same =
        let order = append_assoc seen (numbers_in (queue_at qs i)) (later (suc i)) in
        rw (same, add-one i, order, each_place_turn (place_sound g qs) i most_stations h, e, (next i e).1)

    pub places-end :
        {k : ℕ} → g.settings.n ≤ most_stations → most_stations ≤ i → length seen ≡ k
        → from_place seen i ≡ (eqb g.admitted (g.sent + g.lost + k) && distinct seen)
    places-end few h same =
        rw (each_place_end (place_sound g qs) i most_stations h, rest_none i g.settings.n (omega arith), append-nil seen, same)

-- the tests of the code after the set-up: the ranges, and the round, the contention and the queues
in_two : (clock admitted turned round contention queues : Bool)
    → (clock && (admitted && (turned && (round && (contention && queues))))) ≡ (clock && admitted && turned && round && contention && queues)
in_two false admitted turned round contention queues = refl
in_two true false turned round contention queues = refl
in_two true true false round contention queues = refl
in_two true true true false contention queues = refl
in_two true true true true contention queues = refl

-- a set-up that the code accepts is not refused, and one that it does not accept is
pub accepted : {X : Type 0} (outcome : Result X Fault) → is_ok outcome ≡ true → (verdict_of outcome).refusal ≡ 0
accepted (Ok x) e = refl
accepted (Err f) e = clash refl (sym e)

pub not_accepted : {X : Type 0} (outcome : Result X Fault) → is_ok outcome ≡ false → ¬ ((verdict_of outcome).refusal ≡ 0)
not_accepted (Ok x) e = clash refl e
not_accepted (Err f) e = λ z. clash (eq-eqb (number_of f.refusal) 0 z) (refused 0 f.refusal)

-- a state that a set-up would not refuse stands as the code's other tests tell
pub standing_parts :
    (s : State) → Held s → (set_up_verdict (tried s)).refusal ≡ 0 → standing s ≡ parts_sound s.segment s.queues
standing_parts s h e =
    let passes = set_up_same s h ∙ eq-eqb (set_up_verdict (tried s)).refusal 0 e in
    let both = and-true (leb s.segment.settings.discipline 2) (eqb (set_up_verdict (asked_for (meaning s))).refusal 0) passes in
    let few = few_tried s e in
    let n = s.segment.settings.n in
    let clock = leb s.segment.clock.0 clock_end in
    let admitted = leb s.segment.admitted most_admitted in
    let turned = leb s.segment.turned most_turned in
    let zeros = each_place (station_padded s) 0 most_stations in
    let past = each_place (has_no_station s) n (most_stations - n) in
    let stand = each_of (station_stands (meaning s)) (stations_of s) in
    let sound = each_place (place_sound s.segment s.queues) 0 most_stations in
    let counted : ℕ → Bool = λ waiting. eqb s.segment.admitted (s.segment.sent + s.segment.lost + waiting) in
    let counts = counted (waiting (stations_of s)) in
    let apart = distinct (numbers (stations_of s)) in
    let round = round_padded s.segment.round in
    let last = last_stands (meaning s).discipline (stations_of s) (meaning s).last in
    let contention = contention_padded s.segment.contention in
    let window = contention_stands (meaning s) (meaning s).contention in
    let begun = contention_sound s.segment.settings s.segment.contention in
    let same =
    ap (λ k. counted k && apart) (sym (numbers_count (stations_of s))) ∙ ap (numbers_sound s.segment) (numbers_same s 0 n) in
    ap₂ (λ d v. d && zeros && past && round && contention && (v && clock && admitted && turned && counts && stand && apart && last && window)) both.0 both.1
    ∙ parts_order zeros past round contention clock admitted turned counts stand apart last window sound (places_same s few)
    ∙ ap₂ (λ r c. clock && (admitted && (turned && (r && (c && (sound && (counts && apart))))))) (sym (round_same s h few)) (sym (contention_same s))
    ∙ ap (λ t. clock && (admitted && (turned && (round_test s.segment && (begun && (sound && t)))))) same
    ∙ in_two clock admitted turned (round_test s.segment) begun (queues_sound s.segment s.queues)
