-- The stations of a set-up: the tests of its numbers and of its row in the order in which they are tried, and the state that it gives.
-- Assumes nothing.
use Prim.Native.Nat.{ℕ, suc, ◌+◌, ◌-◌, ◌/◌, ◌%◌, ◌≤◌, ◌<◌, min}
use mathlib.Core.Path.{◌≡◌, refl, sym, ap, ap₂, ◌∙◌}
use mathlib.Core.Logic.{inl, inr}
use mathlib.Core.Bool.{Bool, true, false, not, ◌||◌, cond, or-false}
use mathlib.Core.List.{List, [], ◌∷◌, ◌++◌, map, map-append}
use native.Mathlib.Numerals.{add-one}
use native.Mathlib.Omega.{arith}
use native.Mathlib.Nat.{min-eq_left}
use lib.Dec.{leb, ltb, eqb}
use lib.ListN.{length, get_or, take, drop, replicate, length-map, length-drop, length-append, length-replicate, get_or-map, get_or-append, get_or-replicate, get_or-eq_default, drop_of_length-le}
use lib.Seq.{drop-cons, take-suc, take_all, get_or-drop, get_or-append_right, length-take-le}
use borrow.Author.Tests.{leb-true, leb-false, ltb-true, ltb-false, eqb-true, le-leb, lt-leb, lt-ltb, le-ltb, ne_eqb}
use Rattle.rules.specs.Lists.{each_of, some_of, has, outside, first_of, verdict}
use Rattle.rules.specs.declared.Verdict.{Verdict}
use Rattle.rules.specs.declared.Discipline.TheVariants.{RTDG}
use Rattle.rules.specs.Bus.{most_stations, least_space, most_space, most_step, places, code, Station, Bus, nothing}
use Rattle.std.specs.Prelude.{Result, Ok, Err}
use Rattle.rules.specs.declared.Refusal.{Refusal}
use Rattle.rules.specs.declared.Refusal.TheVariants.{Standing, Discipline, ParameterSpace, AddressSpace, LaxityStep, StationCount, AddressRange, AddressTaken, CapabilityRange, CapabilityTaken, NoStation, ValueRange, LengthRange, Late, Filled, AllNumbered, ClockEnd, CutShort, UnknownKind, OutOfPlace, TimeBefore, TooLong, UnderWay, NoneUnderWay}
use Rattle.rules.specs.Refusals.{number_of, answered}
use Rattle.rules.specs.SetUp.{Asked, Request, fault, fine, settings_tests, station_tests, row_tests, set_up_verdict, fresh_station, fresh_bus}
use Rattle.rules.specs.Standing.{asked, asked_for}
use Rattle.rules.specs.Conditions.{settings_conditions}
use Rattle.rules.proofs.Laws.{and-true}
use Rattle.rules.proofs.Tests.{below, out_of, by_case, equal, negated, one_of, inside, Tried, done, ◌then◌, NoneHolds, none_held}
use Rattle.state.specs.State.{Settings, Listed, State, no_packet, no_contender, no_contention, no_round, nobody, row, station_or, listed_form, contender_form, contender_in, recorded, form, station_at, stations_of, meaning}
use Rattle.state.specs.SetUp.{SetUp, asked_of, request_with, settings_refusal, coded_set_up, set_up_result}
use Rattle.state.specs.Parts.{verdict_at, address_tests, capability_tests, no_contenders, fresh_state}
use Rattle.state.proofs.Contenders.{recorded_same}
use Rattle.state.proofs.Rows.{take-map, values_length, values_map, values_take, row_ext, row_same}
use Rattle.state.proofs.Form.{code_discipline}

-- ---- ranges

-- to be outside a range is to be below its least or above its most
pub outside_below : (least most n : ℕ) → n < least → outside least most n ≡ true
outside_below least most n h = simp (lt-leb least n h)

pub outside_above : (least most n : ℕ) → least ≤ n → outside least most n ≡ ltb most n
outside_above least most n h = simp (le-leb least n h) (go (leb n most) refl)
  where
    go : (t : Bool) → leb n most ≡ t → not t ≡ ltb most n
    go true e = sym (le-ltb most n (leb-true n most e))
    go false e = sym (lt-ltb most n (leb-false n most e))

-- ---- the verdict as the code has it

-- the number in the answer is the verdict's
pub answered_verdict : {X : Type 0} (outcome : Result X Refusal) → answered outcome ≡ (verdict_at 0 outcome).refusal
answered_verdict (Ok x) = refl
answered_verdict (Err refusal) = refl

-- a refusal is no acceptance
pub refused : (i : ℕ) (refusal : Refusal) → eqb (fault (number_of refusal) i).refusal 0 ≡ false
refused i refusal = elim refusal as (λ refusal. eqb (number_of refusal) 0 ≡ false) [ Standing ↦ refl | Discipline ↦ refl | ParameterSpace ↦ refl | AddressSpace ↦ refl | LaxityStep ↦ refl | StationCount ↦ refl | AddressRange ↦ refl | AddressTaken ↦ refl | CapabilityRange ↦ refl | CapabilityTaken ↦ refl | NoStation ↦ refl | ValueRange ↦ refl | LengthRange ↦ refl | Late ↦ refl | Filled ↦ refl | AllNumbered ↦ refl | ClockEnd ↦ refl | CutShort ↦ refl | UnknownKind ↦ refl | OutOfPlace ↦ refl | TimeBefore ↦ refl | TooLong ↦ refl | UnderWay ↦ refl | NoneUnderWay ↦ refl ]

-- ---- the row of stations

-- one of the earlier stations has this number, as asked for
pub has_asked :
    (n : ℕ) (f : Asked → ℕ) (earlier : List Listed) → has n (map f (map asked_of earlier)) ≡ some_of (λ e. eqb n (f (asked_of e))) earlier
has_asked n f [] = refl
has_asked n f (e ∷ earlier) = ap (λ t. eqb n (f (asked_of e)) || t) (has_asked n f earlier)

-- ---- tests in turn

-- Where every refusal has a number from 1 on: further tests decide if the first ones give 0.
turn_kept :
    (ts us : List (Verdict × Bool)) → each_of (λ t. ltb 0 t.0.refusal) ts ≡ true
    → first_of fine (ts ++ us) ≡ cond (eqb (first_of fine ts).refusal 0) (first_of fine us) (first_of fine ts)
turn_kept [] us k = refl
turn_kept (t ∷ ts) us k =
    let both = and-true (ltb 0 t.0.refusal) (each_of (λ s. ltb 0 s.0.refusal) ts) k in
    go t.1 (ltb-true 0 t.0.refusal both.0) (turn_kept ts us both.1)
  where
    go :
        (b : Bool) → 0 < t.0.refusal
        → first_of fine (ts ++ us) ≡ cond (eqb (first_of fine ts).refusal 0) (first_of fine us) (first_of fine ts)
        → verdict b t.0 (first_of fine (ts ++ us))
        ≡ cond (eqb (verdict b t.0 (first_of fine ts)).refusal 0) (first_of fine us) (verdict b t.0 (first_of fine ts))
    go true h i = simp (ne_eqb t.0.refusal 0 (λ e. omega arith))
    go false h i = i

-- further tests decide where the verdict of the first ones, v, is 0
pub then_tried :
    (ts us : List (Verdict × Bool)) {v : Verdict} {t : Bool} → each_of (λ t. ltb 0 t.0.refusal) ts ≡ true → v ≡ first_of fine ts
    → eqb v.refusal 0 ≡ t
    → first_of fine (ts ++ us) ≡ cond t (first_of fine us) v
then_tried ts us {v} k e same =
    turn_kept ts us k ∙ ap (λ w. cond (eqb w.refusal 0) (first_of fine us) w) (sym e) ∙ ap (λ b. cond b (first_of fine us) v) same

-- the tests of a station in two parts, as the code has them
pub station_parts :
    (g : Settings) (i : ℕ) (earlier : List Listed) (s : Listed)
    → station_tests (request_with g []) i (map asked_of earlier) (asked_of s) ≡ address_tests g i earlier s ++ capability_tests g i earlier s
station_parts g i earlier s =
    rw (has_asked s.address.0 (λ e. e.address) earlier, has_asked s.capability.0 (λ e. e.capability) earlier)

-- the verdict on the stations from place i on
abbrev pub fault_from : Request → List Listed → ℕ → Verdict
fault_from r stations i = first_of fine (row_tests r i (map asked_of (take i stations)) (map asked_of (drop i stations)))

-- one turn of the search for a faulty station; v is the verdict on station i
pub faulty_turn :
    (r : Request) (stations : List Listed) (i : ℕ) (v : Verdict) (t : Bool) → i < length stations
    → v ≡ first_of fine (station_tests r i (map asked_of (take i stations)) (asked_of (get_or stations i nobody))) → eqb v.refusal 0 ≡ t
    → fault_from r stations i ≡ cond t (fault_from r stations (i + 1)) v
faulty_turn r stations i v t l e same =
    ap
    (λ xs. first_of fine (row_tests r i (map asked_of (take i stations)) (map asked_of xs)))
    (drop-cons stations i nobody l)
    ∙ turn_kept tests (tests_after (map asked_of (take i stations) ++ (asked_of s ∷ []))) refl
    ∙ ap₂ (λ w us. cond (eqb w.refusal 0) (first_of fine us) w) (sym e) next
    ∙ ap (λ b. cond b (fault_from r stations (i + 1)) v) same
  where
    s : Listed
    s = get_or stations i nobody

    tests : List (Verdict × Bool)
    tests = station_tests r i (map asked_of (take i stations)) (asked_of s)

    tests_after : List Asked → List (Verdict × Bool)
    tests_after earlier = row_tests r (suc i) earlier (map asked_of (drop (suc i) stations))

    next :
        tests_after (map asked_of (take i stations) ++ (asked_of s ∷ []))
        ≡ row_tests r (i + 1) (map asked_of (take (i + 1) stations)) (map asked_of (drop (i + 1) stations))
    next =
        ap tests_after (sym (ap (map asked_of) (take-suc stations i nobody l) ∙ map-append asked_of (take i stations) (s ∷ [])))
        ∙ ap (λ k. row_tests r k (map asked_of (take k stations)) (map asked_of (drop k stations))) (sym (add-one i))

-- and its end
pub faulty_end : (r : Request) (stations : List Listed) (i : ℕ) → length stations ≤ i → fault_from r stations i ≡ fine
faulty_end r stations i h =
    ap (λ xs. first_of fine (row_tests r i (map asked_of (take i stations)) (map asked_of xs))) (drop_of_length-le stations h)

-- ---- the whole set-up

-- the first n of a row that is asked for
pub asked_first : (stations : List Listed) (n : ℕ) → take n (map asked_of stations) ≡ map asked_of (take n stations)
asked_first stations n = take-map asked_of n stations

-- how long it is
pub asked_count : (stations : List Listed) → length stations ≤ 64 → length (map asked_of stations) ≡ min (length stations) most_stations
asked_count stations h = length-map stations asked_of ∙ sym (min-eq_left h)

-- the stations' tests do not read the row
unread :
    (g : Settings) (row : List Asked) (i : ℕ) (earlier later : List Asked)
    → row_tests (request_with g row) i earlier later ≡ row_tests (request_with g []) i earlier later
unread g row i earlier [] = refl
unread g row i earlier (s ∷ later) =
    ap (λ tests. station_tests (request_with g []) i earlier s ++ tests) (unread g row (suc i) (earlier ++ (s ∷ [])) later)

-- the verdict on the row decides where that on the settings, v, is 0
pub set_up_turn :
    (g : Settings) (row : List Asked) (v : Verdict) (t : Bool) → v ≡ first_of fine (settings_tests (request_with g row))
    → eqb v.refusal 0 ≡ t
    → set_up_verdict (request_with g row) ≡ cond t (first_of fine (row_tests (request_with g []) 0 [] (take g.n row))) v
set_up_turn g row v t e same =
    turn_kept (settings_tests r) (row_tests r 0 [] (take g.n row)) refl
    ∙ ap (λ w. cond (eqb w.refusal 0) (first_of fine (row_tests r 0 [] (take g.n row))) w) (sym e)
    ∙ ap₂ (λ b tests. cond b (first_of fine tests) v) same (unread g row 0 [] (take g.n row))
  where
    r : Request
    r = request_with g row

-- what settings that pass 2 to 6 tell
pub record SettingsPass (g : Settings) (row : List Asked) : Type 0 where
  pub discipline : g.discipline ≤ 2
  pub few : g.n ≤ most_stations
  pub filled : g.n ≤ length row

pub settings_pass : (g : Settings) (row : List Asked) → (first_of fine (settings_tests (request_with g row))).refusal ≡ 0 → SettingsPass g row
settings_pass g row e =
    let h : ¬ (2 < g.discipline) = none.0 in
    let l : ¬ (length row < g.n) = λ k. none.1.1.1.1.0 (inr k) in
    record { discipline = omega arith; few = (inside (λ o. none.1.1.1.1.0 (inl o))).1; filled = omega arith }
  where
    r : Request
    r = request_with g row

    tried : Tried (settings_tests r) (settings_conditions r)
    tried =
        below 2 r.discipline
        then out_of least_space most_space r.D
        then out_of least_space most_space r.A
        then by_case (equal r.discipline (code RTDG)) (out_of 1 most_step r.q) (negated (equal r.q 1))
        then one_of (out_of 1 most_stations r.N) (below (length r.row) r.N)
        then done

    none : NoneHolds (settings_conditions r)
    none = none_held fine (λ v. v.refusal) tried refl e

-- and so do those of a set-up that is accepted
pub set_up_pass : (g : Settings) (row : List Asked) → (set_up_verdict (request_with g row)).refusal ≡ 0 → SettingsPass g row
set_up_pass g row e = settings_pass g row (go (eqb v.refusal 0) refl)
  where
    v : Verdict
    v = first_of fine (settings_tests (request_with g row))

    go : (t : Bool) → eqb v.refusal 0 ≡ t → v.refusal ≡ 0
    go true same = eqb-true v.refusal 0 same
    go false same = ap (λ (w : Verdict). w.refusal) (sym (set_up_turn g row v false refl same)) ∙ e

-- ---- 2 to 6 before the stations are known

-- a row of 64 is long enough for every N within its range
long_enough : (n : ℕ) → (outside 1 most_stations n || ltb most_stations n) ≡ outside 1 most_stations n
long_enough n = go (leb 1 n) refl
  where
    twice : (t : Bool) → (t || t) ≡ t
    twice true = refl
    twice false = refl

    go : (t : Bool) → leb 1 n ≡ t → (outside 1 most_stations n || ltb most_stations n) ≡ outside 1 most_stations n
    go true e =
        let above = outside_above 1 most_stations n (leb-true 1 n e) in
        ap (λ t. outside 1 most_stations n || t) (sym above) ∙ twice (outside 1 most_stations n)
    go false e =
        let below! = outside_below 1 most_stations n (leb-false 1 n e) in
        ap (λ t. t || ltb most_stations n) below! ∙ sym below!

-- 2 to 5 of these numbers, and 2 to 6 by the test of N
abbrev before_count : Settings → List (Verdict × Bool)
before_count g = take 4 (settings_tests (request_with g []))

abbrev by_count : Settings → Bool → Verdict
by_count g t = first_of fine (before_count g ++ ((fault 6 0, t) ∷ []))

-- what is refused with a row that is long enough is refused with the same number by any row; `short` is whether that is shorter than N
for_any_row : (g : Settings) (t short : Bool) → ¬ ((by_count g t).refusal ≡ 0) → by_count g (t || short) ≡ by_count g t
for_any_row g true short h = refl
for_any_row g false short h = go (eqb (first_of fine (before_count g)).refusal 0) (turn short) (turn false)
  where
    earlier : Verdict
    earlier = first_of fine (before_count g)

    turn : (t : Bool) → by_count g t ≡ cond (eqb earlier.refusal 0) (verdict t (fault 6 0) fine) earlier
    turn t = turn_kept (before_count g) ((fault 6 0, t) ∷ []) refl

    go :
        (z : Bool) → by_count g short ≡ cond z (verdict short (fault 6 0) fine) earlier → by_count g false ≡ cond z fine earlier
        → by_count g short ≡ by_count g false
    go true e k = absurd (h (ap (λ (v : Verdict). v.refusal) k))
    go false e k = e ∙ sym k

numbers_alone : (g : Settings) → settings_refusal g ≡ (by_count g (outside 1 most_stations g.n)).refusal
numbers_alone g = ap (λ t. (by_count g t).refusal) (long_enough g.n)

-- so 2 to 6 of the numbers alone are those of a set-up whose row has its N stations
pub settings_known :
    (g : Settings) (row : List Asked) → g.n ≤ length row
    → (first_of fine (settings_tests (request_with g row))).refusal ≡ settings_refusal g
settings_known g row h =
    let long = le-ltb (length row) g.n h in
    ap (λ t. (by_count g (outside 1 most_stations g.n || t)).refusal) long
    ∙ ap (λ t. (by_count g t).refusal) (or-false (outside 1 most_stations g.n))
    ∙ sym (numbers_alone g)

-- and what they are refused with, every set-up with them is refused with, whatever its row
pub settings_first :
    (g : Settings) (row : List Asked) → ¬ (settings_refusal g ≡ 0) → (set_up_verdict (request_with g row)).refusal ≡ settings_refusal g
settings_first g row h =
    let v = first_of fine (settings_tests (request_with g row)) in
    ap (λ (w : Verdict). w.refusal) (set_up_turn g row v false refl (ne_eqb v.refusal 0 (λ z. h (sym same ∙ z)))) ∙ same
  where
    same : (first_of fine (settings_tests (request_with g row))).refusal ≡ settings_refusal g
    same =
        let o = outside 1 most_stations g.n in
        ap (λ (w : Verdict). w.refusal) (for_any_row g o (ltb (length row) g.n) (λ z. h (numbers_alone g ∙ z))) ∙ sym (numbers_alone g)

-- ---- the state that a set-up gives

-- the answer of a set-up, by the verdict and whether that is 0
pub set_up_answer :
    (r : Request) (v : Verdict) (s : State) (t : Bool) → v ≡ set_up_verdict r → eqb v.refusal 0 ≡ t
    → s ≡ form (cond t (fresh_bus r) nothing)
    → ◌≡◌ {A = SetUp} (record { verdict = v; state = s }) (set_up_result (coded_set_up r))
set_up_answer r v s t e same given =
    ap₂
    (λ (w : Verdict) (x : State). record { verdict = w; state = x })
    e
    (given ∙ ap (λ b. form (cond b (fresh_bus r) nothing)) (sym same ∙ ap (λ (w : Verdict). eqb w.refusal 0) e))

-- 'an all-zero state'
pub nothing_form : fresh_state (record { discipline = 0; d = 0; a = 0; q = 0; n = 0 }) (row 64 (λ i. nobody)) ≡ form nothing
nothing_form = refl

-- an array of nobody, whose first places are those of stations
pub filled_up :
    (stations placed : List Listed) → length stations ≤ 64 → placed ≡ stations
    → placed ++ drop (length stations) (replicate 64 nobody) ≡ row 64 (λ i. get_or stations i nobody)
filled_up stations placed h e =
    row_ext
    64
    (λ i. get_or stations i nobody)
    (placed ++ drop (length stations) (replicate 64 nobody))
    nobody
    (length-append placed (drop (length stations) (replicate 64 nobody))
    ∙ omega (arith, count, length-drop (length stations) (replicate 64 nobody), length-replicate 64 nobody))
    (λ i k. go i (ltb i (length stations)) refl)
  where
    count : length placed ≡ length stations
    count = ap length e

    nowhere : (m j : ℕ) → get_or (replicate m nobody) j nobody ≡ nobody
    nowhere m j = go (ltb j m) refl
      where
        go : (t : Bool) → ltb j m ≡ t → get_or (replicate m nobody) j nobody ≡ nobody
        go true e = get_or-replicate m j nobody nobody (ltb-true j m e)
        go false e = get_or-eq_default (replicate m nobody) nobody (omega (arith, ltb-false j m e, length-replicate m nobody))

    go :
        (i : ℕ) (t : Bool) → ltb i (length stations) ≡ t
        → get_or (placed ++ drop (length stations) (replicate 64 nobody)) i nobody ≡ get_or stations i nobody
    go i true k =
        get_or-append placed _ nobody i (omega (arith, count, ltb-true i (length stations) k)) ∙ ap (λ xs. get_or xs i nobody) e
    go i false k =
        let past = ltb-false i (length stations) k in
        get_or-append_right placed (drop (length stations) (replicate 64 nobody)) i nobody (omega (arith, count, past))
        ∙ get_or-drop (length stations) (replicate 64 nobody) (i - length placed) nobody
        ∙ nowhere 64 (length stations + (i - length placed))
        ∙ sym (get_or-eq_default stations nobody past)

-- the fresh bus is held in a fresh state: its stations have no packets and no offers
pub fresh_form :
    (g : Settings) (stations : List Listed) → SettingsPass g (map asked_of stations)
    → form (fresh_bus (request_with g (map asked_of stations)))
    ≡ fresh_state g (row 64 (λ i. get_or (take g.n stations) i nobody))
fresh_form g stations pass = λ j.
    record {
      segment = record {
        settings =
            record { discipline = sym (code_discipline g.discipline pass.discipline) j; d = g.d; a = g.a; q = g.q; n = long j };
        listed =
            row_same
            64
            (λ i. listed_form (station_or b i))
            (λ i. get_or (take g.n stations) i nobody)
            (λ i h. ap listed_form (at i))
            j;
        clock = record { 0 = 0 };
        admitted = 0;
        sent = 0;
        lost = 0;
        turned = 0;
        round = no_round;
        contention = no_contention;
        contenders = (nobody_contends j).word;
        parameters = (nobody_contends j).parameters;
        numbers = (nobody_contends j).numbers;
        values = (nobody_contends j).values;
        lengths = (nobody_contends j).lengths;
        admissions = (nobody_contends j).admissions;
      };
      queues = record {
        lengths = row_same 64 (λ i. length (station_or b i).queue) (λ i. 0) (λ i h. ap (λ (s : Station). length s.queue) (at i)) j;
        packets =
            row_same
            1024
            (λ k. get_or (station_or b (k / places)).queue (k % places) no_packet)
            (λ k. no_packet)
            (λ k h. ap (λ (s : Station). get_or s.queue (k % places) no_packet) (at (k / places)))
            j;
      };
    }
  where
    rest : List Asked
    rest = map asked_of stations

    b : Bus
    b = fresh_bus (request_with g rest)

    long : length (map fresh_station (take g.n rest)) ≡ g.n
    long = length-map (take g.n rest) fresh_station ∙ length-take-le g.n rest pass.filled

    at : (i : ℕ) → station_or b i ≡ fresh_station (asked_of (get_or (take g.n stations) i nobody))
    at i =
        get_or-map fresh_station (take g.n rest) i (asked_of nobody)
        ∙ ap (λ asked. fresh_station (get_or asked i (asked_of nobody))) (asked_first stations g.n)
        ∙ ap fresh_station (get_or-map asked_of (take g.n stations) i nobody)

    nobody_contends : recorded (contender_in b) ≡ no_contenders
    nobody_contends = recorded_same (contender_in b) (λ i. no_contender) (λ i l. ap (λ (s : Station). contender_form s.offer) (at i))

-- ---- what a state would be asked for by

-- 'what stands past N is unread': two rows with the same first N give the same verdict
same_read :
    (g : Settings) (row row' : List Asked) → g.n ≤ length row → g.n ≤ length row' → take g.n row ≡ take g.n row'
    → set_up_verdict (request_with g row) ≡ set_up_verdict (request_with g row')
same_read g row row' h h' e =
    let long = le-ltb (length row) g.n h in
    let long' = le-ltb (length row') g.n h' in
    rw (long, long', unread g row 0 [] (take g.n row), unread g row' 0 [] (take g.n row'), e)

-- more stations than 64 are refused
many_refused : (g : Settings) (row : List Asked) → most_stations < g.n → eqb (set_up_verdict (request_with g row)).refusal 0 ≡ false
many_refused g row h = ne_eqb (set_up_verdict (request_with g row)).refusal 0 (λ e. omega (arith, (set_up_pass g row e).few))

-- The row of all places passes 2 to 10 exactly when what the meaning would be asked for by does.
pub passes_as_asked :
    (s : State) → length s.segment.listed ≡ 64 → s.segment.settings.discipline ≤ 2
    → eqb (set_up_verdict (request_with s.segment.settings (map asked_of s.segment.listed))).refusal 0
    ≡ eqb (set_up_verdict (asked_for (meaning s))).refusal 0
passes_as_asked s count d = go (leb g.n 64) refl ∙ ap (λ (r : Request). eqb (set_up_verdict r).refusal 0) (sym again)
  where
    g : Settings
    g = s.segment.settings

    listed : List Listed
    listed = s.segment.listed

    all : List Asked
    all = map asked_of listed

    meant : List Asked
    meant = map asked (stations_of s)

    meant_length : length meant ≡ g.n
    meant_length = length-map (stations_of s) asked ∙ values_length (station_at s) 0 g.n

    -- what the meaning would be asked for by
    again : asked_for (meaning s) ≡ request_with g meant
    again = λ i.
        record {
          discipline = sym (code_discipline g.discipline d) i;
          D = g.d;
          A = g.a;
          q = g.q;
          N = values_length (station_at s) 0 g.n i;
          row = meant;
        }

    meant_first : g.n ≤ 64 → meant ≡ map asked_of (take g.n listed)
    meant_first h =
        values_map asked (station_at s) 0 g.n
        ∙ sym (values_map asked_of (λ i. get_or listed i nobody) 0 g.n)
        ∙ ap (map asked_of) (sym (values_take listed nobody g.n (omega arith)))

    go :
        (t : Bool) → leb g.n 64 ≡ t
        → eqb (set_up_verdict (request_with g all)).refusal 0 ≡ eqb (set_up_verdict (request_with g meant)).refusal 0
    go true e =
        let h : g.n ≤ 64 = leb-true g.n 64 e in
        ap
        (λ (v : Verdict). eqb v.refusal 0)
        (same_read
        g
        all
        meant
        (omega (arith, length-map listed asked_of))
        (omega (arith, meant_length))
        (asked_first listed g.n ∙ sym (meant_first h) ∙ sym (take_all g.n meant (omega (arith, meant_length)))))
    go false e = let h = leb-false g.n 64 e in many_refused g all h ∙ sym (many_refused g meant h)
