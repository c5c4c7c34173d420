-- The laws that the reader's proofs share: the bytes of a record, the variants that say its kind, one turn of the stations and of the arrivals,
-- the run, what settings that pass tell, and what refuses. Assumes nothing.
use Prim.Native.Nat.{ℕ, zero, suc, ◌+◌, ◌-◌, ◌≤◌, ◌<◌}
use mathlib.Core.Path.{◌≡◌, refl, sym, ap, ap₂, subst, ◌∙◌}
use Rattle.std.specs.Prelude.{Result, Ok, Err}
use mathlib.Core.Bool.{Bool, true, false, not, ◌&&◌, cond}
use mathlib.Core.Option.{some}
use mathlib.Core.List.{List, [], ◌∷◌, ◌++◌, map, map-append, append-nil}
use native.Mathlib.Numerals.{add-one}
use native.Mathlib.Omega.{arith}
use lib.Dec.{ltb, eqb}
use lib.ListN.{length, take, drop, set, replicate, length-take, length-drop}
use lib.Seq.{drop-drop, append_snoc, take-suc-set}
use Rattle.std.proofs.lemmas.List.{take-append-le}
use borrow.Author.Tests.{eqb-true, ltb-true, ltb-false, eq-eqb, ne_eqb}
use Rattle.rules.specs.Lists.{each_of, verdict, first_of}
use Rattle.rules.proofs.Laws.{and-true}
use Rattle.rules.specs.declared.Verdict.{Verdict}
use Rattle.rules.specs.Bus.{most_stations}
use Rattle.rules.specs.SetUp.{Asked, Request, fine, settings_tests, station_tests, row_tests, set_up_verdict}
use Rattle.state.specs.declared.Arrival.{Arrival}
use Rattle.state.specs.declared.Listed.{Listed}
use Rattle.state.specs.declared.Settings.{Settings}
use Rattle.state.specs.State.{nobody}
use Rattle.state.specs.SetUp.{asked_of, settings_refusal}
use Rattle.state.proofs.SettingUp.{settings_pass}
use Rattle.scenario.specs.declared.Record.TheVariants as Is
use Rattle.scenario.specs.Format.{said, out_of_place}
use Rattle.scenario.specs.Format.{Kind, arrival_kind, Said, kinds, row_of, refused_record, length_in, kind_in, said_by, body_in, read_body, read_record}
use Rattle.scenario.specs.Reading.{EndingRead, set_up_bytes, station_bytes, arrival_bytes, run_bytes}
use Rattle.scenario.specs.Reading.{asked_from, StationsRead, with_station, stations_from, station_offset}
use Rattle.scenario.specs.Reading.{arrival_from, refused_ending, with_arrival, run_from, arrivals_from}
use Rattle.scenario.specs.Reading.{Refused, Numbered, numbered}
use Rattle.scenario.specs.Parts.{refusal_in, station_from, stations_form, run_at}
use Rattle.scenario.proofs.Refusals.{numbered_above}

-- ---- the bytes of a record

-- the bytes that a record of a kind takes
abbrev pub size_of : ℕ → ℕ
size_of kind =
    cond
    (eqb kind 1)
    set_up_bytes
    (cond (eqb kind 2) station_bytes (cond (eqb kind 3) arrival_bytes (cond (eqb kind 4) run_bytes 0)))

-- whether a row of the table has these bytes: the two of its length, and what follows them
abbrev sized : Kind → Bool
sized row = eqb (size_of row.kind) (2 + row.length)

-- what a body says by a row of the table has its bytes
rows_fit :
    (rest : List ℕ) (kind long : ℕ) (rows : List Kind) → each_of sized rows ≡ true
    → size_of (read_body (row_of kind long rows) rest).kind ≤ length rest
rows_fit rest kind long [] e = omega arith
rows_fit rest kind long (row ∷ rows) e =
    let both = and-true (sized row) (each_of sized rows) e in
    go
    (eqb kind row.kind && eqb long row.length)
    (eqb-true (size_of row.kind) (2 + row.length) both.0)
    (rows_fit rest kind long rows both.1)
  where
    read :
        (t : Bool) → ltb (length rest) (2 + row.length) ≡ t → size_of row.kind ≡ 2 + row.length
        → size_of (cond t (refused_record 18) (said_by row (body_in row.length rest))).kind ≤ length rest
    read true l s = omega arith
    read false l s = let h = ltb-false (length rest) (2 + row.length) l in rw s h

    go :
        (t : Bool) → size_of row.kind ≡ 2 + row.length → size_of (read_body (row_of kind long rows) rest).kind ≤ length rest
        → size_of (read_body (cond t (some row) (row_of kind long rows)) rest).kind ≤ length rest
    go true s later = read (ltb (length rest) (2 + row.length)) refl s
    go false s later = later

-- a record of a known kind has its bytes in the rest
record_fits : (rest : List ℕ) → size_of (read_record rest).kind ≤ length rest
record_fits rest = go (ltb (length rest) 4)
  where
    go : (t : Bool) → size_of (cond t (refused_record 18) (read_body (row_of (kind_in rest) (length_in rest) kinds) rest)).kind ≤ length rest
    go true = omega arith
    go false = rows_fit rest (kind_in rest) (length_in rest) kinds refl

-- and so ends within the input
pub record_within :
    (input : List ℕ) (at k : ℕ) → (read_record (drop at input)).kind ≡ k → 0 < size_of k → at + size_of k ≤ length input
record_within input at k e some! =
    let h : size_of k ≤ length (drop at input) = subst (λ n. size_of n ≤ length (drop at input)) e (record_fits (drop at input)) in
    omega (arith, length-drop at input)

-- ---- refusals

-- what refuses has a number that is not 0
refuses : (e : Refused) (n offset : ℕ) → ◌≡◌ {A = Numbered} (numbered e) (record { number = n; offset = offset }) → eqb n 0 ≡ false
refuses e n offset same = ne_eqb n 0 (λ z. numbered_above e.refusal (ap (λ (x : Numbered). x.number) same ∙ z))

-- an answer that is a refusal, where one that goes by a number is either
pub refused_by :
    {X Y : Type 0} (e : Refused) (n offset : ℕ) (y : Result Y Numbered)
    → ◌≡◌ {A = Result X Numbered} (Err (numbered e)) (Err (record { number = n; offset = offset }))
    → ◌≡◌ {A = Result Y Numbered} (Err (numbered e)) (cond (eqb n 0) y (Err (record { number = n; offset = offset })))
refused_by e n offset y same =
    let told = ap (λ r. refusal_in r (numbered e)) same in
    ap Err told ∙ ap (λ t. cond t y (Err (record { number = n; offset = offset }))) (sym (refuses e n offset told))

-- ---- the stations

-- stations taken in front of those that are read after them
abbrev pub with_stations : List Asked → StationsRead → StationsRead
with_stations taken x = record { refusal = x.refusal; offset = x.offset; asked = taken ++ x.asked }

-- the stations of a row of n, where the first i stand in the array and the others are yet to be read
abbrev pub stations_after : List ℕ → List Listed → ℕ → ℕ → StationsRead
stations_after input stations n i =
    with_stations (map asked_of (take i stations)) (stations_from (n - i) (station_offset i) (drop (station_offset i) input))

-- one turn where the next record is a station, which is put into the array
pub station_turn :
    (input : List ℕ) (stations : List Listed) (n i : ℕ) (s : Listed) → i < n → i < length stations
    → Ok (asked_of s) ≡ station_from (read_record (drop (station_offset i) input)) (station_offset i)
    → stations_after input stations n i ≡ stations_after input (set stations i s) n (i + 1)
station_turn input stations n i s h l e =
    ap (λ k. with_stations before (stations_from k (station_offset i) rest)) more
    ∙ ap (with_stations before) (here (eqb x.kind 2) e)
    ∙ ap₂
    (λ o r. with_stations before (with_station (asked_of s) (stations_from m o r)))
    next
    (drop-drop station_bytes (station_offset i) input ∙ ap (λ o. drop o input) next)
    ∙ ap
    (λ asked. record { refusal = later.refusal; offset = later.offset; asked = asked })
    (sym (append_snoc before (asked_of s) later.asked) ∙ ap (λ taken. taken ++ later.asked) (sym one_more))
  where
    before : List Asked
    before = map asked_of (take i stations)

    rest : List ℕ
    rest = drop (station_offset i) input

    x : Said
    x = read_record rest

    m : ℕ
    m = n - (i + 1)

    later : StationsRead
    later = stations_from m (station_offset (i + 1)) (drop (station_offset (i + 1)) input)

    after : StationsRead
    after = stations_from m (station_offset i + station_bytes) (drop station_bytes rest)

    asked_in : Result Asked Numbered → Asked
    asked_in (Ok a) = a
    asked_in (Err r) = asked_of s

    here :
        (t : Bool)
        → ◌≡◌ {A = Result Asked Numbered} (Ok (asked_of s)) (cond t (Ok (asked_from x.values)) (Err (record { number = out_of_place x; offset = station_offset i })))
        → cond t (with_station (asked_from x.values) after) (record { refusal = out_of_place x; offset = station_offset i; asked = [] })
        ≡ with_station (asked_of s) after
    here true same = ap (λ a. with_station (asked_in a) after) (sym same)
    here false same = absurd (cc same)

    more : n - i ≡ suc m
    more = omega arith

    next : station_offset i + station_bytes ≡ station_offset (i + 1)
    next = omega arith

    one_more : map asked_of (take (i + 1) (set stations i s)) ≡ before ++ (asked_of s ∷ [])
    one_more =
        ap (λ k. map asked_of (take k (set stations i s))) (add-one i)
        ∙ ap (map asked_of) (take-suc-set stations i s l)
        ∙ map-append asked_of (take i stations) (s ∷ [])

-- where it is none
pub station_other :
    (input : List ℕ) (stations : List Listed) (n i : ℕ) (e : Refused) → i < n
    → Err (numbered e) ≡ station_from (read_record (drop (station_offset i) input)) (station_offset i)
    → Err (numbered e) ≡ stations_form (stations_after input stations n i)
station_other input stations n i e h same =
    let more : n - i ≡ suc (n - (i + 1)) = omega arith in
    here (eqb x.kind 2) same
    ∙ ap (λ k. stations_form (with_stations before (stations_from k (station_offset i) (drop (station_offset i) input)))) (sym more)
  where
    x : Said
    x = read_record (drop (station_offset i) input)

    before : List Asked
    before = map asked_of (take i stations)

    after : StationsRead
    after =
        with_station
        (asked_from x.values)
        (stations_from (n - (i + 1)) (station_offset i + station_bytes) (drop station_bytes (drop (station_offset i) input)))

    here :
        (t : Bool)
        → ◌≡◌
        {A = Result Asked Numbered}
        (Err (numbered e))
        (cond t (Ok (asked_from x.values)) (Err (record { number = out_of_place x; offset = station_offset i })))
        → Err (numbered e)
        ≡ stations_form
        (with_stations before (cond t after (record { refusal = out_of_place x; offset = station_offset i; asked = [] })))
    here true same = absurd (cc same)
    here false same = refused_by e (out_of_place x) (station_offset i) (Ok (before ++ [])) same

-- and where all are read
pub stations_end :
    (input : List ℕ) (stations : List Listed) (n i : ℕ) → i ≤ n → n ≤ i
    → stations_after input stations n i ≡ record { refusal = 0; offset = 0; asked = map asked_of (take n stations) }
stations_end input stations n i h l =
    let same : i ≡ n = omega arith in
    let none : n - i ≡ 0 = omega arith in
    ap (λ k. with_stations (map asked_of (take i stations)) (stations_from k (station_offset i) (drop (station_offset i) input))) none
    ∙ ap
    (λ asked. record { refusal = 0; offset = 0; asked = asked })
    (append-nil (map asked_of (take i stations)) ∙ ap (λ k. map asked_of (take k stations)) same)

-- the array then has them, whatever stands past them
pub stations_all :
    (input : List ℕ) (stations others : List Listed) (n i : ℕ) → i ≤ n → n ≤ i → n ≤ length stations
    → Ok (map asked_of (take n (stations ++ others))) ≡ stations_form (stations_after input stations n i)
stations_all input stations others n i h l long =
    ap (λ s. Ok (map asked_of s)) (take-append-le n stations others long)
    ∙ ap stations_form (sym (stations_end input stations n i h l))

-- ---- the arrivals

-- one turn of the arrivals, by what the record says
abbrev pub arrivals_by : Said → ℕ → ℕ → ℕ → List ℕ → EndingRead
arrivals_by x turns previous offset rest =
    cond
    (eqb x.kind 3)
    (cond
    (ltb (arrival_from x.values).time.0 previous)
    (refused_ending 21 offset)
    (with_arrival
    (arrival_from x.values)
    (arrivals_from turns (arrival_from x.values).time.0 (offset + arrival_bytes) (drop arrival_bytes rest))))
    (run_from x offset (length (drop run_bytes rest)))

-- any number of turns above the bytes that are left is enough
enough :
    (turns turns' previous offset : ℕ) (rest : List ℕ) → length rest < turns → length rest < turns'
    → arrivals_from turns previous offset rest ≡ arrivals_from turns' previous offset rest
enough zero turns' previous offset rest h h' = absurd (omega arith)
enough (suc turns) zero previous offset rest h h' = absurd (omega arith)
enough (suc turns) (suc turns') previous offset rest h h' =
    go (eqb x.kind 3) refl (enough turns turns' a (offset + arrival_bytes) (drop arrival_bytes rest))
  where
    x : Said
    x = read_record rest

    a : ℕ
    a = (arrival_from x.values).time.0

    later : ℕ → EndingRead
    later k = arrivals_from k a (offset + arrival_bytes) (drop arrival_bytes rest)

    by : Bool → EndingRead → EndingRead
    by t more =
        cond
        t
        (cond (ltb a previous) (refused_ending 21 offset) (with_arrival (arrival_from x.values) more))
        (run_from x offset (length (drop run_bytes rest)))

    go :
        (t : Bool) → eqb x.kind 3 ≡ t
        → (length (drop arrival_bytes rest) < turns → length (drop arrival_bytes rest) < turns' → later turns ≡ later turns')
        → by t (later turns) ≡ by t (later turns')
    go true e same =
        let long : 16 ≤ length rest = record_within rest 0 3 (eqb-true x.kind 3 e) (omega arith) in
        let left = length-drop arrival_bytes rest in
        ap (by true) (same (omega arith) (omega arith))
    go false e same = refl

-- an arrival's record ends within the input
pub arrival_within : (input : List ℕ) (at : ℕ) → (read_record (drop at input)).kind ≡ arrival_kind.kind → at + arrival_bytes ≤ length input
arrival_within input at e = record_within input at 3 e (omega arith)

-- one turn where the record is an arrival; t is whether its time is below the previous one's
pub arrival_turn :
    (input : List ℕ) (at previous : ℕ) (a : Arrival) (t : Bool) → said (Ok (Is.Arrival a)) ≡ read_record (drop at input)
    → t ≡ ltb a.time.0 previous
    → arrivals_from (suc (length input)) previous at (drop at input)
    ≡ cond
    t
    (refused_ending 21 at)
    (with_arrival a (arrivals_from (suc (length input)) a.time.0 (at + arrival_bytes) (drop (at + arrival_bytes) input)))
arrival_turn input at previous a t e late =
    let within : at + 16 ≤ length input = arrival_within input at (ap (λ (y : Said). y.kind) (sym e)) in
    let left = length-drop (at + arrival_bytes) input in
    ap (λ x. arrivals_by x (length input) previous at (drop at input)) (sym e)
    ∙ ap₂
    (λ b rest. cond b (refused_ending 21 at) (with_arrival a (arrivals_from (length input) a.time.0 (at + arrival_bytes) rest)))
    (sym late)
    (drop-drop arrival_bytes at input)
    ∙ ap
    (λ later. cond t (refused_ending 21 at) (with_arrival a later))
    (enough (length input) (suc (length input)) a.time.0 (at + arrival_bytes) (drop (at + arrival_bytes) input) (omega arith) (omega arith))

-- and where it is none
pub arrivals_over :
    (input : List ℕ) (turns previous at : ℕ) → ¬ ((read_record (drop at input)).kind ≡ 3)
    → arrivals_from (suc turns) previous at (drop at input) ≡ run_at input at
arrivals_over input turns previous at e = rw (ne_eqb (read_record (drop at input)).kind 3 e)

-- ---- the run

-- where the record is no run
pub run_other :
    (input : List ℕ) (at : ℕ) → ¬ ((read_record (drop at input)).kind ≡ 4)
    → run_at input at ≡ refused_ending (out_of_place (read_record (drop at input))) at
run_other input at e = rw (ne_eqb (read_record (drop at input)).kind 4 e)

-- where it is one; t is whether bytes come after it
pub run_here :
    (input : List ℕ) (at steps : ℕ) (t : Bool) → said (Ok (Is.Run steps)) ≡ read_record (drop at input)
    → t ≡ ltb (at + run_bytes) (length input)
    → run_at input at
    ≡ cond t (refused_ending 20 (at + run_bytes)) (record { refusal = 0; offset = 0; arrivals = []; steps = steps })
run_here input at steps t e more =
    ap (λ x. run_from x at after) (sym e) ∙ ap (λ b. cond b last (refused_ending 20 (at + run_bytes))) (none t more) ∙ swap t
  where
    after : ℕ
    after = length (drop run_bytes (drop at input))

    last : EndingRead
    last = record { refusal = 0; offset = 0; arrivals = []; steps = steps }

    none : (u : Bool) → u ≡ ltb (at + run_bytes) (length input) → eqb after 0 ≡ not u
    none true l =
        let h = ltb-true (at + run_bytes) (length input) (sym l) in
        ne_eqb after 0 (λ z. omega (arith, length-drop run_bytes (drop at input), length-drop at input))
    none false l =
        let h = ltb-false (at + run_bytes) (length input) (sym l) in
        eq-eqb after 0 (omega (arith, length-drop run_bytes (drop at input), length-drop at input))

    swap : (u : Bool) → cond (not u) last (refused_ending 20 (at + run_bytes)) ≡ cond u (refused_ending 20 (at + run_bytes)) last
    swap true = refl
    swap false = refl

-- ---- the set-up

-- settings that are not refused have no more than 64 stations
pub few_stations : (g : Settings) → settings_refusal g ≡ 0 → g.n ≤ 64
few_stations g e = (settings_pass g (replicate most_stations (asked_of nobody)) e).few

-- a verdict on a set-up: one of the numbers to 10, about one of m stations
abbrev Fits : ℕ → Verdict → Type 0
Fits m v = (v.refusal ≤ 10) × (v.station ≤ m)

-- each of these tests has such a verdict
abbrev Each : ℕ → List (Verdict × Bool) → Type 0
Each m [] = Unit {0}
Each m (t ∷ ts) = Fits m t.0 × Each m ts

-- where the first tests have, and the others' verdict is one, so is the verdict of all
tests_fit : (m : ℕ) (ts us : List (Verdict × Bool)) → Each m ts → Fits m (first_of fine us) → Fits m (first_of fine (ts ++ us))
tests_fit m [] us a l = l
tests_fit m (t ∷ ts) us a l = go t.1 (tests_fit m ts us a.1 l)
  where
    go : (b : Bool) → Fits m (first_of fine (ts ++ us)) → Fits m (verdict b t.0 (first_of fine (ts ++ us)))
    go true k = a.0
    go false k = k

-- the verdict on the stations from place i on is about one of m, if these are that many at most
row_fits :
    (r : Request) (m i : ℕ) (earlier later : List Asked) → i + length later ≤ m → Fits m (first_of fine (row_tests r i earlier later))
row_fits r m i earlier [] h = (omega arith, omega arith)
row_fits r m i earlier (s ∷ later) h =
    tests_fit
    m
    (station_tests r i earlier s)
    (row_tests r (suc i) (earlier ++ (s ∷ [])) later)
    ((omega arith, omega arith), ((omega arith, omega arith), ((omega arith, omega arith), ((omega arith, omega arith), tt))))
    (row_fits r m (suc i) (earlier ++ (s ∷ [])) later (omega arith))

-- the verdict on a set-up has one of the numbers to 10, and is about one of its stations
pub verdict_fits : (r : Request) → ((set_up_verdict r).refusal ≤ 10) × ((set_up_verdict r).station ≤ r.N)
verdict_fits r =
    tests_fit
    r.N
    (settings_tests r)
    (row_tests r 0 [] (take r.N r.row))
    ((omega arith, omega arith), ((omega arith, omega arith), ((omega arith, omega arith), ((omega arith, omega arith), ((omega arith, omega arith), tt)))))
    (row_fits r r.N 0 [] (take r.N r.row) (omega (arith, length-take r.N r.row)))
