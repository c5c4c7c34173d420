-- An input of bytes is accepted exactly when it is the writing of a good scenario. Assumes nothing.
use Prim.Native.Nat.{ℕ, zero, suc, ◌+◌, ◌*◌, ◌≤◌, ◌<◌}
use mathlib.Core.Path.{◌≡◌, refl, sym, ap, ap₂, subst, ◌∙◌}
use mathlib.Core.Logic.{inl, inr}
use mathlib.Core.Bool.{Bool, true, false, ◌||◌, cond}
use mathlib.Core.List.{List, [], ◌∷◌, ◌++◌, append_assoc}
use native.Mathlib.Omega.{arith}
use lib.Dec.{ltb, eqb}
use lib.ListN.{length, take, drop, length-append}
use lib.Seq.{take_all, drop_at, drop-drop}
use borrow.Author.Tests.{eq-eqb, le-ltb, ltb-false, eqb-true}
use Rattle.rules.specs.Lists.{outside, at_head, in_tail, All, first_of}
use Rattle.rules.specs.declared.Verdict.{Verdict}
use Rattle.rules.specs.declared.Discipline.TheVariants.{RTDG, RTVC}
use Rattle.rules.specs.Bus.{most_stations, least_space, most_space, code}
use Rattle.rules.specs.SetUp.{Asked, Request, fine, fault, step_outside, settings_tests, set_up_verdict}
use Rattle.rules.specs.Conditions.{StepOutside, CapabilityOutside, row_conditions, set_up_conditions}
use Rattle.rules.proofs.Laws.{all_cons, all_nil}
use Rattle.rules.proofs.Tests.{Whether, holds, fails, stable, equal, inside, NoneHolds}
use Rattle.rules.proofs.Standing.{set_up_accepted}
use Rattle.state.specs.declared.Arrival.{Arrival}
use Rattle.state.specs.declared.Settings.{Settings}
use Rattle.state.specs.SetUp.{request_with, settings_refusal}
use Rattle.state.proofs.SettingUp.{SettingsPass, set_up_turn, set_up_pass}
use Rattle.scenario.specs.Format.{set_up_kind, station_kind, arrival_kind, run_kind, Said, read_record, out_of_place}
use Rattle.scenario.specs.Reading.{most_bytes, set_up_bytes, station_bytes, arrival_bytes, run_bytes}
use Rattle.scenario.specs.Reading.{settings_from, asked_from, arrival_from, steps_from, StationsRead, with_station, stations_from}
use Rattle.scenario.specs.Reading.{EndingRead, refused_ending, with_arrival, run_from, arrivals_from}
use Rattle.scenario.specs.Reading.{Reading, refused, accepted, station_offset, read_ending, read_arrivals, read_stations}
use Rattle.scenario.specs.Reading.{read_settings, read_set_up, reading}
use Rattle.scenario.specs.Writing.{Bytes, record_bytes, set_up_values, station_values, arrival_values, run_values}
use Rattle.scenario.specs.Writing.{stations_bytes, ending_bytes, written, ArrivalFits, InOrder, Good}
use Rattle.scenario.proofs.ReadingLaws.{arrivals_by}
use Rattle.scenario.proofs.WrittenRecords.{bytes_drop, Fit, set_up_row, station_row, arrival_row, run_row}
use Rattle.scenario.proofs.WrittenRecords.{past_record, record_read, told, place_refused, record_written}

-- ---- an accepted set-up

-- q fits its two bytes
step_fits : (d q : ℕ) → ¬ StepOutside d q → q < 65_536
step_fits d q h = go (equal d (code RTDG))
  where
    go : {t : Bool} → Whether (d ≡ code RTDG) t → q < 65_536
    go (holds e) = omega (arith, (inside (λ o. h (inl (e, o)))).1)
    go (fails n) = omega (arith, stable (equal q 1) (λ m. h (inr (n, m))))

-- a capability fits its two bytes
capability_fits : (d D c : ℕ) → D ≤ 65_536 → ¬ CapabilityOutside d D c → c < 65_536
capability_fits d D c l h = go (equal d (code RTVC))
  where
    go : {t : Bool} → Whether (d ≡ code RTVC) t → c < 65_536
    go (holds e) = let k : ¬ (D ≤ c) = λ k. h (inl (e, k)) in omega arith
    go (fails n) = omega (arith, stable (equal c 0) (λ m. h (inr (n, m))))

-- the fields of a station fit
abbrev pub StationFits : Asked → Type 0
StationFits s = Fit station_kind.widths (station_values s)

-- those of stations that pass 7 to 10 do
row_fits :
    (r : Request) (i : ℕ) (earlier later : List Asked) → r.A ≤ 65_536 → r.D ≤ 65_536 → NoneHolds (row_conditions r i earlier later)
    → All StationFits later
row_fits r i earlier [] a d h = all_nil StationFits
row_fits r i earlier (s ∷ later) a d h =
    let in-space : ¬ (r.A ≤ s.address) = h.0 in
    all_cons
    s
    (omega arith, (capability_fits r.discipline r.D s.capability d h.1.1.0, tt))
    (row_fits r (suc i) (earlier ++ (s ∷ [])) later a d h.1.1.1.1)

-- a set-up that is not refused
module _ (r : Request) (e : (set_up_verdict r).refusal ≡ 0) where
  -- none of its refusals holds
  passed : NoneHolds (set_up_conditions r)
  passed = set_up_accepted r e

  -- its numbers fit their widths
  pub set_up_fits : Fit set_up_kind.widths (set_up_values r)
  set_up_fits =
      let d : ¬ (2 < r.discipline) = passed.0 in (
        omega arith,
        (
          omega (arith, (inside passed.1.0).1),
          (
            omega (arith, (inside passed.1.1.0).1),
            (
              step_fits r.discipline r.q passed.1.1.1.0,
              (omega (arith, (inside (λ o. passed.1.1.1.1.0 (inl o))).1), tt),
            ),
          ),
        ),
      )

  -- and so do those of its stations
  pub stations_fit : length r.row ≡ r.N → All StationFits r.row
  stations_fit n =
      subst
      (All StationFits)
      (take_all r.N r.row (omega arith))
      (row_fits r 0 [] (take r.N r.row) (inside passed.1.1.0).1 (inside passed.1.0).1 passed.1.1.1.1.1)

  -- its settings as they are read
  abbrev pub settings_of : Settings
  settings_of = settings_from (set_up_values r)

  -- are not refused
  pub settings_fine : settings_refusal settings_of ≡ 0
  settings_fine =
      ap
      (λ t.
      (first_of
      fine
      ((fault 2 0, ltb 2 r.discipline)
      ∷ (fault 3 0, outside least_space most_space r.D)
      ∷ (fault 4 0, outside least_space most_space r.A)
      ∷ (fault 5 0, step_outside r.discipline r.q)
      ∷ (fault 6 0, outside 1 most_stations r.N || t)
      ∷ [])
      ).refusal)
      (le-ltb 64 r.N pass.few ∙ sym (le-ltb (length r.row) r.N pass.filled))
      ∙ go (eqb v.refusal 0) refl
    where
      pass : SettingsPass settings_of r.row
      pass = set_up_pass settings_of r.row e

      v : Verdict
      v = first_of fine (settings_tests r)

      go : (t : Bool) → eqb v.refusal 0 ≡ t → v.refusal ≡ 0
      go true same = eqb-true v.refusal 0 same
      go false same = ap (λ (w : Verdict). w.refusal) (sym (set_up_turn settings_of r.row v false refl same)) ∙ e

-- ---- the writing of a good scenario is accepted

-- stations that fit are read as they are written
stations_read :
    (row : List Asked) (offset : ℕ) (more : List ℕ) → All StationFits row
    → stations_from (length row) offset (stations_bytes row ++ more) ≡ record { refusal = 0; offset = 0; asked = row }
stations_read [] offset more f = refl
stations_read (s ∷ later) offset more f =
    ap (stations_from (suc (length later)) offset) (append_assoc this (stations_bytes later) more)
    ∙ ap
    (λ x.
    cond
    (eqb x.kind 2)
    (with_station (asked_from x.values) (next (drop station_bytes rest)))
    (record { refusal = out_of_place x; offset = offset; asked = [] }))
    (record_read station_kind (station_values s) (stations_bytes later ++ more) station_row fits)
    ∙ ap (λ l. with_station s (next l)) (past_record station_kind (station_values s) (stations_bytes later ++ more) station_row fits)
    ∙ ap (with_station s) (stations_read later (offset + station_bytes) more (λ x i. f x (in_tail i)))
  where
    this : List ℕ
    this = record_bytes station_kind (station_values s)

    rest : List ℕ
    rest = this ++ (stations_bytes later ++ more)

    next : List ℕ → StationsRead
    next = stations_from (length later) (offset + station_bytes)

    fits : StationFits s
    fits = f s (at_head refl)

-- and take their bytes
pub stations_count : (row : List Asked) → length (stations_bytes row) ≡ station_bytes * length row
stations_count [] = refl
stations_count (s ∷ later) = omega (arith, stations_count later)

-- an arrival that fits has fields that fit
pub arrival_fit : (a : Arrival) → ArrivalFits a → Fit arrival_kind.widths (arrival_values a)
arrival_fit a f = (f.time, (f.address, (f.value, (f.length, tt))))

-- arrivals that fit and come in order are read as they are written, and so is the run after them
ending_read :
    (arrivals : List Arrival) (steps turns previous offset : ℕ) → length arrivals < turns → All ArrivalFits arrivals
    → InOrder previous arrivals → steps < 65_536
    → arrivals_from turns previous offset (ending_bytes arrivals steps) ≡ record { refusal = 0; offset = 0; arrivals = arrivals; steps = steps }
ending_read arrivals steps zero previous offset h f o k = absurd (omega arith)
ending_read [] steps (suc turns) previous offset h f o k =
    ap
    (λ x. arrivals_by x turns previous offset (record_bytes run_kind (run_values steps)))
    (record_read run_kind (run_values steps) [] run_row (k, tt))
ending_read (a ∷ later) steps (suc turns) previous offset h f o k =
    ap (λ x. arrivals_by x turns previous offset rest) (record_read arrival_kind (arrival_values a) (ending_bytes later steps) arrival_row fits)
    ∙ ap₂
    (λ t l. cond t (refused_ending 21 offset) (with_arrival a (next l)))
    (le-ltb a.time.0 previous o.0)
    (past_record arrival_kind (arrival_values a) (ending_bytes later steps) arrival_row fits)
    ∙ ap
    (with_arrival a)
    (ending_read later steps turns a.time.0 (offset + arrival_bytes) (omega arith) (λ x i. f x (in_tail i)) o.1 k)
  where
    rest : List ℕ
    rest = record_bytes arrival_kind (arrival_values a) ++ ending_bytes later steps

    next : List ℕ → EndingRead
    next = arrivals_from turns a.time.0 (offset + arrival_bytes)

    fits : Fit arrival_kind.widths (arrival_values a)
    fits = arrival_fit a (f a (at_head refl))

-- there are no fewer bytes than arrivals
ending_long : (arrivals : List Arrival) (steps : ℕ) → length arrivals ≤ length (ending_bytes arrivals steps)
ending_long [] steps = omega arith
ending_long (a ∷ later) steps = omega (arith, ending_long later steps)

-- what the number 0 does not refuse
not_refused : (n offset : ℕ) (x : Reading) → n ≡ 0 → cond (eqb n 0) x (refused n offset) ≡ x
not_refused n offset x z = ap (λ t. cond t x (refused n offset)) (eq-eqb n 0 z)

-- No good scenario is refused: its bytes are accepted, as what they were written from.
pub accepted_if :
    (r : Request) (arrivals : List Arrival) (steps : ℕ) → Good r arrivals steps
    → reading (written r arrivals steps) ≡ accepted r arrivals steps
accepted_if r arrivals steps good =
    ap (λ t. cond t (refused 22 0) (read_set_up (read_record input) input)) (le-ltb most_bytes (length input) good.short)
    ∙ ap (λ x. read_set_up x input) (record_read set_up_kind (set_up_values r) behind set_up_row fits)
    ∙ not_refused (settings_refusal g) 0 (read_stations g stations input) (settings_fine r good.set_up_call)
    ∙ ap (λ x. read_stations g x input) stations_are
    ∙ not_refused (set_up_verdict r).refusal _ _ good.set_up_call
    ∙ ap (read_ending r) ending_is
  where
    input : List ℕ
    input = written r arrivals steps

    behind : List ℕ
    behind = stations_bytes r.row ++ ending_bytes arrivals steps

    g : Settings
    g = settings_from (set_up_values r)

    stations : StationsRead
    stations = stations_from r.N set_up_bytes (drop set_up_bytes input)

    fits : Fit set_up_kind.widths (set_up_values r)
    fits = set_up_fits r good.set_up_call

    past_set_up : drop set_up_bytes input ≡ behind
    past_set_up = past_record set_up_kind (set_up_values r) behind set_up_row fits

    stations_are : stations ≡ record { refusal = 0; offset = 0; asked = r.row }
    stations_are =
        ap₂ (λ n l. stations_from n set_up_bytes l) (sym good.stations) past_set_up
        ∙ stations_read r.row set_up_bytes (ending_bytes arrivals steps) (stations_fit r good.set_up_call good.stations)

    past_stations : drop (station_offset r.N) input ≡ ending_bytes arrivals steps
    past_stations =
        sym (drop-drop (station_bytes * r.N) set_up_bytes input)
        ∙ ap (drop (station_bytes * r.N)) past_set_up
        ∙ drop_at (stations_bytes r.row) (ending_bytes arrivals steps) (station_bytes * r.N)
        (stations_count r.row ∙ ap (λ n. station_bytes * n) good.stations)

    ending_is :
        arrivals_from (suc (length input)) 0 (station_offset r.N) (drop (station_offset r.N) input)
        ≡ record { refusal = 0; offset = 0; arrivals = arrivals; steps = steps }
    ending_is =
        ap (arrivals_from (suc (length input)) 0 (station_offset r.N)) past_stations
        ∙ ending_read
        arrivals
        steps
        (suc (length input))
        0
        (station_offset r.N)
        (omega (arith, ending_long arrivals steps, length-append (stations_bytes r.row) (ending_bytes arrivals steps)))
        good.fit
        good.order
        good.few

-- ---- an accepted scenario is the writing of a good one

-- stations that are not refused are written from what is read, and are as many as are to be read
stations_written :
    (n offset : ℕ) (rest : List ℕ) → Bytes rest → (stations_from n offset rest).refusal ≡ 0
    → (rest ≡ stations_bytes (stations_from n offset rest).asked ++ drop (station_bytes * n) rest)
    × (length (stations_from n offset rest).asked ≡ n)
stations_written zero offset rest b e = (refl, refl)
stations_written (suc n) offset rest b e =
    go (eqb x.kind 2) refl e (stations_written n (offset + station_bytes) (drop station_bytes rest) (bytes_drop station_bytes rest b))
  where
    x : Said
    x = read_record rest

    later : StationsRead
    later = stations_from n (offset + station_bytes) (drop station_bytes rest)

    left : List ℕ
    left = drop (station_bytes * n) (drop station_bytes rest)

    by : Bool → StationsRead
    by t = cond t (with_station (asked_from x.values) later) (record { refusal = out_of_place x; offset = offset; asked = [] })

    go :
        (t : Bool) → eqb x.kind 2 ≡ t → (by t).refusal ≡ 0
        → (later.refusal ≡ 0 → (drop station_bytes rest ≡ stations_bytes later.asked ++ left) × (length later.asked ≡ n))
        → (rest ≡ stations_bytes (by t).asked ++ drop (station_bytes * suc n) rest) × (length (by t).asked ≡ suc n)
    go true k f more =
        let this =
        record_written station_kind station_row (λ vs. station_values (asked_from vs)) (λ body. refl) rest x (told rest) b (eqb-true _ _ k) in
        let those = more f in
        let one_more : station_bytes + station_bytes * n ≡ station_bytes * suc n = omega arith in (
          this.0
              ∙ ap (λ l. record_bytes station_kind (station_values (asked_from x.values)) ++ l) those.0
              ∙ sym (append_assoc (record_bytes station_kind (station_values (asked_from x.values))) (stations_bytes later.asked) left)
              ∙ ap
              (λ l. stations_bytes (asked_from x.values ∷ later.asked) ++ l)
              (drop-drop (station_bytes * n) station_bytes rest ∙ ap (λ m. drop m rest) one_more),
          ap suc those.1,
        )
    go false k f more = absurd (place_refused rest x (told rest) f)

-- what arrivals and a run that are not refused tell: they are written from what is read, fit, and come in order
record Ended (rest : List ℕ) (previous : ℕ) (x : EndingRead) : Type 0 where
  bytes : rest ≡ ending_bytes x.arrivals x.steps
  fit : All ArrivalFits x.arrivals
  order : InOrder previous x.arrivals
  few : x.steps < 65_536

-- the run
run_written :
    (rest : List ℕ) (previous offset : ℕ) → Bytes rest → (run_from (read_record rest) offset (length (drop run_bytes rest))).refusal ≡ 0
    → Ended rest previous (run_from (read_record rest) offset (length (drop run_bytes rest)))
run_written rest previous offset b e = go (eqb x.kind 4) refl (eqb (length (drop run_bytes rest)) 0) refl e
  where
    x : Said
    x = read_record rest

    by : Bool → Bool → EndingRead
    by t u =
        cond
        t
        (cond u (record { refusal = 0; offset = 0; arrivals = []; steps = steps_from x.values }) (refused_ending 20 (offset + run_bytes)))
        (refused_ending (out_of_place x) offset)

    none : (l : List ℕ) → length l ≡ 0 → l ≡ []
    none [] h = refl
    none (y ∷ l) h = absurd (omega arith)

    go :
        (t : Bool) → eqb x.kind 4 ≡ t → (u : Bool) → eqb (length (drop run_bytes rest)) 0 ≡ u → (by t u).refusal ≡ 0
        → Ended rest previous (by t u)
    go true k true l f =
        let this = record_written run_kind run_row (λ vs. run_values (steps_from vs)) (λ body. refl) rest x (told rest) b (eqb-true _ _ k) in
        record {
          bytes = this.0 ∙ ap (λ l. record_bytes run_kind (run_values (steps_from x.values)) ++ l) (none _ (eqb-true _ _ l));
          fit = all_nil ArrivalFits;
          order = tt;
          few = this.1.0;
        }
    go true k false l f = absurd (omega arith)
    go false k u l f = absurd (place_refused rest x (told rest) f)

-- and before it the arrivals
ending_written :
    (turns previous offset : ℕ) (rest : List ℕ) → Bytes rest → (arrivals_from turns previous offset rest).refusal ≡ 0
    → Ended rest previous (arrivals_from turns previous offset rest)
ending_written zero previous offset rest b e = absurd (omega arith)
ending_written (suc turns) previous offset rest b e =
    go
    (eqb x.kind 3)
    refl
    (ltb a.time.0 previous)
    refl
    e
    (ending_written turns a.time.0 (offset + arrival_bytes) (drop arrival_bytes rest) (bytes_drop arrival_bytes rest b))
  where
    x : Said
    x = read_record rest

    a : Arrival
    a = arrival_from x.values

    later : EndingRead
    later = arrivals_from turns a.time.0 (offset + arrival_bytes) (drop arrival_bytes rest)

    by : Bool → Bool → EndingRead
    by t late =
        cond t (cond late (refused_ending 21 offset) (with_arrival a later)) (run_from x offset (length (drop run_bytes rest)))

    go :
        (t : Bool) → eqb x.kind 3 ≡ t → (late : Bool) → ltb a.time.0 previous ≡ late → (by t late).refusal ≡ 0
        → (later.refusal ≡ 0 → Ended (drop arrival_bytes rest) a.time.0 later)
        → Ended rest previous (by t late)
    go true k true l f more = absurd (omega arith)
    go true k false l f more =
        let this =
        record_written arrival_kind arrival_row (λ vs. arrival_values (arrival_from vs)) (λ body. refl) rest x (told rest) b (eqb-true _ _ k) in
        let those = more f in
        record {
          bytes = this.0 ∙ ap (λ l. record_bytes arrival_kind (arrival_values a) ++ l) those.bytes;
          fit =
              all_cons
              a
              (record { time = this.1.0; address = this.1.1.0; value = this.1.1.1.0; length = this.1.1.1.1.0 })
              those.fit;
          order = (ltb-false a.time.0 previous l, those.order);
          few = those.few;
        }
    go false k late l f more = run_written rest previous offset b f

-- what a reading tells: an accepted input is the writing of a good scenario
Wrote : List ℕ → Reading → Type 0
Wrote input (refused n offset) = Unit {0}
Wrote input (accepted r arrivals steps) = (input ≡ written r arrivals steps) × Good r arrivals steps

-- what is told by a test, where else it is refused
by_test :
    (input : List ℕ) (t : Bool) (x : Reading) (n offset : ℕ) → (t ≡ true → Wrote input x) → Wrote input (cond t x (refused n offset))
unfolding Wrote
by_test input true x n offset h = h refl
by_test input false x n offset h = tt

-- any input of bytes
wrote : (input : List ℕ) → Bytes input → Wrote input (reading input)
unfolding Wrote
wrote input b = go (ltb most_bytes (length input)) refl
  where
    x : Said
    x = read_record input

    g : Settings
    g = settings_from x.values

    stations : StationsRead
    stations = stations_from g.n set_up_bytes (drop set_up_bytes input)

    r : Request
    r = request_with g stations.asked

    v : Verdict
    v = set_up_verdict r

    ending : EndingRead
    ending = arrivals_from (suc (length input)) 0 (station_offset r.N) (drop (station_offset r.N) input)

    -- where nothing refuses
    all :
        length input ≤ most_bytes → x.kind ≡ 1 → stations.refusal ≡ 0 → v.refusal ≡ 0 → ending.refusal ≡ 0
        → (input ≡ written r ending.arrivals ending.steps) × Good r ending.arrivals ending.steps
    all short k s p e =
        let first =
        record_written set_up_kind set_up_row (λ vs. set_up_values (request_with (settings_from vs) [])) (λ body. refl) input x (told input) b k in
        let row = stations_written g.n set_up_bytes (drop set_up_bytes input) (bytes_drop set_up_bytes input b) s in
        let last =
        ending_written
        (suc (length input))
        0
        (station_offset r.N)
        (drop (station_offset r.N) input)
        (bytes_drop (station_offset r.N) input b)
        e in
        let whole : input ≡ written r ending.arrivals ending.steps =
        first.0
        ∙ ap
        (λ l. record_bytes set_up_kind (set_up_values r) ++ l)
        (row.0 ∙ ap (λ l. stations_bytes stations.asked ++ l) (drop-drop (station_bytes * g.n) set_up_bytes input ∙ last.bytes)) in (
          whole,
          record {
            set_up_call = p;
            stations = row.1;
            fit = last.fit;
            order = last.order;
            few = last.few;
            short = subst (λ l. length l ≤ most_bytes) whole short;
          },
        )

    go : (t : Bool) → ltb most_bytes (length input) ≡ t → Wrote input (cond t (refused 22 0) (read_set_up x input))
    go true l = tt
    go false l =
        by_test input (eqb x.kind 1) (read_settings g input) (out_of_place x) 0 (λ k.
        by_test input (eqb (settings_refusal g) 0) (read_stations g stations input) (settings_refusal g) 0 (λ q.
        by_test input (eqb stations.refusal 0) (read_arrivals r input) stations.refusal stations.offset (λ s.
        by_test input (eqb v.refusal 0) (read_ending r ending) v.refusal (station_offset v.station) (λ p.
        by_test input (eqb ending.refusal 0) (accepted r ending.arrivals ending.steps) ending.refusal ending.offset (λ e.
        all (ltb-false _ _ l) (eqb-true _ _ k) (eqb-true _ _ s) (eqb-true _ _ p) (eqb-true _ _ e))))))

-- Nothing else is accepted: an accepted input of bytes is the writing of a good scenario, the one that it is read as.
pub accepted_only :
    (input : List ℕ) (r : Request) (arrivals : List Arrival) (steps : ℕ) → Bytes input → reading input ≡ accepted r arrivals steps
    → (input ≡ written r arrivals steps) × Good r arrivals steps
unfolding Wrote
accepted_only input r arrivals steps b e = subst (Wrote input) e (wrote input b)
