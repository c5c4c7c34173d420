-- A good scenario that is shown and read back is the same. Assumes nothing.
use Prim.Native.Nat.{ℕ, suc, ◌+◌, ◌*◌, ◌≤◌, ◌<◌}
use mathlib.Core.Path.{◌≡◌, refl, sym, ap, ap₂, subst, ◌∙◌}
use mathlib.Core.Logic.{inl, inr}
use mathlib.Core.Bool.{cond}
use mathlib.Core.List.{List, [], ◌∷◌, ◌++◌, append_assoc, append-nil}
use native.Mathlib.Omega.{arith}
use lib.ListN.{length, length-append}
use lib.Seq.{append_snoc, take_all}
use borrow.Author.Tests.{le-ltb}
use Rattle.rules.specs.Lists.{at_head, in_tail, All}
use Rattle.rules.specs.declared.Discipline.TheVariants.{RTVC}
use Rattle.rules.specs.Bus.{code}
use Rattle.rules.specs.SetUp.{Asked, Request, set_up_verdict}
use Rattle.rules.specs.Conditions.{row_conditions, set_up_conditions}
use Rattle.rules.proofs.Laws.{all_cons, all_nil}
use Rattle.rules.proofs.Tests.{NoneHolds, inside, stable, equal}
use Rattle.rules.proofs.Standing.{set_up_accepted}
use Rattle.state.specs.declared.Arrival.{Arrival}
use Rattle.state.specs.declared.Settings.{Settings}
use Rattle.state.specs.SetUp.{request_with}
use Rattle.state.proofs.SettingUp.{SettingsPass, set_up_pass}
use Rattle.scenario.specs.Format.{set_up_kind}
use Rattle.scenario.specs.Reading.{most_bytes, set_up_bytes, station_bytes, arrival_bytes, run_bytes}
use Rattle.scenario.specs.Writing.{set_up_values, stations_bytes, ending_bytes, written, ArrivalFits, InOrder, Good}
use Rattle.scenario.proofs.WrittenRecords.{Fit}
use Rattle.scenario.proofs.Written.{set_up_fits, stations_fit, settings_fine, stations_count}
use Rattle.text.specs.Text.{newline}
use Rattle.words.specs.Words.{lines_of}
use Rattle.layout.specs.Layout.{Plan, in_stations, in_arrivals, counted, bus_fault, inserted, start, with_run, Saying, says, read_lines, layout_says}
use Rattle.shown.specs.Shown.{station_text, station_lines, ending_lines, settings_of, layout_of}
use Rattle.shown.proofs.Prefixes.{request_for, prefix_accepted}
use Rattle.shown.proofs.LinesRead.{read_line, plan_of, bus_words, bus_one_line, bus_taken, StationFits, station_words, station_one_line, station_was_taken}
use Rattle.shown.proofs.LinesRead.{Open, open_stations, open_arrivals, arrival_words, arrival_one_line, arrival_was_taken, run_words, run_one_line, run_taken}

-- ---- arrivals in order

-- a time after others is not below what they start from
order_later : (a : Arrival) (xs ys : List Arrival) (k : ℕ) → InOrder k (xs ++ (a ∷ ys)) → k ≤ a.time.0
order_later a [] ys k o = o.0
order_later a (x ∷ xs) ys k o = omega (arith, o.0, order_later a xs ys x.time.0 o.1)

-- an arrival after those before it is put last
inserted_last : (a : Arrival) (xs ys : List Arrival) (k : ℕ) → InOrder k (xs ++ (a ∷ ys)) → inserted a xs ≡ xs ++ (a ∷ [])
inserted_last a [] ys k o = refl
inserted_last a (x ∷ xs) ys k o =
    ap (λ t. cond t (a ∷ x ∷ xs) (x ∷ inserted a xs)) (le-ltb a.time.0 x.time.0 (order_later a xs ys x.time.0 o.1))
    ∙ ap (λ (l : List Arrival). x ∷ l) (inserted_last a xs ys x.time.0 o.1)

-- ---- the arrivals and the run

-- the bytes of a scenario with so many stations and arrivals
abbrev pub bytes_of : ℕ → ℕ → ℕ
bytes_of n arrivals = set_up_bytes + station_bytes * n + arrival_bytes * arrivals + run_bytes

module _ (g : Settings) (n : ℕ) (row : List Asked) (arrivals : List Arrival) (steps : ℕ) (order : InOrder 0 arrivals)
    (short : bytes_of n (length arrivals) ≤ most_bytes) (few : steps < 65_536) where
  -- after some of the arrivals, the others and the run are read as they are shown
  ending_back :
      (xs ys : List Arrival) (stage line : ℕ) → arrivals ≡ xs ++ ys → Open stage n → All ArrivalFits ys
      → read_lines line (plan_of g stage n row xs) (lines_of (ending_lines g ys steps)) ≡ says (request_with (counted n g) row) arrivals steps
  ending_back xs [] stage line e place fit =
      read_line p (with_run p steps) (run_words steps) [] line (run_one_line steps few) (run_taken steps few p place)
      ∙ ap (λ (l : List Arrival). says (request_with (counted n g) row) l steps) (sym (e ∙ append-nil xs))
    where
      p : Plan
      p = plan_of g stage n row xs
  ending_back xs (a ∷ ys) stage line e place fit =
      ap (λ text. read_lines line p (lines_of text)) (append_assoc (arrival_words g a) (newline ∷ []) (ending_lines g ys steps))
      ∙ read_line p (plan_of g in_arrivals n row (xs ++ (a ∷ []))) (arrival_words g a) (ending_lines g ys steps) line (arrival_one_line g a here)
      (arrival_was_taken g a here stage n row xs place (omega (arith, ap length e, length-append xs (a ∷ ys)))
      (inserted_last a xs ys 0 (subst (InOrder 0) e order)))
      ∙ ending_back (xs ++ (a ∷ [])) ys in_arrivals (suc line) (e ∙ sym (append_snoc xs a ys)) (open_arrivals n) (λ x i. fit x (in_tail i))
    where
      p : Plan
      p = plan_of g stage n row xs

      here : ArrivalFits a
      here = fit a (at_head refl)

-- ---- the stations

-- after some stations of an accepted row, the others are read as they are shown, and then what comes after them
module _ (g : Settings) (row : List Asked) (accepted : (set_up_verdict (request_for g row)).refusal ≡ 0) (rest : List ℕ) (s : Saying)
    (later : (line : ℕ) → read_lines line (plan_of g in_stations (length row) row []) (lines_of rest) ≡ s) where
  stations_back :
      (n : ℕ) (xs ys : List Asked) (line : ℕ) → row ≡ xs ++ ys → n ≡ length xs → All (StationFits g) ys
      → read_lines line (plan_of g in_stations n xs []) (lines_of (station_lines g ys ++ rest)) ≡ s
  stations_back n xs [] line e count fit =
      let same = e ∙ append-nil xs in
      ap₂ (λ (m : ℕ) (l : List Asked). read_lines line (plan_of g in_stations m l []) (lines_of rest)) (count ∙ ap length (sym same)) (sym same)
      ∙ later line
  stations_back n xs (x ∷ ys) line e count fit =
      ap (λ text. read_lines line p (lines_of text))
      (append_assoc (station_text g x) (station_lines g ys) rest ∙ append_assoc (station_words g x) (newline ∷ []) (station_lines g ys ++ rest))
      ∙ read_line p (plan_of g in_stations (suc n) more []) (station_words g x) (station_lines g ys ++ rest) line (station_one_line g x here)
      (station_was_taken g x here n xs (omega (arith, (set_up_pass (counted (length row) g) row accepted).few, ap length next, length-append more ys, long)) first)
      ∙ stations_back (suc n) more ys (suc line) next long (λ y i. fit y (in_tail i))
    where
      p : Plan
      p = plan_of g in_stations n xs []

      more : List Asked
      more = xs ++ (x ∷ [])

      here : StationFits g x
      here = fit x (at_head refl)

      next : row ≡ more ++ ys
      next = e ∙ sym (append_snoc xs x ys)

      long : suc n ≡ length more
      long = omega (arith, length-append xs (x ∷ []))

      first : (set_up_verdict (request_with (counted (suc n) g) more)).refusal ≡ 0
      first =
          ap (λ m. (set_up_verdict (request_with (counted m g) more)).refusal) long
          ∙ prefix_accepted g more ys (omega (arith, long)) (subst (λ (l : List Asked). (set_up_verdict (request_for g l)).refusal ≡ 0) next accepted)

-- those of an accepted row fit: but in RTVC, the capability is 0
no_capability :
    (r : Request) (i : ℕ) (earlier later : List Asked) → NoneHolds (row_conditions r i earlier later)
    → All (λ s. ¬ (r.discipline ≡ code RTVC) → s.capability ≡ 0) later
no_capability r i earlier [] h = all_nil (λ s. ¬ (r.discipline ≡ code RTVC) → s.capability ≡ 0)
no_capability r i earlier (s ∷ later) h =
    all_cons
    s
    (λ other. stable (equal s.capability 0) (λ m. h.1.1.0 (inr (other, m))))
    (no_capability r (suc i) (earlier ++ (s ∷ [])) later h.1.1.1.1)

-- ---- the whole

-- how many bytes a scenario has
ending_count : (arrivals : List Arrival) (steps : ℕ) → length (ending_bytes arrivals steps) ≡ arrival_bytes * length arrivals + run_bytes
ending_count [] steps = refl
ending_count (a ∷ later) steps = omega (arith, ending_count later steps)

pub written_count :
    (r : Request) (arrivals : List Arrival) (steps : ℕ) → length (written r arrivals steps) ≡ bytes_of (length r.row) (length arrivals)
written_count r arrivals steps =
    omega
    (arith, length-append (stations_bytes r.row) (ending_bytes arrivals steps), stations_count r.row, ending_count arrivals steps)

-- A good scenario that is shown and read back is the same.
pub shown_back :
    (r : Request) (arrivals : List Arrival) (steps : ℕ) → Good r arrivals steps → layout_says (layout_of r arrivals steps) ≡ says r arrivals steps
shown_back r arrivals steps good =
    ap (λ text. read_lines 0 start (lines_of text)) (append_assoc (bus_words g) (newline ∷ []) (station_lines g r.row ++ ending))
    ∙ read_line start (plan_of g in_stations 0 [] []) (bus_words g) (station_lines g r.row ++ ending) 0 (bus_one_line g fits)
    (bus_taken g fits pass.discipline (bus_fine r.row refl))
    ∙ stations_back g r.row accepted ending (says (request_for g r.row) arrivals steps)
    (λ line. ending_back g (length r.row) r.row arrivals steps good.order short good.few [] arrivals in_stations line refl
    (open_stations (length r.row) some!) good.fit)
    0 [] r.row 1 refl refl stations
    ∙ ap (λ (x : Request). says x arrivals steps) same
  where
    g : Settings
    g = settings_of r

    ending : List ℕ
    ending = ending_lines g arrivals steps

    fits : Fit set_up_kind.widths (set_up_values (request_with g []))
    fits = set_up_fits r good.set_up_call

    pass : SettingsPass g r.row
    pass = set_up_pass g r.row good.set_up_call

    none : NoneHolds (set_up_conditions r)
    none = set_up_accepted r good.set_up_call

    same : request_for g r.row ≡ r
    same = ap (λ n. request_with (counted n g) r.row) good.stations

    accepted : (set_up_verdict (request_for g r.row)).refusal ≡ 0
    accepted = ap (λ (x : Request). (set_up_verdict x).refusal) same ∙ good.set_up_call

    some! : 1 ≤ length r.row
    some! = omega (arith, (inside (λ o. none.1.1.1.1.0 (inl o))).0, good.stations)

    short : bytes_of (length r.row) (length arrivals) ≤ most_bytes
    short = omega (arith, good.short, written_count r arrivals steps)

    -- 2 to 5 of the bus are those of a set-up with the first station
    bus_fine : (row : List Asked) → r.row ≡ row → bus_fault g ≡ 0
    bus_fine [] e = absurd (omega (arith, some!, ap length e))
    bus_fine (s ∷ later) e =
        settings_fine
        (request_for g (s ∷ []))
        (prefix_accepted g (s ∷ []) later (omega arith) (subst (λ (l : List Asked). (set_up_verdict (request_for g l)).refusal ≡ 0) e accepted))

    stations : All (StationFits g) r.row
    stations s i =
        let fit = stations_fit r good.set_up_call good.stations s i in
        let whole = take_all r.N r.row (omega (arith, good.stations)) in
        let read = subst (λ (l : List Asked). NoneHolds (row_conditions r 0 [] l)) whole none.1.1.1.1.1 in
        record { address = fit.0; capability = fit.1.0; none = no_capability r 0 [] r.row read s i }
