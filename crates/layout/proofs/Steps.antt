-- What a line does that is right: a plan goes on by nothing, a bus, a station, arrivals or a run. Assumes nothing.
use Prim.Native.Nat.{ℕ, zero, suc, ◌+◌, ◌*◌, ◌-◌, ◌≤◌, ◌<◌}
use mathlib.Core.Path.{◌≡◌, refl, sym, ap, subst, ◌∙◌}
use mathlib.Core.Bool.{Bool, true, false, ◌||◌, cond}
use Rattle.std.specs.Prelude.{Option, Some, None}
use mathlib.Core.List.{List, [], ◌∷◌}
use native.Mathlib.Nat.{div-mul-le_self}
use native.Mathlib.Omega.{arith}
use borrow.Author.Tests.{ltb-false, leb-true, leb-false, eqb-true, eqb-false, eq-eqb}
use lib.Dec.{ltb, leb, eqb}
use lib.ListN.{length, get_or}
use Rattle.rules.specs.Lists.{at_head, in_tail, All, verdict}
use Rattle.rules.specs.Bus.{most_stations, longest_packet, clock_end}
use Rattle.rules.specs.SetUp.{Asked, set_up_verdict, discipline_of}
use Rattle.rules.specs.Standing.{value_is_fit}
use Rattle.rules.specs.Conditions.{Outside}
use Rattle.rules.proofs.Laws.{clash, all_cons, all_nil}
use Rattle.rules.proofs.Tests.{Whether, holds, fails, stable, negated, negated_twice, below, equal, out_of, inside, Tried, done, ◌then◌, none_held}
use Rattle.state.specs.declared.Arrival.{Arrival}
use Rattle.state.specs.declared.Settings.{Settings}
use Rattle.scenario.specs.Reading.{most_bytes, set_up_bytes, station_bytes, arrival_bytes, run_bytes}
use Rattle.scenario.specs.Writing.{ArrivalFits}
use Rattle.words.specs.Words.{first_word, after_word, same, number_end, number_of}
use Rattle.layout.specs.Layout.{kind_of, discipline_named, labels_of, label_bytes, bus_line, station_line, arrival_line, arrivals_line, attempt_line, run_line}
use Rattle.layout.specs.Layout.{no_bus, has_no_station, no_record, no_arrival_fault, past_run, steps_large, before_bus, in_stations, is_arrival}
use Rattle.layout.specs.Layout.{Fields, field_in, fields_in, word_missing, goes_on, faulty, wordless, Plan, Taken, taken, place_fault}
use Rattle.layout.specs.Layout.{settings_said, bus_fault, with_bus, take_bus}
use Rattle.layout.specs.Layout.{with_station, request_in, take_station, with_arrivals, arrival_of, value_fits, arrival_tests, take_arrival}
use Rattle.layout.specs.Layout.{take_attempt, repeated, later, value_at, take_arrivals, with_run, take_run, take_said, take_kind, take_line}
use Rattle.layout.specs.Said.{arrivals_by, arrivals_of}
use Rattle.words.proofs.Promises.{number_small}

-- ---- the numbers of a line

abbrev Small : ℕ → Type 0
Small n = n < number_end

values_small : (labels rest : List ℕ) → All Small (fields_in labels rest).values
values_small [] rest = go (wordless rest)
  where
    go : (t : Bool) → All Small (cond t (faulty 0) (faulty goes_on)).values
    go true = all_nil Small
    go false = all_nil Small
values_small (label ∷ labels) rest =
    go (same (first_word rest) (label_bytes label)) (number_of (first_word (after_word rest))) refl (values_small labels (after_word (after_word rest)))
  where
    x : Fields
    x = fields_in labels (after_word (after_word rest))

    go :
        (t : Bool) (number : Option ℕ) → number_of (first_word (after_word rest)) ≡ number → All Small x.values
        → All Small (cond t (field_in label number x) (faulty (word_missing label))).values
    go true None e more = all_nil Small
    go true (Some n) e more = all_cons n (number_small (first_word (after_word rest)) n e) more
    go false number e more = all_nil Small

number_at : (values : List ℕ) → All Small values → (i : ℕ) → Small (get_or values i 0)
number_at [] h i = omega arith
number_at (v ∷ values) h zero = h v (at_head refl)
number_at (v ∷ values) h (suc i) = number_at values (λ y k. h y (in_tail k)) i

-- ---- arrivals that fit

-- the length of a scenario with so many arrivals more
abbrev pub size_with : Plan → ℕ → ℕ
size_with p more = set_up_bytes + station_bytes * p.settings.n + arrival_bytes * (length p.arrivals + more) + run_bytes

-- what a test says of itself
itself : (t : Bool) → Whether (t ≡ true) t
itself true = holds refl
itself false = fails (λ e. clash e refl)

-- what refuses arrivals, as conditions
abbrev arrival_conditions : Plan → ℕ → ℕ → ℕ → ℕ → List (ℕ × Type 0)
arrival_conditions p address value long more =
    (306, 65_535 < address) ∷ (12, ¬ (value_fits p value ≡ true)) ∷ (13, Outside 1 longest_packet long) ∷ (22, most_bytes < size_with p more) ∷ []

pub arrival_tried :
    (p : Plan) (address value long more : ℕ) → Tried (arrival_tests p address value long more) (arrival_conditions p address value long more)
arrival_tried p address value long more =
    below 65_535 address
    then negated (itself (value_fits p value))
    then negated_twice (out_of 1 longest_packet long)
    then below most_bytes (size_with p more)
    then done

-- an arrival with such an address, value and length fits
arrival_fits :
    (time address value long : ℕ) → Small time → Small value → ¬ (65_535 < address) → ¬ (65_535 < long)
    → ArrivalFits (arrival_of time address value long)
arrival_fits time address value long t v a l = record { time = t; address = omega arith; value = v; length = omega arith }

-- repeated arrivals are as many as are to be, and each is the one of a time up to the last
repeated_count : (n time every : ℕ) (at : ℕ → Arrival) → length (repeated n time every at) ≡ n
repeated_count zero time every at = refl
repeated_count (suc n) time every at = ap suc (repeated_count n (time + every) every at)

repeated_each :
    (P : Arrival → Type 0) (last n time every : ℕ) (at : ℕ → Arrival) → ((t : ℕ) → t ≤ last → P (at t)) → time + n * every ≤ last + every
    → All P (repeated n time every at)
repeated_each P last zero time every at h k = all_nil P
repeated_each P last (suc n) time every at h k =
    all_cons (at time) (h time (omega arith)) (repeated_each P last n (time + every) every at h (omega arith))

-- where the last one's value fits, the values of those before it are small
value_small :
    (p : Plan) (value last time : ℕ) → Small value → value_fits p (value_at p.settings.discipline value last) ≡ true → time ≤ last
    → Small (value_at p.settings.discipline value time)
value_small p value last time v f h = go (equal d 1) f
  where
    d : ℕ
    d = p.settings.discipline

    go :
        {t : Bool} → Whether (d ≡ 1) t → value_is_fit (discipline_of d) p.settings.d (cond t (last + value) value) ≡ true
        → Small (cond t (time + value) value)
    go (holds e) k =
        let latest = leb-true (last + value) clock_end (subst (λ d. value_is_fit (discipline_of d) p.settings.d (last + value) ≡ true) e k) in
        omega arith
    go (fails n) k = v

-- ---- places

-- a bus comes first
pub bus_place : (stage n : ℕ) → place_fault stage n bus_line ≡ 0 → stage ≡ before_bus
bus_place stage n e = go (equal stage 0) (eqb stage 1) (eqb stage 2) (eqb n 0) e
  where
    go :
        {z : Bool} → Whether (stage ≡ 0) z → (o w u : Bool)
        → verdict z 0 (verdict o (cond u has_no_station no_record) (verdict w no_arrival_fault past_run)) ≡ 0 → stage ≡ 0
    go (holds e) o w u f = e
    go (fails n) true w true f = absurd (omega arith)
    go (fails n) true w false f = absurd (omega arith)
    go (fails n) false true u f = absurd (omega arith)
    go (fails n) false false u f = absurd (omega arith)

-- a station comes before arrivals
pub station_place : (stage n : ℕ) → place_fault stage n station_line ≡ 0 → stage ≡ in_stations
station_place stage n e = go (eqb stage 0) (equal stage 1) (eqb stage 2) e
  where
    go :
        (z : Bool) {o : Bool} → Whether (stage ≡ 1) o → (w : Bool)
        → verdict z no_bus (verdict o 0 (verdict w no_arrival_fault past_run)) ≡ 0 → stage ≡ 1
    go true o w f = absurd (omega arith)
    go false (holds e) w f = e
    go false (fails n) true f = absurd (omega arith)
    go false (fails n) false f = absurd (omega arith)

-- what comes later comes after a station
pub record Manned (p : Plan) : Type 0 where
  pub begun : 1 ≤ p.stage
  pub station : p.stage ≡ in_stations → 1 ≤ p.settings.n

pub later_place :
    (p : Plan) (kind : ℕ) → place_fault p.stage p.settings.n kind ≡ 0 → eqb kind bus_line ≡ false → eqb kind station_line ≡ false → Manned p
later_place p kind e b s =
    go
    (equal p.stage 0)
    (equal p.stage 1)
    (eqb p.stage 2)
    (equal p.settings.n 0)
    (is_arrival kind || eqb kind run_line)
    (rw (b, s) at e)
  where
    go :
        {z o u : Bool} → Whether (p.stage ≡ 0) z → Whether (p.stage ≡ 1) o → (w : Bool) → Whether (p.settings.n ≡ 0) u → (t : Bool)
        → verdict z no_bus (verdict o (cond t (cond u 6 0) (cond u has_no_station no_record)) (verdict w (cond t 0 no_arrival_fault) past_run)) ≡ 0
        → Manned p
    go (holds z) o w u t f = absurd (omega arith)
    go (fails z) (holds o) w (holds u) true f = absurd (omega arith)
    go (fails z) (holds o) w (holds u) false f = absurd (omega arith)
    go (fails z) (holds o) w (fails u) true f = record { begun = omega arith; station = λ k. omega arith }
    go (fails z) (holds o) w (fails u) false f = absurd (omega arith)
    go (fails z) (fails o) true u true f = record { begun = omega arith; station = λ k. absurd (o k) }
    go (fails z) (fails o) true u false f = absurd (omega arith)
    go (fails z) (fails o) false u t f = absurd (omega arith)

-- ---- steps

-- a line that says no arrivals, whatever the discipline
abbrev pub Silent : List ℕ → Type 0
Silent line = (d : ℕ) → arrivals_of d line ≡ []

-- what a line does to a plan
pub data Step (p : Plan) (line : List ℕ) (after : Plan) : Type 0 where
  by_nothing : after ≡ p → Silent line → Step p line after
  by_bus : (g : Settings) → after ≡ with_bus p g → p.stage ≡ before_bus → g.n ≡ 0 → Silent line → Step p line after
  by_station :
      (s : Asked) → after ≡ with_station p s → p.stage ≡ in_stations → p.settings.n < most_stations
      → (set_up_verdict (request_in (with_station p s))).refusal ≡ 0 → Silent line → Step p line after
  by_arrivals :
      (more : List Arrival) → after ≡ with_arrivals p more → Manned p → All ArrivalFits more → size_with p (length more) ≤ most_bytes
      → arrivals_of p.settings.discipline line ≡ more → Step p line after
  by_run : (steps : ℕ) → after ≡ with_run p steps → Manned p → steps < 65_536 → Silent line → Step p line after

-- what holds of both branches of a test
by_cond : {X : Type 0} (Q : X → Type 0) (t : Bool) {x y : X} → (t ≡ true → Q x) → (t ≡ false → Q y) → Q (cond t x y)
by_cond Q true f g = f refl
by_cond Q false f g = g refl

by_verdict : {X : Type 0} (Q : X → Type 0) (t : Bool) {x y : X} → (t ≡ true → Q x) → (t ≡ false → Q y) → Q (verdict t x y)
by_verdict Q true f g = f refl
by_verdict Q false f g = g refl

module _ (p : Plan) (line : List ℕ) where
  -- a line that is right goes on by a step
  abbrev Goes : Taken → Type 0
  Goes x = x.fault ≡ 0 → Step p line x.plan

  goes : (fault : ℕ) (before after : Plan) → (fault ≡ 0 → Step p line after) → Goes (taken fault before after)
  goes fault before after f e = subst (λ t. Step p line (cond t after before)) (sym (eq-eqb fault 0 e)) (f e)

  -- one that is wrong does not
  faults : (fault : ℕ) (before : Plan) → eqb fault 0 ≡ false → Goes (taken fault before before)
  faults fault before k e = absurd (eqb-false fault 0 k e)

  abbrev kind : ℕ
  kind = kind_of (first_word line)

  abbrev rest : List ℕ
  rest = after_word line

  abbrev place : ℕ
  place = place_fault p.stage p.settings.n kind

  placed : (k : ℕ) → kind ≡ k → place ≡ 0 → place_fault p.stage p.settings.n k ≡ 0
  placed k e f = ap (place_fault p.stage p.settings.n) (sym e) ∙ f

  -- a line of no such kind says no arrivals
  silent : eqb kind arrival_line ≡ false → eqb kind arrivals_line ≡ false → eqb kind attempt_line ≡ false → Silent line
  silent a b c d = simp (a, b, c)

  silent_kind : (k : ℕ) → kind ≡ k → eqb k arrival_line ≡ false → eqb k arrivals_line ≡ false → eqb k attempt_line ≡ false → Silent line
  silent_kind k e a b c = silent (ap (λ k. eqb k arrival_line) e ∙ a) (ap (λ k. eqb k arrivals_line) e ∙ b) (ap (λ k. eqb k attempt_line) e ∙ c)

  bus_line_taken : kind ≡ bus_line → place ≡ 0 → (discipline : ℕ) (x : Fields) → Goes (take_bus p discipline x)
  bus_line_taken k e discipline x =
      by_cond Goes (eqb discipline 3) (λ d f. absurd (omega arith)) λ d.
      by_cond Goes (eqb x.fault 0) (λ h. goes (bus_fault g) p (with_bus p g) (λ f. this)) (faults x.fault p)
    where
      g : Settings
      g = settings_said discipline x.values

      this : Step p line (with_bus p g)
      this = by_bus g refl (bus_place p.stage p.settings.n (placed bus_line k e)) refl (silent_kind bus_line k refl refl refl)

  -- ---- a line of another kind, whose numbers these are

  abbrev d : ℕ
  d = p.settings.discipline

  abbrev fields : Fields
  fields = fields_in (labels_of kind d) rest

  abbrev n : ℕ → ℕ
  n i = get_or fields.values i 0

  small : (i : ℕ) → Small (n i)
  small = number_at fields.values (values_small (labels_of kind d) rest)

  -- arrivals that the line says
  said : (k : ℕ) → kind ≡ k → arrivals_of d line ≡ arrivals_by k d fields.values
  said k e = ap (λ k. arrivals_by k d fields.values) e

  station_taken : kind ≡ station_line → place ≡ 0 → (s : Asked) → Goes (take_station p s)
  station_taken k e s = goes _ p (with_station p s) (go (leb most_stations p.settings.n) refl)
    where
      v : ℕ
      v = (set_up_verdict (request_in (with_station p s))).refusal

      go : (t : Bool) → leb most_stations p.settings.n ≡ t → cond t 6 v ≡ 0 → Step p line (with_station p s)
      go true l f = absurd (omega arith)
      go false l f =
          by_station
          s
          refl
          (station_place p.stage p.settings.n (placed station_line k e))
          (leb-false most_stations p.settings.n l)
          f
          (silent_kind station_line k refl refl refl)

  module _ (m : Manned p) where
    -- one arrival
    abbrev one : Arrival
    one = arrival_of (n 0) (n 1) (n 2) (n 3)

    take_one :
        ¬ (65_535 < n 1) → ¬ (65_535 < n 3) → ¬ (most_bytes < size_with p 1) → arrivals_of d line ≡ one ∷ [] → Step p line (with_arrivals p (one ∷ []))
    take_one a l s q =
        by_arrivals
        (one ∷ [])
        refl
        m
        (all_cons one (arrival_fits (n 0) (n 1) (n 2) (n 3) (small 0) (small 2) a l) (all_nil ArrivalFits))
        (omega arith)
        q

    arrival_taken : kind ≡ arrival_line → Goes (take_arrival p (n 0) (n 1) (n 2) (n 3))
    arrival_taken k =
        goes _ p _ λ f.
        let none = none_held 0 (λ v. v) (arrival_tried p (n 1) (n 2) (n 3) 1) refl f in
        let long = (inside none.1.1.0).1 in
        take_one none.0 (omega arith) none.1.1.1.0 (said arrival_line k)

    attempt_taken : kind ≡ attempt_line → Goes (take_attempt p (n 0) (n 1) (n 2) (n 3))
    attempt_taken k =
        goes _ p _ λ f.
        let none = none_held 0 (λ v. v) (below 65_535 (n 1) then below 65_535 (n 3) then below most_bytes (size_with p 1) then done) refl f in
        take_one none.0 none.1.0 none.1.1.0 (said attempt_line k)

    -- repeated ones
    arrivals_taken : kind ≡ arrivals_line → Goes (take_arrivals p (n 0) (n 1) (n 2) (n 3) (n 4) (n 5))
    arrivals_taken k =
        goes _ p _ λ f.
        let more : ℕ = later (n 0) (n 1) (n 2) in
        let last : ℕ = n 1 + more * n 0 in
        let at : ℕ → Arrival = λ time. arrival_of time (n 3) (value_at d (n 4) time) (n 5) in
        let none =
        none_held 0 (λ v. v) (equal (n 0) 0 then below (n 2) (n 1) then arrival_tried p (n 3) (value_at d (n 4) last) (n 5) (suc more)) refl f in
        let long = (inside none.1.1.1.1.0).1 in
        let within : last ≤ n 2 = omega (arith, div-mul-le_self (n 2 - n 1) (n 0), none.1.0) in
        let value = stable (itself (value_fits p (value_at d (n 4) last))) none.1.1.1.0 in
        by_arrivals
        _
        refl
        m
        (repeated_each
        ArrivalFits
        last
        (suc more)
        (n 1)
        (n 0)
        at
        (λ t h.
        arrival_fits
        t
        (n 3)
        (value_at d (n 4) t)
        (n 5)
        (omega (arith, small 2))
        (value_small p (n 4) last t (small 4) value h)
        none.1.1.0
        (omega arith))
        (omega arith))
        (omega (arith, none.1.1.1.1.1.0, repeated_count (suc more) (n 1) (n 0) at))
        (said arrivals_line k)

    run_line_taken : Silent line → Goes (take_run p (n 0))
    run_line_taken q = goes _ p _ (go (ltb 65_535 (n 0)) refl)
      where
        go : (t : Bool) → ltb 65_535 (n 0) ≡ t → cond t steps_large 0 ≡ 0 → Step p line (with_run p (n 0))
        go true l f = absurd (omega arith)
        go false l f = by_run (n 0) refl m (omega (arith, ltb-false 65_535 (n 0) l)) q

  said_taken : eqb kind bus_line ≡ false → place ≡ 0 → Goes (take_said p kind fields.values)
  said_taken b e =
      by_verdict Goes (eqb kind station_line) (λ k. station_taken (eqb-true kind station_line k) e _) λ s.
      let m = later_place p kind e b s in
      by_verdict Goes (eqb kind arrival_line) (λ k. arrival_taken m (eqb-true kind arrival_line k)) λ x.
      by_verdict Goes (eqb kind arrivals_line) (λ k. arrivals_taken m (eqb-true kind arrivals_line k)) λ y.
      by_verdict Goes (eqb kind attempt_line) (λ k. attempt_taken m (eqb-true kind attempt_line k)) λ z.
      run_line_taken m (silent x y z)

  kind_taken : place ≡ 0 → Goes (take_kind p kind rest)
  kind_taken e =
      by_cond Goes (eqb kind bus_line) (λ k. bus_line_taken (eqb-true kind bus_line k) e (discipline_named (first_word rest)) numbers) λ k.
      by_cond Goes (eqb fields.fault 0) (λ f. said_taken k e) (faults fields.fault p)
    where
      numbers : Fields
      numbers = fields_in (labels_of bus_line 0) (after_word rest)

  -- a line without a word
  no_word : wordless line ≡ true → Silent line
  no_word w = silent_kind 0 (ap kind_of (empty (first_word line) w)) refl refl refl
    where
      empty : (word : List ℕ) → same word [] ≡ true → word ≡ []
      empty [] e = refl
      empty (b ∷ word) e = clash e refl

  pub line_is_taken : Goes (take_line p line)
  line_is_taken =
      by_cond Goes (wordless line) (λ w f. by_nothing refl (no_word w)) λ w.
      by_cond Goes (eqb place 0) (λ e. kind_taken (eqb-true place 0 e)) (faults place p)
