-- Each line that is shown, read after those before it: it is no fault, and the plan has its record too. Assumes nothing.
use Prim.Native.Nat.{ℕ, zero, suc, ◌+◌, ◌*◌, ◌≤◌, ◌<◌}
use mathlib.Core.Path.{◌≡◌, refl, sym, ap, ap₂, ◌∙◌}
use mathlib.Core.Bool.{Bool, true, false, not, ◌||◌, cond}
use mathlib.Core.List.{List, [], ◌∷◌, ◌++◌}
use native.Mathlib.Omega.{arith}
use lib.Dec.{ltb, eqb}
use lib.ListN.{length}
use borrow.Author.Tests.{le-ltb, lt-leb, ne_eqb, eqb-false}
use Rattle.rules.specs.Lists.{first_of}
use Rattle.rules.specs.declared.Discipline.{Discipline}
use Rattle.rules.specs.declared.Discipline.TheVariants.{PRI, RTDG, RTVC}
use Rattle.rules.specs.Bus.{most_stations, code}
use Rattle.rules.specs.SetUp.{Asked, discipline_of, set_up_verdict}
use Rattle.rules.specs.Standing.{value_is_fit, length_fits}
use Rattle.rules.proofs.Laws.{and-true}
use Rattle.state.specs.declared.Arrival.{Arrival}
use Rattle.state.specs.declared.Settings.{Settings}
use Rattle.state.specs.SetUp.{request_with}
use Rattle.scenario.specs.Format.{set_up_kind}
use Rattle.scenario.specs.Reading.{most_bytes, set_up_bytes, station_bytes, arrival_bytes, run_bytes}
use Rattle.scenario.specs.Writing.{set_up_values, station_values, arrival_values, ArrivalFits}
use Rattle.scenario.proofs.WrittenRecords.{Fit}
use Rattle.text.specs.Text.{bytes, newline}
use Rattle.words.specs.Words.{while, in_line, in_word, lines_of, first_word, after_word, same}
use Rattle.words.proofs.Runs.{passes_append}
use Rattle.words.proofs.Lines.{lines_then}
use Rattle.words.proofs.Written.{word_then, after_then}
use Rattle.layout.specs.Layout.{bus_line, station_line, arrival_line, attempt_line, run_line, kind_of, discipline_named}
use Rattle.layout.specs.Layout.{d_label, address_label, capability_label, labels_of, address_large, length_large, steps_large, fields_in}
use Rattle.layout.specs.Layout.{in_stations, in_arrivals, Plan, start, Taken, taken}
use Rattle.layout.specs.Layout.{is_arrival, place_fault, counted, bus_fault, take_bus, with_station, take_station, inserted}
use Rattle.layout.specs.Layout.{with_arrivals, too_long, with_run, take_said, take_fields, take_kind, take_line, wrong, read_lines}
use Rattle.shown.specs.Shown.{fields_text, discipline_name, fits_ranges, arrival_word}
use Rattle.shown.proofs.FieldsRead.{Worded, Readable, fields-stop, fields_line, fields_read}

-- ---- a line before others

-- what becomes of a plan by a line without a fault
abbrev pub well : Plan → Taken
well q = record { fault = 0; plan = q }

pub read_line :
    (p q : Plan) (words rest : List ℕ) (line : ℕ) → while in_line words ≡ words → take_line p words ≡ well q
    → read_lines line p (lines_of (words ++ (newline ∷ rest))) ≡ read_lines (suc line) q (lines_of rest)
read_line p q words rest line one e =
    ap (read_lines line p) (lines_then words rest one)
    ∙ ap (λ (t : Taken). cond (eqb t.fault 0) (read_lines (suc line) t.plan (lines_of rest)) (wrong (suc line) t.fault)) e

-- ---- the word that a line begins with

-- a word of a kind, but of the bus
record Opens (text : List ℕ) (k : ℕ) : Type 0 where
  some_bytes : 0 < length text
  word : while in_word text ≡ text
  line : while in_line text ≡ text
  kind : kind_of text ≡ k
  other : eqb k bus_line ≡ false

opens_station : Opens (bytes "station") station_line
opens_station = record { some_bytes = omega arith; word = refl; line = refl; kind = refl; other = refl }

opens_arrival : Opens (bytes "arrival") arrival_line
opens_arrival = record { some_bytes = omega arith; word = refl; line = refl; kind = refl; other = refl }

opens_attempt : Opens (bytes "attempt") attempt_line
opens_attempt = record { some_bytes = omega arith; word = refl; line = refl; kind = refl; other = refl }

opens_run : Opens (bytes "run") run_line
opens_run = record { some_bytes = omega arith; word = refl; line = refl; kind = refl; other = refl }

-- a word is not empty
not_empty : (word : List ℕ) → 0 < length word → same word [] ≡ false
not_empty [] h = absurd (omega arith)
not_empty (b ∷ word) h = refl

module _ (word words ns : List ℕ) (kind : ℕ) (o : Opens word kind) (r : Readable words ns) where
  -- such a word and words with their numbers stand in one line
  opens_line : while in_line (word ++ fields_text words ns) ≡ word ++ fields_text words ns
  opens_line = passes_append in_line word (fields_text words ns) o.line (fields_line words ns r)

  -- where the kind has its place and these are its words, the line says the numbers
  opens_said :
      (p : Plan) → place_fault p.stage p.settings.n kind ≡ 0 → labels_of kind p.settings.discipline ≡ words
      → take_line p (word ++ fields_text words ns) ≡ take_said p kind ns
  opens_said p place labels =
      ap₂ by (word_then word rest o.some_bytes o.word stops) (after_then word rest o.some_bytes o.word stops)
      ∙ ap₂ (λ t k. cond t (taken 0 p p) (placed (place_fault p.stage p.settings.n k) k rest)) (not_empty word o.some_bytes) o.kind
      ∙ ap (λ fault. placed fault kind rest) place
      ∙ ap₂
      (λ t labels.
      cond t (take_bus p (discipline_named (first_word rest)) (fields_in (labels_of bus_line 0) (after_word rest))) (take_fields p kind (fields_in labels rest)))
      o.other
      labels
      ∙ ap (take_fields p kind) (fields_read words ns r)
    where
      rest : List ℕ
      rest = fields_text words ns

      stops : while in_word rest ≡ []
      stops = fields-stop words ns

      placed : ℕ → ℕ → List ℕ → Taken
      placed fault kind rest = cond (eqb fault 0) (take_kind p kind rest) (taken fault p p)

      by : List ℕ → List ℕ → Taken
      by word rest = cond (same word []) (taken 0 p p) (placed (place_fault p.stage p.settings.n (kind_of word)) (kind_of word) rest)

-- ---- the bus

-- the name of a discipline is a word, in one line, and names it
named_word : (x : Discipline) → while in_word (discipline_name x) ≡ discipline_name x
named_word PRI = refl
named_word RTDG = refl
named_word RTVC = refl

named_line : (x : Discipline) → while in_line (discipline_name x) ≡ discipline_name x
named_line PRI = refl
named_line RTDG = refl
named_line RTVC = refl

named_some : (x : Discipline) → 0 < length (discipline_name x)
named_some PRI = omega arith
named_some RTDG = omega arith
named_some RTVC = omega arith

named_back : (d : ℕ) → d ≤ 2 → discipline_named (discipline_name (discipline_of d)) ≡ d
named_back zero h = refl
named_back (suc zero) h = refl
named_back (suc (suc zero)) h = refl
named_back (suc (suc (suc d))) h = absurd (omega arith)

-- a plan after its bus, by its stage, how many stations it has, the stations and the arrivals
abbrev pub plan_of : Settings → ℕ → ℕ → List Asked → List Arrival → Plan
plan_of g stage n asked arrivals = record { stage = stage; settings = counted n g; asked = asked; arrivals = arrivals; steps = 0 }

abbrev pub bus_words : Settings → List ℕ
bus_words g = (bytes "bus " ++ discipline_name (discipline_of g.discipline)) ++ fields_text (labels_of bus_line 0) (g.d ∷ g.a ∷ g.q ∷ [])

module _ (g : Settings) (fits : Fit set_up_kind.widths (set_up_values (request_with g []))) where
  bus_readable : Readable (labels_of bus_line 0) (g.d ∷ g.a ∷ g.q ∷ [])
  bus_readable =
      let word : Worded d_label = (omega arith, refl, refl) in
      (word, fits.1.0, ((omega arith, refl, refl), fits.1.1.0, ((omega arith, refl, refl), omega (arith, fits.1.1.1.0), tt)))

  pub bus_one_line : while in_line (bus_words g) ≡ bus_words g
  bus_one_line =
      passes_append in_line (bytes "bus " ++ discipline_name (discipline_of g.discipline)) _
      (passes_append in_line (bytes "bus ") _ refl (named_line (discipline_of g.discipline)))
      (fields_line (labels_of bus_line 0) (g.d ∷ g.a ∷ g.q ∷ []) bus_readable)

  pub bus_taken : g.discipline ≤ 2 → bus_fault g ≡ 0 → take_line start (bus_words g) ≡ well (plan_of g in_stations 0 [] [])
  bus_taken known fine =
      ap₂ (λ w more. take_bus start (discipline_named w) (fields_in (labels_of bus_line 0) more))
      (word_then name rest (named_some x) (named_word x) (fields-stop (labels_of bus_line 0) ns))
      (after_then name rest (named_some x) (named_word x) (fields-stop (labels_of bus_line 0) ns))
      ∙ ap₂ (take_bus start) (named_back g.discipline known) (fields_read (labels_of bus_line 0) ns bus_readable)
      ∙ ap₂
      (λ t fault. cond t (taken 2 start start) (taken fault start (plan_of g in_stations 0 [] [])))
      (ne_eqb g.discipline 3 (λ e. omega arith))
      fine
    where
      x : Discipline
      x = discipline_of g.discipline

      name : List ℕ
      name = discipline_name x

      ns : List ℕ
      ns = g.d ∷ g.a ∷ g.q ∷ []

      rest : List ℕ
      rest = fields_text (labels_of bus_line 0) ns

-- ---- a station

-- what a station that is set up is held to: its numbers are of two bytes, and its capability is 0 but in RTVC
pub record StationFits (g : Settings) (s : Asked) : Type 0 where
  pub address : s.address < 65_536
  pub capability : s.capability < 65_536
  pub none : ¬ (g.discipline ≡ code RTVC) → s.capability ≡ 0

abbrev pub station_words : Settings → Asked → List ℕ
station_words g s = bytes "station" ++ fields_text (labels_of station_line g.discipline) (station_values s)

module _ (g : Settings) (s : Asked) (f : StationFits g s) where
  -- its words, by whether the discipline is RTVC
  abbrev words_by : Bool → List ℕ
  words_by t = cond t (address_label ∷ capability_label ∷ []) (address_label ∷ [])

  abbrev numbers_by : Bool → List ℕ
  numbers_by t = cond t (s.address ∷ s.capability ∷ []) (s.address ∷ [])

  station_readable : (t : Bool) → Readable (words_by t) (numbers_by t)
  station_readable true = ((omega arith, refl, refl), f.address, ((omega arith, refl, refl), omega (arith, f.capability), tt))
  station_readable false = ((omega arith, refl, refl), f.address, tt)

  -- the capability is not shown but in RTVC
  shown_by_test : (t : Bool) → fields_text (words_by t) (station_values s) ≡ fields_text (words_by t) (numbers_by t)
  shown_by_test true = refl
  shown_by_test false = refl

  pub station_one_line : while in_line (station_words g s) ≡ station_words g s
  station_one_line =
      let t = eqb g.discipline (code RTVC) in
      ap (λ text. while in_line (bytes "station" ++ text)) (shown_by_test t)
      ∙ opens_line (bytes "station") (words_by t) (numbers_by t) station_line opens_station (station_readable t)
      ∙ ap (λ text. bytes "station" ++ text) (sym (shown_by_test t))

  -- what the numbers say is the station
  station_said : (p : Plan) (t : Bool) → eqb g.discipline (code RTVC) ≡ t → take_said p station_line (numbers_by t) ≡ take_station p s
  station_said p true e = refl
  station_said p false e = ap (λ n. take_station p (record { address = s.address; capability = n })) (sym (f.none (eqb-false _ _ e)))

  pub station_was_taken :
      (n : ℕ) (xs : List Asked) → n < most_stations → (set_up_verdict (request_with (counted (suc n) g) (xs ++ (s ∷ [])))).refusal ≡ 0
      → take_line (plan_of g in_stations n xs []) (station_words g s) ≡ well (plan_of g in_stations (suc n) (xs ++ (s ∷ [])) [])
  station_was_taken n xs few accepted =
      ap (λ text. take_line p (bytes "station" ++ text)) (shown_by_test t)
      ∙ opens_said (bytes "station") (words_by t) (numbers_by t) station_line opens_station (station_readable t) p refl refl
      ∙ station_said p t refl
      ∙ ap₂ (λ b fault. taken (cond b 6 fault) p (with_station p s)) (lt-leb most_stations n few) accepted
    where
      t : Bool
      t = eqb g.discipline (code RTVC)

      p : Plan
      p = plan_of g in_stations n xs []

-- ---- an arrival

-- a stage at which arrivals and the run have their place, after n stations
abbrev pub Open : ℕ → ℕ → Type 0
Open stage n = (kind : ℕ) → (is_arrival kind || eqb kind run_line) ≡ true → place_fault stage n kind ≡ 0

pub open_stations : (n : ℕ) → 1 ≤ n → Open in_stations n
open_stations n some! kind e = rw (e, ne_eqb n 0 (λ z. omega arith))

pub open_arrivals : (n : ℕ) → Open in_arrivals n
open_arrivals n kind e = rw e

-- refusals none of which holds
none_of : (a b c d : Bool) → a ≡ false → b ≡ true → c ≡ true → d ≡ false
    → first_of 0 ((address_large, a) ∷ (12, not b) ∷ (13, not c) ∷ (22, d) ∷ []) ≡ 0
none_of a b c d e f g h = rw (e, f, g, h)

abbrev pub arrival_words : Settings → Arrival → List ℕ
arrival_words g a = arrival_word (fits_ranges g a) ++ fields_text (labels_of arrival_line g.discipline) (arrival_values a)

module _ (g : Settings) (a : Arrival) (f : ArrivalFits a) where
  arrival_readable : Readable (labels_of arrival_line g.discipline) (arrival_values a)
  arrival_readable = (
    (omega arith, refl, refl),
    f.time,
    (
      (omega arith, refl, refl),
      f.address,
      ((omega arith, refl, refl), f.value, ((omega arith, refl, refl), omega (arith, f.length), tt)),
    ),
  )

  pub arrival_one_line : while in_line (arrival_words g a) ≡ arrival_words g a
  arrival_one_line = go (fits_ranges g a)
    where
      words : List ℕ
      words = labels_of arrival_line g.discipline

      go : (t : Bool) → while in_line (arrival_word t ++ fields_text words (arrival_values a)) ≡ arrival_word t ++ fields_text words (arrival_values a)
      go true = opens_line (bytes "arrival") words (arrival_values a) arrival_line opens_arrival arrival_readable
      go false = opens_line (bytes "attempt") words (arrival_values a) attempt_line opens_attempt arrival_readable

  pub arrival_was_taken :
      (stage n : ℕ) (row : List Asked) (xs : List Arrival) → Open stage n
      → set_up_bytes + station_bytes * n + arrival_bytes * (length xs + 1) + run_bytes ≤ most_bytes → inserted a xs ≡ xs ++ (a ∷ [])
      → take_line (plan_of g stage n row xs) (arrival_words g a) ≡ well (plan_of g in_arrivals n row (xs ++ (a ∷ [])))
  arrival_was_taken stage n row xs place short last = go (fits_ranges g a) refl
    where
      p : Plan
      p = plan_of g stage n row xs

      words : List ℕ
      words = labels_of arrival_line g.discipline

      long : too_long p 1 ≡ false
      long = le-ltb most_bytes _ short

      address : ltb 65_535 a.address.0 ≡ false
      address = le-ltb 65_535 a.address.0 (omega (arith, f.address))

      then : (fault : ℕ) → fault ≡ 0 → taken fault p (with_arrivals p (a ∷ [])) ≡ well (plan_of g in_arrivals n row (xs ++ (a ∷ [])))
      then fault e = ap₂ (λ fault arrivals. taken fault p (plan_of g in_arrivals n row arrivals)) e last

      go :
          (t : Bool) → fits_ranges g a ≡ t
          → take_line p (arrival_word t ++ fields_text words (arrival_values a)) ≡ well (plan_of g in_arrivals n row (xs ++ (a ∷ [])))
      go true e =
          let both = and-true (value_is_fit (discipline_of g.discipline) g.d a.value) (length_fits a.length) e in
          opens_said (bytes "arrival") words (arrival_values a) arrival_line opens_arrival arrival_readable p (place arrival_line refl) refl
          ∙ then _ (none_of _ _ _ _ address both.0 both.1 long)
      go false e =
          opens_said (bytes "attempt") words (arrival_values a) attempt_line opens_attempt arrival_readable p (place attempt_line refl) refl
          ∙ then
          _
          (ap₂
          (λ t u. first_of 0 ((address_large, t) ∷ (length_large, u) ∷ (22, too_long p 1) ∷ []))
          address
          (le-ltb 65_535 a.length (omega (arith, f.length)))
          ∙ ap (λ t. first_of 0 ((22, t) ∷ [])) long)

-- ---- the run

abbrev pub run_words : ℕ → List ℕ
run_words steps = bytes "run" ++ fields_text (labels_of run_line 0) (steps ∷ [])

module _ (steps : ℕ) (few : steps < 65_536) where
  run_readable : Readable (labels_of run_line 0) (steps ∷ [])
  run_readable = ((omega arith, refl, refl), omega arith, tt)

  pub run_one_line : while in_line (run_words steps) ≡ run_words steps
  run_one_line = opens_line (bytes "run") (labels_of run_line 0) (steps ∷ []) run_line opens_run run_readable

  pub run_taken : (p : Plan) → Open p.stage p.settings.n → take_line p (run_words steps) ≡ well (with_run p steps)
  run_taken p place =
      opens_said (bytes "run") (labels_of run_line 0) (steps ∷ []) run_line opens_run run_readable p (place run_line refl) refl
      ∙ ap (λ t. taken (cond t steps_large 0) p (with_run p steps)) (le-ltb 65_535 steps (omega arith))
