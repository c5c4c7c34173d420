-- A scenario shown as a layout, record by record (docs/LAYOUT.md, 'A scenario shown'). The words before numbers, and which of them a line
-- has, are those by which a layout is read (layout/specs/Layout.antt). Assumes nothing.
use Rattle.std.specs.Prelude.{ℕ, zero, suc, ◌+◌, Bool, ◌&&◌, cond, List, [], ◌∷◌, ◌++◌, eqb, length, drop, Option, Some, None}
use Rattle.rules.specs.Lists.{first_of}
use Rattle.rules.specs.declared.Discipline.{Discipline}
use Rattle.rules.specs.declared.Discipline.TheVariants.{PRI, RTDG, RTVC}
use Rattle.rules.specs.SetUp.{Asked, Request, discipline_of}
use Rattle.rules.specs.Standing.{value_is_fit, length_fits}
use Rattle.state.specs.declared.Arrival.{Arrival}
use Rattle.state.specs.declared.Settings.{Settings}
use Rattle.scenario.specs.Format.{set_up_kind, station_kind, arrival_kind, run_kind, Said, read_record}
use Rattle.scenario.specs.Reading.{set_up_bytes, station_bytes, arrival_bytes, settings_from, asked_from, arrival_from, steps_from}
use Rattle.scenario.specs.Writing.{set_up_values, station_values, arrival_values, run_values}
use Rattle.text.specs.Text.{bytes, space, newline, decimal}
use Rattle.layout.specs.Layout.{bus_line, station_line, arrival_line, run_line, address_label, label_bytes, labels_of}
use Rattle.words.specs.Words.{label}
pub use Rattle.shown.specs.declared.Shown.{Shown}

-- ---- a line

-- 'addresses as 0x and four capital digits, all other numbers in decimal': a number by the word before it
abbrev pub number_text : ℕ → ℕ → List ℕ
number_text word n = cond (eqb word address_label) (label n) (decimal n)

-- each word with its number, 'one space between words'; numbers past the last word are not shown
abbrev pub fields_text : List ℕ → List ℕ → List ℕ
fields_text [] values = []
fields_text (word ∷ words) [] = []
fields_text (word ∷ words) (value ∷ values) =
    (space ∷ label_bytes word) ++ ((space ∷ number_text word value) ++ fields_text words values)

-- what a line begins with, its words with their numbers, and a newline
abbrev pub line_text : List ℕ → List ℕ → List ℕ → List ℕ
line_text opening words values = (opening ++ fields_text words values) ++ (newline ∷ [])

-- ---- the line of each record

abbrev pub discipline_name : Discipline → List ℕ
discipline_name PRI = bytes "PRI"
discipline_name RTDG = bytes "RTDG"
discipline_name RTVC = bytes "RTVC"

abbrev pub bus_text : Settings → List ℕ
bus_text g =
    line_text (bytes "bus " ++ discipline_name (discipline_of g.discipline)) (labels_of bus_line 0) (g.d ∷ g.a ∷ g.q ∷ [])

-- a station; its capability in RTVC alone
abbrev pub station_text : Settings → Asked → List ℕ
station_text g s = line_text (bytes "station") (labels_of station_line g.discipline) (station_values s)

-- whether an arrival's value and length are in their ranges
abbrev pub fits_ranges : Settings → Arrival → Bool
fits_ranges g a = value_is_fit (discipline_of g.discipline) g.d a.value && length_fits a.length

-- 'An arrival whose value or length is outside its range is an attempt.'
abbrev pub arrival_word : Bool → List ℕ
arrival_word fits = cond fits (bytes "arrival") (bytes "attempt")

abbrev pub arrival_text : Settings → Arrival → List ℕ
arrival_text g a = line_text (arrival_word (fits_ranges g a)) (labels_of arrival_line g.discipline) (arrival_values a)

abbrev pub run_text : ℕ → List ℕ
run_text steps = line_text (bytes "run") (labels_of run_line 0) (run_values steps)

-- ---- all lines: 'a line for each record, in order'

abbrev pub station_lines : Settings → List Asked → List ℕ
station_lines g [] = []
station_lines g (s ∷ later) = station_text g s ++ station_lines g later

-- the arrivals, and then the run
abbrev pub ending_lines : Settings → List Arrival → ℕ → List ℕ
ending_lines g [] steps = run_text steps
ending_lines g (a ∷ later) steps = arrival_text g a ++ ending_lines g later steps

abbrev pub settings_of : Request → Settings
settings_of r = settings_from (set_up_values r)

abbrev pub layout_of : Request → List Arrival → ℕ → List ℕ
layout_of r arrivals steps =
    bus_text (settings_of r) ++ (station_lines (settings_of r) r.row ++ ending_lines (settings_of r) arrivals steps)

-- ---- what the code shows: the record at an offset of the input

-- its line, and the offset of the next record; or nothing, and 0
pub record Line : Type 0 where
  pub text : List ℕ
  pub next : ℕ

abbrev pub line_then : List ℕ → ℕ → Line
line_then text next = record { text = text; next = next }

-- by what it says, where a set-up has these numbers; after the run comes nothing
abbrev pub line_of : Settings → ℕ → Said → Line
line_of g at x =
    first_of
    (line_then [] 0)
    ((line_then (bus_text (settings_from x.values)) (at + set_up_bytes), eqb x.kind set_up_kind.kind)
    ∷ (line_then (station_text g (asked_from x.values)) (at + station_bytes), eqb x.kind station_kind.kind)
    ∷ (line_then (arrival_text g (arrival_from x.values)) (at + arrival_bytes), eqb x.kind arrival_kind.kind)
    ∷ (line_then (run_text (steps_from x.values)) 0, eqb x.kind run_kind.kind)
    ∷ [])

-- the set-up is the input's first record
abbrev pub shown_at : List ℕ → ℕ → Line
shown_at input at =
    cond
    (eqb (read_record input).kind set_up_kind.kind)
    (line_of (settings_from (read_record input).values) at (read_record (drop at input)))
    (line_then [] 0)

-- the next record's offset; none where it is 0, which is the first record's and never a next one's
abbrev pub next_of : ℕ → Option ℕ
next_of next = cond (eqb next 0) None (Some next)

-- what the code's answer says
abbrev pub shown_form : Line → Shown
shown_form l = record { length = length l.text; next = next_of l.next }

-- ---- the whole input, line by line

-- the lines from an offset on, so many at the most
abbrev pub shown_from : ℕ → List ℕ → ℕ → List ℕ
shown_from zero input at = []
shown_from (suc most) input at =
    (shown_at input at).text ++ cond (eqb (shown_at input at).next 0) [] (shown_from most input (shown_at input at).next)
