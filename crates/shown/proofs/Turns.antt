-- The lines of a good scenario's bytes, one call after the other, are its layout. Assumes nothing.
use Prim.Native.Nat.{ℕ, zero, suc, ◌+◌, ◌≤◌, ◌<◌}
use mathlib.Core.Path.{◌≡◌, refl, sym, ap, ap₂, ◌∙◌}
use mathlib.Core.Bool.{cond}
use mathlib.Core.List.{List, [], ◌∷◌, ◌++◌, append_assoc, append-nil}
use native.Mathlib.Omega.{arith}
use lib.Dec.{eqb}
use lib.ListN.{length, drop}
use lib.Seq.{drop-drop}
use borrow.Author.Tests.{ne_eqb}
use Rattle.rules.specs.Lists.{at_head, in_tail, All}
use Rattle.rules.specs.SetUp.{Asked, Request}
use Rattle.state.specs.declared.Arrival.{Arrival}
use Rattle.state.specs.declared.Settings.{Settings}
use Rattle.scenario.specs.Format.{Kind, set_up_kind, station_kind, arrival_kind, run_kind, Said, read_record}
use Rattle.scenario.specs.Reading.{set_up_bytes, station_bytes, arrival_bytes, settings_from, accepted, reading}
use Rattle.scenario.specs.Writing.{record_bytes, set_up_values, station_values, arrival_values, run_values, stations_bytes, ending_bytes, written}
use Rattle.scenario.specs.Writing.{Bytes, ArrivalFits, Good}
use Rattle.scenario.proofs.WrittenRecords.{Fit, InTable, set_up_row, station_row, arrival_row, run_row, past_record, record_read}
use Rattle.scenario.proofs.Written.{StationFits, set_up_fits, stations_fit, arrival_fit, accepted_only}
use Rattle.layout.specs.Layout.{says, layout_says}
use Rattle.shown.specs.Shown.{bus_text, station_text, arrival_text, run_text, station_lines, ending_lines, settings_of, layout_of}
use Rattle.shown.specs.Shown.{Line, line_then, line_of, shown_at, shown_from}
use Rattle.shown.proofs.RoundTrip.{written_count, shown_back}

-- an input whose first record is a set-up with these numbers
module _ (input : List ℕ) (r : Request) (first : read_record input ≡ record { refusal = 0; kind = set_up_kind.kind; values = set_up_values r }) where
  abbrev g : Settings
  g = settings_of r

  -- what is shown of a record that stands at an offset before other bytes
  here :
      (at : ℕ) (row : Kind) (vs more : List ℕ) → InTable row → Fit row.widths vs → drop at input ≡ record_bytes row vs ++ more
      → shown_at input at ≡ line_of g at (record { refusal = 0; kind = row.kind; values = vs })
  here at row vs more known fits e =
      ap (λ (x : Said). cond (eqb x.kind 1) (line_of (settings_from x.values) at (read_record (drop at input))) (line_then [] 0)) first
      ∙ ap (line_of g at) (ap read_record e ∙ record_read row vs more known fits)

  -- what comes after it stands past its bytes
  past :
      (at : ℕ) (row : Kind) (vs more : List ℕ) → InTable row → Fit row.widths vs → drop at input ≡ record_bytes row vs ++ more
      → drop (at + (2 + row.length)) input ≡ more
  past at row vs more known fits e =
      sym (drop-drop (2 + row.length) at input) ∙ ap (drop (2 + row.length)) e ∙ past_record row vs more known fits

  -- its line, and those from the next record on
  on :
      (most at next : ℕ) (text lines : List ℕ) → shown_at input at ≡ line_then text next → 0 < next → shown_from most input next ≡ lines
      → shown_from (suc most) input at ≡ text ++ lines
  on most at next text lines e some! later =
      ap (λ (l : Line). l.text ++ cond (eqb l.next 0) [] (shown_from most input l.next)) e
      ∙ ap₂ (λ t (lines : List ℕ). text ++ cond t [] lines) (ne_eqb next 0 (λ z. omega arith)) later

  ending_shown :
      (arrivals : List Arrival) (steps most at : ℕ) → length arrivals < most → All ArrivalFits arrivals → steps < 65_536
      → drop at input ≡ ending_bytes arrivals steps → shown_from most input at ≡ ending_lines g arrivals steps
  ending_shown arrivals steps zero at enough fit few e = absurd (omega arith)
  ending_shown [] steps (suc most) at enough fit few e =
      ap
      (λ (l : Line). l.text ++ cond (eqb l.next 0) [] (shown_from most input l.next))
      (here at run_kind (run_values steps) [] run_row (few, tt) e)
      ∙ append-nil (run_text steps)
  ending_shown (a ∷ later) steps (suc most) at enough fit few e =
      let fits = arrival_fit a (fit a (at_head refl)) in
      on most at (at + arrival_bytes) (arrival_text g a) (ending_lines g later steps)
      (here at arrival_kind (arrival_values a) (ending_bytes later steps) arrival_row fits e)
      (omega arith)
      (ending_shown later steps most (at + arrival_bytes) (omega arith) (λ x i. fit x (in_tail i)) few
      (past at arrival_kind (arrival_values a) (ending_bytes later steps) arrival_row fits e))

  stations_shown :
      (row : List Asked) (arrivals : List Arrival) (steps most at : ℕ) → length row + length arrivals < most → All StationFits row
      → All ArrivalFits arrivals → steps < 65_536 → drop at input ≡ stations_bytes row ++ ending_bytes arrivals steps
      → shown_from most input at ≡ station_lines g row ++ ending_lines g arrivals steps
  stations_shown row arrivals steps zero at enough fits fit few e = absurd (omega arith)
  stations_shown [] arrivals steps (suc most) at enough fits fit few e = ending_shown arrivals steps (suc most) at (omega arith) fit few e
  stations_shown (s ∷ later) arrivals steps (suc most) at enough fits fit few e =
      let more = stations_bytes later ++ ending_bytes arrivals steps in
      let stands = e ∙ append_assoc (record_bytes station_kind (station_values s)) (stations_bytes later) (ending_bytes arrivals steps) in
      on most at (at + station_bytes) (station_text g s) (station_lines g later ++ ending_lines g arrivals steps)
      (here at station_kind (station_values s) more station_row (fits s (at_head refl)) stands)
      (omega arith)
      (stations_shown later arrivals steps most (at + station_bytes) (omega arith) (λ x i. fits x (in_tail i)) fit few
      (past at station_kind (station_values s) more station_row (fits s (at_head refl)) stands))
      ∙ sym (append_assoc (station_text g s) (station_lines g later) (ending_lines g arrivals steps))

-- The lines of a good scenario's bytes, from the first record on to the next until there is none, are its layout. There is a line for each
-- record, so that as many calls are enough.
pub shown_turns :
    (r : Request) (arrivals : List Arrival) (steps most : ℕ) → Good r arrivals steps → length r.row + length arrivals + 2 ≤ most
    → shown_from most (written r arrivals steps) 0 ≡ layout_of r arrivals steps
shown_turns r arrivals steps zero good enough = absurd (omega arith)
shown_turns r arrivals steps (suc most) good enough =
    on input r first most 0 set_up_bytes (bus_text (settings_of r)) _ (here input r first 0 set_up_kind (set_up_values r) behind set_up_row fits refl)
    (omega arith)
    (stations_shown input r first r.row arrivals steps most set_up_bytes (omega arith) (stations_fit r good.set_up_call good.stations) good.fit
    good.few (past input r first 0 set_up_kind (set_up_values r) behind set_up_row fits refl))
  where
    input : List ℕ
    input = written r arrivals steps

    behind : List ℕ
    behind = stations_bytes r.row ++ ending_bytes arrivals steps

    fits : Fit set_up_kind.widths (set_up_values r)
    fits = set_up_fits r good.set_up_call

    first : read_record input ≡ record { refusal = 0; kind = set_up_kind.kind; values = set_up_values r }
    first = record_read set_up_kind (set_up_values r) behind set_up_row fits

-- So any accepted input of bytes that is shown and read back is the same, by as many calls as it has bytes.
pub accepted_back :
    (input : List ℕ) (r : Request) (arrivals : List Arrival) (steps most : ℕ) → Bytes input → reading input ≡ accepted r arrivals steps
    → length input ≤ most → layout_says (shown_from most input 0) ≡ says r arrivals steps
accepted_back input r arrivals steps most b e enough =
    let wrote = accepted_only input r arrivals steps b e in
    let long = ap length wrote.0 ∙ written_count r arrivals steps in
    ap (λ (l : List ℕ). layout_says (shown_from most l 0)) wrote.0
    ∙ ap layout_says (shown_turns r arrivals steps most wrote.1 (omega arith))
    ∙ shown_back r arrivals steps wrote.1
