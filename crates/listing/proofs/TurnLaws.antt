-- The turns of a run as the code makes them: the text in the room and the play, put together from what the calls answer. Assumes nothing.
use Prim.Native.Nat.{ℕ, zero, suc, ◌+◌, ◌-◌, ◌*◌, ◌≤◌, ◌<◌}
use mathlib.Core.Path.{◌≡◌, refl, sym, ap, ap₂, ◌∙◌, subst}
use mathlib.Core.Logic.{◌⊎◌, inl, inr}
use mathlib.Core.Bool.{Bool, true, false, not}
use mathlib.Core.List.{List, [], ◌∷◌, ◌++◌, append_assoc, append-nil}
use native.Mathlib.Nat.{zero-add}
use native.Mathlib.Omega.{arith}
use lib.Dec.{leb}
use native.Mathlib.Numerals.{add-one}
use lib.ListN.{length, get_or, take, replicate}
use lib.Seq.{take-suc, take-append_seam}
use borrow.Author.Tests.{eq-eqb, ne_eqb}
use Rattle.state.specs.declared.State.{State}
use Rattle.state.specs.declared.Arrival.{Arrival}
use Rattle.bus.specs.declared.Arrivals.{Arrivals}
use Rattle.bus.specs.declared.Report.{Report}
use Rattle.bus.specs.declared.Stretch.{Stretch}
use Rattle.bus.specs.Coded.{totals_of}
use Rattle.bus.specs.Stretch.{row_places, most_calls, course, no_report, stretch_of, stretch_form, no_arrival}
use Rattle.scenario.specs.Reading.{arrival_bytes}
use Rattle.text.specs.Text.{space, decimal, fields}
use Rattle.text.specs.Room.{room_bytes, room_with}
use Rattle.text.proofs.Stores.{sets_start}
use Rattle.listing.specs.Turns.{Play, Turn, Outcome, says, next_arrivals, arrivals_form, report_text, reports_text, course_of, stretched}
use Rattle.listing.specs.Turns.{closed_by, turn, turn_form}
use Rattle.listing.specs.Parts.{TurnTold}
use Rattle.listing.proofs.Gathered.{found_few, bytes_within}
use Rattle.listing.proofs.Played.{bounds_of}

-- a test that was turned round
pub flipped : {b t : Bool} → not b ≡ t → b ≡ not t
flipped {b = true} e = ap not e
flipped {b = false} e = ap not e

-- ---- the text in the room

-- a text of reports with one report more
pub one_report : (reports : List Report) (r : Report) → reports_text (reports ++ (r ∷ [])) ≡ reports_text reports ++ report_text r
one_report [] r = append-nil (report_text r)
one_report (x ∷ reports) r =
    ap (λ (text : List ℕ). report_text x ++ text) (one_report reports r) ∙ sym (append_assoc (report_text x) (reports_text reports) (report_text r))

pub reports_turn :
    (reports : List Report) (i : ℕ) → i < length reports
    → reports_text (take (i + 1) reports) ≡ reports_text (take i reports) ++ report_text (get_or reports i no_report)
reports_turn reports i h =
    ap (λ k. reports_text (take k reports)) (add-one i)
    ∙ ap reports_text (take-suc reports i no_report h)
    ∙ one_report (take i reports) (get_or reports i no_report)

-- numbers after a space each, with one number more
one_field : (ns : List ℕ) (n : ℕ) → fields (ns ++ (n ∷ [])) ≡ fields ns ++ (space ∷ decimal n)
one_field [] n = append-nil (space ∷ decimal n)
one_field (x ∷ ns) n =
    ap (λ (text : List ℕ). (space ∷ decimal x) ++ text) (one_field ns n) ∙ sym (append_assoc (space ∷ decimal x) (fields ns) (space ∷ decimal n))

pub fields_turn :
    (ns : List ℕ) (i : ℕ) → i < length ns → fields (take (i + 1) ns) ≡ fields (take i ns) ++ (space ∷ decimal (get_or ns i 0))
fields_turn ns i h =
    ap (λ k. fields (take k ns)) (add-one i) ∙ ap fields (take-suc ns i 0 h) ∙ one_field (take i ns) (get_or ns i 0)

-- a turn whose text was told at the start of the room is what it comes to, and the room has the text over its start
pub turn-of :
    {before after : List ℕ} {t : Turn} {o o' : Outcome} → o ≡ o' → TurnTold before after t o
    → (t ≡ turn_form o') × ((after ≡ room_with o'.text before) × (t.length ≤ room_bytes))
turn-of {before} {after} {t} {o} {o'} e x =
    let many : t.length ≡ length o.text = x.told.past ∙ zero-add (length o.text) in
    subst
    (λ (y : Outcome). (t ≡ turn_form y) × ((after ≡ room_with y.text before) × (t.length ≤ room_bytes)))
    e (
      ap₂ (λ (n : ℕ) (p : Play). record { length = n; play = p }) many x.play,
      (x.told.room ∙ sets_start before o.text, omega (arith, x.told.few)),
    )

-- ---- which turn it is

-- a run that is over hands out nothing
pub turn_over : (input : List ℕ) (p : Play) → p.going ≡ false → says [] p ≡ turn input p
turn_over input p stopped = sym (simp stopped refl)

-- a run that goes on with no steps left ends
pub turn_ends : (input : List ℕ) (p : Play) → p.going ≡ true → p.steps ≡ 0 → closed_by p.state (totals_of p.state) ≡ turn input p
turn_ends input p going none = sym (simp going (simp (eq-eqb p.steps 0 none) refl))

-- a run that goes on with steps left makes a stretch
pub turn_goes_on : (input : List ℕ) (p : Play) → p.going ≡ true → ¬ (p.steps ≡ 0) → stretched input p ≡ turn input p
turn_goes_on input p going some = sym (simp going (simp (ne_eqb p.steps 0 some) refl))

-- ---- a stretch

-- the stretch of arrivals in a row is that of the arrivals
stretch_of_form : (s : State) (arrivals : List Arrival) (steps : ℕ) → stretch_of s (arrivals_form arrivals) steps ≡ course most_calls s arrivals (leb row_places (length arrivals)) steps
stretch_of_form s arrivals steps =
    ap
    (λ (os : List Arrival). course most_calls s os (leb row_places (length arrivals)) steps)
    (take-append_seam arrivals (replicate (row_places - length arrivals) no_arrival))

module _ (input : List ℕ) (p : Play) where
  abbrev found : List Arrival
  found = next_arrivals input p.at

  -- what the call of a stretch hands back
  pub stretch_is :
      (arrivals : Arrivals) (x : Stretch) → arrivals ≡ arrivals_form found → x ≡ stretch_form (stretch_of p.state arrivals p.steps)
      → x ≡ stretch_form (course_of found p)
  stretch_is arrivals x e f =
      f ∙ ap (λ (a : Arrivals). stretch_form (stretch_of p.state a p.steps)) e ∙ ap stretch_form (stretch_of_form p.state found p.steps)

  module _ (x : Stretch) (is : x ≡ stretch_form (course_of found p)) where
    pub taken_few : x.taken ≤ 64
    taken_few =
        let same = ap (λ (y : Stretch). y.taken) is in
        omega (arith, same, (bounds_of found p).taken, found_few row_places input p.at)

    -- the next record is where the last one was, or within the input
    pub taken_within : (p.at + arrival_bytes * x.taken ≤ p.at) ⊎ (p.at + arrival_bytes * x.taken ≤ length input)
    taken_within = go x.taken (subst (λ (n : ℕ). n ≤ length found) (sym (ap (λ (y : Stretch). y.taken) is)) bound)
      where
        bound : (course_of found p).taken ≤ length found
        bound = (bounds_of found p).taken

        go : (n : ℕ) → n ≤ length found → (p.at + arrival_bytes * n ≤ p.at) ⊎ (p.at + arrival_bytes * n ≤ length input)
        go zero few = inl (omega arith)
        go (suc n) few = inr (bytes_within row_places input p.at (suc n) (omega arith) few)
