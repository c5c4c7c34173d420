-- The texts that the library hands out, turn by turn, are the listing, whatever the input; each turn takes from the turns that are left,
-- so that the run is over at last. Assumes nothing.
use Prim.Native.Nat.{ℕ, zero, suc, ◌+◌, ◌-◌, ◌*◌, ◌≤◌, ◌<◌}
use mathlib.Core.Path.{◌≡◌, refl, sym, ap, ◌∙◌, subst}
use mathlib.Core.Bool.{Bool, true, false, cond}
use mathlib.Core.List.{List, [], ◌++◌, append-nil}
use native.Mathlib.Omega.{arith}
use lib.Dec.{eqb, leb}
use lib.ListN.{length, drop}
use borrow.Author.Tests.{eq-eqb, ne_eqb, leb-false}
use Rattle.rules.specs.Bus.{Bus, nothing}
use Rattle.rules.specs.Standing.{Standing}
use Rattle.rules.specs.SetUp.{Request, set_up}
use Rattle.rules.specs.Closing.{totals, refused_totals}
use Rattle.rules.proofs.Tests.{told}
use Rattle.rules.proofs.Standing as Rules
use Rattle.rules.proofs.Keeps.{keeps_standing}
use Rattle.state.specs.declared.State.{State}
use Rattle.bus.specs.declared.Totals.{Totals}
use Rattle.state.specs.declared.Arrival.{Arrival}
use Rattle.state.specs.State.{form}
use Rattle.bus.specs.Coded.{totals_form, totals_of}
use Rattle.bus.specs.Stretch.{row_places, Course, most_calls, course}
use Rattle.state.proofs.Form.{standing_fits}
use Rattle.bus.proofs.Coded.{coded_closing_form}
use Rattle.scenario.specs.Reading.{arrival_bytes, Reading, refused, accepted, reading, station_offset, scenario_form}
use Rattle.scenario.specs.Parts.{ArrivalsAt}
use Rattle.scenario.proofs.Sound.{Sound, sound}
use Rattle.listing.specs.Text.{refused_text}
use Rattle.listing.specs.Run.{closing_text, run_text, listing_of, listing}
use Rattle.listing.specs.Turns.{Play, Outcome, says, over, opened_by, opened, next_arrivals, reports_text, course_of, stretched}
use Rattle.listing.specs.Turns.{closed_by, turn, handed, turns_left, played}
use Rattle.listing.proofs.Gathered.{bytes_within, Found, found_here}
use Rattle.listing.proofs.Played.{bounds_of, course_moves, Runs, course_runs}

-- ---- the turns that are left

-- a stretch of a play that has steps left
module _ (input : List ℕ) (p : Play) (steps : ℕ) (still : p.steps ≡ suc steps) where
  abbrev found : List Arrival
  found = next_arrivals input p.at

  abbrev taken : ℕ
  taken = (course_of found p).taken

  abbrev left : ℕ
  left = (course_of found p).left

  -- it takes no more arrivals than were found, and leaves no more steps than there were
  takes : taken ≤ length found
  takes = (bounds_of found p).taken

  leaves : left ≤ suc steps
  leaves = subst (λ (n : ℕ). left ≤ n) still (bounds_of found p).left

  -- where none was found, there are no more; so it takes an arrival, or makes a step
  none_more : found ≡ [] → leb row_places (length found) ≡ false
  none_more e = ap (λ (os : List Arrival). leb row_places (length os)) e

  moves : left < suc steps + taken
  moves =
      subst
      (λ (n : ℕ).
      (course most_calls p.state found (leb row_places (length found)) n).left
      < suc steps + (course most_calls p.state found (leb row_places (length found)) n).taken)
      (sym still)
      (course_moves 511 p.state found (leb row_places (length found)) steps none_more)

  -- and so fewer turns are left
  pub fewer : left + (length input - (p.at + arrival_bytes * taken)) < suc steps + (length input - p.at)
  fewer = by_taken taken takes leaves moves
    where
      by_taken :
          (n : ℕ) → n ≤ length found → left ≤ suc steps → left < suc steps + n
          → left + (length input - (p.at + arrival_bytes * n)) < suc steps + (length input - p.at)
      by_taken zero few most moved = omega arith
      by_taken (suc n) few most moved = let within = bytes_within row_places input p.at (suc n) (omega arith) few in omega arith

-- each turn of a run that goes on takes one of them at least, whatever the play
pub falls : (input : List ℕ) (p : Play) → p.going ≡ true → turns_left input (turn input p).play < turns_left input p
falls input p e = simp e (by_steps p.steps refl)
  where
    by_steps :
        (n : ℕ) → p.steps ≡ n
        → turns_left input (cond (eqb p.steps 0) (closed_by p.state (totals_of p.state)) (stretched input p)).play
        < suc (p.steps + (length input - p.at))
    by_steps zero k = simp (eq-eqb p.steps 0 k) (omega arith)
    by_steps (suc n) k = simp (ne_eqb p.steps 0 (λ z. omega arith)) (omega (arith, fewer input p n k))

-- a play whose turns are used up does not go on
used_up : (input : List ℕ) (p : Play) → turns_left input p ≤ 0 → p.going ≡ false
used_up input p = go p.going
  where
    go : (t : Bool) → cond t (suc (p.steps + (length input - p.at))) 0 ≤ 0 → t ≡ false
    go true h = absurd (omega arith)
    go false h = refl

-- a play that is over stays as it is
stays : (input : List ℕ) (p : Play) → p.going ≡ false → (turn input p).play ≡ p
stays input p e = simp e

-- any play is over at last
pub over_at_last_any : (input : List ℕ) (p : Play) (turns : ℕ) → turns_left input p ≤ turns → (played turns input p).going ≡ false
over_at_last_any input p zero h = used_up input p h
over_at_last_any input p (suc turns) h = over_at_last_any input (turn input p).play turns (fewer p.going refl)
  where
    fewer : (t : Bool) → p.going ≡ t → turns_left input (turn input p).play ≤ turns
    fewer true e = let f = falls input p e in omega arith
    fewer false e = rw (stays input p e) (rw e (omega arith))

-- and so is the run of a scenario
pub over_at_last :
    (input : List ℕ) (turns : ℕ) → turns_left input (opened input).play ≤ turns → (played turns input (opened input).play).going ≡ false
over_at_last input = over_at_last_any input (opened input).play

-- ---- the play of a run

-- the play that has a bus
abbrev pub playing : Bus → ℕ → ℕ → Play
playing b at steps = record { state = form b; at = at; steps = steps; going = true }

-- a run that is over says nothing more
ended : (turns : ℕ) (input : List ℕ) (o : Outcome) → o.play.going ≡ false → handed turns input o ≡ o.text
ended zero input o e = refl
ended (suc turns) input o e = rw e (append-nil o.text)

-- the numbers of a bus, by whether it stands
abbrev pub totals_by : Bool → Bus → Totals
totals_by t b = totals_form (cond t (totals b) (refused_totals 1))

-- the state of a bus that stands has the numbers of the bus
pub totals_of_form : (b : Bus) → Standing b → totals_of (form b) ≡ totals_by true b
totals_of_form b h =
    ap totals_form (coded_closing_form b (standing_fits b h)) ∙ ap (λ t. totals_by t b) (told (Rules.stands_exactly b) h)

-- and the last line, which says them
closed_text : (b : Bus) → Standing b → (closed_by (form b) (totals_of (form b))).text ≡ closing_text b
closed_text b h = ap (λ t. (closed_by (form b) t).text) (totals_of_form b h)

module _ (input : List ℕ) where
  -- A stretch from the state of a bus that stands is one of its run, by the arrivals that stand in the input from an offset on; and past
  -- those taken stand the rest.
  module _ (b : Bus) (at steps : ℕ) (arrivals : List Arrival) (h : Standing b) (here : ArrivalsAt input at arrivals) where
    abbrev stretch : Course
    stretch = course_of (next_arrivals input at) (playing b at steps)

    first : Found input at row_places (next_arrivals input at) arrivals
    first = found_here row_places input at arrivals here

    pub stretch_runs : Runs b arrivals steps stretch
    stretch_runs =
        subst (λ (os : List Arrival). Runs b os steps stretch) (sym first.are)
        (course_runs most_calls b h (next_arrivals input at) first.others (leb row_places (length (next_arrivals input at))) steps
        (λ e. first.all (leb-false row_places (length (next_arrivals input at)) e)))

    pub stretch_past : ArrivalsAt input (at + arrival_bytes * stretch.taken) (drop stretch.taken arrivals)
    stretch_past = first.past stretch.taken (bounds_of (next_arrivals input at) (playing b at steps)).taken

  -- what is handed out in so many turns from a play on is the text of the run, if it has no more turns than these
  abbrev Rest : ℕ → Type 0
  Rest turns =
      (b : Bus) (at steps : ℕ) (arrivals : List Arrival) → Standing b → ArrivalsAt input at arrivals
      → steps + (length input - at) ≤ turns → handed turns input (turn input (playing b at steps)) ≡ run_text steps b arrivals

  -- one turn more, of a run that has steps yet: a stretch of it
  one_turn :
      (turns : ℕ) → Rest turns → (b : Bus) (at steps : ℕ) (arrivals : List Arrival) → Standing b → ArrivalsAt input at arrivals
      → suc steps + (length input - at) ≤ suc turns
      → handed (suc turns) input (turn input (playing b at (suc steps))) ≡ run_text (suc steps) b arrivals
  one_turn turns more b at steps arrivals h here enough =
      ap
      (λ t. handed (suc turns) input (cond t (closed_by (form b) (totals_of (form b))) (stretched input p)))
      (ne_eqb (suc steps) 0 (λ z. omega arith))
      ∙ ap
      (λ (s : State). reports_text c.reports ++ handed turns input (turn input (record { state = s; at = past; steps = c.left; going = true })))
      runs.state
      ∙ ap
      (λ (text : List ℕ). reports_text c.reports ++ text)
      (more runs.bus past c.left (drop c.taken arrivals) runs.stands (stretch_past b at (suc steps) arrivals h here) (omega (arith, few)))
      ∙ sym runs.text
    where
      p : Play
      p = playing b at (suc steps)

      c : Course
      c = course_of (next_arrivals input at) p

      past : ℕ
      past = at + arrival_bytes * c.taken

      few : c.left + (length input - past) < suc steps + (length input - at)
      few = fewer input p steps refl

      runs : Runs b arrivals (suc steps) c
      runs = stretch_runs b at (suc steps) arrivals h here

  -- the last turn, of a run that has none
  last_turn : (turns : ℕ) (b : Bus) (at : ℕ) → Standing b → handed turns input (turn input (playing b at 0)) ≡ closing_text b
  last_turn turns b at h = ended turns input (turn input (playing b at 0)) refl ∙ closed_text b h

  -- any number of turns
  rest : (turns : ℕ) → Rest turns
  rest zero b at zero arrivals h here enough = last_turn zero b at h
  rest zero b at (suc steps) arrivals h here enough = absurd (omega arith)
  rest (suc turns) b at zero arrivals h here enough = last_turn (suc turns) b at h
  rest (suc turns) b at (suc steps) arrivals h here enough = one_turn turns (rest turns) b at steps arrivals h here enough

-- ---- the whole

-- what is handed out of an accepted scenario
accepted_out :
    (input : List ℕ) (r : Request) (arrivals : List Arrival) (steps turns : ℕ) → Sound input (accepted r arrivals steps)
    → suc (steps + (length input - station_offset r.N)) ≤ turns
    → handed turns input (says [] (playing (set_up r).1 (station_offset r.N) steps)) ≡ run_text steps (set_up r).1 arrivals
accepted_out input r arrivals steps zero fine h = absurd (omega arith)
accepted_out input r arrivals steps (suc turns) fine h =
    rest input turns (set_up r).1 (station_offset r.N) steps arrivals (keeps_standing.set_up_call r fine.0) fine.1 (omega arith)

-- of a refused one
refused_out :
    (input : List ℕ) (n offset turns : ℕ) → handed turns input (opened_by (scenario_form (refused n offset))) ≡ refused_text n offset
refused_out input n offset turns = ended turns input (says (refused_text n offset) (over (form nothing))) refl

-- The texts that are handed out, one after the other, are the listing, whatever the input, once there are turns enough.
pub handed_out :
    (input : List ℕ) (turns : ℕ) → turns_left input (opened input).play ≤ turns → handed turns input (opened input) ≡ listing input
handed_out input turns = by_reading (reading input) (sound input)
  where
    by_reading :
        (x : Reading) → Sound input x → turns_left input (opened_by (scenario_form x)).play ≤ turns
        → handed turns input (opened_by (scenario_form x)) ≡ listing_of x
    by_reading (refused n offset) bears h = refused_out input n offset turns
    by_reading (accepted r arrivals steps) fine h = accepted_out input r arrivals steps turns fine h
