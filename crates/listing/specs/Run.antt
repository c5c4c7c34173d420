-- The whole run, from the bytes of a scenario to the bytes of its listing (paper 01, 'The scenario and its listing'). Assumes nothing.
use Rattle.std.specs.Prelude.{ℕ, zero, suc, cond, List, [], ◌∷◌, ◌++◌}
use Rattle.rules.specs.Bus.{Bus, waiting}
use Rattle.rules.specs.SetUp.{set_up}
use Rattle.rules.specs.Admission.{admit}
use Rattle.rules.specs.Probe.{Answer}
use Rattle.rules.specs.Step.{step}
use Rattle.state.specs.declared.Arrival.{Arrival}
use Rattle.bus.specs.Stretch.{asks, due}
use Rattle.scenario.specs.Reading.{Reading, refused, accepted, reading}
use Rattle.listing.specs.Text.{refused_text, refusal_text, end_text, dropped_text, probed_text}

-- what the arrivals that are due leave: the text, the bus, and the arrivals that are not yet due
pub record Left : Type 0 where
  pub text : List ℕ
  pub bus : Bus
  pub arrivals : List Arrival

abbrev pub after : List ℕ → Left → Left
after text x = record { text = text ++ x.text; bus = x.bus; arrivals = x.arrivals }

-- 'it admits, in file order, the arrivals whose time is not above the clock'
abbrev pub admit_due : Bus → List Arrival → Left
admit_due b [] = record { text = []; bus = b; arrivals = [] }
admit_due b (a ∷ later) =
    cond
    (due b.clock a)
    (after (refusal_text b.clock a.address.0 (admit b (asks a)).0.refusal) (admit_due (admit b (asks a)).1 later))
    (record { text = []; bus = b; arrivals = a ∷ later })

-- 'Last: END clock admitted sent lost waiting', and the packets turned away
abbrev pub closing_text : Bus → List ℕ
closing_text b = end_text b.clock b.admitted b.sent b.lost (waiting b.stations) b.turned

-- 'Before each step it admits ..'; 'Arrivals the run never reaches are not admitted.'
abbrev pub run_text : ℕ → Bus → List Arrival → List ℕ
run_text zero b arrivals = closing_text b
run_text (suc steps) b arrivals =
    let x = admit_due b arrivals in
    let r = step x.bus in
    x.text ++ (dropped_text r.0 ++ (probed_text r.0 ++ run_text steps r.1 x.arrivals))

-- the answers to the steps of a run
abbrev pub answers_of : ℕ → Bus → List Arrival → List Answer
answers_of zero b arrivals = []
answers_of (suc steps) b arrivals =
    let x = admit_due b arrivals in
    let r = step x.bus in
    r.0 ∷ answers_of steps r.1 x.arrivals

-- the bus at the end of a run
abbrev pub end_of : ℕ → Bus → List Arrival → Bus
end_of zero b arrivals = b
end_of (suc steps) b arrivals =
    let x = admit_due b arrivals in
    let r = step x.bus in
    end_of steps r.1 x.arrivals

-- 'A refused scenario prints only REFUSED number offset'
abbrev pub listing_of : Reading → List ℕ
listing_of (refused number offset) = refused_text number offset
listing_of (accepted r arrivals steps) = run_text steps (set_up r).1 arrivals

-- the listing of a scenario
abbrev pub listing : List ℕ → List ℕ
listing input = listing_of (reading input)
