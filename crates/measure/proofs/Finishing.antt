-- A run is finished stretch by stretch: whatever finishes what a stretch leaves finishes what there was before it; and the counts of any state fit
-- 32 bits as they are handed out. Assumes nothing.
use Prim.Native.Nat.{ℕ, zero, suc, ◌+◌, ◌-◌, ◌*◌, ◌<◌}
use mathlib.Core.Path.{◌≡◌, refl, sym, ap, ap₂, ◌∙◌, subst}
use mathlib.Core.Bool.{Bool, true, false}
use mathlib.Core.List.{List}
use native.Mathlib.Omega.{arith}
use lib.ListN.{length, drop, take, replicate}
use lib.Seq.{take-append_seam}
use Rattle.std.specs.Prelude.{Result, Ok, Err}
use Rattle.rules.specs.Bus.{Bus}
use Rattle.rules.specs.SetUp.{set_up}
use Rattle.rules.specs.Standing.{stands}
use Rattle.rules.proofs.Laws.{and-true}
use Rattle.rules.proofs.Tests.{tells}
use Rattle.rules.proofs.Standing.{stands_exactly}
use Rattle.rules.proofs.Keeps.{keeps_standing}
use Rattle.state.specs.declared.State.{State}
use Rattle.state.specs.declared.Arrival.{Arrival}
use Rattle.state.specs.State.{form, meaning, padded, standing}
use Rattle.bus.specs.declared.Report.{Report}
use Rattle.bus.specs.declared.Stretch.{Stretch}
use Rattle.bus.specs.declared.Totals.{Totals}
use Rattle.bus.specs.Coded.{totals_of}
use Rattle.bus.specs.Stretch.{Course, most_calls, no_report, stretch_form}
use Rattle.scenario.specs.declared.Refused.{Refused}
use Rattle.scenario.specs.declared.Scenario.{Scenario}
use Rattle.scenario.specs.Reading.{arrival_bytes, Numbered, numbered, Reading, refused, accepted, reading, scenario_form}
use Rattle.scenario.specs.Parts.{refusal_in, ArrivalsAt}
use Rattle.scenario.proofs.Sound.{Sound, sound}
use Rattle.listing.specs.Run.{answers_of, end_of}
use Rattle.listing.specs.declared.Play.{Play}
use Rattle.listing.specs.Turns.{next_arrivals, answers_in, course_of}
use Rattle.listing.proofs.Played.{Runs}
use Rattle.listing.proofs.Handed.{fewer, totals_by, totals_of_form, stretch_runs, stretch_past}
use Rattle.sheet.specs.declared.Run.{Run}
use Rattle.measure.specs.Measured.{longer, longest_wait, run_of, measured_of, measured}
use Rattle.measure.specs.Parts.{Finishes}
use Rattle.measure.proofs.Waits.{longer_none, none_longer, longer_of_three, longest_append}

-- the play that has a state, an offset and steps
abbrev pub play_of : State → ℕ → ℕ → Play
play_of s at steps = record { state = s; at = at; steps = steps; going = true }

-- and its stretch
abbrev pub stretch_on : List ℕ → State → ℕ → ℕ → Course
stretch_on input s at steps = course_of (next_arrivals input at) (play_of s at steps)

module _ (input : List ℕ) (at steps longest : ℕ) (r : Run) where
  -- it finishes what is left after some reports
  abbrev Left : State → ℕ → ℕ → List Report → Type 0
  Left s taken left reports = Finishes input s (at + arrival_bytes * taken) left (longer longest (longest_wait (answers_in reports))) r

  abbrev After : Course → Type 0
  After c = Left c.state c.taken c.left c.reports

  -- and so what there was before them, where they are those of a stretch of the run
  after_runs :
      (b : Bus) (arrivals : List Arrival) (c : Course) → Runs b arrivals steps c
      → ArrivalsAt input (at + arrival_bytes * c.taken) (drop c.taken arrivals) → After c
      → r ≡ run_of (end_of steps b arrivals) (longer longest (longest_wait (answers_of steps b arrivals)))
  after_runs b arrivals c runs past later =
      let rest = answers_of c.left runs.bus (drop c.taken arrivals) in
      later runs.bus (drop c.taken arrivals) runs.stands runs.state past
      ∙ ap₂ run_of
      (sym runs.end)
      (longer_of_three longest (longest_wait (answers_in c.reports)) (longest_wait rest)
      ∙ ap (longer longest) (sym (longest_append (answers_in c.reports) rest) ∙ ap longest_wait (sym runs.answers)))

  after_stretch : (s : State) → After (stretch_on input s at steps) → Finishes input s at steps longest r
  after_stretch s later b arrivals h is here =
      after_runs b arrivals (stretch_on input (form b) at steps)
      (stretch_runs input b at steps arrivals h here)
      (stretch_past input b at steps arrivals h here)
      (subst (λ (t : State). After (stretch_on input t at steps)) is later)

  -- the same, of the stretch that the code hands back
  pub one_stretch :
      (s : State) (x : Stretch) → x ≡ stretch_form (stretch_on input s at steps)
      → Left x.state x.taken x.left (take x.made x.reports)
      → Finishes input s at steps longest r
  one_stretch s x is later =
      let c = stretch_on input s at steps in
      after_stretch s
      (subst
      (λ (l : List Report). Left c.state c.taken c.left l)
      (take-append_seam c.reports (replicate (most_calls - length c.reports) no_report))
      (subst (λ (y : Stretch). Left y.state y.taken y.left (take y.made y.reports)) is later))

-- the turns that are left fall
pub turns_fall :
    (input : List ℕ) (s : State) (at steps : ℕ) (x : Stretch) → x ≡ stretch_form (stretch_on input s at steps) → 0 < steps
    → x.left + (length input - (at + arrival_bytes * x.taken)) < steps + (length input - at)
turns_fall input s at steps x is some = go steps refl
  where
    go : (n : ℕ) → steps ≡ n → x.left + (length input - (at + arrival_bytes * x.taken)) < steps + (length input - at)
    go zero e = absurd (omega arith)
    go (suc n) e =
        subst
        (λ (y : Stretch). y.left + (length input - (at + arrival_bytes * y.taken)) < steps + (length input - at))
        (sym is)
        (let f = fewer input (play_of s at steps) n e in omega arith)

-- ---- the end

-- counts that fit 32 bits
pub record Fit (t : Totals) : Type 0 where
  pub admitted : t.admitted < 4_294_967_296
  pub sent : t.sent < 4_294_967_296
  pub lost : t.lost < 4_294_967_296
  pub waiting : t.waiting < 4_294_967_296
  pub turned : t.turned < 4_294_967_296

-- as those of any state do: where it stands, no more packets were sent, lost or wait than were admitted; where it does not, they are zeros
pub totals_fit : (s : State) → Fit (totals_of s)
totals_fit s = go (standing s) refl
  where
    go : (t : Bool) → standing s ≡ t → Fit (totals_by t (meaning s))
    go true e =
        let h = tells (stands_exactly (meaning s)) (and-true (padded s) (stands (meaning s)) e).1 in
        record {
          admitted = omega (arith, h.admitted_in);
          sent = omega (arith, h.admitted_in, h.counts);
          lost = omega (arith, h.admitted_in, h.counts);
          waiting = omega (arith, h.admitted_in, h.counts);
          turned = omega (arith, h.turned_within);
        }
    go false e = record { admitted = omega arith; sent = omega arith; lost = omega arith; waiting = omega arith; turned = omega arith }

-- the run that the totals of a state and a longest wait make
abbrev pub run_with : Totals → ℕ → Run
run_with t wait = record { admitted = t.admitted; sent = t.sent; lost = t.lost; waiting = t.waiting; turned = t.turned; wait = wait }

-- it finishes a run that has no steps left
pub at_last :
    (input : List ℕ) (s : State) (at longest : ℕ) (t : Totals) → t ≡ totals_of s → Finishes input s at 0 longest (run_with t longest)
at_last input s at longest t e b arrivals h is here =
    ap₂ run_with (e ∙ ap totals_of is ∙ totals_of_form b h) (sym (longer_none longest))

-- ---- the whole

-- the scenario of an answer that is one
abbrev scenario_in : Result Scenario Numbered → Scenario → Scenario
scenario_in (Ok s) other = s
scenario_in (Err e) other = other

module _ (input : List ℕ) where
  -- a scenario that is refused
  pub refused_measured : (e : Refused) → Err (numbered e) ≡ scenario_form (reading input) → Err (numbered e) ≡ measured input
  refused_measured e is = go (reading input) is
    where
      go : (y : Reading) → Err (numbered e) ≡ scenario_form y → Err (numbered e) ≡ measured_of y
      go (refused number offset) same = ap (λ (r : Result Scenario Numbered). Err (refusal_in r (numbered e))) same
      go (accepted r arrivals steps) same = absurd (cc same)

  -- one that is accepted, with the run that finishes it from its set-up on
  pub accepted_measured :
      (x : Scenario) (run : Run) → Ok x ≡ scenario_form (reading input) → Finishes input x.state x.at x.steps 0 run → Ok run ≡ measured input
  accepted_measured x run is finishes = go (reading input) (sound input) is
    where
      go : (y : Reading) → Sound input y → Ok x ≡ scenario_form y → Ok run ≡ measured_of y
      go (refused number offset) bears same = absurd (cc same)
      go (accepted r arrivals steps) ok same =
          ap
          Ok
          (subst
          (λ (s : Scenario). Finishes input s.state s.at s.steps 0 run)
          (ap (λ (r : Result Scenario Numbered). scenario_in r x) same)
          finishes
          (set_up r).1
          arrivals
          (keeps_standing.set_up_call r ok.0)
          refl
          ok.1
          ∙ ap (run_of (end_of steps (set_up r).1 arrivals)) (none_longer (longest_wait (answers_of steps (set_up r).1 arrivals))))
