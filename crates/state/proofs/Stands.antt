-- A state stands exactly when it is the form of a bus that stands; what a set-up gives stands, or is the all-zero state, which does not; and
-- what a state that stands has. Assumes nothing.
use Prim.Native.Nat.{ℕ, ◌≤◌, ◌<◌}
use mathlib.Core.Path.{◌≡◌, sym, ap, ap₂, ◌∙◌}
use mathlib.Core.Bool.{true, false, ◌&&◌}
use mathlib.Core.List.{List}
use native.Mathlib.Omega.{arith}
use mir.Val.{Val}
use denote.Laws.{Is}
use borrow.Author.Tests.{leb-true}
use lib.Dec.{leb}
use lib.ListN.{get_or, drop}
use Rattle.rules.specs.Lists.{each_of}
use Rattle.rules.specs.Bus.{Bus, places, most_stations, nothing, waiting}
use Rattle.rules.specs.SetUp.{Request, set_up}
use Rattle.rules.specs.Standing.{Standing, stands}
use Rattle.rules.proofs.Laws.{clash, and-true, true-and}
use Rattle.rules.proofs.Tests.{Whether, decides, told, tells}
use Rattle.rules.proofs.Standing as Rules
use Rattle.rules.proofs.Refusals.{hands_back}
use Rattle.rules.proofs.Keeps.{keeps_standing}
use Rattle.state.specs.State.{State, Held, places_at, station_at, stations_of, meaning, form, has_no_packet, padded, standing, waiting_in}
use Rattle.state.specs.SetUp.{coded_set_up}
use Rattle.state.specs.contracts.State as state
use Rattle.state.proofs.Rows.{values_length}
use Rattle.state.proofs.Form.{Padded, padded_parts, form_meaning, standing_fits, nothing_fits, meaning_form, padded_form}
use Rattle.state.proofs.StandingParts.{state_held, waiting_same}

pub form_stands : (b : Bus) → Standing b → standing (form b) ≡ true
form_stands b h =
    let fits = standing_fits b h in
    true-and (padded_form b fits) (ap stands (meaning_form b fits) ∙ told (Rules.stands_exactly b) h)

pub stands_exactly : (s : State) → Held s → Whether (Standing (meaning s) × (form (meaning s) ≡ s)) (standing s)
stands_exactly s held = decides (standing s) there back
  where
    there : standing s ≡ true → Standing (meaning s) × (form (meaning s) ≡ s)
    there e =
        let parts = and-true (padded s) (stands (meaning s)) e in
        (tells (Rules.stands_exactly (meaning s)) parts.1, form_meaning s held parts.0)

    back : standing s ≡ false → ¬ (Standing (meaning s) × (form (meaning s) ≡ s))
    back e h = clash (ap standing (sym h.1) ∙ form_stands (meaning s) h.0) e

-- ---- set-up

pub keeps_set_up : (r : Request) → (coded_set_up r).0.refusal ≡ 0 → standing (coded_set_up r).1 ≡ true
keeps_set_up r z = form_stands (set_up r).1 (keeps_standing.set_up_call r z)

pub hands_back_set_up : (r : Request) → ¬ ((coded_set_up r).0.refusal ≡ 0) → (coded_set_up r).1 ≡ form nothing
hands_back_set_up r h = ap form (hands_back.set_up_call r h)

pub caught : standing (form nothing) ≡ false
caught = ap₂ (λ t b. t && stands b) (padded_form nothing nothing_fits) (meaning_form nothing nothing_fits)

-- ---- what a state that stands has

-- zero padding, and a meaning that stands
pub stood : (s : State) → standing s ≡ true → (padded s ≡ true) × Standing (meaning s)
stood s e = let both = and-true (padded s) (stands (meaning s)) e in (both.0, tells (Rules.stands_exactly (meaning s)) both.1)

pub few_stations : (s : State) → Standing (meaning s) → s.segment.settings.n ≤ most_stations
few_stations s h = omega (arith, (Rules.set_up_stands (meaning s) h).n_most, values_length (station_at s) 0 s.segment.settings.n)

-- what a state that a function is lent has, where it stands
pub record Lent (s : State) : Type 0 where
  pub held : Held s
  pub zeros : Padded s
  pub stands : Standing (meaning s)
  pub few : s.segment.settings.n ≤ most_stations

pub lent_held : (s : State) → Held s → standing s ≡ true → Lent s
lent_held s held e =
    let both = stood s e in
    record { held = held; zeros = padded_parts s both.0; stands = both.1; few = few_stations s both.1 }

pub lent : (s : State) (vs : List Val) → Is state.the_row s vs → standing s ≡ true → Lent s
lent s vs owned = lent_held s (state_held s vs owned)

-- at most sixteen packets in each queue
pub few_packets : (s : State) → Lent s → (i : ℕ) → i < most_stations → get_or s.queues.lengths i 0 ≤ places
few_packets s r i l =
    let n = get_or s.queues.lengths i 0 in
    leb-true n places (and-true (leb n places) (each_of has_no_packet (drop n (places_at s.queues i))) (r.zeros.queues i l)).0

-- what waits is what the lengths count
pub waiting_counted : (s : State) → Lent s → waiting_in s.queues.lengths s.segment.settings.n ≡ waiting (stations_of s)
waiting_counted s r = waiting_same s r.held r.few
