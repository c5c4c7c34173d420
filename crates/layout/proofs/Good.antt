-- What a layout says is a good scenario: each line that is right keeps what a plan is held to. Assumes nothing.
use Prim.Native.Nat.{ℕ, suc, ◌≤◌, ◌<◌}
use mathlib.Core.Path.{◌≡◌, refl, sym, subst, ◌∙◌}
use mathlib.Core.Bool.{Bool, true, false, cond}
use mathlib.Core.List.{List, [], ◌∷◌}
use native.Mathlib.Omega.{arith}
use borrow.Author.Tests.{eqb-true}
use lib.Dec.{eqb}
use lib.ListN.{length, length-append}
use Rattle.rules.specs.Lists.{All}
use Rattle.rules.specs.SetUp.{Request, set_up_verdict}
use Rattle.rules.specs.Bus.{most_stations}
use Rattle.rules.proofs.Laws.{all_nil}
use Rattle.rules.proofs.Tests.{Whether, holds, fails, equal}
use Rattle.state.specs.declared.Arrival.{Arrival}
use Rattle.scenario.specs.Reading.{most_bytes}
use Rattle.scenario.specs.Writing.{ArrivalFits, InOrder, Good}
use Rattle.words.specs.Words.{lines_of}
use Rattle.layout.specs.Layout.{in_stations, after_run, place_fault, Plan, start, request_in, Taken, take_line}
use Rattle.layout.specs.Layout.{Saying, wrong, says, ended, read_lines, layout_says}
use Rattle.layout.proofs.Order.{all_count, all_each, all_order}
use Rattle.packing.proofs.Promises.{written_size}
use Rattle.layout.proofs.Steps.{size_with, Manned, Step, by_nothing, by_bus, by_station, by_arrivals, by_run, line_is_taken}

-- what a plan is held to. Before the bus it has no stations, before the arrivals none of them, and from then on a station.
record Sound (p : Plan) : Type 0 where
  stations : length p.asked ≡ p.settings.n
  few : p.settings.n ≤ most_stations
  set_up_call : 1 ≤ p.settings.n → (set_up_verdict (request_in p)).refusal ≡ 0
  first : p.stage ≡ 0 → p.settings.n ≡ 0
  manned : 2 ≤ p.stage → 1 ≤ p.settings.n
  early : p.stage ≤ in_stations → length p.arrivals ≡ 0
  fit : All ArrivalFits p.arrivals
  order : InOrder 0 p.arrivals
  short : size_with p 0 ≤ most_bytes
  steps : p.steps < 65_536

start_sound : Sound start
start_sound =
    record {
      stations = refl;
      few = omega arith;
      set_up_call = λ h. absurd (omega arith);
      first = λ e. refl;
      manned = λ h. absurd (omega arith);
      early = λ h. refl;
      fit = all_nil ArrivalFits;
      order = tt;
      short = omega arith;
      steps = omega arith;
    }

-- where there may be arrivals, there is a station
peopled : (p : Plan) → Sound p → Manned p → 1 ≤ p.settings.n
peopled p s m = go (equal p.stage in_stations)
  where
    go : {t : Bool} → Whether (p.stage ≡ in_stations) t → 1 ≤ p.settings.n
    go (holds e) = m.station e
    go (fails n) = s.manned (omega (arith, m.begun))

-- a step keeps it
step_sound : (p : Plan) (line : List ℕ) (after : Plan) → Sound p → Step p line after → Sound after
step_sound p line after s (by_nothing e q) = subst Sound (sym e) s
step_sound p line after s (by_bus g e z n q) =
    subst
    Sound
    (sym e)
    (record {
      stations = s.stations ∙ s.first z ∙ sym n;
      few = omega arith;
      set_up_call = λ h. absurd (omega arith);
      first = λ k. n;
      manned = λ h. absurd (omega arith);
      early = λ h. s.early (omega arith);
      fit = s.fit;
      order = s.order;
      short = omega (arith, s.short, s.first z);
      steps = s.steps;
    })
step_sound p line after s (by_station a e z l v q) =
    subst
    Sound
    (sym e)
    (record {
      stations = omega (arith, length-append p.asked (a ∷ []), s.stations);
      few = omega arith;
      set_up_call = λ h. v;
      first = λ k. absurd (omega arith);
      manned = λ h. omega arith;
      early = λ h. s.early (omega arith);
      fit = s.fit;
      order = s.order;
      short = omega (arith, s.early (omega arith));
      steps = s.steps;
    })
step_sound p line after s (by_arrivals more e m f l q) =
    subst
    Sound
    (sym e)
    (record {
      stations = s.stations;
      few = s.few;
      set_up_call = s.set_up_call;
      first = λ k. absurd (omega arith);
      manned = λ h. peopled p s m;
      early = λ h. absurd (omega arith);
      fit = all_each more p.arrivals f s.fit;
      order = all_order more p.arrivals s.order;
      short = omega (arith, all_count more p.arrivals);
      steps = s.steps;
    })
step_sound p line after s (by_run steps e m l q) =
    subst
    Sound
    (sym e)
    (record {
      stations = s.stations;
      few = s.few;
      set_up_call = s.set_up_call;
      first = λ k. absurd (omega arith);
      manned = λ h. peopled p s m;
      early = λ h. absurd (omega arith);
      fit = s.fit;
      order = s.order;
      short = s.short;
      steps = l;
    })

-- what is told of a saying: it is a good scenario, if it is one
abbrev Fine : Saying → Type 0
Fine (wrong line fault) = Unit {0}
Fine (says r arrivals steps) = Good r arrivals steps

ended_fine : (line : ℕ) (p : Plan) → Sound p → Fine (ended line p)
ended_fine line p s = go (eqb p.stage after_run) refl
  where
    go :
        (t : Bool) → eqb p.stage after_run ≡ t
        → Fine (cond t (says (request_in p) p.arrivals p.steps) (wrong line (place_fault p.stage p.settings.n 0)))
    go true e =
        record {
          set_up_call = s.set_up_call (s.manned (omega (arith, eqb-true p.stage after_run e)));
          stations = s.stations;
          fit = s.fit;
          order = s.order;
          few = s.steps;
          short = omega (arith, written_size (request_in p) p.arrivals p.steps, s.stations, s.short);
        }
    go false e = tt

lines_fine : (line : ℕ) (p : Plan) (lines : List (List ℕ)) → Sound p → Fine (read_lines line p lines)
lines_fine line p [] s = ended_fine line p s
lines_fine line p (text ∷ rest) s = go (eqb x.fault 0) refl (lines_fine (suc line) x.plan rest)
  where
    x : Taken
    x = take_line p text

    go :
        (t : Bool) → eqb x.fault 0 ≡ t → (Sound x.plan → Fine (read_lines (suc line) x.plan rest))
        → Fine (cond t (read_lines (suc line) x.plan rest) (wrong (suc line) x.fault))
    go true e more = more (step_sound p text x.plan s (line_is_taken p text (eqb-true x.fault 0 e)))
    go false e more = tt

-- What a layout says is a good scenario.
pub good :
    (text : List ℕ) (r : Request) (arrivals : List Arrival) (steps : ℕ) → layout_says text ≡ says r arrivals steps → Good r arrivals steps
good text r arrivals steps e = subst Fine e (lines_fine 0 start (lines_of text) start_sound)
