-- A set-up of the code (src/lib.rt): what is asked for, refusals 2 to 6 before the stations are known, and what comes back. Assumes nothing.
use Rattle.std.specs.Prelude.{ℕ, List, map, take, replicate}
use Rattle.rules.specs.Lists.{first_of}
use Rattle.rules.specs.Bus.{most_stations}
use Rattle.rules.specs.declared.Verdict.{Verdict}
use Rattle.rules.specs.SetUp.{Asked, Request, fine, settings_tests, set_up}
use Rattle.state.specs.State.{Settings, Listed, State, nobody, form}
pub use Rattle.state.specs.declared.Row.{Row}
pub use Rattle.state.specs.declared.SetUp.{SetUp}

-- ---- what is asked for: a station, and a set-up by its numbers and its row

abbrev pub asked_of : Listed → Asked
asked_of l = record { address = l.address.0; capability = l.capability.0 }

abbrev pub request_with : Settings → List Asked → Request
request_with g row = record { discipline = g.discipline; D = g.d; A = g.a; q = g.q; N = g.n; row = row }

abbrev pub request_of : Settings → Row → Request
request_of g r = request_with g (map asked_of (take r.length r.stations))

-- 2 to 6, 'as the set-up is read': whatever the stations are, as long as there are enough of them
abbrev pub settings_refusal : Settings → ℕ
settings_refusal g = (first_of fine (settings_tests (request_with g (replicate most_stations (asked_of nobody))))).refusal

-- ---- the set-up, and its answer beside the state, as the function returns them. 'A refused set-up hands back its number and an all-zero
-- state.'

abbrev pub coded_set_up : Request → Verdict × State
coded_set_up r = ((set_up r).0, form (set_up r).1)

abbrev pub set_up_result : Verdict × State → SetUp
set_up_result r = record { verdict = r.0; state = r.1 }
