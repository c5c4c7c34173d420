-- What is proved of a state, in one place: what it means, when it stands, and what a set-up gives. The contracts of src/ cite `form`,
-- `standing` and `waiting_in` (specs/State.antt), `settings_refusal` and `coded_set_up` (specs/SetUp.antt), and here stands what those are worth.
-- docs/PROMISES.md says which sentence each theorem answers. `Held s` says that the rows of s have the lengths of the code's arrays and that
-- its word has 64 bits, as those of every state in the code have.
-- Assumes nothing.
use Prim.Native.Nat.{ℕ, ◌≤◌, ◌<◌}
use mathlib.Core.Path.{◌≡◌}
use mathlib.Core.Logic.{◌↔◌}
use mathlib.Core.Bool.{true, false}
use mathlib.Core.List.{List}
use lib.ListN.{length}
use Rattle.rules.specs.Lists.{first_of}
use Rattle.word.specs.Word.{bit_at}
use Rattle.rules.specs.Bus.{Bus, nothing, waiting, most_stations}
use Rattle.rules.specs.Standing.{Standing}
use Rattle.rules.specs.SetUp.{Asked, Request, fine, settings_tests}
use Rattle.rules.proofs.Tests.{tells, told}
use Rattle.state.specs.State.{Settings, State, Held, recorded_at, no_contender, meaning, form, padded, standing, waiting_in}
use Rattle.state.specs.SetUp.{request_with, settings_refusal, coded_set_up}
use Rattle.state.proofs.Form as Form
use Rattle.state.proofs.SettingUp as SettingUp
use Rattle.state.proofs.Stands as Stands

-- ---- what a state means

-- a state whose padding is zero is the form of its meaning, and nothing else is in it
pub form_meaning : (s : State) → Held s → padded s ≡ true → form (meaning s) ≡ s
form_meaning = Form.form_meaning

-- a bus that stands is the meaning of its form, which stands
pub meaning_form : (b : Bus) → Standing b → meaning (form b) ≡ b
meaning_form b h = Form.meaning_form b (Form.standing_fits b h)

pub form_stands : (b : Bus) → Standing b → standing (form b) ≡ true
form_stands = Stands.form_stands

-- a state stands exactly when it is the form of a bus that keeps the standing conditions of paper 01
pub stands_exactly : (s : State) → Held s → (standing s ≡ true) ↔ (Standing (meaning s) × (form (meaning s) ≡ s))
stands_exactly s held = (tells (Stands.stands_exactly s held), told (Stands.stands_exactly s held))

-- P10: of a state that stands 'bits at N and above are clear', and what a station without its bit has is zero
pub bits_past_n :
    (s : State) → Held s → standing s ≡ true → (i : ℕ) → s.segment.settings.n ≤ i → bit_at s.segment.contenders i ≡ false
bits_past_n s held e = Form.bits_past_n s held (Stands.lent_held s held e).zeros

pub zero_without_bit :
    (s : State) → Held s → standing s ≡ true → (i : ℕ) → i < most_stations → bit_at s.segment.contenders i ≡ false
    → recorded_at s.segment i ≡ no_contender
zero_without_bit s held e = Form.zero_without_bit s (Stands.lent_held s held e).zeros

-- what its lengths count as waiting are the packets that wait
pub waiting_counted :
    (s : State) → Held s → standing s ≡ true → waiting_in s.queues.lengths s.segment.settings.n ≡ waiting (meaning s).stations
waiting_counted s held e = Stands.waiting_counted s (Stands.lent_held s held e)

-- ---- set-up

-- 'Refusals 2 to 6 come as the set-up is read': those of the numbers alone are those of a set-up whose row has its N stations
pub settings_known :
    (g : Settings) (row : List Asked) → g.n ≤ length row
    → (first_of fine (settings_tests (request_with g row))).refusal ≡ settings_refusal g
settings_known = SettingUp.settings_known

-- and what the numbers alone are refused with, every set-up with them is refused with, whatever its row
pub settings_first :
    (g : Settings) (row : List Asked) → ¬ (settings_refusal g ≡ 0) → (coded_set_up (request_with g row)).0.refusal ≡ settings_refusal g
settings_first = SettingUp.settings_first

-- 'Every call that accepts keeps these conditions.'
pub keeps_standing_set_up : (r : Request) → (coded_set_up r).0.refusal ≡ 0 → standing (coded_set_up r).1 ≡ true
keeps_standing_set_up = Stands.keeps_set_up

-- a refused set-up hands back the all-zero state, which refusal 1 catches
pub hands_back_set_up : (r : Request) → ¬ ((coded_set_up r).0.refusal ≡ 0) → (coded_set_up r).1 ≡ form nothing
hands_back_set_up = Stands.hands_back_set_up

pub caught : standing (form nothing) ≡ false
caught = Stands.caught
