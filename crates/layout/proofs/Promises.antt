-- What is proved of layouts, in one place. `layout_says` (specs/Layout.antt) is what a text says, a scenario or the line that is wrong and its fault;
-- `arrivals_said` and `at_time` (specs/Said.antt) are the arrivals of its lines, and those of one time. Assumes nothing.
use Prim.Native.Nat.{ℕ, ◌≤◌}
use mathlib.Core.Path.{◌≡◌, refl, sym, ◌∙◌}
use mathlib.Core.List.{List, map}
use lib.ListN.{length}
use Rattle.rules.specs.SetUp.{Request}
use Rattle.state.specs.declared.Arrival.{Arrival}
use Rattle.scenario.specs.Reading.{accepted, reading}
use Rattle.scenario.specs.Writing.{InOrder, written, Good}
use Rattle.scenario.proofs.Promises.{accepted_if}
use Rattle.words.specs.Words.{lines_of}
use Rattle.text.proofs.Promises.{stored_kept}
use Rattle.layout.specs.Layout.{Saying, wrong, says, layout_says}
use Rattle.layout.specs.Answers.{room_after}
use Rattle.layout.specs.Said.{arrivals_said, at_time}
use Rattle.layout.specs.Examples.{rows}
use Rattle.layout.proofs.Examples as Examples
use Rattle.layout.proofs.Good as Goodness
use Rattle.layout.proofs.Order as Order
use Rattle.layout.proofs.Ordered as Ordered
use Rattle.layout.proofs.Wrong as Wrong

-- a text that says a scenario
module _ (text : List ℕ) (r : Request) (arrivals : List Arrival) (steps : ℕ) (said : layout_says text ≡ says r arrivals steps) where
  -- says a good one,
  pub good : Good r arrivals steps
  good = Goodness.good text r arrivals steps said

  -- whose bytes are accepted as that scenario
  pub never_refused : reading (written r arrivals steps) ≡ accepted r arrivals steps
  never_refused = accepted_if r arrivals steps good

  -- its arrivals come in order of time, and those of one time are those of its lines, in the order of these;
  pub in_order : InOrder 0 arrivals
  in_order = good.order

  pub same_at_time : (t : ℕ) → at_time t arrivals ≡ at_time t (arrivals_said r.discipline text)
  same_at_time = Ordered.same_at_time text r arrivals steps said

  -- which no other row of arrivals does
  pub no_others : (xs : List Arrival) → InOrder 0 xs → ((t : ℕ) → at_time t xs ≡ at_time t (arrivals_said r.discipline text)) → xs ≡ arrivals
  no_others xs o h = Order.all_there 0 0 xs arrivals o in_order (λ t. h t ∙ sym (same_at_time t))

-- a text that is wrong names one of its lines, and a fault
pub wrong_named :
    (text : List ℕ) (line fault : ℕ) → layout_says text ≡ wrong line fault → (1 ≤ line) × (line ≤ length (lines_of text)) × (1 ≤ fault)
wrong_named = Wrong.wrong_named

-- the room stays as long as it is
pub room_kept : (s : Saying) (room : List ℕ) → length (room_after s room) ≡ length room
room_kept (wrong line fault) room = refl
room_kept (says r arrivals steps) room = stored_kept room 0 (written r arrivals steps)

-- layouts with what they say, each fault among them: the table holds
pub all_said : map (λ r. layout_says r.text) rows ≡ map (λ r. r.saying) rows
all_said = Examples.all_said
