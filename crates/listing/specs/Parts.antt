-- What the private functions of src/ are held to; for readers of those alone. Assumes nothing.
use Rattle.std.specs.Prelude.{ℕ, ◌≡◌, cond, eqb, List, [], ◌∷◌, ◌++◌, Option, Some, None}
use Rattle.text.specs.Text.{space, decimal, fields}
use Rattle.text.specs.Room.{room_bytes}
use Rattle.text.specs.Parts.{Told}
use Rattle.listing.specs.Turns.{Turn, Outcome}
use Rattle.listing.specs.Text.{phase_letter, event_letter, winner_of, winner_fields}
use Rattle.rules.specs.Probe.{Answer}
use Rattle.state.specs.declared.Arrival.{Arrival}
use Rattle.scenario.specs.Format.{arrival_kind, Said}
use Rattle.scenario.specs.Reading.{arrival_from}

-- ---- text

-- 'slot phase start size event'
abbrev pub opening_text : Answer → List ℕ
opening_text a =
    ((decimal a.slot ++ (space ∷ phase_letter a.phase ∷ [])) ++ fields (a.start ∷ a.size ∷ []))
    ++ (space ∷ event_letter a.event ∷ [])

-- what follows 'S'
abbrev pub winner_text : Answer → List ℕ
winner_text a = winner_fields a.event (winner_of a)

-- a turn with this play and text, which stands at the start of the room
pub record TurnTold (before after : List ℕ) (t : Turn) (o : Outcome) : Type 0 where
  pub play : t.play ≡ o.play
  pub told : Told before after 0 t.length o.text room_bytes

-- the arrival that a record says, if it says one
abbrev pub arrival_if : Said → Option Arrival
arrival_if x = cond (eqb x.kind arrival_kind.kind) (Some (arrival_from x.values)) None
