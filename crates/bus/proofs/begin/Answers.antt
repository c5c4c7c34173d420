-- `begin` meets its contract: it tries 1, then 25, and begins a contention.
use Rattle.std.proofs.Common.{◌≡◌, refl, sym, ap, ap₂, ◌∙◌, false}
use Rattle.rules.specs.Refusals.{answered}
use Rattle.bus.specs.Types.{State}
use Rattle.state.specs.State.{meaning}
use Rattle.bus.specs.Coded.{Begun, Started}
use Rattle.bus.specs.Parts.{shown_of}
use Rattle.state.proofs.Stands.{Lent, lent}
use Rattle.state.proofs.StandingParts.{state_held}
use Rattle.bus.proofs.InPlace.{Sound, sound_of, passed, numbered}
use Rattle.bus.proofs.Calls.{begin_away, begin_on, begins_now, shown-is}
use Rattle.bus.proofs.begin.Goals as goal
use Rattle.bus.proofs.begin.Goals.{After-stands-stands, In-Ok}

sound! : (c : After-stands-stands) → Sound c.stands-stands.result c.args.s
sound! c =
    sound_of c.args.s c.stands-stands.result (state_held c.args.s _ c.well_formed.0) (lent c.args.s _ c.well_formed.0) c.stands-stands.ensures

module _ (c : In-Ok) where
  ready : (Lent c.args.s) × (c.args.s.segment.contention.begun ≡ false)
  ready =
      let s = c.args.s in
      let sound = sound_of s c.stands-stands.result (state_held s _ c.well_formed.0) (lent s _ c.well_formed.0) c.stands-stands.ensures in
      begin_on c.stands-stands.result s sound 0 (ap answered (sym c.in-Ok.is) ∙ c.may_begin.ensures) refl

-- an answer beside a state
abbrev started : Begun → State → Started
started answer s = record { answer = answer; state = s }

pub begin_in-drops-requires : goal.begin_in-drops-requires
begin_in-drops-requires c =
    let r = ready (goal.at.begin_in-drops-requires c).In-Ok in
    record { held = r.0.held; stands = passed c.args.s r.0; between = r.1 }

pub returns-in-Ok : goal.returns-in-Ok
returns-in-Ok c =
    let s = c.args.s in
    let r = ready (goal.at.returns-in-Ok c).In-Ok in
    let done = c.begin_in-drops in
    let shown! = c.shown-answer.ensures ∙ ap₂ (λ (x : State). shown_of x.segment) done.ensures.begun done.ensures.drops ∙ shown-is (meaning s) in
    ap₂ started shown! done.ensures.begun ∙ begins_now s r.0 r.1

pub returns-in-Err : goal.returns-in-Err
returns-in-Err c =
    let s = c.args.s in
    let number! = c.from.ensures ∙ sym (ap answered c.in-Err.is) ∙ c.may_begin.ensures in
    ap (λ (answer : Begun). started answer s) c.unbegun-answer.ensures
    ∙ begin_away c.stands-stands.result s (sound! (goal.at.returns-in-Err c).After-stands-stands) c.from.result number! (λ z. numbered c.in-Err.refusal (sym c.from.ensures ∙ z))
