-- `playing::step_in` meets its contract: it tries 1, then 17, begins a contention if none is under way, and probes one slot.
use Rattle.std.proofs.Common.{◌≡◌, refl, sym, ap, ◌∙◌, false, ltb}
use Rattle.rules.specs.Bus.{last_slot}
use Rattle.rules.specs.Refusals.{answered}
use Rattle.bus.specs.Types.{State}
use Rattle.bus.specs.Coded.{Answer}
use Rattle.bus.specs.Parts.{stepped_to, open_of, addresses_of}
use Rattle.state.proofs.Tested.{denied, granted}
use Rattle.state.proofs.Stands.{Lent, lent_held}
use Rattle.bus.proofs.Steps.{probes}
use Rattle.bus.proofs.InPlace.{Sound, sound_of, passed, numbered, step_away, step_on, Begun, had_begun, just_begun, begun_as}
use Rattle.bus.proofs.playing.step_in.Goals as goal
use Rattle.bus.proofs.playing.step_in.Goals.{Start, Joined-not-under_way, then-not-under_way, else-not-under_way}

sound! : (c : Start) → Sound c.args.stands c.args.s.now
sound! c = sound_of c.args.s.now c.args.stands c.requires.held (lent_held c.args.s.now c.requires.held) c.requires.stands

pub returns-in-Err-clause-stepped : goal.returns-in-Err-clause-stepped
returns-in-Err-clause-stepped c =
    let s = c.args.s.now in
    let number! = c.from.ensures ∙ sym (ap answered c.in-Err.is) ∙ c.may_step.ensures in
    ap (λ (answer : Answer). stepped_to answer s) c.refused.ensures
    ∙ step_away c.args.stands s (sound! (goal.at.returns-in-Err-clause-stepped c).Start) c.from.result number! (λ z. numbered c.in-Err.refusal (sym c.from.ensures ∙ z))

-- the contention is under way, or has just begun
module _ (c : Joined-not-under_way) where
  abbrev s : State
  s = c.args.s.now

  abbrev x : State
  x = c.if-not-under_way.s

  ready : (Lent s) × (ltb last_slot s.segment.clock.0 ≡ false)
  ready =
      let sound = sound_of s c.args.stands c.requires.held (lent_held s c.requires.held) c.requires.stands in
      step_on c.args.stands s sound 0 (ap answered (sym c.in_default.is) ∙ c.may_step.ensures) refl

  begun! : Begun s x c.if-not-under_way.drops
  begun! =
      elim c.if-not-under_way.branch [
        | then-not-under_way w ↦
            begun_as (w.s-is ∙ w.begin_in-drops.ensures.begun) (w.drops-is ∙ w.begin_in-drops.ensures.drops) (just_begun s ready.0 (denied refl w.if-not-under_way.true))
        | else-not-under_way w ↦ begun_as w.s-is w.drops-is (had_begun s ready.0 (granted refl w.if-not-under_way.false))
      ]

  listed! : x.segment.listed ≡ s.segment.listed
  listed! =
      elim c.if-not-under_way.branch [
        | then-not-under_way w ↦ ap (λ (y : State). y.segment.listed) w.s-is ∙ w.begin_in-drops.ensures.listed
        | else-not-under_way w ↦ ap (λ (y : State). y.segment.listed) w.s-is
      ]

pub begin_in-drops-requires : goal.begin_in-drops-requires
begin_in-drops-requires c =
    let s = c.args.s.now in
    let sound = sound_of s c.args.stands c.requires.held (lent_held s c.requires.held) c.requires.stands in
    let on = step_on c.args.stands s sound 0 (ap answered (sym c.in_default.is) ∙ c.may_step.ensures) refl in
    record { held = c.requires.held; stands = passed s on.0; between = denied refl c.if-not-under_way.true }

pub probe_in-requires : goal.probe_in-requires
probe_in-requires c =
    let at = (goal.at.probe_in-requires c).Joined-not-under_way in
    record {
      held = (begun! at).ready.held;
      stands = passed (x at) (begun! at).ready;
      begun = (begun! at).begun;
      addresses = c.requires.addresses ∙ ap addresses_of (sym (listed! at));
    }

pub returns-clause-stepped : goal.returns-clause-stepped
returns-clause-stepped c =
    let at = (goal.at.returns-clause-stepped c).Joined-not-under_way in
    c.probe_in.ensures.probed ∙ probes (s at) (ready at).0 (ready at).1 (open_of (x at) c.if-not-under_way.drops) (begun! at).is

pub returns-clause-listed : goal.returns-clause-listed
returns-clause-listed c =
    let at = (goal.at.returns-clause-listed c).Joined-not-under_way in
    c.probe_in.ensures.listed ∙ listed! at
