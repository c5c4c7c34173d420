-- `probe` meets its contract: it tries 1, then 26, then 17, and probes one slot of the contention under way.
use Rattle.std.proofs.Common.{◌≡◌, refl, sym, ap, ◌∙◌, true, false, ltb}
use Rattle.rules.specs.Bus.{last_slot}
use Rattle.rules.specs.Refusals.{answered}
use Rattle.bus.specs.Coded.{Answer}
use Rattle.bus.specs.Parts.{stepped_to}
use Rattle.state.proofs.Stands.{Lent, lent}
use Rattle.state.proofs.StandingParts.{state_held}
use Rattle.bus.proofs.InPlace.{Sound, sound_of, passed, numbered}
use Rattle.bus.proofs.Calls.{probe_away, probe_on, probes_now}
use Rattle.bus.proofs.probe.Goals as goal
use Rattle.bus.proofs.probe.Goals.{After-stands-stands, In-Ok}

sound! : (c : After-stands-stands) → Sound c.stands-stands.result c.args.s
sound! c =
    sound_of c.args.s c.stands-stands.result (state_held c.args.s _ c.well_formed.0) (lent c.args.s _ c.well_formed.0) c.stands-stands.ensures

module _ (c : In-Ok) where
  ready : (Lent c.args.s) × (c.args.s.segment.contention.begun ≡ true) × (ltb last_slot c.args.s.segment.clock.0 ≡ false)
  ready =
      let s = c.args.s in
      let sound = sound_of s c.stands-stands.result (state_held s _ c.well_formed.0) (lent s _ c.well_formed.0) c.stands-stands.ensures in
      probe_on c.stands-stands.result s sound 0 (ap answered (sym c.in-Ok.is) ∙ c.may_probe.ensures) refl

pub probe_in-answer-requires : goal.probe_in-answer-requires
probe_in-answer-requires c =
    let r = ready (goal.at.probe_in-answer-requires c).In-Ok in
    record { held = r.0.held; stands = passed c.args.s r.0; begun = r.1; addresses = c.addresses_of-addresses.ensures }

pub returns-in-Ok : goal.returns-in-Ok
returns-in-Ok c =
    let r = ready (goal.at.returns-in-Ok c).In-Ok in
    c.probe_in-answer.ensures.probed ∙ probes_now c.args.s r.0 r.1 r.2

pub returns-in-Err : goal.returns-in-Err
returns-in-Err c =
    let s = c.args.s in
    let number! = c.from.ensures ∙ sym (ap answered c.in-Err.is) ∙ c.may_probe.ensures in
    ap (λ (answer : Answer). stepped_to answer s) c.refused-answer.ensures
    ∙ probe_away c.stands-stands.result s (sound! (goal.at.returns-in-Err c).After-stands-stands) c.from.result number! (λ z. numbered c.in-Err.refusal (sym c.from.ensures ∙ z))
