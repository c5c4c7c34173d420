-- No contender sits out: what is true of every reached state of the round. Assumes nothing.
use Prim.Native.Nat.{ℕ}
use mathlib.Core.Path.{◌≡◌, refl, sym, ap, ◌∙◌, subst}
use mathlib.Core.Bool.{Bool, true, false, cond}
use mathlib.Core.Option.{Option, none, some}
use mathlib.Core.List.{List, [], ◌∷◌, map}
use native.Mathlib.Omega.{arith}
use lib.ListN.{take}
use Rattle.window.specs.declared.Side.{Side}
use Rattle.window.specs.declared.Side.TheVariants.{Left, Right}
use Rattle.rules.specs.Lists.{Among, All}
use Rattle.rules.specs.Bus.{Discipline, Packet, Offer, Station, Contention, Bus}
use Rattle.rules.specs.SetUp.{Request, fresh_station, fresh_bus}
use Rattle.rules.specs.Begin.{choice, parameter_of, sits_out, offers, in_time, entered}
use Rattle.rules.specs.Probe.{Contender, contenders, transmitters, Open, withdrawn, left, last_winner, unheard, heard}
use Rattle.rules.specs.Step.{opened_by, opened}
use Rattle.rules.specs.Engine.{machine, Call, reach}
use Rattle.rules.proofs.Laws.{among_none, map_from}
use Rattle.rules.proofs.Contenders.{contender_from, contenders_admitted, none_contends}
use Rattle.rules.proofs.Reach.{Keeps, reach_holds}

-- 'otherwise the station sits out'
abbrev pub Enabled : Bus → Type 0
Enabled b = All (λ x. sits_out b.discipline b.last x.capability ≡ false) (contenders b.stations)

has_no_contender : (d : Discipline) (last : Option ℕ) (stations : List Station) → contenders stations ≡ [] → All (λ x. sits_out d last x.capability ≡ false) (contenders stations)
has_no_contender d last stations e x i = absurd (among_none (subst (Among x) e i))

-- a station that offers does not sit out
offers_enabled : (b : Bus) (s : Station) (p : Option Packet) (o : Offer) → offers b s p ≡ some o → sits_out b.discipline b.last s.capability ≡ false
offers_enabled b s none o e = let z : ◌≡◌ {A = ℕ} 0 1 = cc in absurd (omega arith)
offers_enabled b s (some p) o e = go (sits_out b.discipline b.last s.capability) e
  where
    go : (t : Bool) → cond t none (some (record { parameter = parameter_of b.discipline b s p; packet = p })) ≡ some o → t ≡ false
    go true f = let z : ◌≡◌ {A = ℕ} 0 1 = cc in absurd (omega arith)
    go false f = refl

pub opened_enabled : (b : Bus) (c : Option Contention) → Enabled b → Enabled (opened_by b c).bus
opened_enabled b none h = λ x i.
    let f = contender_from (map (entered b) b.stations) i in
    let m = map_from (entered b) b.stations f.listed in
    let t = m.0 in
    let e : (entered b t).offer ≡ some f.offer = sym (ap (λ (s : Station). s.offer) m.2) ∙ f.offered in
    let c : x.capability ≡ t.capability = ap (λ (y : Contender). y.capability) f.is ∙ ap (λ (s : Station). s.capability) m.2 in
    ap (sits_out b.discipline b.last) c ∙ offers_enabled b t (choice b.discipline (in_time b t)) f.offer e
opened_enabled b (some c) h = h

heard_enabled : (o : Open) (xs : List Contender) → Enabled o.bus → Enabled (heard o xs).1
heard_enabled o [] h = go o.contention.window.side
  where
    go : (s : Side) → Enabled (unheard o s).1
    go Left = h
    go Right = has_no_contender o.bus.discipline none (map withdrawn o.bus.stations) (none_contends withdrawn o.bus.stations (λ s. refl))
heard_enabled o (x ∷ []) h = has_no_contender o.bus.discipline (last_winner o.bus.discipline x) (map (left x) o.bus.stations) (none_contends (left x) o.bus.stations (λ s. refl))
heard_enabled o (x ∷ y ∷ more) h = h

pub enabled_keeps : Keeps Enabled
enabled_keeps =
    record {
      at_set_up = λ r z. has_no_contender (fresh_bus r).discipline none (fresh_bus r).stations (none_contends fresh_station (take r.N r.row) (λ s. refl));
      at_admission = λ b a h p z x i. p x (subst (Among x) (contenders_admitted b a) i);
      at_turned = λ b h p. p;
      at_begin = λ b h p e. opened_enabled b none p;
      at_probe = λ b h p z. heard_enabled (opened b) (transmitters (opened b).bus (opened b).contention) (opened_enabled b b.contention p);
    }

pub enabled_reached : (r : Request) (calls : List Call) → Enabled (reach machine r calls)
enabled_reached = reach_holds Enabled (λ x i. absurd (among_none i)) enabled_keeps
