-- Contenders stay recorded until the contention ends. Assumes nothing.
use Prim.Native.Nat.{suc}
use mathlib.Core.Path.{◌≡◌, refl, sym, ap, ◌∙◌, subst}
use mathlib.Core.Bool.{Bool, true, false, cond}
use mathlib.Core.Option.{Option, none, some}
use mathlib.Core.List.{List, [], ◌∷◌, map}
use native.Mathlib.Omega.{arith}
use lib.Dec.{eqb}
use Rattle.window.specs.declared.Side.{Side}
use Rattle.window.specs.declared.Side.TheVariants.{Left, Right}
use Rattle.rules.specs.Bus.{Offer, Station, Contention, Bus}
use Rattle.rules.specs.Admission.{Arrival, Admitted, admission_refusal, with_packet, admit, handed_back}
use Rattle.rules.specs.Begin.{begin}
use Rattle.rules.specs.Probe.{Answer, Contender, contender_of, contending, contenders, transmitters, Open, withdrawn, left, unheard, heard}
use Rattle.rules.specs.Step.{Contends, contends_with, Begun, probe_call, opened, opened_by}
use Rattle.rules.specs.Demands.{contenders_at, present, shown_as, ContendersStay}
use Rattle.rules.proofs.TurnedAway.{back_cases}
use Rattle.rules.proofs.Standing.{begun_as, accepted_probe, probe_accepted, probe_step, step_is}
use Rattle.rules.proofs.Contenders.{contenders_admitted, none_contends}

-- what a probe leaves of the contenders: all of them while the contention goes on, and none once it has ended
record Recorded (o : Open) (out : Answer × Bus) : Type 0 where
  goes_on : out.0.ended ≡ 0 → contenders out.1.stations ≡ contenders o.bus.stations
  ends : out.0.ended ≡ 1 → contenders out.1.stations ≡ []

recorded : (o : Open) (xs : List Contender) → Recorded o (heard o xs)
recorded o [] = go o.contention.window.side
  where
    go : (s : Side) → Recorded o (unheard o s)
    go Left = record { goes_on = λ e. refl; ends = λ e. absurd (omega arith) }
    go Right = record { goes_on = λ e. absurd (omega arith); ends = λ e. none_contends withdrawn o.bus.stations (λ s. refl) }
recorded o (x ∷ []) = record { goes_on = λ e. absurd (omega arith); ends = λ e. none_contends (left x) o.bus.stations (λ s. refl) }
recorded o (x ∷ y ∷ more) = record { goes_on = λ e. refl; ends = λ e. absurd (omega arith) }

probe_recorded : (b : Bus) → (probe_call b).0.refusal ≡ 0 → Recorded (opened b) (probe_call b)
probe_recorded b z =
    let ok = probe_accepted b (accepted_probe b z) in
    subst (Recorded (opened b)) (sym (probe_step b ok.0 ∙ step_is b ok.1)) (recorded (opened b) (transmitters (opened b).bus (opened b).contention))

-- in a contention under way the slot is probed among the contenders recorded
probed_among : (b : Bus) → (probe_call b).0.refusal ≡ 0 → contenders_at b ≡ contenders b.stations
probed_among b z = go b.contention (probe_accepted b (accepted_probe b z)).0
  where
    go : (c : Option Contention) → ¬ (c ≡ none) → contenders (opened_by b c).bus.stations ≡ contenders b.stations
    go none n = absurd (n refl)
    go (some c) n = refl

-- who is shown station by station is who contends
shown : (stations : List Station) → present (map (λ s. contends_with s s.offer) stations) ≡ map shown_as (contenders stations)
shown [] = refl
shown (s ∷ stations) = go s.offer (shown stations)
  where
    rest : List (Option Contends)
    rest = map (λ t. contends_with t t.offer) stations

    go :
        (o : Option Offer) → present rest ≡ map shown_as (contenders stations)
        → present (contends_with s o ∷ rest) ≡ map shown_as (contending s o (contenders stations))
    go none e = e
    go (some o) e = ap (λ xs. shown_as (contender_of s o) ∷ xs) e

admission_recorded : (b : Bus) (a : Arrival) → contenders (admit b a).1.stations ≡ contenders b.stations
admission_recorded b a = go (eqb (admission_refusal b a) 0)
  where
    result : Bool → Admitted × Bus
    result t =
        cond
        t
        (record { refusal = 0; number = suc b.admitted }, with_packet b a)
        (record { refusal = admission_refusal b a; number = 0 }, handed_back b (admission_refusal b a))

    go : (t : Bool) → contenders (result t).1.stations ≡ contenders b.stations
    go true = contenders_admitted b a
    go false = back_cases (λ x. contenders x.stations ≡ contenders b.stations) b (admission_refusal b a) (λ e. refl) (λ e. refl)

pub contenders_stay : ContendersStay
contenders_stay =
    record {
      begins = λ b z. ap (λ (o : Begun × Bus). contenders o.1.stations) (begun_as b z);
      shown = λ b z.
          ap (λ (o : Begun × Bus). present o.0.contenders) (begun_as b z)
          ∙ shown (begin b).stations
          ∙ sym (ap (λ (o : Begun × Bus). map shown_as (contenders o.1.stations)) (begun_as b z));
      admission = admission_recorded;
      probed_among = probed_among;
      goes_on = λ b z e. (probe_recorded b z).goes_on e ∙ probed_among b z;
      ends = λ b z e. (probe_recorded b z).ends e;
    }
