-- What calls and replies tell of a circuit (`Tally`, specs/Demands.antt) is so of the machine in RTVC: how many packets wait at an address, and whether
-- a contention is under way; and a success of that address ends one. Assumes nothing.
use Prim.Native.Nat.{ℕ, suc, ◌+◌, ◌-◌}
use mathlib.Core.Path.{◌≡◌, refl, sym, ap, ◌∙◌}
use mathlib.Core.Bool.{true}
use mathlib.Core.Option.{Option, none, some}
use mathlib.Core.List.{List, [], ◌∷◌}
use native.Mathlib.Omega.{arith}
use lib.Dec.{eqb}
use lib.ListN.{length}
use borrow.Author.Tests.{eqb-true, ne_eqb}
use Rattle.window.specs.declared.Side.{Side}
use Rattle.window.specs.declared.Side.TheVariants.{Left, Right}
use Rattle.rules.specs.Lists.{bit, Among, at_head, All}
use Rattle.rules.specs.Bus.{RTVC, Station, Contention, Bus}
use Rattle.rules.specs.Standing.{Standing}
use Rattle.rules.specs.Admission.{Arrival, Admitted, named, admission_refusal, joined, with_packet, turned_away, handed_back}
use Rattle.rules.specs.Begin.{entered, begin}
use Rattle.rules.specs.Probe.{Contender, Open, transmitters, withdrawn, left, unheard, heard}
use Rattle.rules.specs.Step.{is_under_way, opened_by, opened}
use Rattle.rules.specs.Engine.{machine, Call, admission, one-begin, one-probe, one-step, admitted, probed, reply, next}
use Rattle.rules.specs.Demands.{adds_admitted, wins, succeeds, Tally, tallied}
use Rattle.rules.proofs.TurnedAway.{back_cases}
use Rattle.rules.proofs.Laws.{clash, all_map, map_into}
use Rattle.rules.proofs.Numbers.{held, joined-held}
use Rattle.rules.proofs.Contenders.{joined_alike}
use Rattle.rules.proofs.Keeps.{opened_stands, opened_contention, opened_same, Sender, sender, own, one_less}
use Rattle.rules.proofs.Reach.{call_cases, outcome}
use Rattle.rules.proofs.Circuit.{all_in_time}

-- each station of the address has so many packets
abbrev Waiting : ℕ → ℕ → List Station → Type 0
Waiting address n stations = All (λ s. s.address ≡ address → held s ≡ n) stations

-- what a tally tells of a bus in RTVC
pub record Tells (address : ℕ) (b : Bus) (t : Tally) : Type 0 where
  pub by_circuit : b.discipline ≡ RTVC
  pub under_way : is_under_way b.contention ≡ t.under_way
  pub waiting : Waiting address t.waiting b.stations

-- a bus on which a station of the address is listed, and no contention is under way
pub record Between (address : ℕ) (b : Bus) : Type 0 where
  pub station : Station
  pub listed : Among station b.stations
  pub here : station.address ≡ address
  pub ended : b.contention ≡ none

module _ (address : ℕ) where
  -- an accepted admission
  tells_admission :
      (b : Bus) (t : Tally) (a : Arrival) → Tells address b t
      → Tells address (with_packet b a) (tallied address t (admission a) (admitted (record { refusal = 0; number = suc b.admitted })))
  tells_admission b t a h =
      record {
        by_circuit = h.by_circuit;
        under_way = h.under_way;
        waiting = all_map (λ s. s.address ≡ address → held s ≡ t.waiting + bit (eqb a.address address)) (joined b a) b.stations (λ s i e.
            let here = sym (joined_alike b a s).0 ∙ e in
            let same : bit (named a s) ≡ bit (eqb a.address address) = ap (λ n. bit (eqb a.address n)) here in
            omega (arith, joined-held b a s, h.waiting s i here));
      }

  -- nothing is dropped as a contention begins
  begun_waiting : (b : Bus) (n : ℕ) → b.discipline ≡ RTVC → Waiting address n b.stations → Waiting address n (begin b).stations
  begun_waiting b n d h =
      all_map (λ s. s.address ≡ address → held s ≡ n) (entered b) b.stations (λ s i e. ap length (all_in_time b s d) ∙ h s i e)

  opened_waiting : (b : Bus) (n : ℕ) → b.discipline ≡ RTVC → Waiting address n b.stations → Waiting address n (opened b).bus.stations
  opened_waiting b n d h = go b.contention
    where
      go : (c : Option Contention) → Waiting address n (opened_by b c).bus.stations
      go none = begun_waiting b n d h
      go (some c) = h

  -- what is heard, as many as transmit
  module _ (o : Open) (h : Standing o.bus) (d : o.bus.discipline ≡ RTVC) where
    tells_heard :
        (t : Tally) (c : Call) → Waiting address t.waiting o.bus.stations → (xs : List Contender) → All (Sender o.bus o.contention) xs
        → Tells address (heard o xs).1 (tallied address t c (probed (heard o xs).0))
    tells_heard t c w [] senders = by_side o.contention.window.side
      where
        by_side : (side : Side) → Tells address (unheard o side).1 (tallied address t c (probed (unheard o side).0))
        by_side Left = record { by_circuit = d; under_way = refl; waiting = λ s i e. omega (arith, w s i e) }
        by_side Right =
            record {
              by_circuit = d;
              under_way = refl;
              waiting = all_map (λ s. s.address ≡ address → held s ≡ t.waiting - 0) withdrawn o.bus.stations (λ s i e. omega (arith, w s i e));
            }
    tells_heard t c w (x ∷ []) senders =
        record {
          by_circuit = d;
          under_way = refl;
          waiting = all_map (λ s. s.address ≡ address → held s ≡ t.waiting - bit (eqb x.address address)) (left x) o.bus.stations (λ s i e.
              let less = one_less o.bus o.contention x h (senders x (at_head refl)) s i (own x s) refl in
              let same : bit (own x s) ≡ bit (eqb x.address address) = ap (λ n. bit (eqb x.address n)) e in
              omega (arith, w s i e));
        }
    tells_heard t c w (x ∷ y ∷ more) senders = record { by_circuit = d; under_way = refl; waiting = λ s i e. omega (arith, w s i e) }

    -- a success of the address ends its contention
    sent_heard : (xs : List Contender) → All (Sender o.bus o.contention) xs → wins address (heard o xs).0 ≡ true → Between address (heard o xs).1
    sent_heard [] senders won = by_side o.contention.window.side won
      where
        by_side : (side : Side) → wins address (unheard o side).0 ≡ true → Between address (unheard o side).1
        by_side Left e = clash e refl
        by_side Right e = clash e refl
    sent_heard (x ∷ []) senders won =
        let k = senders x (at_head refl) in
        record {
          station = left x k.station;
          listed = map_into (left x) o.bus.stations k.listed;
          here = sym k.address ∙ eqb-true x.address address won;
          ended = refl;
        }
    sent_heard (x ∷ y ∷ more) senders won = clash won refl

  -- a bus that stands
  module _ (b : Bus) (h : Standing b) (d : b.discipline ≡ RTVC) where
    by_circuit_opened : (opened b).bus.discipline ≡ RTVC
    by_circuit_opened = opened_same (λ (m : Bus). m.discipline) b refl ∙ d

    senders_opened : All (Sender (opened b).bus (opened b).contention) (transmitters (opened b).bus (opened b).contention)
    senders_opened x i = sender (opened b).bus (opened b).contention x (opened_stands b h) (opened_contention b) i

    pub sent_next : (c : Call) → succeeds address (reply machine b c) ≡ true → Between address (next machine b c)
    sent_next =
        outcome b (λ r b'. succeeds address r ≡ true → Between address b')
        (record {
          refuses = λ n z e won. clash won refl;
          turns = λ n z e won. clash won refl;
          admits = λ a z won. clash won refl;
          refuses_begin = λ n z won. clash won refl;
          begins = λ z won. clash won refl;
          refuses_probe = λ n z won. clash won refl;
          probes_one = λ z won.
              sent_heard (opened b) (opened_stands b h) by_circuit_opened (transmitters (opened b).bus (opened b).contention) senders_opened won;
        })

    module _ (t : Tally) (tells : Tells address b t) where
      -- a refused admission
      tells_refused : (n : ℕ) → ¬ (n ≡ 0) → (c : Call) → Tells address b (tallied address t c (admitted (record { refusal = n; number = 0 })))
      tells_refused n z c =
          record { by_circuit = d; under_way = tells.under_way; waiting = rw (ne_eqb n 0 z) (λ s i e. omega (arith, tells.waiting s i e)) }

      -- whose packet is turned away
      tells_turned : {t' : Tally} → Tells address b t' → Tells address (turned_away b) t'
      tells_turned k = record { by_circuit = k.by_circuit; under_way = k.under_way; waiting = k.waiting }

      -- any call but an accepted admission
      tells_other : (c : Call) → adds_admitted (reply machine b c) ≡ 0 → Tells address (next machine b c) (tallied address t c (reply machine b c))
      tells_other c =
          outcome b (λ r b'. adds_admitted r ≡ 0 → Tells address b' (tallied address t c r))
          (record {
            refuses = λ n z e k. tells_refused n z c;
            turns = λ n z e k. tells_turned (tells_refused n z c);
            admits = λ a z e. absurd (omega arith);
            refuses_begin = λ n z e.
                record { by_circuit = d; under_way = rw (ne_eqb n 0 z) tells.under_way; waiting = tells.waiting };
            begins = λ z e. record { by_circuit = d; under_way = refl; waiting = begun_waiting b t.waiting d tells.waiting };
            refuses_probe = λ n z e.
                record {
                  by_circuit = d;
                  under_way = rw (ne_eqb n 0 z) tells.under_way;
                  waiting = λ s i e. omega (arith, tells.waiting s i e);
                };
            probes_one = λ z e.
                tells_heard (opened b) (opened_stands b h) by_circuit_opened t c (opened_waiting b t.waiting d tells.waiting)
                (transmitters (opened b).bus (opened b).contention)
                senders_opened;
          })
          c

      pub tells_next : (c : Call) → Tells address (next machine b c) (tallied address t c (reply machine b c))
      tells_next (admission a) =
          call_cases (λ (x : Admitted × Bus). Tells address x.1 (tallied address t (admission a) (admitted x.0))) (admission_refusal b a) _
          (λ n. (record { refusal = n; number = 0 }, handed_back b n))
          (λ z.
          let told = tells_refused (admission_refusal b a) z (admission a) in
          back_cases (λ x. Tells address x (tallied address t (admission a) (admitted (record { refusal = admission_refusal b a; number = 0 })))) b (admission_refusal b a) (λ e. told) (λ e. tells_turned told))
          (λ z. tells_admission b t a tells)
      tells_next one-begin = tells_other one-begin refl
      tells_next one-probe = tells_other one-probe refl
      tells_next one-step = tells_other one-step refl
