-- A state that stands, changed: no two of its stations have one address; a state with other counts; and a state in which one station's queue
-- holds other packets: its padding is zero, and the other stations are as they were. Assumes nothing.
use Prim.Native.Nat.{ℕ, zero, suc, ◌+◌, ◌≤◌, ◌<◌}
use mathlib.Core.Path.{◌≡◌, refl, sym, ap, ◌∙◌, subst}
use mathlib.Core.Bool.{Bool, true, false, not, ◌&&◌, cond}
use mathlib.Core.Option.{Option}
use mathlib.Core.List.{List, map}
use native.Mathlib.Omega.{arith}
use borrow.Author.Tests.{eqb-true, eqb-false, eq-eqb, ne_eqb, ltb-true, ltb-false}
use lib.Dec.{eqb, ltb}
use lib.ListN.{length, get_or}
use Rattle.rules.specs.Lists.{Among, Distinct}
use Rattle.rules.specs.Bus as Machine
use Rattle.rules.specs.Bus.{Station, Bus, places, most_stations}
use Rattle.rules.specs.Standing.{Standing}
use Rattle.rules.proofs.Standing.{set_up_stands}
use Rattle.bus.specs.Types.{Packet, State, Queue}
use Rattle.state.specs.State.{Held, recorded_at, nobody, places_at, queue_at, station_with, station_at, values_from, stations_of, meaning, queue_padded, has_no_station}
use Rattle.state.specs.Parts.{queue_of, packets_of}
use Rattle.bus.specs.Parts.{queue_form}
use Rattle.state.proofs.Rows.{values_map, values_same, among_values}
use Rattle.state.proofs.Form.{Padded, places_length}
use Rattle.bus.specs.Parts.{with_queue}
use Rattle.bus.proofs.QueueLaws.{packets_of_form, form_places, form_padded, with_queue_lengths, queue_of_with, padded_form_of}

-- ---- queues with zero padding

-- a queue with zero padding is the form of its packets
pub queue_formed : (s : State) → Held s → Padded s → (i : ℕ) → i < most_stations → queue_of s.queues i ≡ queue_form (queue_at s.queues i)
queue_formed s h p i l = padded_form_of (queue_of s.queues i) (places_length s h i l) (p.queues i l)

-- ---- no two stations have one address

-- values of which none stands twice
apart : (f : ℕ → ℕ) (i k : ℕ) → Distinct (values_from f i k) → (j m : ℕ) → i ≤ j → j < m → m < i + k → f j ≡ f m → ⊥
apart f i zero d j m l h k e = omega arith
apart f i (suc n) d j m l h k e = go (eqb j i) refl (λ later. apart f (suc i) n d.1 j m later h (omega arith) e)
  where
    go : (t : Bool) → eqb j i ≡ t → (suc i ≤ j → ⊥) → ⊥
    go true s later =
        let first = eqb-true j i s in
        d.0 (subst (λ v. Among v (values_from f (suc i) n)) (sym e ∙ ap f first) (among_values f (suc i) n m (omega arith) (omega arith)))
    go false s later = let other = eqb-false j i s in later (omega arith)

-- the address of station j
abbrev pub address_of : State → ℕ → ℕ
address_of s j = (station_at s j).address

module _ (s : State) (h : Standing (meaning s)) where
  addresses_apart : Distinct (values_from (address_of s) 0 s.segment.settings.n)
  addresses_apart =
      subst Distinct (values_map (λ x. x.address) (station_at s) 0 s.segment.settings.n) (set_up_stands (meaning s) h).addresses_apart

  pub own_address :
      (i j : ℕ) → i < s.segment.settings.n → j < s.segment.settings.n → eqb (address_of s i) (address_of s j) ≡ eqb j i
  own_address i j here there = go (eqb j i) refl (ltb i j) refl
    where
      n : ℕ
      n = s.segment.settings.n

      go : (t : Bool) → eqb j i ≡ t → (u : Bool) → ltb i j ≡ u → eqb (address_of s i) (address_of s j) ≡ t
      go true e u l = eq-eqb (address_of s i) (address_of s j) (ap (address_of s) (sym (eqb-true j i e)))
      go false e true l =
          ne_eqb
          (address_of s i)
          (address_of s j)
          (apart (address_of s) 0 n addresses_apart i j (omega arith) (ltb-true i j l) (omega arith))
      go false e false l =
          let other = eqb-false j i e in
          ne_eqb
          (address_of s i)
          (address_of s j)
          (λ same. apart (address_of s) 0 n addresses_apart j i (omega arith) (omega (arith, ltb-false i j l)) (omega arith) (sym same))

-- ---- other counts of packets admitted and lost, another contention, and other stations
abbrev pub recounted : Bus → List Station → ℕ → ℕ → Option Machine.Contention → Bus
recounted b stations admitted lost contention =
    record {
      discipline = b.discipline;
      D = b.D;
      A = b.A;
      q = b.q;
      stations = stations;
      clock = b.clock;
      admitted = admitted;
      sent = b.sent;
      lost = lost;
      turned = b.turned;
      last = b.last;
      contention = contention;
    }

-- ---- one station's queue holds other packets

-- the state in which the queue of station i holds these packets
abbrev pub requeued : State → ℕ → List Packet → State
requeued s i ps = record { segment = s.segment; queues = with_queue s.queues i (queue_form ps) }

module _
    (s : State)
    (h : Held s)
    (p : Padded s)
    (few : s.segment.settings.n ≤ most_stations)
    (i : ℕ)
    (here : i < s.segment.settings.n)
    (ps : List Packet)
    (room : length ps ≤ places)
  where
    queue_now : (j : ℕ) → j < most_stations → queue_of (requeued s i ps).queues j ≡ cond (eqb j i) (queue_form ps) (queue_of s.queues j)
    queue_now j l =
        queue_of_with s.queues i j (queue_form ps) (omega arith) l h.lengths h.packets (form_places ps room)

    pub requeued_held : Held (requeued s i ps)
    requeued_held =
        let qs = with_queue_lengths s.queues i (queue_form ps) (omega arith) h.lengths h.packets (form_places ps room) in
        record { listed = h.listed; contenders = h.contenders; lengths = qs.0; packets = qs.1 }

    queue_zeros :
        (j : ℕ) → j < most_stations
        → queue_padded (get_or (requeued s i ps).queues.lengths j 0) (places_at (requeued s i ps).queues j) ≡ true
    queue_zeros j l = ap zeros (queue_now j l) ∙ go (eqb j i)
      where
        zeros : Queue → Bool
        zeros queue = queue_padded queue.length queue.packets

        go : (t : Bool) → zeros (cond t (queue_form ps) (queue_of s.queues j)) ≡ true
        go true = form_padded ps room
        go false = p.queues j l

    no_station_still : (j : ℕ) → s.segment.settings.n ≤ j → j < most_stations → has_no_station (requeued s i ps) j ≡ true
    no_station_still j m l =
        ap (λ (queue : Queue). nobody_with queue.length) (queue_now j l)
        ∙ ap (λ t. nobody_with (cond t (queue_form ps) (queue_of s.queues j)).length) (ne_eqb j i (λ e. omega arith))
        ∙ p.past_n j m l
      where
        nobody_with : ℕ → Bool
        nobody_with n =
            eqb (get_or s.segment.listed j nobody).address.0 0
            && eqb (get_or s.segment.listed j nobody).capability.0 0
            && eqb n 0
            && not (recorded_at s.segment j).contends

    pub requeued_padded : Padded (requeued s i ps)
    requeued_padded =
        record {
          discipline = p.discipline;
          queues = queue_zeros;
          contenders = p.contenders;
          past_n = no_station_still;
          round = p.round;
          contention = p.contention;
        }

    -- what station j has
    pub station_now :
        (j : ℕ) → j < most_stations → station_at (requeued s i ps) j ≡ station_with s.segment j (cond (eqb j i) ps (queue_at s.queues j))
    station_now j l = ap (station_with s.segment j) (ap packets_of (queue_now j l) ∙ go (eqb j i))
      where
        go : (t : Bool) → packets_of (cond t (queue_form ps) (queue_of s.queues j)) ≡ cond t ps (queue_at s.queues j)
        go true = packets_of_form ps
        go false = refl

    -- the stations, where each is made of another one
    pub stations_now :
        (f : Station → Station) (old : ℕ → Station)
        → ((j : ℕ) → j < s.segment.settings.n → station_with s.segment j (cond (eqb j i) ps (queue_at s.queues j)) ≡ f (old j))
        → stations_of (requeued s i ps) ≡ map f (values_from old 0 s.segment.settings.n)
    stations_now f old same =
        let n = s.segment.settings.n in
        values_same (station_at (requeued s i ps)) (λ j. f (old j)) 0 n (λ j l k. station_now j (omega arith) ∙ same j (omega arith))
        ∙ sym (values_map f old 0 n)
