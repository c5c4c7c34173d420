-- A circuit with waiting packets, probe by probe: what one probe does to its turn. Assumes nothing.
use Prim.Native.Nat.{ℕ, ◌+◌, ◌*◌, ◌≤◌, ◌<◌}
use mathlib.Core.Path.{◌≡◌, refl, sym, ap, ap₂, ◌∙◌, subst}
use mathlib.Core.Logic.{◌⊎◌, inl, inr}
use mathlib.Core.Bool.{Bool, true, false, not, cond}
use mathlib.Core.Option.{Option, none, some}
use mathlib.Core.List.{List, [], ◌∷◌, ◌++◌, map, append_assoc}
use native.Mathlib.Omega.{arith}
use lib.Dec.{ltb, eqb}
use borrow.Author.Tests.{eqb-true, eqb-false, eq-eqb, ne_eqb, le-ltb, lt-ltb}
use Rattle.window.specs.declared.Side.{Side}
use Rattle.window.specs.declared.Side.TheVariants.{Left, Right}
use Rattle.window.specs.Splitting.{exponent_of, move_right}
use Rattle.rules.specs.Lists.{keep, Among, at_head, All, Some}
use Rattle.rules.specs.Bus.{late, Discipline, RTDG, RTVC, code, Packet, Station, Contention, Bus}
use Rattle.rules.specs.SetUp.{Asked}
use Rattle.rules.specs.Standing.{asked, Rising, Standing}
use Rattle.rules.specs.Admission.{Arrival, named, new_packet, queued, joined, with_packet, turned_away}
use Rattle.rules.specs.Begin.{chosen, choice, sits_out, offers, in_time, entered, begin, parameter_of}
use Rattle.rules.specs.Probe.{Answer, Contender, contender_of, able, transmits, transmitters, going_further, withdrawn, unwon, left, last_winner, won, split, unheard, heard, probe, success, idle}
use Rattle.rules.specs.Step.{opened_by, opened}
use Rattle.rules.specs.Demands.{contenders_at, Ahead, Least, most_probes, wins, sends}
use Rattle.rules.proofs.Laws.{true-and, among_none, among_right, all_cons, all_nil, keep_all, keep_from, count_some, map_into, map-map, map_same}
use Rattle.rules.proofs.Offers.{ChosenOf, chosen_first}
use Rattle.rules.proofs.Numbers.{same_apart}
use Rattle.rules.proofs.Contenders.{contender_from, contender_into, joined_alike, same_address, same_capability}
use Rattle.rules.proofs.Enabled.{Enabled, opened_enabled}
use Rattle.rules.proofs.Standing.{SetUpStands, set_up_stands}
use Rattle.rules.proofs.Keeps.{opened_stands, opened_contention, opened_same}
use Rattle.rules.proofs.Least.{Cleared, least_wins}
use Rattle.rules.proofs.Probes.{Crowded, probes_left, contender_stands, probes_left_some, rival, unwon_empty}
use Rattle.rules.proofs.Round.{above}

-- ---- the oldest packet is the one offered

-- the packets of a rising queue come after what stands before it
above_all : (n m : ℕ) (queue : List Packet) → Rising n m queue → All (λ p. n < p.number) queue
above_all n m [] h = all_nil (λ p. n < p.number)
above_all n m (p ∷ queue) h = let l = h.0 in all_cons p l (λ q i. let k = above_all p.number m queue h.1 q i in omega arith)

pub oldest_chosen : (n m : ℕ) (p : Packet) (rest : List Packet) → Rising n m (p ∷ rest) → choice RTVC (p ∷ rest) ≡ some p
oldest_chosen n m p rest h = go (choice RTVC rest) (chosen_first RTVC rest)
  where
    go : (c : Option Packet) → ChosenOf RTVC rest c → chosen RTVC p c ≡ some p
    go none e = refl
    go (some q) e = let l = above_all p.number m rest h.1 q e.0 in rw (le-ltb q.number p.number (omega arith))

-- opening a contention leaves the last winner
opened_last : (b : Bus) → (opened b).bus.last ≡ b.last
opened_last b = opened_same (λ (m : Bus). m.last) b refl

-- the oldest of the packets ahead and p
abbrev pub foremost : List Packet → Packet → Packet
foremost [] p = p
foremost (q ∷ ahead) p = q

foremost_chosen :
    (m : ℕ) (ahead : List Packet) (p : Packet) (rest : List Packet) → Rising 0 m (ahead ++ (p ∷ rest)) → choice RTVC (ahead ++ (p ∷ rest)) ≡ some (foremost ahead p)
foremost_chosen m [] p rest h = oldest_chosen 0 m p rest h
foremost_chosen m (q ∷ ahead) p rest h = oldest_chosen 0 m q (ahead ++ (p ∷ rest)) h

-- once it has left its queue, those after it are left, since their numbers are above its own
foremost_leaves :
    (n m : ℕ) (q : Packet) (queue : List Packet) → Rising n m (q ∷ queue) → keep (λ r. not (eqb q.number r.number)) (q ∷ queue) ≡ queue
foremost_leaves n m q queue h =
    rw (eq-eqb q.number q.number refl)
    (keep_all (λ r. not (eqb q.number r.number)) queue (λ r i.
    let l = above_all q.number m queue h.1 r i in
    ap not (ne_eqb q.number r.number (λ e. omega arith))))

-- ---- a circuit waits

-- in RTVC nothing is late
pub all_in_time : (b : Bus) (t : Station) → b.discipline ≡ RTVC → in_time b t ≡ t.queue
all_in_time b t d =
    keep_all (λ q. not (late b.discipline b.clock q.value)) t.queue (λ q i. ap (λ e. not (late e b.clock q.value)) d)

-- a contender as its station was asked for
abbrev asked_by : Contender → Asked
asked_by x = record { address = x.address; capability = x.capability }

-- the capabilities of the stations asked for
abbrev pub circuits_of : List Asked → List ℕ
circuits_of row = map (λ t. t.capability) row

-- The circuit s waits on the bus b with the packets `ahead`, and p after them, and contends with the oldest unless it sits out. `row` is what was asked
-- for all stations and D is the parameter space: no call changes them.
pub record Waits (row : List Asked) (D : ℕ) (s : Station) (p : Packet) (ahead : List Packet) (b : Bus) : Type 0 where
  pub by_circuit : b.discipline ≡ RTVC
  pub space : b.D ≡ D
  pub all_asked : map asked b.stations ≡ row
  pub station : Station
  pub listed : Among station b.stations
  pub address : station.address ≡ s.address
  pub capability : station.capability ≡ s.capability
  pub rest : List Packet
  pub queue : station.queue ≡ ahead ++ (p ∷ rest)
  pub contends :
      (c : Contention) → b.contention ≡ some c → sits_out RTVC b.last s.capability ≡ false
      → station.offer ≡ some (record { parameter = s.capability; packet = foremost ahead p })

module _ (row : List Asked) (D : ℕ) (s : Station) (p : Packet) where
  -- stations changed one by one, their addresses and capabilities not
  same_row :
      (f : Station → Station) (stations : List Station) → ((t : Station) → asked (f t) ≡ asked t) → map asked stations ≡ row
      → map asked (map f stations) ≡ row
  same_row f stations h e = map-map asked f stations ∙ map_same stations (λ t i. h t) ∙ e

  pub waits_turned : {ahead : List Packet} (b : Bus) → Waits row D s p ahead b → Waits row D s p ahead (turned_away b)
  waits_turned b w =
      record {
        by_circuit = w.by_circuit;
        space = w.space;
        all_asked = w.all_asked;
        station = w.station;
        listed = w.listed;
        address = w.address;
        capability = w.capability;
        rest = w.rest;
        queue = w.queue;
        contends = w.contends;
      }

  pub waits_admission : {ahead : List Packet} (b : Bus) (a : Arrival) → Waits row D s p ahead b → Waits row D s p ahead (with_packet b a)
  waits_admission {ahead} b a w =
      record {
        by_circuit = w.by_circuit;
        space = w.space;
        all_asked =
            same_row (joined b a) b.stations (λ t. let h = joined_alike b a t in λ i. record { address = h.0 i; capability = h.1 i }) w.all_asked;
        station = joined b a w.station;
        listed = map_into (joined b a) b.stations w.listed;
        address = (joined_alike b a w.station).0 ∙ w.address;
        capability = (joined_alike b a w.station).1 ∙ w.capability;
        rest = cond (named a w.station) (w.rest ++ (new_packet b a ∷ [])) w.rest;
        queue = longer (named a w.station);
        contends = λ c e out. (joined_alike b a w.station).2 ∙ w.contends c e out;
      }
    where
      longer :
          (t : Bool)
          → (cond t (queued (new_packet b a) w.station) w.station).queue ≡ ahead ++ (p ∷ cond t (w.rest ++ (new_packet b a ∷ [])) w.rest)
      longer true = ap (λ ps. ps ++ (new_packet b a ∷ [])) w.queue ∙ append_assoc ahead (p ∷ w.rest) (new_packet b a ∷ [])
      longer false = w.queue

  -- as a contention begins
  pub waits_begin : {ahead : List Packet} (b : Bus) → Standing b → Waits row D s p ahead b → Waits row D s p ahead (begin b)
  waits_begin {ahead} b h w =
      record {
        by_circuit = w.by_circuit;
        space = w.space;
        all_asked = same_row (entered b) b.stations (λ t. refl) w.all_asked;
        station = entered b w.station;
        listed = map_into (entered b) b.stations w.listed;
        address = w.address;
        capability = w.capability;
        rest = w.rest;
        queue = on_time;
        contends = λ c e out. offered out;
      }
    where
      on_time : in_time b w.station ≡ ahead ++ (p ∷ w.rest)
      on_time = all_in_time b w.station w.by_circuit ∙ w.queue

      rises : Rising 0 b.admitted (ahead ++ (p ∷ w.rest))
      rises = subst (Rising 0 b.admitted) w.queue (h.each_station w.station w.listed).rises

      chooses : choice b.discipline (in_time b w.station) ≡ some (foremost ahead p)
      chooses =
          ap (λ d. choice d (in_time b w.station)) w.by_circuit
          ∙ ap (choice RTVC) on_time
          ∙ foremost_chosen b.admitted ahead p w.rest rises

      offered :
          sits_out RTVC b.last s.capability ≡ false
          → (entered b w.station).offer ≡ some (record { parameter = s.capability; packet = foremost ahead p })
      offered out =
          ap (offers b w.station) chooses
          ∙ ap
          (λ d.
          cond
          (sits_out d b.last w.station.capability)
          none
          (some (record { parameter = parameter_of d b w.station (foremost ahead p); packet = foremost ahead p })))
          w.by_circuit
          ∙ ap (λ k. cond (sits_out RTVC b.last k) none (some (record { parameter = k; packet = foremost ahead p }))) w.capability
          ∙ ap (λ t. cond t none (some (record { parameter = s.capability; packet = foremost ahead p }))) out

  waits_opened : {ahead : List Packet} (b : Bus) → Standing b → Waits row D s p ahead b → Waits row D s p ahead (opened b).bus
  waits_opened {ahead} b h w = go b.contention
    where
      go : (c : Option Contention) → Waits row D s p ahead (opened_by b c).bus
      go none = waits_begin b h w
      go (some c) = w

  -- while a contention goes on
  waits_on : {ahead : List Packet} (b : Bus) (c c' : Contention) → b.contention ≡ some c → Waits row D s p ahead b → Waits row D s p ahead (going_further b c')
  waits_on b c c' e w =
      record {
        by_circuit = w.by_circuit;
        space = w.space;
        all_asked = w.all_asked;
        station = w.station;
        listed = w.listed;
        address = w.address;
        capability = w.capability;
        rest = w.rest;
        queue = w.queue;
        contends = λ c'' e'' out. w.contends c e out;
      }

  -- once a contention has ended: f is what becomes of the stations, and leaves the circuit p and those ahead of it still
  pub waits_ended :
      {ahead : List Packet} (ahead' : List Packet) (b b' : Bus) (f : Station → Station) (w : Waits row D s p ahead b) → b'.discipline ≡ b.discipline
      → b'.D ≡ b.D → b'.stations ≡ map f b.stations → b'.contention ≡ none → ((t : Station) → asked (f t) ≡ asked t)
      → (f w.station).queue ≡ ahead' ++ (p ∷ w.rest) → Waits row D s p ahead' b'
  waits_ended ahead' b b' f w d D' ss c keeps q =
      record {
        by_circuit = d ∙ w.by_circuit;
        space = D' ∙ w.space;
        all_asked = ap (map asked) ss ∙ same_row f b.stations keeps w.all_asked;
        station = f w.station;
        listed = subst (Among (f w.station)) (sym ss) (map_into f b.stations w.listed);
        address = ap (λ (t : Asked). t.address) (keeps w.station) ∙ w.address;
        capability = ap (λ (t : Asked). t.capability) (keeps w.station) ∙ w.capability;
        rest = w.rest;
        queue = q;
        contends = λ c'' e'' out. let z : ◌≡◌ {A = ℕ} 0 1 = cc in absurd (omega arith);
      }

  waits_unwon : {ahead : List Packet} (b : Bus) → Waits row D s p ahead b → Waits row D s p ahead (unwon b)
  waits_unwon {ahead} b w = waits_ended ahead b (unwon b) withdrawn w refl refl refl refl (λ t. refl) w.queue

  -- another circuit has won
  waits_won : {ahead : List Packet} (b : Bus) (x : Contender) → ¬ (x.address ≡ s.address) → Waits row D s p ahead b → Waits row D s p ahead (won b x)
  waits_won {ahead} b x other w =
      waits_ended
      ahead
      b
      (won b x)
      (left x)
      w
      refl
      refl
      refl
      refl
      (λ t. refl)
      (ap
      (λ t. cond t (keep (λ q. not (eqb x.packet.number q.number)) w.station.queue) w.station.queue)
      (ne_eqb x.address w.station.address (λ e. other (e ∙ w.address)))
      ∙ w.queue)

  -- the circuit itself has won, with the first of the packets ahead
  waits_after :
      {q : Packet} {ahead : List Packet} (b : Bus) (x : Contender) → Standing b → x.address ≡ s.address → x.packet ≡ q
      → Waits row D s p (q ∷ ahead) b → Waits row D s p ahead (won b x)
  waits_after {q} {ahead} b x h own sent w =
      waits_ended
      ahead
      b
      (won b x)
      (left x)
      w
      refl
      refl
      refl
      refl
      (λ t. refl)
      (ap
      (λ t. cond t (keep (λ r. not (eqb x.packet.number r.number)) w.station.queue) w.station.queue)
      (eq-eqb x.address w.station.address (own ∙ sym w.address))
      ∙ ap₂ (λ (y : Packet) (queue : List Packet). keep (λ r. not (eqb y.number r.number)) queue) sent w.queue
      ∙ foremost_leaves
      0
      b.admitted
      q
      (ahead ++ (p ∷ w.rest))
      (subst (Rising 0 b.admitted) w.queue (h.each_station w.station w.listed).rises))

  -- those of one queue have numbers of their own, p another than the first ahead of it
  ahead_apart : {q : Packet} {ahead : List Packet} (b : Bus) → Standing b → Waits row D s p (q ∷ ahead) b → ¬ (q.number ≡ p.number)
  ahead_apart {q} {ahead} b h w e =
      let rises = subst (Rising 0 b.admitted) w.queue (h.each_station w.station w.listed).rises in
      let l = above_all q.number b.admitted (ahead ++ (p ∷ w.rest)) rises.1 p (among_right ahead (at_head refl)) in
      omega arith

  -- ---- one probe

  -- What a probe does to the circuit's turn: its contention goes on; the circuit sends p; it sends the first of those ahead, and p comes a place
  -- forward; another circuit wins, which does not sit out and, unless s does, is below s; or nobody contends, s sits out, and the round ends. Where a
  -- circuit wins, two probes were left or another circuit is above it.
  pub data Turn (b : Bus) (out : Answer × Bus) : List Packet → Type 0 where
    goes_on :
        {ahead : List Packet} → out.0.ended ≡ 0 → ¬ (out.0.event ≡ success) → out.1.last ≡ b.last → Waits row D s p ahead out.1
        → Turn b out ahead
    its_own :
        out.0.ended ≡ 1 → out.0.event ≡ success → sends s p out.0 ≡ true → sits_out RTVC b.last s.capability ≡ false
        → 2 ≤ probes_left b + above (circuits_of row) s.capability → Turn b out []
    earlier :
        {q : Packet} {ahead : List Packet} → out.0.ended ≡ 1 → out.0.event ≡ success → wins s.address out.0 ≡ true
        → sends s p out.0 ≡ false → sits_out RTVC b.last s.capability ≡ false → 2 ≤ probes_left b + above (circuits_of row) s.capability
        → out.1.last ≡ some s.capability → out.1.contention ≡ none → Waits row D s p ahead out.1 → Turn b out (q ∷ ahead)
    anothers :
        {ahead : List Packet} {x : Asked} → out.0.ended ≡ 1 → out.0.event ≡ success → out.0.address ≡ x.address → ¬ (x.address ≡ s.address)
        → out.1.last ≡ some x.capability → Among x row → sits_out RTVC b.last x.capability ≡ false
        → (sits_out RTVC b.last s.capability ≡ false → x.capability < s.capability)
        → 2 ≤ probes_left b + above (circuits_of row) x.capability → out.1.contention ≡ none → Waits row D s p ahead out.1 → Turn b out ahead
    nobodys :
        {ahead : List Packet} → out.0.ended ≡ 1 → out.0.event ≡ idle → probes_left b ≡ 2 * exponent_of D
        → sits_out RTVC b.last s.capability ≡ true → out.1.last ≡ none → out.1.contention ≡ none → Waits row D s p ahead out.1
        → Turn b out ahead

  -- a bus as reached, on which s waits
  module _ (b : Bus) (h : Standing b) (crowded : Crowded b) (enabled : Enabled b) {ahead : List Packet} (w : Waits row D s p ahead b) where
    wo : Waits row D s p ahead (opened b).bus
    wo = waits_opened b h w

    -- what s contends with
    abbrev mine : Contender
    mine = contender_of wo.station (record { parameter = s.capability; packet = foremost ahead p })

    -- s contends, unless it sits out
    contends_too : sits_out RTVC b.last s.capability ≡ false → Among mine (contenders_at b)
    contends_too out =
        contender_into
        (opened b).bus.stations
        wo.listed
        (wo.contends (opened b).contention (opened_contention b) (ap (λ l. sits_out RTVC l s.capability) (opened_last b) ∙ out))

    -- a contender does not sit out
    not_out : (x : Contender) → Among x (contenders_at b) → sits_out RTVC b.last x.capability ≡ false
    not_out x i =
        sym (ap (λ l. sits_out RTVC l x.capability) (opened_last b))
        ∙ sym (ap (λ d. sits_out d (opened b).bus.last x.capability) wo.by_circuit)
        ∙ opened_enabled b b.contention enabled x i

    -- a contender is a station asked for, and its capability a circuit
    a_station : (x : Contender) → Among x (contenders_at b) → Among (asked_by x) row
    a_station x i =
        let f = contender_from (opened b).bus.stations i in
        subst (Among (asked_by x)) wo.all_asked
        (rw (ap asked_by f.is) (map_into asked (opened b).bus.stations f.listed))

    a_circuit : (x : Contender) → Among x (contenders_at b) → Among x.capability (circuits_of row)
    a_circuit x i = map_into (λ t. t.capability) row (a_station x i)

    -- two probes are left, or a circuit other than s takes part
    pub takes_part : (2 ≤ probes_left b) ⊎ Some (λ y. (sits_out RTVC b.last y ≡ false) × (¬ (y ≡ s.capability))) (circuits_of row)
    takes_part = go (rival b h crowded w.by_circuit s.capability)
      where
        go :
            (2 ≤ probes_left b) ⊎ Some (λ y. ¬ (y.capability ≡ s.capability)) (contenders_at b)
            → (2 ≤ probes_left b) ⊎ Some (λ y. (sits_out RTVC b.last y ≡ false) × (¬ (y ≡ s.capability))) (circuits_of row)
        go (inl two) = inl two
        go (inr (y, j, other)) = inr (y.capability, a_circuit y j, (not_out y j, other))

    -- the bus probed has distinct addresses and capabilities
    apart : SetUpStands (opened b).bus
    apart = set_up_stands (opened b).bus (opened_stands b h)

    -- a contender of the address of s has its capability,
    own_capability : (x : Contender) → Among x (contenders_at b) → x.address ≡ s.address → x.capability ≡ s.capability
    own_capability x i e =
        let f = contender_from (opened b).bus.stations i in
        let address : f.station.address ≡ wo.station.address = sym (ap (λ (y : Contender). y.address) f.is) ∙ e ∙ sym wo.address in
        let station = same_apart (λ t. t.address) (opened b).bus.stations apart.addresses_apart f.listed wo.listed address in
        ap (λ (y : Contender). y.capability) f.is ∙ ap (λ (t : Station). t.capability) station ∙ wo.capability

    -- so that s does not sit out,
    own_part : (x : Contender) → Among x (contenders_at b) → x.address ≡ s.address → sits_out RTVC b.last s.capability ≡ false
    own_part x i e = ap (sits_out RTVC b.last) (sym (own_capability x i e)) ∙ not_out x i

    -- and the oldest of its packets
    sends_own : (x : Contender) → Among x (contenders_at b) → x.address ≡ s.address → x.packet ≡ foremost ahead p
    sends_own x i e =
        ap (λ (y : Contender). y.packet)
        (same_address (opened b).bus.stations apart.addresses_apart i (contends_too (own_part x i e)) (e ∙ sym wo.address))

    -- and its probe
    module _ (cleared : Cleared b) where
      -- where the probe is silent and the window is a right one, nobody contends, so that s sits out
      silent :
          (probe (opened b)).0.ended ≡ 1 → (probe (opened b)).0.event ≡ idle
          → (probes_left b ≡ 2 * exponent_of D) × (sits_out RTVC b.last s.capability ≡ true)
      silent ended unheard-event =
          (k.0 ∙ ap₂ (λ (d : Discipline) (n : ℕ). most_probes d (exponent_of n) (exponent_of b.A)) w.by_circuit w.space, go (sits_out RTVC b.last s.capability) refl)
        where
          not_laxity : ¬ (b.discipline ≡ RTDG)
          not_laxity e = let y : ◌≡◌ {A = ℕ} 2 1 = ap code (sym w.by_circuit ∙ e) in omega arith

          k : (probes_left b ≡ most_probes b.discipline (exponent_of b.D) (exponent_of b.A)) × (contenders_at b ≡ [])
          k = unwon_empty b h crowded not_laxity ended unheard-event

          go : (t : Bool) → sits_out RTVC b.last s.capability ≡ t → t ≡ true
          go true e = refl
          go false e = absurd (among_none (subst (Among mine) k.1 (contends_too e)))

      -- the winner
      module _
          (x : Contender)
          (i : Among x (contenders_at b))
          (won-event : (probe (opened b)).0.event ≡ success)
          (named-x : (probe (opened b)).0.address ≡ x.address)
        where
          -- is below every other contender
          winner_below : (y : Contender) → Among y (contenders_at b) → ¬ (y.capability ≡ x.capability) → x.capability < y.capability
          winner_below y j other = go (subst (λ v. Ahead v y) same (l.least y j on_time))
            where
              l : Least b (probe (opened b)).0
              l = least_wins b cleared won-event

              same : l.winner ≡ x
              same = same_address (opened b).bus.stations apart.addresses_apart l.contends i (sym l.address ∙ named-x)

              on_time : able b.discipline b.clock y ≡ true
              on_time = ap (λ d. not (late d b.clock y.packet.value)) w.by_circuit

              circuit : (v : Contender) → Among v (contenders_at b) → v.parameter ≡ v.capability
              circuit v k = (contender_stands (opened b) (opened_stands b h) (opened_contention b) v k).circuit wo.by_circuit

              go : Ahead x y → x.capability < y.capability
              go (inl below) = omega (arith, circuit x i, circuit y j)
              go (inr tied) = absurd (other (sym (circuit y j) ∙ sym tied.0 ∙ circuit x i))

          -- if it is not s, it is below s, unless s sits out
          another_below : ¬ (x.address ≡ s.address) → sits_out RTVC b.last s.capability ≡ false → x.capability < s.capability
          another_below other out = rw wo.capability at (winner_below mine (contends_too out) (λ e. other (one (sym e))))
            where
              one : x.capability ≡ mine.capability → x.address ≡ s.address
              one e =
                  ap (λ (y : Contender). y.address)
                  (same_capability (opened b).bus.stations (apart.capabilities_apart wo.by_circuit) i (contends_too out) e)
                  ∙ wo.address

          -- two probes were left, or another circuit is above it
          contested : 2 ≤ probes_left b + above (circuits_of row) x.capability
          contested = go (rival b h crowded w.by_circuit x.capability)
            where
              go :
                  (2 ≤ probes_left b) ⊎ Some (λ y. ¬ (y.capability ≡ x.capability)) (contenders_at b)
                  → 2 ≤ probes_left b + above (circuits_of row) x.capability
              go (inl two) = omega arith
              go (inr (y, j, other)) =
                  let one = count_some (λ k. ltb x.capability k) (circuits_of row) (a_circuit y j) (lt-ltb _ _ (winner_below y j other)) in
                  omega (arith, probes_left_some b h crowded)

      pub turn : Turn b (probe (opened b)) ahead
      turn = go (transmitters (opened b).bus (opened b).contention) refl
        where
          waits_here : (c : Contention) → Waits row D s p ahead (going_further (opened b).bus c)
          waits_here c = waits_on (opened b).bus (opened b).contention c (opened_contention b) wo

          event : {r : Answer × Bus} → probe (opened b) ≡ r → (probe (opened b)).0.event ≡ r.0.event
          event f = ap (λ (m : Answer × Bus). m.0.event) f

          address : {r : Answer × Bus} → probe (opened b) ≡ r → (probe (opened b)).0.address ≡ r.0.address
          address f = ap (λ (m : Answer × Bus). m.0.address) f

          by_side : (d : Side) → probe (opened b) ≡ unheard (opened b) d → Turn b (unheard (opened b) d) ahead
          by_side Left f =
              let c : Contention = record { window = move_right (opened b).contention.window; tie = (opened b).contention.tie } in
              goes_on refl (λ y. omega arith) (opened_last b) (waits_here c)
          by_side Right f =
              let k = silent (ap (λ (m : Answer × Bus). m.0.ended) f) (event f) in
              nobodys refl refl k.0 k.1 refl refl (waits_unwon (opened b).bus wo)

          own :
              (x : Contender) → x.address ≡ s.address → sits_out RTVC b.last s.capability ≡ false
              → 2 ≤ probes_left b + above (circuits_of row) s.capability → x.capability ≡ s.capability → (before : List Packet)
              → x.packet ≡ foremost before p → Waits row D s p before (opened b).bus → Turn b (heard (opened b) (x ∷ [])) before
          own x e out two same [] sent w' =
              its_own
              refl
              refl
              (true-and (eq-eqb x.address s.address e) (eq-eqb x.packet.number p.number (ap (λ (q : Packet). q.number) sent)))
              out
              two
          own x e out two same (q ∷ before) sent w' =
              earlier
              refl
              refl
              (eq-eqb x.address s.address e)
              (rw (eq-eqb x.address s.address e)
              (ne_eqb x.packet.number p.number (λ n.
              ahead_apart (opened b).bus (opened_stands b h) w' (ap (λ (r : Packet). r.number) (sym sent) ∙ n))))
              out
              two
              (ap (λ d. last_winner d x) wo.by_circuit ∙ ap some same)
              refl
              (waits_after (opened b).bus x (opened_stands b h) e sent w')

          lone :
              (x : Contender) → Among x (contenders_at b) → probe (opened b) ≡ heard (opened b) (x ∷ []) → (t : Bool) → eqb x.address s.address ≡ t
              → Turn b (heard (opened b) (x ∷ [])) ahead
          lone x i f true e =
              let same = eqb-true x.address s.address e in
              own
              x
              same
              (own_part x i same)
              (subst (λ n. 2 ≤ probes_left b + above (circuits_of row) n) (own_capability x i same) (contested x i (event f) (address f)))
              (own_capability x i same)
              ahead
              (sends_own x i same)
              wo
          lone x i f false e =
              let other = eqb-false x.address s.address e in
              anothers
              {x = asked_by x}
              refl
              refl
              refl
              other
              (ap (λ d. last_winner d x) wo.by_circuit)
              (a_station x i)
              (not_out x i)
              (another_below x i (event f) (address f) other)
              (contested x i (event f) (address f))
              refl
              (waits_won (opened b).bus x other wo)

          go : (xs : List Contender) → transmitters (opened b).bus (opened b).contention ≡ xs → Turn b (heard (opened b) xs) ahead
          go [] e = by_side (opened b).contention.window.side (ap (heard (opened b)) e)
          go (x ∷ []) e =
              let i = keep_from (transmits (opened b).bus (opened b).contention) (contenders_at b) (subst (Among x) (sym e) (at_head refl)) in
              lone x i.0 (ap (heard (opened b)) e) (eqb x.address s.address) refl
          go (x ∷ y ∷ more) e = goes_on refl (λ y. omega arith) (opened_last b) (waits_here (split (opened b).bus (opened b).contention))
