-- Every call that accepts keeps the standing conditions, and so does beginning a contention. Assumes nothing.
use Prim.Native.Nat.{ℕ, zero, suc, ◌+◌, ◌-◌, ◌≤◌, ◌<◌, min}
use mathlib.Core.Path.{◌≡◌, refl, sym, ap, ◌∙◌, subst, subst₂}
use mathlib.Core.Logic.{◌⊎◌, inl, inr}
use mathlib.Core.Bool.{Bool, true, false, not, ◌||◌, cond}
use mathlib.Core.Option.{Option, none, some}
use mathlib.Core.List.{List, [], ◌∷◌, ◌++◌, map, map-id}
use native.Mathlib.Nat.{le_refl}
use native.Mathlib.Omega.{arith}
use lib.Dec.{leb, ltb, eqb}
use lib.ListN.{length, take, length-append, length-map}
use lib.Pow.{pow_pos}
use lib.Seq.{length-take-le, take-take}
use borrow.Author.Tests.{leb-true, leb-false, ltb-false, le-ltb, eqb-true, eq-eqb}
use Rattle.window.specs.declared.Side.{Side}
use Rattle.window.specs.declared.Side.TheVariants.{Left, Right}
use Rattle.window.specs.declared.Window.{Window}
use Rattle.window.specs.Splitting.{first_window, left_half, move_right}
use Rattle.window.proofs.Facts.{placed_first, placed_left, placed_right, placed_view, single}
use Rattle.rules.specs.Lists.{bit, keep, count, Among, at_head, in_tail, All, Distinct, outside, verdict}
use Rattle.rules.specs.Bus.{late, most_stations, least_space, most_space, clock_end, last_slot, Discipline, PRI, RTDG, RTVC, code, Packet, Offer, Station, Contention, Bus, amended, waiting, numbers}
use Rattle.rules.specs.SetUp.{Asked, Request, Verdict, fault, step_outside, station_tests, row_tests, set_up_verdict, discipline_of, fresh_station, fresh_bus}
use Rattle.rules.specs.Standing.{asked, asked_for, ValueFits, PacketStands, ParameterFits, OfferStands, StationStands, LastStands, WindowStands, ContentionStands, Standing}
use Rattle.rules.specs.Admission.{Arrival, Admitted, named, admission_refusal, new_packet, queued, joined, with_packet, TurnsAway, turned_away, handed_back, admit}
use Rattle.rules.specs.Begin.{choice, chosen, goes_before, parameter_of, sits_out, offers, in_time, entered, drops_of, opening, begin}
use Rattle.rules.specs.Probe.{Contender, contenders, lies_in, transmits, transmitters, Open, going_further, withdrawn, left, last_winner, won, tied_at, split, unheard, heard, probe}
use Rattle.rules.specs.Step.{opened_by, opened, step_refusal, step}
use Rattle.rules.specs.Demands.{KeepsStanding}
use Rattle.rules.proofs.TurnedAway.{turns_whether, within, turned_standing, turned_refused}
use Rattle.rules.proofs.Tests.{told}
use Rattle.rules.proofs.Refusals.{hands_back}
use Rattle.rules.proofs.Laws.{and-true, or-false, among_left, among_append, all_cons, all_nil, keep_from, all_map, map_into, map_same, map-map, total_map, total_parts, count_some, kept_failed, total_none, total_count}
use Rattle.rules.proofs.Numbers.{one_apart, same_apart, held, times, times_once, none_twice_kept, rising_suc, rising_append, rising_none, Fewer, fewer_all, fewer_keep, joined_waiting, joined_none_twice}
use Rattle.rules.proofs.Standing.{SetUpStands, set_up_stands, accepted_set_up, AdmissionAccepted, accepted_admission, admission_accepted, admit_is, accepted_begin, begin_accepted, begin_is, accepted_probe, probe_accepted, probe_step, accepted_step, step_accepted, step_is}
use Rattle.rules.proofs.Contenders.{contender_from}

-- ---- what stands as before, where what it speaks of is what it was

-- set-up fields and stations, where each station has its address and capability
passes_kept :
    (b : Bus) (f : Station → Station) → ((s : Station) → asked (f s) ≡ asked s) → Standing b
    → (set_up_verdict (record {
      discipline = code b.discipline;
      D = b.D;
      A = b.A;
      q = b.q;
      N = length (map f b.stations);
      row = map asked (map f b.stations);
    })).refusal ≡ 0
passes_kept b f same h =
    let row : map asked (map f b.stations) ≡ map asked b.stations = map-map asked f b.stations ∙ map_same b.stations (λ s i. same s) in
    rw (length-map b.stations f, row) h.passes

-- a last winner, where each station has its capability
last_kept :
    (f : Station → Station) → ((s : Station) → asked (f s) ≡ asked s) → (stations : List Station) (d : Discipline) (last : Option ℕ)
    → LastStands d stations last → LastStands d (map f stations) last
last_kept f same stations d none h = tt
last_kept f same stations PRI (some c) h = h
last_kept f same stations RTDG (some c) h = h
last_kept f same stations RTVC (some c) h = (f h.0, map_into f stations h.1, h.2 ∙ sym (ap (λ r. r.capability) (same h.0)))

-- a packet, where the discipline and D are the same and the clock has not gone back
packet_kept :
    (b b' : Bus) → b'.discipline ≡ b.discipline → b'.D ≡ b.D → b.clock ≤ b'.clock → (p : Packet) → PacketStands b p → PacketStands b' p
packet_kept b b' d D on p h =
    record { value = rw (d, D) h.value; least = h.least; most = h.most; admission = omega (arith, on, h.admission) }

-- a window and a tied value, where D and A are the same
contention_kept : (b b' : Bus) → b'.D ≡ b.D → b'.A ≡ b.A → (c : Option Contention) → ContentionStands b c → ContentionStands b' c
contention_kept b b' D A none h = tt
contention_kept b b' D A (some c) h = go c.tie h
  where
    go : (t : Option ℕ) → WindowStands b c t → WindowStands b' c t
    go none w = rw D w
    go (some v) w = rw (D, A) w

-- an offer, where the discipline, D and the capability are the same, its packet is still in the queue and a contention still under way
offer_kept :
    (b b' : Bus) → b'.discipline ≡ b.discipline → b'.D ≡ b.D → (s s' : Station) → s'.capability ≡ s.capability
    → All (λ p. Among p s'.queue) s.queue → (c c' : Option Contention) → (c' ≡ none → c ≡ none) → (o : Option Offer)
    → OfferStands b s c o → OfferStands b' s' c' o
offer_kept b b' d D s s' same more c c' still none h = tt
offer_kept b b' d D s s' same more none c' still (some o) h = absurd h
offer_kept b b' d D s s' same more (some c) none still (some o) h = let z : ◌≡◌ {A = ℕ} 0 1 = cc (still refl) in absurd (omega arith)
offer_kept b b' d D s s' same more (some c) (some c') still (some o) h = (more o.packet h.0, rw D h.1, rw d (fits b.discipline h.2))
  where
    fits : (d : Discipline) → ParameterFits d s o → ParameterFits d s' o
    fits PRI k = k
    fits RTDG k = k
    fits RTVC k = k ∙ sym same

-- ---- the moves of a step: the settings and the counts of packets admitted and turned away are the same, and no queue has more than before

abbrev moved : Bus → (Station → Station) → ℕ → ℕ → ℕ → Option ℕ → Option Contention → Bus
moved b f clock sent lost last contention =
    record {
      discipline = b.discipline;
      D = b.D;
      A = b.A;
      q = b.q;
      stations = map f b.stations;
      clock = clock;
      admitted = b.admitted;
      sent = sent;
      lost = lost;
      turned = b.turned;
      last = last;
      contention = contention;
    }

-- Such a bus stands, if its clock, counts, offers, last winner and window are in order.
module _ (b : Bus) (f : Station → Station) (clock sent lost : ℕ) (last : Option ℕ) (c : Option Contention) where
  moved_stands :
      Standing b → ((s : Station) → asked (f s) ≡ asked s) → ((s : Station) → Fewer s.queue (f s).queue) → b.clock ≤ clock → clock ≤ clock_end
      → waiting b.stations + (b.sent + b.lost) ≡ waiting (map f b.stations) + (sent + lost)
      → All (λ s. OfferStands (moved b f clock sent lost last c) (f s) c (f s).offer) b.stations → LastStands b.discipline (map f b.stations) last
      → ContentionStands b c → Standing (moved b f clock sent lost last c)
  moved_stands h same fewer on t balance offers won w =
      record {
        passes = passes_kept b f same h;
        clock_in = t;
        admitted_in = h.admitted_in;
        turned_within = h.turned_within;
        counts = omega (arith, h.counts);
        each_station =
            all_map (StationStands (moved b f clock sent lost last c)) f b.stations (λ s i.
            let was = h.each_station s i in
            record {
              room = omega (arith, was.room, (fewer s).room);
              rises = (fewer s).rises b.admitted was.rises;
              packets = λ p j. packet_kept b (moved b f clock sent lost last c) refl refl on p (was.packets p ((fewer s).packets p j));
              offered = offers s i;
            });
        none_twice = none_twice_kept f b.stations (λ s i. (fewer s).numbers) h.none_twice;
        winner_last_stands = won;
        window = contention_kept b (moved b f clock sent lost last c) refl refl c w;
      }

-- ---- beginning a contention

-- a choice is one of the packets
choice_from : (d : Discipline) (p : Packet) (queue : List Packet) → choice d queue ≡ some p → Among p queue
choice_from d p [] e = let z : ◌≡◌ {A = ℕ} 0 1 = cc in absurd (omega arith)
choice_from d p (p₀ ∷ queue) e = go (choice d queue) e (λ p'. choice_from d p' queue)
  where
    go : (o : Option Packet) → chosen d p₀ o ≡ some p → ((p' : Packet) → o ≡ some p' → Among p' queue) → Among p (p₀ ∷ queue)
    go none k more = let same : p ≡ p₀ = cc in at_head same
    go (some p') k more = then (goes_before d p' p₀) k
      where
        then : (t : Bool) → some (cond t p' p₀) ≡ some p → Among p (p₀ ∷ queue)
        then true k' = in_tail (more p (cc))
        then false k' = let same : p ≡ p₀ = cc in at_head same

-- a parameter fits its discipline, and is below D
offer_fits : (d : Discipline) (b : Bus) (s : Station) (p : Packet) → ParameterFits d (entered b s) (record { parameter = parameter_of d b s p; packet = p })
offer_fits PRI b s p = refl
offer_fits RTDG b s p = tt
offer_fits RTVC b s p = refl

parameter_below :
    (b : Bus) (s : Station) (p : Packet) → SetUpStands b → Among s b.stations → PacketStands b p → (d : Discipline) → b.discipline ≡ d
    → parameter_of d b s p < b.D
parameter_below b s p h i k PRI e = subst (λ (d : Discipline). ValueFits d b.D p.value) e k.value
parameter_below b s p h i k RTDG e = capped _ b.D h.d_least
  where
    capped : (n D : ℕ) → 2 ≤ D → min n (D - 1) < D
    capped n D l = omega arith
parameter_below b s p h i k RTVC e = h.capabilities_in e s i

-- what a station offers stands
offers_stand : (b : Bus) → Standing b → All (λ s. OfferStands (begin b) (entered b s) (some (opening b)) (entered b s).offer) b.stations
offers_stand b h s i = go (choice b.discipline (in_time b s)) refl
  where
    go : (o : Option Packet) → choice b.discipline (in_time b s) ≡ o → OfferStands (begin b) (entered b s) (some (opening b)) (offers b s o)
    go none e = tt
    go (some p) e = then (sits_out b.discipline b.last s.capability)
      where
        found : Among p (in_time b s)
        found = choice_from b.discipline p (in_time b s) e

        then :
            (t : Bool)
            → OfferStands (begin b) (entered b s) (some (opening b)) (cond t none (some (record { parameter = parameter_of b.discipline b s p; packet = p })))
        then true = tt
        then false =
            let stands = (h.each_station s i).packets p (keep_from _ s.queue found).0 in
            (found, parameter_below b s p (set_up_stands b h) i stands b.discipline refl, offer_fits b.discipline b s p)

-- what is dropped was waiting
dropped : (b : Bus) → waiting b.stations ≡ waiting (map (entered b) b.stations) + drops_of b
dropped b =
    let gone : Packet → Bool = λ p. late b.discipline b.clock p.value in
    let rest = total_map held (entered b) b.stations in
    let parts = total_parts held (λ s. length (in_time b s)) (λ s. count gone s.queue) b.stations (λ s i. kept_failed gone s.queue) in
    omega arith

-- a contention begins with the first window of D
pub begin_stands : (b : Bus) → Standing b → Standing (begin b)
begin_stands b h =
    moved_stands b (entered b) b.clock b.sent (b.lost + drops_of b) b.last (some (opening b)) h (λ s. refl)
    (λ s. fewer_keep _ s.queue) (le_refl _) h.clock_in (omega (arith, dropped b)) (offers_stand b h)
    (last_kept (entered b) (λ s. refl) b.stations b.discipline b.last h.winner_last_stands) (placed_first b.D)

-- the bus that a step probes stands, and has its contention under way
pub opened_stands : (b : Bus) → Standing b → Standing (opened b).bus
opened_stands b h = go b.contention refl
  where
    go : (c : Option Contention) → b.contention ≡ c → Standing (opened_by b c).bus
    go none e = begin_stands b h
    go (some c) e = h

pub opened_contention : (b : Bus) → (opened b).bus.contention ≡ some (opened b).contention
opened_contention b = go b.contention refl
  where
    go : (c : Option Contention) → b.contention ≡ c → (opened_by b c).bus.contention ≡ some (opened_by b c).contention
    go none e = refl
    go (some c) e = e

-- what beginning a contention leaves as it is, as the clock, is so on the bus that is probed
pub opened_same : {X : Type 0} (f : Bus → X) (b : Bus) → f (begin b) ≡ f b → f (opened b).bus ≡ f b
opened_same {X} f b e = go b.contention
  where
    go : (c : Option Contention) → f (opened_by b c).bus ≡ f b
    go none = e
    go (some c) = refl

-- ---- probing one slot

-- who transmits: a station's contender, with a packet of its queue and a parameter below D
pub record Sender (b : Bus) (c : Contention) (x : Contender) : Type 0 where
  pub station : Station
  pub listed : Among station b.stations
  pub address : x.address ≡ station.address
  pub capability : x.capability ≡ station.capability
  pub queued : Among x.packet station.queue
  pub below : x.parameter < b.D
  pub lies : lies_in c.window c.tie x ≡ true

pub sender : (b : Bus) (c : Contention) (x : Contender) → Standing b → b.contention ≡ some c → Among x (transmitters b c) → Sender b c x
sender b c x h e i =
    let sends = keep_from (transmits b c) (contenders b.stations) i in
    let from = contender_from b.stations sends.0 in
    let offer = subst₂ (OfferStands b from.station) e from.offered (h.each_station from.station from.listed).offered in
    record {
      station = from.station;
      listed = from.listed;
      address = ap (λ y. y.address) from.is;
      capability = ap (λ y. y.capability) from.is;
      queued = subst (λ (y : Packet). Among y from.station.queue) (sym (ap (λ y. y.packet) from.is)) offer.0;
      below = subst (λ (y : ℕ). y < b.D) (sym (ap (λ y. y.parameter) from.is)) offer.1;
      lies = (and-true _ _ sends.1).0;
    }

-- the stations and counts stay as they are
pub amended_stands :
    (b : Bus) (clock : ℕ) (last : Option ℕ) (c : Option Contention) → Standing b → b.clock ≤ clock → clock ≤ clock_end
    → LastStands b.discipline b.stations last → (c ≡ none → b.contention ≡ none) → ContentionStands b c → Standing (amended clock last c b)
amended_stands b clock last c h on t won still w =
    rw (← (map-id b.stations))
    (moved_stands b (λ s. s) clock b.sent b.lost last c h (λ s. refl) (λ s. fewer_all s.queue) on t (rw (map-id b.stations))
    (λ s i. offer_kept b (moved b (λ s. s) clock b.sent b.lost last c) refl refl s s refl (λ p j. j) b.contention c still s.offer (h.each_station s i).offered)
    (last_kept (λ s. s) (λ s. refl) b.stations b.discipline last won) w)

-- a contention goes on with another window
goes_on_stands : (b : Bus) (c : Contention) → Standing b → b.clock ≤ last_slot → ContentionStands b (some c) → Standing (going_further b c)
goes_on_stands b c h t w = amended_stands b (suc b.clock) b.last (some c) h (omega arith) (omega arith) h.winner_last_stands (λ e. cc) w

-- the window after a collision; a tie phase begins at size 1, so that the tied value is a transmitter's parameter
split_stands : (b : Bus) (c : Contention) (x : Contender) → ContentionStands b (some c) → Sender b c x → ContentionStands b (some (split b c))
split_stands b c x w k = go (leb 2 c.window.size) refl c.tie w k.lies
  where
    halved : Option ℕ → Contention
    halved tie = record { window = left_half c.window; tie = tie }

    tied : Option ℕ → Contention
    tied tie = record { window = first_window b.A; tie = some (tied_at c.window tie) }

    go :
        (t : Bool) → leb 2 c.window.size ≡ t → (tie : Option ℕ) → WindowStands b c tie → lies_in c.window tie x ≡ true
        → ContentionStands b (some (cond t (halved tie) (tied tie)))
    go true e none w l = placed_left b.D c.window w (leb-true 2 _ e)
    go true e (some v) w l = (w.0, placed_left b.A c.window w.1 (leb-true 2 _ e))
    go false e none w l =
        let p = placed_view b.D c.window w in
        let one : c.window.size ≡ 1 = omega (arith, leb-false 2 c.window.size e, p.size_is, pow_pos p.level) in
        (omega (arith, k.below, single c.window x.parameter one l), placed_first b.A)
    go false e (some v) w l = (w.0, placed_first b.A)

-- the window after an idle left half
right_stands :
    (b : Bus) (w : Window) → w.side ≡ Left → (tie : Option ℕ) → WindowStands b (record { window = w; tie = tie }) tie
    → WindowStands b (record { window = move_right w; tie = tie }) tie
right_stands b w e none h = placed_right b.D w h e
right_stands b w e (some v) h = (h.0, placed_right b.A w h.1 e)

-- nobody transmits
unheard_stands :
    (o : Open) → Standing o.bus → o.bus.clock ≤ last_slot → ContentionStands o.bus (some o.contention) → (side : Side)
    → o.contention.window.side ≡ side → Standing (unheard o side).1
unheard_stands o h t w Left e = goes_on_stands o.bus _ h t (right_stands o.bus o.contention.window e o.contention.tie w)
unheard_stands o h t w Right e =
    moved_stands o.bus withdrawn (suc o.bus.clock) o.bus.sent o.bus.lost none none h (λ s. refl) (λ s. fewer_all s.queue) (omega arith)
    (omega arith) (rw (total_map held withdrawn o.bus.stations)) (λ s i. tt) tt tt

-- one transmits: whether a station is its own, and what a queue has left if it is
abbrev pub own : Contender → Station → Bool
own x s = eqb x.address s.address

abbrev pub remaining : Contender → Station → Bool → List Packet
remaining x s mine = cond mine (keep (λ p. not (eqb x.packet.number p.number)) s.queue) s.queue

module _ (b : Bus) (c : Contention) (x : Contender) (h : Standing b) (k : Sender b c x) where
  apart : Distinct (map (λ s. s.address) b.stations)
  apart = (set_up_stands b h).addresses_apart

  -- its own station loses one packet, any other none
  pub one_less : (s : Station) → Among s b.stations → (mine : Bool) → own x s ≡ mine → held s ≡ length (remaining x s mine) + bit mine
  one_less s i true e =
      let same : s ≡ k.station = same_apart (λ s. s.address) b.stations apart i k.listed (sym (eqb-true _ _ e) ∙ k.address) in
      let there : Among x.packet s.queue = rw same k.queued in
      let most = times_once x.packet.number b.stations h.none_twice i in
      let least = count_some (λ p. eqb x.packet.number p.number) s.queue there (eq-eqb x.packet.number _ refl) in
      omega (arith, kept_failed (λ p. eqb x.packet.number p.number) s.queue)
  one_less s i false e = omega arith

  -- of all that wait, its packet leaves
  one_leaves : waiting b.stations ≡ suc (waiting (map (left x) b.stations))
  one_leaves =
      let rest = total_map held (left x) b.stations in
      let parts = total_count held (λ s. held (left x s)) (own x) b.stations (λ s i. one_less s i (own x s) refl) in
      let most = one_apart (λ s. s.address) x.address b.stations apart in
      let least = count_some (own x) b.stations k.listed (eq-eqb x.address _ k.address) in
      omega arith

  -- the winner's capability is a station's
  winner_stands : (d : Discipline) → LastStands d (map (left x) b.stations) (last_winner d x)
  winner_stands PRI = tt
  winner_stands RTDG = tt
  winner_stands RTVC = (left x k.station, map_into (left x) b.stations k.listed, k.capability)

  -- the clock moves on by the packet's length, which is at most 4,096
  won_stands : b.clock ≤ last_slot → Standing (won b x)
  won_stands t =
      let long = ((h.each_station k.station k.listed).packets x.packet k.queued).most in
      moved_stands b (left x) (b.clock + x.packet.length) (suc b.sent) b.lost (last_winner b.discipline x) none h (λ s. refl)
      (λ s. fewer s (own x s)) (omega arith) (omega arith) (omega (arith, one_leaves)) (λ s i. tt) (winner_stands b.discipline) tt
    where
      fewer : (s : Station) (mine : Bool) → Fewer s.queue (remaining x s mine)
      fewer s true = fewer_keep _ s.queue
      fewer s false = fewer_all s.queue

-- however many transmit
probe_stands : (o : Open) → Standing o.bus → o.bus.contention ≡ some o.contention → o.bus.clock ≤ last_slot → Standing (probe o).1
probe_stands o h e t = go (transmitters o.bus o.contention) (λ x i. sender o.bus o.contention x h e i)
  where
    window : ContentionStands o.bus (some o.contention)
    window = subst (ContentionStands o.bus) e h.window

    go : (xs : List Contender) → All (Sender o.bus o.contention) xs → Standing (heard o xs).1
    go [] k = unheard_stands o h t window o.contention.window.side refl
    go (x ∷ []) k = won_stands o.bus o.contention x h (k x (at_head refl)) t
    go (x ∷ y ∷ more) k =
        goes_on_stands o.bus (split o.bus o.contention) h t (split_stands o.bus o.contention x window (k x (at_head refl)))

-- ---- admission

module _ (b : Bus) (a : Arrival) (k : AdmissionAccepted b a) where
  -- the packet stands, and so do those before it
  packets_stand : (s : Station) → Among s b.stations → All (PacketStands (with_packet b a)) (s.queue ++ (new_packet b a ∷ []))
  packets_stand s i p j = go (among_append s.queue j)
    where
      go : Among p s.queue ⊎ Among p (new_packet b a ∷ []) → PacketStands (with_packet b a) p
      go (inl old) = packet_kept b _ refl refl (le_refl _) p ((k.standing.each_station s i).packets p old)
      go (inr new) =
          all_cons (new_packet b a) (record { value = k.value; least = k.least; most = k.most; admission = le_refl _ })
          (all_nil (PacketStands (with_packet b a))) p new

  -- the station named has room, and a packet more; the others stay as they were
  joined_stands : (s : Station) → Among s b.stations → (t : Bool) → named a s ≡ t → StationStands (with_packet b a) (cond t (queued (new_packet b a) s) s)
  joined_stands s i true e =
      let was = k.standing.each_station s i in
      record {
        room = omega (arith, length-append s.queue (new_packet b a ∷ []), k.room s i (eqb-true _ _ e));
        rises = rising_append 0 b.admitted (new_packet b a) s.queue refl was.rises;
        packets = packets_stand s i;
        offered = offer_kept b (with_packet b a) refl refl s (queued (new_packet b a) s) refl (λ p j. among_left _ j) b.contention b.contention (λ z. z) s.offer was.offered;
      }
  joined_stands s i false e =
      let was = k.standing.each_station s i in
      record {
        room = was.room;
        rises = rising_suc 0 b.admitted s.queue was.rises;
        packets = λ p j. packet_kept b _ refl refl (le_refl _) p (was.packets p j);
        offered = offer_kept b (with_packet b a) refl refl s s refl (λ p j. j) b.contention b.contention (λ z. z) s.offer was.offered;
      }

  -- one station is named, so that one packet more waits
  admitted_stands : Standing (with_packet b a)
  admitted_stands =
      let h = k.standing in
      let most = one_apart (λ s. s.address) a.address b.stations (set_up_stands b h).addresses_apart in
      let one = k.named_one in
      let least = count_some (named a) b.stations one.1 (eq-eqb a.address _ one.2) in
      let new : All (λ s. times (suc b.admitted) s ≡ 0) b.stations = λ s i. rising_none 0 b.admitted s.queue (h.each_station s i).rises in
      record {
        passes = passes_kept b (joined b a) same h;
        clock_in = h.clock_in;
        admitted_in = k.count_left;
        turned_within = h.turned_within;
        counts = omega (arith, h.counts, joined_waiting b a b.stations);
        each_station = all_map (StationStands (with_packet b a)) (joined b a) b.stations (λ s i. joined_stands s i (named a s) refl);
        none_twice = joined_none_twice b a b.stations most new h.none_twice;
        winner_last_stands = last_kept (joined b a) same b.stations b.discipline b.last h.winner_last_stands;
        window = contention_kept b (with_packet b a) refl refl b.contention h.window;
      }
    where
      same : (s : Station) → asked (joined b a s) ≡ asked s
      same s = go (named a s)
        where
          go : (t : Bool) → asked (cond t (queued (new_packet b a) s) s) ≡ asked s
          go true = refl
          go false = refl

-- ---- a packet turned away

-- all is as it was but for the count
pub turned_stands : (b : Bus) → Standing b → Standing (turned_away b)
turned_stands b h =
    record {
      passes = h.passes;
      clock_in = h.clock_in;
      admitted_in = h.admitted_in;
      turned_within = within b.turned h.turned_within;
      counts = h.counts;
      each_station = λ s i.
          let was = h.each_station s i in
          record {
            room = was.room;
            rises = was.rises;
            packets = λ p j. packet_kept b (turned_away b) refl refl (le_refl _) p (was.packets p j);
            offered =
                offer_kept b (turned_away b) refl refl s s refl (λ p j. j) b.contention b.contention (λ z. z) s.offer was.offered;
          };
      none_twice = h.none_twice;
      winner_last_stands = h.winner_last_stands;
      window = contention_kept b (turned_away b) refl refl b.contention h.window;
    }

-- it is turned away by a state that stands
refused_standing : (b : Bus) (a : Arrival) → TurnsAway (admit b a).0.refusal → Standing b
refused_standing b a t = go (eqb (admission_refusal b a) 0) refl t
  where
    answer : Bool → Admitted × Bus
    answer u =
        cond
        u
        (record { refusal = 0; number = suc b.admitted }, with_packet b a)
        (record { refusal = admission_refusal b a; number = 0 }, handed_back b (admission_refusal b a))

    go : (u : Bool) → eqb (admission_refusal b a) 0 ≡ u → TurnsAway (answer u).0.refusal → Standing b
    go true e t = absurd (turned_refused 0 t refl)
    go false e t = turned_standing b a (told (turns_whether (admission_refusal b a)) t)

-- ---- set-up

-- the same set-up, without what stands past N
abbrev cut : Request → Request
cut r = record { discipline = r.discipline; D = r.D; A = r.A; q = r.q; N = r.N; row = take r.N r.row }

-- the stations' tests do not read the row
cut_unread : (r : Request) (i : ℕ) (earlier later : List Asked) → row_tests (cut r) i earlier later ≡ row_tests r i earlier later
cut_unread r i earlier [] = refl
cut_unread r i earlier (s ∷ later) = ap (λ tests. station_tests r i earlier s ++ tests) (cut_unread r (suc i) (earlier ++ (s ∷ [])) later)

-- a discipline's number names it
code_of : (d : ℕ) → d ≤ 2 → code (discipline_of d) ≡ d
code_of zero h = refl
code_of (suc zero) h = refl
code_of (suc (suc n)) h = omega arith

-- an accepted set-up has passed each test
passed : (t : Bool) (n i : ℕ) (rest : Verdict) → (verdict t (fault (suc n) i) rest).refusal ≡ 0 → (t ≡ false) × (rest.refusal ≡ 0)
passed true n i rest e = absurd (omega arith)
passed false n i rest e = (refl, e)

-- what the fresh bus would ask for is the accepted set-up without what stands past N, and passes
fresh_passes : (r : Request) → (set_up_verdict r).refusal ≡ 0 → (set_up_verdict (asked_for (fresh_bus r))).refusal ≡ 0
fresh_passes r e =
    let e2 = passed (ltb 2 r.discipline) 1 0 _ e in
    let e3 = passed (outside least_space most_space r.D) 2 0 _ e2.1 in
    let e4 = passed (outside least_space most_space r.A) 3 0 _ e3.1 in
    let e5 = passed (step_outside r.discipline r.q) 4 0 _ e4.1 in
    let e6 = passed (outside 1 most_stations r.N || ltb (length r.row) r.N) 5 0 _ e5.1 in
    let e7 = or-false (outside 1 most_stations r.N) (ltb (length r.row) r.N) e6.0 in
    let long : length (take r.N r.row) ≡ r.N = length-take-le r.N r.row (ltb-false _ _ e7.1) in
    let again : asked_for (fresh_bus r) ≡ cut r = λ i.
    record {
      discipline = code_of r.discipline (ltb-false _ _ e2.0) i;
      D = r.D;
      A = r.A;
      q = r.q;
      N = (length-map (take r.N r.row) fresh_station ∙ long) i;
      row = (map-map asked fresh_station (take r.N r.row) ∙ map-id (take r.N r.row)) i;
    } in
    ap (λ (r : Request). (set_up_verdict r).refusal) again
    ∙ rw (e2.0, e3.0, e4.0, e5.0, e7.0, long, le-ltb r.N r.N (le_refl _))
    (rw (take-take r.N r.N r.row (le_refl _), cut_unread r 0 [] (take r.N r.row)) e6.1)

-- its queues are empty
fresh_numbers : (row : List Asked) → numbers (map fresh_station row) ≡ []
fresh_numbers [] = refl
fresh_numbers (s ∷ row) = fresh_numbers row

-- the bus that an accepted set-up gives
fresh_stands : (r : Request) → (set_up_verdict r).refusal ≡ 0 → Standing (fresh_bus r)
fresh_stands r e =
    record {
      passes = fresh_passes r e;
      clock_in = omega arith;
      admitted_in = omega arith;
      turned_within = omega arith;
      counts = omega (arith, total_map held fresh_station (take r.N r.row), total_none {f = λ s. 0} (take r.N r.row) (λ s i. refl));
      each_station =
          all_map (StationStands (fresh_bus r)) fresh_station (take r.N r.row) (λ s i.
          record { room = omega arith; rises = omega arith; packets = all_nil (PacketStands (fresh_bus r)); offered = tt });
      none_twice = rw (fresh_numbers (take r.N r.row)) tt;
      winner_last_stands = tt;
      window = tt;
    }

-- an accepted step
pub stepped_stands : (b : Bus) → step_refusal b ≡ 0 → Standing (step b).1
stepped_stands b ok =
    let accepted = step_accepted b ok in
    rw (step_is b ok) (probe_stands (opened b) (opened_stands b accepted.standing) (opened_contention b) (rw (opened_same (λ (m : Bus). m.clock) b refl) accepted.on_time))

pub keeps_standing : KeepsStanding
keeps_standing =
    record {
      set_up_call = λ r e. rw (accepted_set_up r e) (fresh_stands r e);
      admission = λ b a e. let ok = accepted_admission b a e in rw (admit_is b a ok) (admitted_stands b a (admission_accepted b a ok));
      turning_away = λ b a t. rw (hands_back.turning_away b a t) (turned_stands b (refused_standing b a t));
      begin = λ b e. let ok = accepted_begin b e in rw (begin_is b ok) (begin_stands b (begin_accepted b ok).0);
      probe = λ b e. let ok = probe_accepted b (accepted_probe b e) in rw (probe_step b ok.0) (stepped_stands b ok.1);
      step = λ b e. stepped_stands b (accepted_step b e);
    }
