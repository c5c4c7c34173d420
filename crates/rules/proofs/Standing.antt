-- The standing conditions: the test is the conditions, and what they, and an accepted call, tell. Assumes nothing.
use Prim.Native.Nat.{ℕ, suc, ◌+◌, ◌≤◌, ◌<◌}
use mathlib.Core.Path.{◌≡◌, refl, sym, ap, ◌∙◌, subst}
use mathlib.Core.Logic.{inl, inr}
use mathlib.Core.Bool.{Bool, true, false, not, cond}
use mathlib.Core.Option.{Option, none, some}
use mathlib.Core.List.{List, [], ◌∷◌, ◌++◌, map}
use native.Mathlib.Nat.{lt_of_not-le}
use native.Mathlib.Omega.{arith}
use lib.Dec.{ltb, eqb}
use lib.ListN.{length, take, length-map}
use lib.Seq.{take_all}
use borrow.Author.Tests.{eqb-true, eq-eqb, le-ltb}
use Rattle.window.specs.declared.Window.{Window}
use Rattle.window.specs.Splitting.{placed}
use Rattle.rules.specs.Lists.{each_of, Among, at_head, All, Some, has, Distinct, first_of}
use Rattle.rules.specs.Bus.{late, most_stations, least_space, most_space, places, most_step, longest_packet, clock_end, last_slot, most_admitted, most_turned, Discipline, PRI, RTDG, RTVC, code, Packet, Offer, Station, Contention, Bus, nothing, waiting, numbers}
use Rattle.rules.specs.SetUp.{Asked, Request, fine, row_tests, set_up_tests, set_up_verdict, fresh_bus, set_up}
use Rattle.rules.specs.Standing.{asked_for, value_is_fit, length_fits, packet_fits, rising, same_packet, offer_fits, offer_stands, station_stands, last_stands, window_stands, contention_stands, stands, ValueFits, PacketStands, Rising, ParameterFits, OfferStands, StationStands, LastStands, WindowStands, ContentionStands, Standing}
use Rattle.rules.specs.Admission.{Arrival, Admitted, admission_tests, admission_refusal, with_packet, handed_back, admit}
use Rattle.rules.specs.Begin.{begin}
use Rattle.rules.specs.Probe.{Answer, probe, refused_answer}
use Rattle.rules.specs.Step.{is_under_way, Begun, refused_begun, begun_answer, begin_tests, begin_refusal, begin_call, probe_tests, probe_refusal, probed_in, probe_call, opened_by, opened, step_tests, step_refusal, step}
use Rattle.rules.specs.Conditions.{StepOutside, row_conditions, set_up_conditions, Late, admission_conditions, begin_conditions, probe_conditions, step_conditions}
use Rattle.rules.proofs.Laws.{clash, among_left, among_right, all_cons, all_nil, map_from, map_into, map-map}
use Rattle.rules.proofs.Tests.{Whether, holds, fails, stable, told, decides, in_words, negated, negated_twice, both, one_of, by_case, below, at_most, equal, out_of, inside, for_each, for_some, for_none, is_among, none_twice, Tried, done, ◌then◌, NoneHolds, none_held}

-- ---- the test is the conditions

value_whether : (d : Discipline) (D value : ℕ) → Whether (ValueFits d D value) (value_is_fit d D value)
value_whether PRI D value = below value D
value_whether RTDG D value = at_most value clock_end
value_whether RTVC D value = equal value 0

length_whether : (n : ℕ) → Whether ((1 ≤ n) × (n ≤ longest_packet)) (length_fits n)
length_whether n = negated_twice (both (at_most 1 n) (at_most n longest_packet))

packet_whether : (b : Bus) (p : Packet) → Whether (PacketStands b p) (packet_fits b.discipline b.D b.clock p)
packet_whether b p =
    in_words
    (λ h. record { value = h.0.0; least = h.0.1.0; most = h.0.1.1; admission = h.1 })
    (λ h. ((h.value, (h.least, h.most)), h.admission))
    (both (both (value_whether b.discipline b.D p.value) (length_whether p.length)) (at_most p.admission.0 b.clock))

rising_whether : (before admitted : ℕ) (queue : List Packet) → Whether (Rising before admitted queue) (rising before admitted queue)
rising_whether before admitted [] = at_most before admitted
rising_whether before admitted (p ∷ queue) = both (below before p.number) (rising_whether p.number admitted queue)

same_whether : (p p' : Packet) → Whether (p ≡ p') (same_packet p p')
same_whether p p' =
    in_words
    (λ h i. record { number = h.0.0.0 i; value = h.0.0.1 i; length = h.0.1 i; admission = record { 0 = h.1 i } })
    (λ e. (((ap (λ x. x.number) e, ap (λ x. x.value) e), ap (λ x. x.length) e), ap (λ x. x.admission.0) e))
    (both
    (both (both (equal p.number p'.number) (equal p.value p'.value)) (equal p.length p'.length))
    (equal p.admission.0 p'.admission.0))

parameter_whether : (d : Discipline) (s : Station) (o : Offer) → Whether (ParameterFits d s o) (offer_fits d s o)
parameter_whether PRI s o = equal o.parameter o.packet.value
parameter_whether RTDG s o = holds tt
parameter_whether RTVC s o = equal o.parameter s.capability

offer_whether : (b : Bus) (s : Station) (c : Option Contention) (o : Option Offer) → Whether (OfferStands b s c o) (offer_stands b s c o)
offer_whether b s c none = holds tt
offer_whether b s none (some o) = fails (λ h. h)
offer_whether b s (some c) (some o) =
    in_words
    (λ h. (h.0.0, h.0.1, h.1))
    (λ h. ((h.0, h.1), h.2))
    (both (both (is_among (same_whether o.packet) s.queue) (below o.parameter b.D)) (parameter_whether b.discipline s o))

station_whether : (b : Bus) (s : Station) → Whether (StationStands b s) (station_stands b s)
station_whether b s =
    in_words
    (λ h. record { room = h.0.0.0; rises = h.0.0.1; packets = h.0.1; offered = h.1 })
    (λ h. (((h.room, h.rises), h.packets), h.offered))
    (both
    (both (both (at_most (length s.queue) places) (rising_whether 0 b.admitted s.queue)) (for_each (packet_whether b) s.queue))
    (offer_whether b s b.contention s.offer))

last_whether : (d : Discipline) (stations : List Station) (last : Option ℕ) → Whether (LastStands d stations last) (last_stands d stations last)
last_whether PRI stations none = holds tt
last_whether RTDG stations none = holds tt
last_whether RTVC stations none = holds tt
last_whether PRI stations (some c) = fails (λ h. h)
last_whether RTDG stations (some c) = fails (λ h. h)
last_whether RTVC stations (some c) = for_some (λ s. equal c s.capability) stations

placed_whether : (space : ℕ) (w : Window) → Whether (placed space w ≡ true) (placed space w)
placed_whether space w = decides (placed space w) (λ e. e) (λ no! yes!. clash yes! no!)

window_whether : (b : Bus) (c : Contention) (tie : Option ℕ) → Whether (WindowStands b c tie) (window_stands b c tie)
window_whether b c none = placed_whether b.D c.window
window_whether b c (some v) = both (below v b.D) (placed_whether b.A c.window)

contention_whether : (b : Bus) (c : Option Contention) → Whether (ContentionStands b c) (contention_stands b c)
contention_whether b none = holds tt
contention_whether b (some c) = window_whether b c c.tie

-- the test passes exactly when the conditions hold
pub stands_exactly : (b : Bus) → Whether (Standing b) (stands b)
stands_exactly b =
    in_words
    (λ h. record {
      passes = h.0.0.0.0.0.0.0.0;
      clock_in = h.0.0.0.0.0.0.0.1;
      admitted_in = h.0.0.0.0.0.0.1;
      turned_within = h.0.0.0.0.0.1;
      counts = h.0.0.0.0.1;
      each_station = h.0.0.0.1;
      none_twice = h.0.0.1;
      winner_last_stands = h.0.1;
      window = h.1;
    })
    (λ h. ((((((((h.passes, h.clock_in), h.admitted_in), h.turned_within), h.counts), h.each_station), h.none_twice), h.winner_last_stands), h.window))
    (both
    (both
    (both
    (both
    (both
    (both
    (both
    (both (equal (set_up_verdict (asked_for b)).refusal 0) (at_most b.clock clock_end))
    (at_most b.admitted most_admitted))
    (at_most b.turned most_turned))
    (equal b.admitted (b.sent + b.lost + waiting b.stations)))
    (for_each (station_whether b) b.stations))
    (none_twice (numbers b.stations)))
    (last_whether b.discipline b.stations b.last))
    (contention_whether b b.contention))

-- ---- the refusals' tests are their conditions

-- 'address of an earlier station', 'RTVC capability of an earlier station'
earlier_whether : (n : ℕ) (f : Asked → ℕ) (earlier : List Asked) → Whether (Some (λ e. n ≡ f e) earlier) (has n (map f earlier))
earlier_whether n f earlier =
    in_words
    (map_from f earlier)
    (λ s. subst (λ m. Among m (map f earlier)) (sym s.2) (map_into f earlier s.1))
    (is_among (equal n) (map f earlier))

row_tried : (r : Request) (i : ℕ) (earlier row : List Asked) → Tried (row_tests r i earlier row) (row_conditions r i earlier row)
row_tried r i earlier [] = done
row_tried r i earlier (s ∷ later) =
    at_most r.A s.address
    then earlier_whether s.address (λ e. e.address) earlier
    then by_case (equal r.discipline (code RTVC)) (at_most r.D s.capability) (negated (equal s.capability 0))
    then both (equal r.discipline (code RTVC)) (earlier_whether s.capability (λ e. e.capability) earlier)
    then row_tried r (suc i) (earlier ++ (s ∷ [])) later

pub set_up_tried : (r : Request) → Tried (set_up_tests r) (set_up_conditions r)
set_up_tried r =
    below 2 r.discipline
    then out_of least_space most_space r.D
    then out_of least_space most_space r.A
    then by_case (equal r.discipline (code RTDG)) (out_of 1 most_step r.q) (negated (equal r.q 1))
    then one_of (out_of 1 most_stations r.N) (below (length r.row) r.N)
    then row_tried r 0 [] (take r.N r.row)

pub late_whether : (d : Discipline) (clock value : ℕ) → Whether (Late d clock value) (late d clock value)
late_whether PRI clock value = fails (λ h. h)
late_whether RTDG clock value = below value clock
late_whether RTVC clock value = fails (λ h. h)

pub admission_tried : (b : Bus) (a : Arrival) → Tried (admission_tests b a) (admission_conditions b a)
admission_tried b a =
    negated (stands_exactly b)
    then for_none (λ s. equal a.address s.address) b.stations
    then negated (value_whether b.discipline b.D a.value)
    then negated_twice (out_of 1 longest_packet a.length)
    then late_whether b.discipline b.clock a.value
    then for_some (λ s. both (equal a.address s.address) (at_most _ (length s.queue))) b.stations
    then at_most _ b.admitted
    then done

-- a contention is under way, or none is
under_way_whether : (c : Option Contention) → Whether (¬ (c ≡ none)) (is_under_way c)
under_way_whether none = fails (λ n. n refl)
under_way_whether (some c) = holds (λ e. let z : ◌≡◌ {A = ℕ} 0 1 = cc in omega arith)

none_whether : (c : Option Contention) → Whether (c ≡ none) (not (is_under_way c))
none_whether none = holds refl
none_whether (some c) = fails (λ e. let z : ◌≡◌ {A = ℕ} 0 1 = cc in omega arith)

pub begin_tried : (b : Bus) → Tried (begin_tests b) (begin_conditions b)
begin_tried b = negated (stands_exactly b) then under_way_whether b.contention then done

pub probe_tried : (b : Bus) → Tried (probe_tests b) (probe_conditions b)
probe_tried b = negated (stands_exactly b) then none_whether b.contention then below last_slot b.clock then done

pub step_tried : (b : Bus) → Tried (step_tests b) (step_conditions b)
step_tried b = negated (stands_exactly b) then below last_slot b.clock then done

-- ---- what the standing conditions tell of the set-up

-- what 'set-up fields and stations pass 2 to 10' tells
pub record SetUpStands (b : Bus) : Type 0 where
  pub d_least : least_space ≤ b.D
  pub d_most : b.D ≤ most_space
  pub a_least : least_space ≤ b.A
  pub a_most : b.A ≤ most_space
  pub q_least : 1 ≤ b.q
  pub n_least : 1 ≤ length b.stations
  pub n_most : length b.stations ≤ most_stations
  pub addresses_in : All (λ s. s.address < b.A) b.stations
  pub addresses_apart : Distinct (map (λ s. s.address) b.stations)
  pub capabilities_in : b.discipline ≡ RTVC → All (λ s. s.capability < b.D) b.stations
  pub capabilities_apart : b.discipline ≡ RTVC → Distinct (map (λ s. s.capability) b.stations)

-- none of a row has the number of one earlier than it
abbrev New : (Asked → ℕ) → List Asked → List Asked → Type 0
New f earlier [] = Unit {0}
New f earlier (s ∷ later) = (¬ Some (λ e. f s ≡ f e) earlier) × New f (earlier ++ (s ∷ [])) later

new_apart :
    (f : Asked → ℕ) (earlier row : List Asked) → New f earlier row → All (λ s. ¬ Some (λ e. f s ≡ f e) earlier) row × Distinct (map f row)
new_apart f earlier [] h = (all_nil (λ s. ¬ Some (λ e. f s ≡ f e) earlier), tt)
new_apart f earlier (s ∷ later) h =
    let more = new_apart f (earlier ++ (s ∷ [])) later h.1 in (
      all_cons s h.0 (λ t i k. more.0 t i (k.0, among_left (s ∷ []) k.1, k.2)),
      ((λ i. let k = map_from f later i in more.0 k.0 k.1 (s, among_right earlier (at_head refl), sym k.2)), more.1),
    )

-- what a row that passes 7 to 10 tells
record RowTells (r : Request) (earlier row : List Asked) : Type 0 where
  addresses_in : All (λ s. s.address < r.A) row
  addresses_new : New (λ s. s.address) earlier row
  capabilities_in : r.discipline ≡ code RTVC → All (λ s. s.capability < r.D) row
  capabilities_new : r.discipline ≡ code RTVC → New (λ s. s.capability) earlier row

row_tells : (r : Request) (i : ℕ) (earlier row : List Asked) → NoneHolds (row_conditions r i earlier row) → RowTells r earlier row
row_tells r i earlier [] h =
    record {
      addresses_in = all_nil (λ s. s.address < r.A);
      addresses_new = tt;
      capabilities_in = λ d. all_nil (λ s. s.capability < r.D);
      capabilities_new = λ d. tt;
    }
row_tells r i earlier (s ∷ later) h =
    let more = row_tells r (suc i) (earlier ++ (s ∷ [])) later h.1.1.1.1 in
    record {
      addresses_in = all_cons s (lt_of_not-le h.0) more.addresses_in;
      addresses_new = (h.1.0, more.addresses_new);
      capabilities_in = λ d. all_cons s (lt_of_not-le (λ k. h.1.1.0 (inl (d, k)))) (more.capabilities_in d);
      capabilities_new = λ d. ((λ k. h.1.1.1.0 (d, k)), more.capabilities_new d);
    }

-- every refusal of a row has a number from 1 on
row_numbered : (r : Request) (i : ℕ) (earlier row : List Asked) → each_of (λ v. ltb 0 v.0.refusal) (row_tests r i earlier row) ≡ true
row_numbered r i earlier [] = refl
row_numbered r i earlier (s ∷ later) = row_numbered r (suc i) (earlier ++ (s ∷ [])) later

pub set_up_accepted : (r : Request) → (set_up_verdict r).refusal ≡ 0 → NoneHolds (set_up_conditions r)
set_up_accepted r = none_held fine (λ v. v.refusal) (set_up_tried r) (row_numbered r 0 [] (take r.N r.row))

-- q is at least 1 in every discipline
step_least : (d q : ℕ) → ¬ StepOutside d q → 1 ≤ q
step_least d q h = stable (at_most 1 q) (λ n. h (go n (equal d (code RTDG))))
  where
    go : {t : Bool} → ¬ (1 ≤ q) → Whether (d ≡ code RTDG) t → StepOutside d q
    go n (holds e) = inl (e, inl (lt_of_not-le n))
    go n (fails m) = inr (m, λ e. n (omega arith))

pub set_up_stands : (b : Bus) → Standing b → SetUpStands b
set_up_stands b h =
    record {
      d_least = (inside passed.1.0).0;
      d_most = (inside passed.1.0).1;
      a_least = (inside passed.1.1.0).0;
      a_most = (inside passed.1.1.0).1;
      q_least = step_least (asked_for b).discipline b.q passed.1.1.1.0;
      n_least = (inside (λ o. passed.1.1.1.1.0 (inl o))).0;
      n_most = (inside (λ o. passed.1.1.1.1.0 (inl o))).1;
      addresses_in = λ s i. row.addresses_in (asked s) (map_into asked b.stations i);
      addresses_apart = rw map-map at (new_apart (λ s. s.address) [] (asked_for b).row row.addresses_new).1;
      capabilities_in = λ d s i. row.capabilities_in (ap code d) (asked s) (map_into asked b.stations i);
      capabilities_apart = λ d. rw map-map at (new_apart (λ s. s.capability) [] (asked_for b).row (row.capabilities_new (ap code d))).1;
    }
  where
    asked : Station → Asked
    asked s = record { address = s.address; capability = s.capability }

    passed : NoneHolds (set_up_conditions (asked_for b))
    passed = set_up_accepted (asked_for b) h.passes

    -- the row is N long, so that all of it is read
    whole : take (length b.stations) (asked_for b).row ≡ (asked_for b).row
    whole = take_all (length b.stations) (asked_for b).row (omega (arith, length-map b.stations asked))

    row : RowTells (asked_for b) [] (asked_for b).row
    row = subst (RowTells (asked_for b) []) whole (row_tells (asked_for b) 0 [] (take (asked_for b).N (asked_for b).row) passed.1.1.1.1.1)

-- ---- what an accepted set-up, admission and step tell

-- where a refusal's answer bears the refusal's number and the answer given bears 0, the refusal's number is 0
is_accepted : {X : Type 0} (number : X → ℕ) (n : ℕ) (taken refused : X) → number refused ≡ n → number (cond (eqb n 0) taken refused) ≡ 0 → n ≡ 0
is_accepted number n taken refused k = go (eqb n 0) refl
  where
    go : (t : Bool) → eqb n 0 ≡ t → number (cond t taken refused) ≡ 0 → n ≡ 0
    go true h e = eqb-true n 0 h
    go false h e = sym k ∙ e

pub accepted_set_up : (r : Request) → (set_up r).0.refusal ≡ 0 → (set_up r).1 ≡ fresh_bus r
accepted_set_up r e = ap (λ t. cond t (fresh_bus r) nothing) (eq-eqb (set_up_verdict r).refusal 0 e)

pub record AdmissionAccepted (b : Bus) (a : Arrival) : Type 0 where
  pub standing : Standing b
  pub named_one : Some (λ s. a.address ≡ s.address) b.stations
  pub value : ValueFits b.discipline b.D a.value
  pub least : 1 ≤ a.length
  pub most : a.length ≤ longest_packet
  pub on_time : ¬ Late b.discipline b.clock a.value
  pub room : All (λ s. a.address ≡ s.address → length s.queue < places) b.stations
  pub count_left : b.admitted < most_admitted

pub accepted_admission : (b : Bus) (a : Arrival) → (admit b a).0.refusal ≡ 0 → admission_refusal b a ≡ 0
accepted_admission b a = is_accepted (λ (x : Admitted × Bus). x.0.refusal) (admission_refusal b a) _ _ refl

pub admission_accepted : (b : Bus) (a : Arrival) → admission_refusal b a ≡ 0 → AdmissionAccepted b a
admission_accepted b a e =
    record {
      standing = stable (stands_exactly b) passed.0;
      named_one = stable (for_some (λ s. equal a.address s.address) b.stations) (λ n. passed.1.0 (λ s i k. n (s, i, k)));
      value = stable (value_whether b.discipline b.D a.value) passed.1.1.0;
      least = (inside passed.1.1.1.0).0;
      most = (inside passed.1.1.1.0).1;
      on_time = passed.1.1.1.1.0;
      room = λ s i k. lt_of_not-le (λ full. passed.1.1.1.1.1.0 (s, i, (k, full)));
      count_left = lt_of_not-le passed.1.1.1.1.1.1.0;
    }
  where
    passed : NoneHolds (admission_conditions b a)
    passed = none_held 0 (λ n. n) (admission_tried b a) refl e

pub admit_is : (b : Bus) (a : Arrival) → admission_refusal b a ≡ 0 → admit b a ≡ (record { refusal = 0; number = suc b.admitted }, with_packet b a)
admit_is b a e =
    ap
    (λ t.
    cond
    t
    (record { refusal = 0; number = suc b.admitted }, with_packet b a)
    (record { refusal = admission_refusal b a; number = 0 }, handed_back b (admission_refusal b a)))
    (eq-eqb (admission_refusal b a) 0 e)

pub accepted_begin : (b : Bus) → (begin_call b).0.refusal ≡ 0 → begin_refusal b ≡ 0
accepted_begin b = is_accepted (λ (x : Begun × Bus). x.0.refusal) (begin_refusal b) _ _ refl

pub begin_accepted : (b : Bus) → begin_refusal b ≡ 0 → Standing b × (b.contention ≡ none)
begin_accepted b e =
    let passed = none_held 0 (λ n. n) (begin_tried b) refl e in
    (stable (stands_exactly b) passed.0, stable (none_whether b.contention) passed.1.0)

-- and it is accepted there
pub begin_accepts : (b : Bus) → Standing b → b.contention ≡ none → begin_refusal b ≡ 0
begin_accepts b h e = rw (told (stands_exactly b) h, e)

pub begin_is : (b : Bus) → begin_refusal b ≡ 0 → begin_call b ≡ (begun_answer b, begin b)
begin_is b e = ap (λ t. cond t (begun_answer b, begin b) (refused_begun (begin_refusal b), b)) (eq-eqb (begin_refusal b) 0 e)

-- what an accepted begin gives
pub begun_as : (b : Bus) → (begin_call b).0.refusal ≡ 0 → begin_call b ≡ (begun_answer b, begin b)
begun_as b z = begin_is b (accepted_begin b z)

pub accepted_probe : (b : Bus) → (probe_call b).0.refusal ≡ 0 → probe_refusal b ≡ 0
accepted_probe b = is_accepted (λ (x : Answer × Bus). x.0.refusal) (probe_refusal b) _ _ refl

-- while a contention is under way a probe is a step: the same refuses it, and it probes the same slot
pub probe_step : (b : Bus) → ¬ (b.contention ≡ none) → probe_call b ≡ step b
probe_step b = go b.contention
  where
    go :
        (c : Option Contention) → ¬ (c ≡ none)
        → (let n = first_of 0 ((1, not (stands b)) ∷ (26, not (is_under_way c)) ∷ (17, ltb last_slot b.clock) ∷ []) in
        cond (eqb n 0) (probed_in b c) (refused_answer n, b))
        ≡ cond (eqb (step_refusal b) 0) (probe (opened_by b c)) (refused_answer (step_refusal b), b)
    go none n = absurd (n refl)
    go (some c) n = refl

-- the slot that it probes
pub probed_opened : (b : Bus) → ¬ (b.contention ≡ none) → probed_in b b.contention ≡ probe (opened b)
probed_opened b = go b.contention
  where
    go : (c : Option Contention) → ¬ (c ≡ none) → probed_in b c ≡ probe (opened_by b c)
    go none n = absurd (n refl)
    go (some c) n = refl

-- an accepted probe is an accepted step in a contention under way
pub probe_accepted : (b : Bus) → probe_refusal b ≡ 0 → (¬ (b.contention ≡ none)) × (step_refusal b ≡ 0)
probe_accepted b e =
    let passed = none_held 0 (λ n. n) (probe_tried b) refl e in
    (passed.1.0, rw (told (stands_exactly b) (stable (stands_exactly b) passed.0), lt_ltb_not passed.1.1.0))
  where
    lt_ltb_not : ¬ (last_slot < b.clock) → ltb last_slot b.clock ≡ false
    lt_ltb_not n = le-ltb last_slot b.clock (omega arith)

pub record StepAccepted (b : Bus) : Type 0 where
  pub standing : Standing b
  pub on_time : b.clock ≤ last_slot

pub accepted_step : (b : Bus) → (step b).0.refusal ≡ 0 → step_refusal b ≡ 0
accepted_step b = is_accepted (λ (x : Answer × Bus). x.0.refusal) (step_refusal b) _ _ refl

pub step_accepted : (b : Bus) → step_refusal b ≡ 0 → StepAccepted b
step_accepted b e =
    let passed = none_held 0 (λ n. n) (step_tried b) refl e in
    record { standing = stable (stands_exactly b) passed.0; on_time = let h = passed.1.0 in omega arith }

pub step_is : (b : Bus) → step_refusal b ≡ 0 → step b ≡ probe (opened b)
step_is b e = ap (λ t. cond t (probe (opened b)) (refused_answer (step_refusal b), b)) (eq-eqb (step_refusal b) 0 e)
