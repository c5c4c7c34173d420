-- Admission in the code's terms: the tests of refusals 11 to 16 by the place of the station with an address, the state that a packet has
-- joined, what a call gives back, and the same where the packet joins in place. Assumes nothing.
use Prim.Native.Nat.{ℕ, zero, suc, ◌+◌, ◌-◌, ◌*◌, ◌≤◌, ◌<◌}
use mathlib.Core.Path.{◌≡◌, refl, sym, ap, ap₂, ◌∙◌, subst}
use mathlib.Core.Bool.{Bool, true, false, ◌&&◌, ◌||◌, cond}
use mathlib.Core.List.{List, [], ◌∷◌, ◌++◌}
use native.Mathlib.Nat.{zero-add, suc-add}
use native.Mathlib.Numerals.{add-one}
use native.Mathlib.Omega.{arith}
use lib.Dec.{eqb, leb, ltb}
use lib.ListN.{length, get_or, take, drop, set, length-append, take-append-drop}
use lib.Seq.{length-take-le, set-append_left}
use borrow.Author.Tests.{leb-true, leb-false, ltb-true, ltb-false, eqb-true, eqb-false, eq-eqb, ne_eqb}
use Rattle.rules.specs.Lists.{some_of, first_of}
use Rattle.rules.specs.Bus.{places, Station, Bus}
use Rattle.rules.specs.Standing.{Standing}
use Rattle.rules.specs.declared.Admitted.{Admitted}
use Rattle.rules.specs.Admission.{Arrival, named, admission_refusal, new_packet, queued, joined, with_packet, turned_after, admit}
use Rattle.rules.proofs.Tests.{told}
use Rattle.rules.proofs.Standing.{stands_exactly, admission_accepted, admit_is}
use Rattle.bus.specs.Types.{Address, Packet, Queues, State, Queue}
use Rattle.state.specs.State.{Held, recorded_in, queue_at, station_with, station_at, values_from, stations_of, meaning, form, standing, nobody}
use Rattle.bus.specs.Coded.{Admission, arrival_of, coded_admit, admission_result, state_turned}
use Rattle.state.specs.Parts.{queue_of}
use Rattle.bus.specs.Parts.{queue_form, first_place, refusal_tests, refusal_at, segment_counting}
use Rattle.state.proofs.Rows.{among_values}
use Rattle.bus.proofs.FirstPlace.{first_place_holds, first_place_before}
use Rattle.state.proofs.Form.{parts_padded, queue_length, to_form}
use Rattle.bus.proofs.Coded.{handed_admission, admit_bears, standing_exactly_admission}
use Rattle.bus.specs.Parts.{with_queue}
use Rattle.bus.proofs.QueueLaws.{form_joined}
use Rattle.state.proofs.Stands.{Lent}
use Rattle.bus.proofs.Changed.{queue_formed, address_of, own_address, recounted, requeued, requeued_held, requeued_padded, stations_now}

-- ---- a test of some value

module _ {X : Type 0} (t : X → Bool) (f : ℕ → X) where
  -- no value passes
  none_passes : (i k : ℕ) → ((j : ℕ) → i ≤ j → j < i + k → t (f j) ≡ false) → some_of t (values_from f i k) ≡ false
  none_passes i zero h = refl
  none_passes i (suc k) h = rw (h i (omega arith) (omega arith)) (none_passes (suc i) k (λ j l m. h j (omega arith) (omega arith)))

  -- none but that of place j passes
  one_passes :
      (i k j : ℕ) → i ≤ j → j < i + k → ((m : ℕ) → i ≤ m → m < i + k → ¬ (m ≡ j) → t (f m) ≡ false)
      → some_of t (values_from f i k) ≡ t (f j)
  one_passes i zero j l h others = absurd (omega arith)
  one_passes i (suc k) j l h others =
      go (eqb j i) refl (λ later. one_passes (suc i) k j later (omega arith) (λ m n o. others m (omega arith) (omega arith)))
    where
      alone : (u : Bool) → (u || false) ≡ u
      alone true = refl
      alone false = refl

      rest : Bool
      rest = some_of t (values_from f (suc i) k)

      go : (u : Bool) → eqb j i ≡ u → (suc i ≤ j → rest ≡ t (f j)) → (t (f i) || rest) ≡ t (f j)
      go true e later =
          let here = eqb-true j i e in
          ap (λ u. t (f i) || u) (none_passes (suc i) k (λ m n o. others m (omega arith) (omega arith) (λ z. omega arith)))
          ∙ alone (t (f i))
          ∙ ap (λ m. t (f m)) (sym here)
      go false e later =
          let other = eqb-false j i e in
          ap (λ u. u || rest) (others i (omega arith) (omega arith) (λ z. other (sym z))) ∙ later (omega arith)

-- ---- the station with an address

-- the place of the station with an address; N where there is none
abbrev pub address_place : State → Address → ℕ
address_place s address =
    first_place (λ i. eqb address.0 (get_or s.segment.listed i nobody).address.0) 0 s.segment.settings.n

-- whether station j has it
abbrev named_by : State → Address → ℕ → Bool
named_by s address j = eqb address.0 (address_of s j)

module _ (s : State) (address : Address) where
  -- where no station has the address
  none_named : s.segment.settings.n ≤ address_place s address → some_of (λ x. eqb address.0 x.address) (stations_of s) ≡ false
  none_named past =
      none_passes
      (λ x. eqb address.0 x.address)
      (station_at s)
      0
      s.segment.settings.n
      (λ j l m. first_place_before (named_by s address) 0 s.segment.settings.n j l (omega arith))

  -- the station at its place has it
  has_it : address_place s address < s.segment.settings.n → address.0 ≡ address_of s (address_place s address)
  has_it here =
      let n = s.segment.settings.n in
      let whole : n - 0 ≡ n = omega arith in
      eqb-true
      address.0
      (address_of s (address_place s address))
      (subst
      (λ k. first_place (named_by s address) 0 k < n → named_by s address (first_place (named_by s address) 0 k) ≡ true)
      whole
      (first_place_holds (named_by s address) 0 n (omega arith))
      here)

  -- and no other
  named_at :
      Standing (meaning s) → address_place s address < s.segment.settings.n → (j : ℕ) → j < s.segment.settings.n
      → named_by s address j ≡ eqb j (address_place s address)
  named_at h here j there =
      ap (λ a. eqb a (address_of s j)) (has_it here) ∙ own_address s h (address_place s address) j here there

-- the state with another count of admitted packets
abbrev pub counted : State → ℕ → State
counted s admitted =
    record {
      segment = segment_counting s.segment admitted s.segment.lost s.segment.contention (recorded_in s.segment);
      queues = s.queues;
    }

-- an arrival at the address of which this is the place
module _ (s : State) (r : Lent s) (place : ℕ) (address : Address) (sought : place ≡ address_place s address) (value len : ℕ) where
  abbrev arrival : Arrival
  arrival = arrival_of address value len

  -- ---- refusals 11 to 16

  -- the tests as the code makes them
  abbrev tests : List (ℕ × Bool)
  tests = refusal_tests s.segment.settings s.segment.clock s.segment.admitted s.queues.lengths place value len

  refused_11 : s.segment.settings.n ≤ place → 11 ≡ admission_refusal (meaning s) arrival
  refused_11 past = rw (told (stands_exactly (meaning s)) r.stands, none_named s address (omega arith))

  -- where no refusal is given, a station has the address
  at_station : admission_refusal (meaning s) arrival ≡ 0 → place < s.segment.settings.n
  at_station none! = go (ltb place s.segment.settings.n) refl
    where
      go : (t : Bool) → ltb place s.segment.settings.n ≡ t → place < s.segment.settings.n
      go true e = ltb-true place s.segment.settings.n e
      go false e = let given = refused_11 (ltb-false place s.segment.settings.n e) in absurd (omega arith)

  module _ (here : place < s.segment.settings.n) where
    named_here : (j : ℕ) → j < s.segment.settings.n → named arrival (station_at s j) ≡ eqb j place
    named_here j there = named_at s address r.stands (omega arith) j there ∙ ap (eqb j) (sym sought)

    has_name : named arrival (station_at s place) ≡ true
    has_name = named_here place here ∙ eq-eqb place place refl

    -- a test that no other station passes
    tested_here :
        (test : Station → Bool) → ((j : ℕ) → named arrival (station_at s j) ≡ false → test (station_at s j) ≡ false)
        → some_of test (stations_of s) ≡ test (station_at s place)
    tested_here test others =
        one_passes
        test
        (station_at s)
        0
        s.segment.settings.n
        place
        (omega arith)
        (omega arith)
        (λ j l m other. others j (named_here j (omega arith) ∙ ne_eqb j place other))

    some_named : some_of (named arrival) (stations_of s) ≡ true
    some_named = tested_here (named arrival) (λ j other. other) ∙ has_name

    -- a test of the station with the address
    some_such : (test : Station → Bool) → some_of (λ x. named arrival x && test x) (stations_of s) ≡ test (station_at s place)
    some_such test =
        tested_here (λ x. named arrival x && test x) (λ j other. ap (λ u. u && test (station_at s j)) other)
        ∙ ap (λ u. u && test (station_at s place)) has_name

    waiting_here : length (queue_at s.queues place) ≡ get_or s.queues.lengths place 0
    waiting_here = queue_length s r.held r.zeros place (omega arith)

    refused_later : first_of 0 (drop 1 tests) ≡ admission_refusal (meaning s) arrival
    refused_later =
        rw (
          told (stands_exactly (meaning s)) r.stands,
          some_named,
          some_such (λ x. leb places (length x.queue)) ∙ ap (leb places) waiting_here,
        )

    -- where no refusal is given, there is room
    room_left : admission_refusal (meaning s) arrival ≡ 0 → get_or s.queues.lengths place 0 < places
    room_left none! =
        let n = waiting_here in
        let mine = eqb-true address.0 (address_of s place) has_name in
        let among = among_values (station_at s) 0 s.segment.settings.n place (omega arith) (omega arith) in
        omega (arith, (admission_accepted (meaning s) arrival none!).room (station_at s place) among mine)

    -- ---- the packet joins its station's queue

    module _ (number : ℕ) (next : number ≡ suc s.segment.admitted) (room : get_or s.queues.lengths place 0 < places) where
      abbrev packet : Packet
      packet = record { number = number; value = value; length = len; admission = s.segment.clock }

      abbrev longer : List Packet
      longer = queue_at s.queues place ++ (packet ∷ [])

      -- each station is as the rules have it
      station_joined :
          (j : ℕ) → j < s.segment.settings.n
          → station_with s.segment j (cond (eqb j place) longer (queue_at s.queues j)) ≡ joined (meaning s) arrival (station_at s j)
      station_joined j there =
          go (eqb j place) refl
          ∙ ap (λ u. cond u (queued (new_packet (meaning s) arrival) (station_at s j)) (station_at s j)) (sym (named_here j there))
        where
          go :
              (t : Bool) → eqb j place ≡ t
              → station_with s.segment j (cond t longer (queue_at s.queues j))
              ≡ cond t (queued (new_packet (meaning s) arrival) (station_at s j)) (station_at s j)
          go true e =
              ap₂
              (λ i n. station_with s.segment j (queue_at s.queues i ++ (record { number = n; value = value; length = len; admission = s.segment.clock } ∷ [])))
              (sym (eqb-true j place e))
              next
          go false e = refl

      fits : length longer ≤ places
      fits = let n = waiting_here in omega (arith, length-append (queue_at s.queues place) (packet ∷ []))

      means : meaning (requeued (counted s number) place longer) ≡ with_packet (meaning s) arrival
      means =
          let f = joined (meaning s) arrival in
          let stations = stations_now (counted s number) r.held r.zeros r.few place here longer fits f (station_at s) station_joined in
          λ i. recounted (meaning s) (stations i) (next i) (meaning s).lost (meaning s).contention

      pub state_joined : requeued (counted s number) place longer ≡ form (with_packet (meaning s) arrival)
      state_joined =
          let next-state = requeued (counted s number) place longer in
          to_form
          next-state
          (with_packet (meaning s) arrival)
          (requeued_held (counted s number) r.held r.zeros r.few place here longer fits)
          (parts_padded next-state (requeued_padded (counted s number) r.held r.zeros r.few place here longer fits))
          means

-- the refusal of the code is that of the rules
pub refusal_is :
    (s : State) (r : Lent s) (place : ℕ) (address : Address) (sought : place ≡ address_place s address) (value len : ℕ)
    → refusal_at s.segment.settings s.segment.clock s.segment.admitted s.queues.lengths place value len
    ≡ admission_refusal (meaning s) (arrival_of address value len)
refusal_is s r place address sought value len = go (leb s.segment.settings.n place) refl
  where
    later : List (ℕ × Bool)
    later = drop 1 (refusal_tests s.segment.settings s.segment.clock s.segment.admitted s.queues.lengths place value len)

    go :
        (t : Bool) → leb s.segment.settings.n place ≡ t
        → first_of 0 ((11, t) ∷ later) ≡ admission_refusal (meaning s) (arrival_of address value len)
    go true e = refused_11 s r place address sought value len (leb-true s.segment.settings.n place e)
    go false e = refused_later s r place address sought value len (leb-false s.segment.settings.n place e)

-- an accepted admission
abbrev pub accepted : State → Arrival → Admission
accepted s a =
    record { answer = record { refusal = 0; number = suc s.segment.admitted }; state = form (with_packet (meaning s) a) }

-- ---- what a call gives back

-- a refused call's answer and state: its number, and the state as lent but for the count of packets turned away
abbrev pub refused_in : State → ℕ → Admission
refused_in s refusal = admission_result (record { refusal = refusal; number = 0 }, state_turned s (turned_after refusal s.segment.turned))

is_handed_back :
    (s : State) → Held s → (a : Arrival) (refusal : ℕ) → (coded_admit s a).0.refusal ≡ refusal → ¬ (refusal ≡ 0)
    → refused_in s refusal ≡ admission_result (coded_admit s a)
is_handed_back s held a refusal e given =
    sym (ap admission_result (handed_admission s held a (λ z. given (sym e ∙ z))) ∙ ap (refused_in s) e)

pub gives_1 : (s : State) → Held s → (a : Arrival) → standing s ≡ false → refused_in s 1 ≡ admission_result (coded_admit s a)
gives_1 s held a e = is_handed_back s held a 1 ((standing_exactly_admission s a).1 e) (λ z. omega arith)

module _ (s : State) (r : Lent s) (a : Arrival) where
  -- it is the call of the rules
  of_rules : coded_admit s a ≡ ((admit (meaning s) a).0, form (admit (meaning s) a).1)
  of_rules =
      ap
      (λ t. cond t ((admit (meaning s) a).0, form (admit (meaning s) a).1) (record { refusal = 1; number = 0 }, s))
      (parts_padded s r.zeros)

  pub gives_refusal :
      (refusal : ℕ) → refusal ≡ admission_refusal (meaning s) a → ¬ (refusal ≡ 0) → refused_in s refusal ≡ admission_result (coded_admit s a)
  gives_refusal refusal e =
      is_handed_back s r.held a refusal (ap (λ (o : Admitted × State). o.0.refusal) of_rules ∙ admit_bears (meaning s) a ∙ sym e)

  takes_in : admission_refusal (meaning s) a ≡ 0 → accepted s a ≡ admission_result (coded_admit s a)
  takes_in none! =
      sym
      (ap admission_result of_rules ∙ ap (λ (o : Admitted × Bus). admission_result (o.0, form o.1)) (admit_is (meaning s) a none!))

-- ---- the packet joins in place

-- a store within a part of a list
set_part :
    (xs : List Packet) (f m j : ℕ) (p : Packet) → f + m ≤ length xs → j < m
    → set xs (f + j) p ≡ take f xs ++ set (take m (drop f xs)) j p ++ drop (f + m) xs
set_part xs zero m j p h l =
    ap (λ n. set xs n p) (zero-add j)
    ∙ ap (λ ys. set ys j p) (sym (take-append-drop m xs))
    ∙ set-append_left (take m xs) (drop m xs) j p (omega (arith, length-take-le m xs (omega arith)))
    ∙ ap (λ n. set (take m xs) j p ++ drop n xs) (sym (zero-add m))
set_part [] (suc f) m j p h l = absurd (omega arith)
set_part (x ∷ xs) (suc f) m j p h l =
    ap (λ n. set (x ∷ xs) n p) (suc-add f j)
    ∙ ap (λ ys. x ∷ ys) (set_part xs f m j p (omega arith) l)
    ∙ ap (λ n. (x ∷ (take f xs ++ set (take m (drop f xs)) j p)) ++ drop n (x ∷ xs)) (sym (suc-add f m))

-- the row in which a packet has taken the first free place of station i's
abbrev pub row_with : Queues → ℕ → Packet → Queues
row_with qs i p =
    record {
      lengths = set qs.lengths i (get_or qs.lengths i 0 + 1);
      packets = set qs.packets (16 * i + get_or qs.lengths i 0) p;
    }

-- it is the row with the longer queue put back
pub row_joined :
    (qs : Queues) (i : ℕ) (p : Packet) → i < 64 → length qs.packets ≡ 1024 → queue_of qs i ≡ queue_form (queue_at qs i)
    → get_or qs.lengths i 0 < 16 → row_with qs i p ≡ with_queue qs i (queue_form (queue_at qs i ++ (p ∷ [])))
row_joined qs i p h row e room =
    let n = get_or qs.lengths i 0 in
    let m = ap (λ (queue : Queue). queue.length) e in
    let here = set_part qs.packets (16 * i) 16 n p (omega arith) room in
    ap (λ ps. made_row (set qs.lengths i (n + 1)) ps) here
    ∙ ap (with_queue qs i) (form_joined (queue_of qs i) (queue_at qs i) p e (omega arith))
  where
    made_row : List ℕ → List Packet → Queues
    made_row lengths packets = record { lengths = lengths; packets = packets }

-- the state in which a packet of this number has taken the first free place of the station at a place
abbrev pub joined_at : State → ℕ → ℕ → ℕ → ℕ → State
joined_at s place number value len =
    record {
      segment = (counted s number).segment;
      queues = row_with s.queues place (record { number = number; value = value; length = len; admission = s.segment.clock });
    }

-- what is given back with this number and this state
abbrev pub taken : ℕ → State → Admission
taken number state = record { answer = record { refusal = 0; number = number }; state = state }

-- an arrival that is not refused, at the address of which this is the place
module _
    (s : State)
    (r : Lent s)
    (place : ℕ)
    (address : Address)
    (sought : place ≡ address_place s address)
    (value len : ℕ)
    (none! : admission_refusal (meaning s) (arrival_of address value len) ≡ 0)
  where
    here! : place < s.segment.settings.n
    here! = at_station s r place address sought value len none!

    pub within_row : place < 64
    within_row = let h = here! in omega (arith, r.few)

    pub room_at : get_or s.queues.lengths place 0 < 16
    room_at = room_left s r place address sought value len here! none!

    pub joined_in_place :
        (number : ℕ) → number ≡ s.segment.admitted + 1
        → taken number (joined_at s place number value len) ≡ admission_result (coded_admit s (arrival_of address value len))
    joined_in_place number e =
        let next = e ∙ add-one s.segment.admitted in
        let packet : Packet = record { number = number; value = value; length = len; admission = s.segment.clock } in
        let formed = queue_formed s r.held r.zeros place within_row in
        ap (λ queues. taken number (record { segment = (counted s number).segment; queues = queues }))
        (row_joined s.queues place packet within_row r.held.packets formed room_at)
        ∙ ap₂ taken next (state_joined s r place address sought value len here! number next room_at)
        ∙ takes_in s r (arrival_of address value len) none!
