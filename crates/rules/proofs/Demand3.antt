-- Demand 3: a waiting circuit's oldest packet ends within N + 1 contentions, at most one of them idle, and within N × (2L − 1 + P) + 1 slots, and,
-- sooner, within N × (2L − 1 + P); and its j-th packet within j times as many: for every engine that meets demand 2, and for the machine itself.
-- Assumes nothing.
use Prim.Native.Nat.{ℕ, zero, suc, ◌+◌, ◌-◌, ◌*◌, ◌≤◌}
use mathlib.Core.Path.{◌≡◌, refl, sym, ap, ◌∙◌, subst}
use mathlib.Core.Bool.{Bool, true, false, ◌&&◌, cond, and-false}
use mathlib.Core.Option.{Option, none}
use mathlib.Core.List.{List, [], ◌∷◌, map}
use native.Mathlib.Omega.{arith}
use native.Mathlib.Nat.{mul-le-mul_left, mul-le-mul_right, suc-mul, mul-suc, mul_assoc}
use lib.Dec.{eqb}
use lib.ListN.{length, length-map}
use borrow.Author.Tests.{ne_eqb}
use Rattle.window.specs.Splitting.{exponent_of}
use Rattle.rules.specs.Lists.{bit, some_of, Among, at_head}
use Rattle.rules.specs.Bus.{RTVC, Packet, Station, Bus}
use Rattle.rules.specs.SetUp.{Asked, Request}
use Rattle.rules.specs.Standing.{asked}
use Rattle.rules.specs.Begin.{sits_out}
use Rattle.rules.specs.Probe.{Answer, refused_answer, success, idle, probe}
use Rattle.rules.specs.Step.{opened}
use Rattle.rules.specs.Engine.{Engine, machine, Call, reach, answers}
use Rattle.rules.specs.Demands.{Demand2, slots_of, most_slots, fewer_slots, contentions_in, idle_contentions_in, slots_in, longest_in, sends, up_to, CircuitWaits, EndsWithin, slots_on, Serves, Demand3, SoonerThanDemand3, place, contentions_for, idle_for, slots_for, ServesInTurn, InTurn}
use Rattle.rules.proofs.Laws.{clash, or-false, bit_most, among_right, map_into}
use Rattle.rules.proofs.Reach.{answers_agree}
use Rattle.rules.proofs.Probes.{probes_left, halved_once, probes_left_some, probes_fall}
use Rattle.rules.proofs.Round.{wins_left, idles_left, spare_left, wins_left_some, wins_most, own_wins, own_again, other_wins, idle_ends, spare_paid}
use Rattle.rules.proofs.Circuit.{circuits_of, Waits, Turn, goes_on, its_own, earlier, anothers, nobodys, takes_part}
use Rattle.rules.proofs.Turns.{Sound, sound_reached, left_at_begin, waits_first, Holds, any_calls}

-- ---- answers, one after the other

-- The answers `said` keep within w contentions won and i idle ones, and within the slots that those take, `spare` slots fewer, if the
-- contention under way has `left` probes left. L is the number of halvings; `mine` is the length of the waiting packet.
record Within (L mine : ℕ) (says : Answer → Bool) (w i spare left : ℕ) (said : List Answer) : Type 0 where
  contentions : contentions_in (up_to says said) ≤ w + i
  idle_ones : idle_contentions_in (up_to says said) ≤ i
  slots : (P : ℕ) → longest_in (up_to says said) ≤ P → slots_in (up_to says said) + 2 * L + spare ≤ w * (2 * L - 1 + P) + i + left
  open_contentions : some_of says said ≡ false → suc (contentions_in said) ≤ w + i
  open_slots : (P : ℕ) → mine ≤ P → longest_in said ≤ P → some_of says said ≡ false → suc (slots_in said + 2 * L + spare) ≤ w * (2 * L - 1 + P) + i + left

-- w − w' contentions more take at least as many slots more
takes_more : {w' w : ℕ} (X : ℕ) → w' ≤ w → 1 ≤ X → w' * X + w ≤ w * X + w'
takes_more {w'} {w} (suc X) h l = omega (arith, mul-le-mul_right X h, mul-suc w X, mul-suc w' X)
takes_more zero h l = absurd (omega arith)

-- a probe takes at most a packet's length on success, and else at most one slot
slots_most : (a : Answer) → slots_of a ≤ cond (eqb a.event success) a.length 1
slots_most a = go (eqb a.refusal 0)
  where
    go : (t : Bool) → cond t (cond (eqb a.event success) a.length 1) 0 ≤ cond (eqb a.event success) a.length 1
    go true = omega arith
    go false = omega arith

module _ {L mine : ℕ} {says : Answer → Bool} where
  -- no answer yet
  within_none : {w i spare left : ℕ} → 1 ≤ L → 1 ≤ w → 2 + spare ≤ w + i + left → 1 ≤ mine → Within L mine says w i spare left []
  within_none {w} {i} {spare} {left} halved hw hs hm =
      record {
        contentions = omega arith;
        idle_ones = omega arith;
        slots = λ P h. let k = takes_more (2 * L - 1 + P) hw (omega arith) in omega arith;
        open_contentions = λ e. omega arith;
        open_slots = λ P a c e. let k = takes_more (2 * L - 1 + P) hw (omega arith) in omega arith;
      }

  -- an answer that does not say it, and the answers after it
  within_more :
      {w i spare left w' i' spare' left' : ℕ} (a : Answer) (said : List Answer) → says a ≡ false → bit (eqb a.ended 1) + (w' + i') ≤ w + i
      → bit (eqb a.ended 1 && eqb a.event idle) + i' ≤ i
      → ((P : ℕ) → a.length ≤ P
      → cond (eqb a.event success) a.length 1 + (w' * (2 * L - 1 + P) + i' + left') + spare ≤ w * (2 * L - 1 + P) + i + left + spare')
      → Within L mine says w' i' spare' left' said → Within L mine says w i spare left (a ∷ said)
  within_more a said e hc hi hs k =
      record {
        contentions = rw e (let c = k.contentions in omega arith);
        idle_ones = rw e (let c = k.idle_ones in omega arith);
        slots = rw e (λ P m. let c = k.slots P (omega arith) in let d = hs P (omega arith) in let t = slots_most a in omega arith);
        open_contentions = λ f. let c = k.open_contentions (or-false (says a) (some_of says said) f).1 in omega arith;
        open_slots = λ P n m f.
            let c = k.open_slots P n (omega arith) (or-false (says a) (some_of says said) f).1 in
            let d = hs P (omega arith) in
            let t = slots_most a in
            omega arith;
      }

  -- a refused call: it takes no slot and ends no contention
  within_refused :
      {w i spare left : ℕ} (n : ℕ) (said : List Answer) → ¬ (n ≡ 0) → says (refused_answer n) ≡ false → Within L mine says w i spare left said
      → Within L mine says w i spare left (refused_answer n ∷ said)
  within_refused n said z e k =
      record {
        contentions = rw e (omega (arith, k.contentions));
        idle_ones = rw e (omega (arith, k.idle_ones));
        slots = rw (e, ne_eqb n 0 z) (λ P m. omega (arith, k.slots P (omega arith)));
        open_contentions = rw e (λ f. omega (arith, k.open_contentions f));
        open_slots = rw (e, ne_eqb n 0 z) (λ P a m f. omega (arith, k.open_slots P a (omega arith) f));
      }

  -- a probe after which the contention goes on
  within_on :
      {w i spare left left' : ℕ} (a : Answer) (said : List Answer) → says a ≡ false → a.ended ≡ 0 → ¬ (a.event ≡ success) → suc left' ≤ left
      → Within L mine says w i spare left' said → Within L mine says w i spare left (a ∷ said)
  within_on {w} {i} {spare} {left} {left'} a said e ended event fewer =
      within_more a said e (rw ended (omega arith)) (rw ended (omega arith)) (λ P m. rw (ne_eqb a.event success event) (omega arith))

  -- another circuit's success
  within_other :
      {w i spare left w' i' spare' : ℕ} (a : Answer) (said : List Answer) → says a ≡ false → a.ended ≡ 1 → a.event ≡ success → suc w' ≤ w → i' ≤ i
      → suc (i' + spare) ≤ i + left + spare' → Within L mine says w' i' spare' (2 * L) said → Within L mine says w i spare left (a ∷ said)
  within_other {w} {i} {spare} {left} {w'} {i'} {spare'} a said e ended event fewer idles hs =
      within_more a said e (rw ended (omega arith)) (rw (ended, event) (omega arith)) (λ P m.
      let k = mul-le-mul_right (2 * L - 1 + P) fewer in
      let q = suc-mul w' (2 * L - 1 + P) in
      rw event (omega arith))

  -- an idle contention: one probe
  within_idle :
      {w i spare w' i' spare' : ℕ} (a : Answer) (said : List Answer) → 1 ≤ L → says a ≡ false → a.ended ≡ 1 → a.event ≡ idle → w' ≤ w → suc i' ≤ i
      → w' + spare ≤ w + spare' → Within L mine says w' i' spare' (2 * L) said → Within L mine says w i spare (2 * L) (a ∷ said)
  within_idle {w} {i} {spare} {w'} {i'} {spare'} a said halved e ended event wins fewer hs =
      within_more a said e (rw ended (omega arith)) (rw (ended, event) (omega arith)) (λ P m.
      let k = takes_more (2 * L - 1 + P) wins (omega arith) in
      rw event (omega arith))

  -- the answer that says it
  within_said :
      {w i spare left : ℕ} (a : Answer) (said : List Answer) → says a ≡ true → a.ended ≡ 1 → a.event ≡ success → 1 ≤ w → suc spare ≤ i + left
      → Within L mine says w i spare left (a ∷ said)
  within_said {w} {i} {spare} {left} a said e ended event hw hs =
      record {
        contentions = rw (e, ended) (omega arith);
        idle_ones = rw (e, event, ended) (omega arith);
        slots = rw e (λ P m. let k = mul-le-mul_right (2 * L - 1 + P) hw in let t : slots_of a ≤ a.length = subst (λ n. slots_of a ≤ cond (eqb n success) a.length 1) event (slots_most a) in omega arith);
        open_contentions = λ f. clash (rw e) f;
        open_slots = λ P n m f. clash (rw e) f;
      }

-- ---- the machine's run

module _ (row : List Asked) (D : ℕ) (s : Station) (p : Packet) (own : Among s.capability (circuits_of row)) (some_slots : 1 ≤ p.length) (halved : 1 ≤ exponent_of D) where
  -- what is left of the round and of the contention, at the last winner `last` and with `left` probes left; and a whole round, with one idle contention,
  -- for each packet ahead
  abbrev Keeping : List Packet → Option ℕ → ℕ → List Answer → Type 0
  Keeping ahead last left said =
      Within
      (exponent_of D)
      p.length
      (sends s p)
      (wins_left (circuits_of row) s.capability last + length ahead * length (circuits_of row))
      (idles_left s.capability last + length ahead)
      (spare_left (circuits_of row) s.capability last + length ahead)
      left
      said

  -- an answer without success does not send p, nor one of another address
  unsent_says : (a : Answer) → ¬ (a.event ≡ success) → sends s p a ≡ false
  unsent_says a h = rw (ne_eqb a.event success h)

  others_says : (a : Answer) → ¬ (a.address ≡ s.address) → sends s p a ≡ false
  others_says a h = rw (ne_eqb a.address s.address h, and-false (eqb a.event success))

  -- after a probe that ended a contention all 2L probes are left
  next_begins :
      {ahead : List Packet} (b : Bus) (said : List Answer) {last : Option ℕ} → b.last ≡ last → b.contention ≡ none → Waits row D s p ahead b
      → Keeping ahead b.last (probes_left b) said → Keeping ahead last (2 * exponent_of D) said
  next_begins {ahead} b said e c w k =
      subst (λ l. Keeping ahead l (2 * exponent_of D) said) e
      (subst (λ n. Keeping ahead b.last n said) (left_at_begin b D w.by_circuit w.space c) k)

  -- one probe, and the answers after it
  keeping_probe :
      {ahead : List Packet} (b : Bus) (said : List Answer) → Sound b → Turn row D s p b (probe (opened b)) ahead
      → ((before : List Packet) → Waits row D s p before (probe (opened b)).1
      → Keeping before (probe (opened b)).1.last (probes_left (probe (opened b)).1) said)
      → Keeping ahead b.last (probes_left b) ((probe (opened b)).0 ∷ said)
  keeping_probe {ahead} b said h (goes_on ended event last w') more =
      within_on (probe (opened b)).0 said (unsent_says (probe (opened b)).0 event) ended event (probes_fall b h.standing ended)
      (subst (λ l. Keeping ahead l (probes_left (probe (opened b)).1) said) last (more ahead w'))
  keeping_probe b said h (its_own ended event it out two) more =
      let k = own_wins (circuits_of row) s.capability b.last (probes_left b) out (probes_left_some b h.standing h.crowded) two in
      within_said (probe (opened b)).0 said it ended event (omega (arith, wins_left_some (circuits_of row) s.capability own b.last)) (omega arith)
  keeping_probe b said h (earlier {q} {ahead} ended event own-win it out two last c w') more =
      let again = own_again (circuits_of row) s.capability in
      let k = own_wins (circuits_of row) s.capability b.last (probes_left b) out (probes_left_some b h.standing h.crowded) two in
      let l = wins_left_some (circuits_of row) s.capability own b.last in
      let m = suc-mul (length ahead) (length (circuits_of row)) in
      within_other (probe (opened b)).0 said it ended event (omega arith) (omega arith) (omega arith)
      (next_begins (probe (opened b)).1 said last c w' (more _ w'))
  keeping_probe b said h (anothers ended event at other last i out below two c w') more =
      let fewer = other_wins (circuits_of row) s.capability b.last (map_into (λ t. t.capability) row i) out below in
      let k = fewer.2 (probes_left b) (probes_left_some b h.standing h.crowded) two in
      within_other (probe (opened b)).0 said (others_says (probe (opened b)).0 (λ e. other (sym at ∙ e))) ended event
      (omega (arith, fewer.0)) (omega (arith, fewer.1)) (omega arith)
      (next_begins (probe (opened b)).1 said last c w' (more _ w'))
  keeping_probe {ahead} b said h (nobodys ended event all out last c' w') more =
      let fewer = idle_ends (circuits_of row) s.capability b.last out in
      let unsent = unsent_says (probe (opened b)).0 (λ e. let y : ◌≡◌ {A = ℕ} 0 2 = sym event ∙ e in omega arith) in
      subst (λ n. Keeping ahead b.last n ((probe (opened b)).0 ∷ said)) (sym all)
      (within_idle (probe (opened b)).0 said halved unsent ended event (omega (arith, fewer.0)) (omega (arith, fewer.1)) (omega (arith, fewer.2))
      (next_begins (probe (opened b)).1 said last c' w' (more _ w')))

  -- no call yet
  keeping_none : {ahead : List Packet} (b : Bus) → Sound b → Waits row D s p ahead b → Keeping ahead b.last (probes_left b) []
  keeping_none b h w =
      let one = probes_left_some b h.standing h.crowded in
      let two = takes_part row D s p b h.standing h.crowded h.enabled w in
      let l = wins_left_some (circuits_of row) s.capability own b.last in
      let k = spare_paid (circuits_of row) s.capability own b.last (probes_left b) one two in
      within_none halved (omega arith) (omega arith) some_slots

  keeping : Holds row D s p Keeping
  keeping = record { at-end = keeping_none; at_refusal = λ n said z k. within_refused n said z refl k; at_probe = keeping_probe }

-- ---- the demand

-- a test that does not fail
never_fails : (t : Bool) → (t ≡ false → ⊥) → t ≡ true
never_fails true h = refl
never_fails false h = absurd (h refl)

-- what is kept within, of N circuits and j packets
ends_sooner :
    (N j : ℕ) {L w i spare : ℕ} {s : Station} {p : Packet} {said : List Answer} → w ≤ j * N → i ≤ j → w + i ≤ j * N + spare → 1 ≤ L
    → Within L p.length (sends s p) w i spare (2 * L) said
    → EndsWithin (contentions_for j N) (idle_for j) (slots_for j fewer_slots N L) s p said
ends_sooner N j {L} {w} {i} {spare} {s} {p} {said} wins idles most halved k =
    record {
      contentions = omega (arith, k.contentions, mul-suc j N);
      idle_ones = omega (arith, k.idle_ones);
      slots = let P = longest_in (up_to (sends s p) said) in omega (arith, k.slots P (omega arith), paid P);
      ends = λ h. never_fails (some_of (sends s p) said) (λ e. omega (arith, k.open_contentions e, mul-suc j N));
      ends_in_time = λ P n m h. never_fails (some_of (sends s p) said) (λ e. omega (arith, k.open_slots P n m e, paid P));
    }
  where
    -- what the wins and the idle contentions left pay for, less the slots spared
    paid : (P : ℕ) → w * (2 * L - 1 + P) + i ≤ j * fewer_slots N L P + spare
    paid P =
        let less : fewer_slots N L P ≡ N * (2 * L - 1 + P) = omega arith in
        let bound : j * fewer_slots N L P ≡ j * N * (2 * L - 1 + P) = ap (λ n. j * n) less ∙ sym (mul_assoc j N (2 * L - 1 + P)) in
        omega (arith, takes_more (2 * L - 1 + P) wins (omega arith))

-- a looser bound
ends_later :
    {n n' idles idles' : ℕ} {most most' : ℕ → ℕ} {s : Station} {p : Packet} {said : List Answer} → n ≤ n' → idles ≤ idles' → ((P : ℕ) → most P ≤ most' P)
    → EndsWithin n idles most s p said → EndsWithin n' idles' most' s p said
ends_later {s = s} {p = p} {said = said} hn hi hm k =
    record {
      contentions = omega (arith, k.contentions);
      idle_ones = omega (arith, k.idle_ones);
      slots = omega (arith, k.slots, hm (longest_in (up_to (sends s p) said)));
      ends = λ h. k.ends (omega arith);
      ends_in_time = λ P n m h. k.ends_in_time P n m (omega (arith, hm P));
    }

-- a circuit that waits on a sound bus
module _ (b : Bus) (sound : Sound b) (later : List Call) (s : Station) (ahead : List Packet) (p : Packet) (h : CircuitWaits b s ahead p) where
  abbrev row : List Asked
  row = map asked b.stations

  own : Among s.capability (circuits_of row)
  own = map_into (λ t. t.capability) row (map_into asked b.stations h.listed)

  some_slots : 1 ≤ p.length
  some_slots =
      ((sound.standing.each_station s h.listed).packets p (subst (Among p) (sym h.queue) (among_right ahead (at_head refl)))).least

  kept : Keeping row b.D s p own some_slots (halved_once b sound.standing) ahead b.last (2 * exponent_of b.D) (answers machine b later)
  kept =
      rw (left_at_begin b b.D h.by_circuit refl h.begins) at
      (any_calls row b.D s p (Keeping row b.D s p own some_slots (halved_once b sound.standing)) (keeping row b.D s p own some_slots (halved_once b sound.standing)) later ahead b sound (waits_first b s ahead p h))

  all_circuits : length (circuits_of row) ≡ length b.stations
  all_circuits = length-map row (λ t. t.capability) ∙ length-map b.stations asked

  sooner_at :
      EndsWithin
      (contentions_for (place ahead) (length b.stations))
      (idle_for (place ahead))
      (slots_on (slots_for (place ahead) fewer_slots) b)
      s
      p
      (answers machine b later)
  sooner_at =
      let most = wins_most (circuits_of row) s.capability b.last in
      let one = bit_most (sits_out RTVC b.last s.capability) in
      let m = suc-mul (length ahead) (length (circuits_of row)) in
      subst
      (λ N.
      EndsWithin
      (contentions_for (place ahead) N)
      (idle_for (place ahead))
      (slots_for (place ahead) fewer_slots N (exponent_of b.D))
      s
      p
      (answers machine b later))
      all_circuits
      (ends_sooner (length (circuits_of row)) (place ahead) (omega arith) (omega arith) (omega arith) (halved_once b sound.standing) kept)

-- the machine itself: a slot fewer for each packet than j times demand 3's bound,
sooner_in_turn_machine : InTurn fewer_slots machine
sooner_in_turn_machine r calls later s ahead p h = sooner_at (reach machine r calls) (sound_reached r calls h.by_circuit) later s ahead p h

-- for every engine that meets demand 2
pub sooner_in_turn : (E : Engine) → Demand2 E → InTurn fewer_slots E
sooner_in_turn E meets r calls later =
    subst (ServesInTurn fewer_slots (reach machine r calls)) (sym (answers_agree E meets r calls later)) (sooner_in_turn_machine r calls later)

-- so j times demand 3's bound itself,
pub in_turn : (E : Engine) → Demand2 E → InTurn most_slots E
in_turn E meets r calls later s ahead p h =
    ends_later (omega arith) (omega arith) (λ P. mul-le-mul_left (place ahead) (omega arith)) (sooner_in_turn E meets r calls later s ahead p h)

-- and, with no packet ahead, demand 3
in_turn_first : (bound : ℕ → ℕ → ℕ → ℕ) (E : Engine) → InTurn bound E → (r : Request) (calls later : List Call) → Serves bound (reach machine r calls) (answers E (reach E r calls) later)
in_turn_first bound E holds r calls later s p h = ends_later (omega arith) (omega arith) (λ P. omega arith) (holds r calls later s [] p h)

pub demand3 : (E : Engine) → Demand2 E → Demand3 E
demand3 E meets = in_turn_first most_slots E (in_turn E meets)

pub sooner_than_demand3 : (E : Engine) → Demand2 E → SoonerThanDemand3 E
sooner_than_demand3 E meets = in_turn_first fewer_slots E (sooner_in_turn E meets)
