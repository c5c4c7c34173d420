-- Nobody passes a waiting circuit twice (P13): between two successes of a circuit that waits, each other succeeds at most once, and at most one contention
-- is idle, for every engine that meets demand 2; and for the machine with rounds that may be over once the top circuit has sent. Assumes nothing.
use Prim.Native.Nat.{ℕ, ◌+◌, ◌≤◌}
use mathlib.Core.Path.{◌≡◌, refl, sym, ap, ◌∙◌, subst}
use mathlib.Core.Logic.{◌⊎◌, inl, inr}
use mathlib.Core.Bool.{Bool, true, false, ◌&&◌, cond, and-false}
use mathlib.Core.Option.{Option, none, some}
use mathlib.Core.List.{List, [], ◌∷◌, ◌++◌, map}
use native.Mathlib.Omega.{arith}
use lib.Dec.{eqb, leb}
use lib.ListN.{length, take, length-map, get_or}
use borrow.Author.Tests.{eqb-true, eq-eqb, ne_eqb, le-leb}
use Rattle.rules.specs.Lists.{bit, keep, Distinct}
use Rattle.rules.specs.Bus.{RTVC, code, Packet, Station, Bus, nothing}
use Rattle.rules.specs.SetUp.{Asked, Request, discipline_of, fresh_station, fresh_bus, set_up}
use Rattle.rules.specs.Standing.{asked}
use Rattle.rules.specs.Admission.{joined, with_packet, turned_away}
use Rattle.rules.specs.Begin.{sits_out}
use Rattle.rules.specs.Probe.{Answer, refused_answer, success, idle, probe}
use Rattle.rules.specs.Step.{is_under_way, refused_begun, opened}
use Rattle.rules.specs.Engine.{Engine, machine, Call, admission, one-begin, one-probe, one-step, begun, probed, reply, next, after, replies, reach, probe_in, answers}
use Rattle.rules.specs.Demands.{Demand2, up_to, idle_contentions_in, wins, CircuitWaits, successes_of, PassedOnce, beside, succeeds, Tally, blank, tallied, tally, tally_of, TalliesAreTrue, waits_at, waits_throughout, NobodyPassesTwice}
use Rattle.rules.specs.WrongEngines.{round_ended, round_over, ending_round}
use Rattle.rules.proofs.Laws.{clash, and-true, bit_most, all_map, keep_into, length_keep, map_into, map-map}
use Rattle.rules.proofs.Numbers.{one_apart, held}
use Rattle.rules.proofs.Standing.{set_up_stands, accepted_set_up}
use Rattle.rules.proofs.Refusals.{probe_number}
use Rattle.rules.proofs.Contenders.{joined_alike}
use Rattle.rules.proofs.Reach.{outcome, accepted_or_nothing, after_more, replies_agree, answers_agree, steps_agree}
use Rattle.rules.proofs.Round.{wins_left, idles_left, wins_most, other_wins, wins_stay, idle_ends}
use Rattle.rules.proofs.Circuit.{circuits_of, Waits, Turn, goes_on, its_own, earlier, anothers, nobodys}
use Rattle.rules.proofs.Turns.{Sound, sound_reached, sound_next, waits_first, Holds, Everywhere, one_call}
use Rattle.rules.proofs.Ending.{TopOnly, never, either, over_sound, over_waits, CallOver, call_over, nothing_stays}
use Rattle.rules.proofs.Tallied.{Tells, Between, sent_next, tells_next}

-- ---- while the circuit waits

-- the capabilities of the stations of an address: one, or none
abbrev circuits_at : ℕ → List Asked → List ℕ
circuits_at other row = circuits_of (keep (λ t. eqb other t.address) row)

module _ (row : List Asked) (D : ℕ) (s : Station) (p : Packet) where
  -- up to the circuit's own success each other address succeeds no more often than the round leaves it, and no more contentions are idle
  record Passed (last : Option ℕ) (said : List Answer) : Type 0 where
    each : (other : ℕ) → ¬ (other ≡ s.address) → successes_of other (up_to (wins s.address) said) ≤ wins_left (circuits_at other row) s.capability last
    idles : idle_contentions_in (up_to (wins s.address) said) ≤ idles_left s.capability last

  -- its own success
  passed_own : (a : Answer) (said : List Answer) (last : Option ℕ) → wins s.address a ≡ true → Passed last (a ∷ said)
  passed_own a said last e =
      let parts = and-true (eqb a.event success) (eqb a.address s.address) e in
      let event = eqb-true a.event success parts.0 in
      let own = eqb-true a.address s.address parts.1 in
      record {
        each = λ other h.
            let no : wins other a ≡ false = rw (event) (ne_eqb a.address other (λ q. h (sym q ∙ own))) in
            rw (e, no) (omega arith);
        idles = rw (e, event, and-false (eqb a.ended 1)) (omega arith);
      }

  -- an answer that is none, and those after it
  passed_more :
      (a : Answer) (said : List Answer) {last last' : Option ℕ} → wins s.address a ≡ false
      → ((other : ℕ) → bit (wins other a) + wins_left (circuits_at other row) s.capability last' ≤ wins_left (circuits_at other row) s.capability last)
      → bit (eqb a.ended 1 && eqb a.event idle) + idles_left s.capability last' ≤ idles_left s.capability last → Passed last' said
      → Passed last (a ∷ said)
  passed_more a said e more idle-more k =
      record { each = λ other h. rw e (omega (arith, more other, k.each other h)); idles = rw e (omega (arith, k.idles)) }

  -- an answer without success is none of any address
  unsent_wins : (a : Answer) → ¬ (a.event ≡ success) → (other : ℕ) → wins other a ≡ false
  unsent_wins a h other = rw (ne_eqb a.event success h)

  -- one probe, and the answers after it
  passed_probe :
      {ahead : List Packet} (b : Bus) (said : List Answer) → Sound b → Turn row D s p b (probe (opened b)) ahead
      → ((before : List Packet) → Waits row D s p before (probe (opened b)).1 → Passed (probe (opened b)).1.last said)
      → Passed b.last ((probe (opened b)).0 ∷ said)
  passed_probe {ahead} b said h (goes_on ended event last w') more =
      let none! = unsent_wins (probe (opened b)).0 event in
      passed_more (probe (opened b)).0 said (none! s.address) (λ other. rw (none! other) (omega arith)) (rw ended (omega arith))
      (subst (λ l. Passed l said) last (more ahead w'))
  passed_probe b said h (its_own ended event it out two) more =
      passed_own (probe (opened b)).0 said b.last (and-true _ _ it).0
  passed_probe b said h (earlier ended event it unsent out two last c w') more = passed_own (probe (opened b)).0 said b.last it
  passed_probe {ahead} b said h (anothers {x = x} ended event at other! last i out below two c w') more =
      let fewer = other_wins (circuits_of row) s.capability b.last (map_into (λ t. t.capability) row i) out below in
      let not_own : wins s.address (probe (opened b)).0 ≡ false = rw (event) (ne_eqb _ _ (λ e. other! (sym at ∙ e))) in
      passed_more (probe (opened b)).0 said not_own (λ other. go other (eqb other x.address) refl) (rw (ended, event) (omega (arith, fewer.1)))
      (subst (λ l. Passed l said) last (more ahead w'))
    where
      go :
          (other : ℕ) (t : Bool) → eqb other x.address ≡ t
          → bit (wins other (probe (opened b)).0) + wins_left (circuits_at other row) s.capability (some x.capability)
          ≤ wins_left (circuits_at other row) s.capability b.last
      go other true e =
          let among = map_into (λ t. t.capability) (keep (λ t. eqb other t.address) row) (keep_into (λ t. eqb other t.address) row i e) in
          let fewer = other_wins (circuits_at other row) s.capability b.last among out below in
          let won : wins other (probe (opened b)).0 ≡ true = rw (event) (eq-eqb _ _ (at ∙ sym (eqb-true other x.address e))) in
          rw won (omega (arith, fewer.0))
      go other false e =
          let lost : wins other (probe (opened b)).0 ≡ false = rw (event) (ne_eqb _ _ (λ q. clash (eq-eqb other x.address (sym q ∙ at)) e)) in
          rw lost (omega (arith, wins_stay (circuits_at other row) s.capability b.last out below))
  passed_probe {ahead} b said h (nobodys ended event all out last c w') more =
      let none! = unsent_wins (probe (opened b)).0 (λ e. let y : ◌≡◌ {A = ℕ} 0 2 = sym event ∙ e in omega arith) in
      passed_more (probe (opened b)).0 said (none! s.address)
      (λ other. rw (none! other) (omega (arith, (idle_ends (circuits_at other row) s.capability b.last out).0)))
      (rw (ended, event) (omega (arith, (idle_ends (circuits_of row) s.capability b.last out).1)))
      (subst (λ l. Passed l said) last (more ahead w'))

  passing : Holds row D s p (λ ahead last left said. Passed last said)
  passing =
      record {
        at-end = λ b h w. record { each = λ other h. omega arith; idles = omega arith };
        at_refusal = λ n said z k. passed_more (refused_answer n) said refl (λ other. omega arith) (omega arith) k;
        at_probe = passed_probe;
      }

  -- where the round is over no more is left
  passed_over : (over : Bus → Bool) → TopOnly over → {ahead : List Packet} (b : Bus) (said : List Answer) → Waits row D s p ahead b
      → Passed (round_over over b).last said → Passed b.last said
  passed_over over top b said w k = go (over b) refl b.last refl k
    where
      go : (t : Bool) → over b ≡ t → (last : Option ℕ) → b.last ≡ last → Passed (cond t (round_ended b) b).last said → Passed last said
      go false e last l k' = subst (λ l'. Passed l' said) l k'
      go true e none l k' = k'
      go true e (some v) l k' =
          let out : leb s.capability v ≡ true = le-leb _ _ (subst (λ n. n ≤ v) w.capability ((top b e).1 v l w.station w.listed)) in
          record {
            each = λ other h. omega (arith, k'.each other h, (idle_ends (circuits_at other row) s.capability (some v) out).0);
            idles = omega (arith, k'.idles, (idle_ends (circuits_of row) s.capability (some v) out).1);
          }

-- what a refused set-up hands back answers no success
nothing_succeeds : (address : ℕ) (c : Call) → succeeds address (reply machine nothing c) ≡ false
nothing_succeeds address (admission a) = refl
nothing_succeeds address one-begin = refl
nothing_succeeds address one-probe = refl
nothing_succeeds address one-step = refl

-- on what an accepted one hands back no packet waits
tells_fresh : (address : ℕ) (r : Request) → r.discipline ≡ code RTVC → Tells address (fresh_bus r) blank
tells_fresh address r d =
    record {
      by_circuit = ap discipline_of d;
      under_way = refl;
      waiting = all_map (λ s. s.address ≡ address → held s ≡ 0) fresh_station (take r.N r.row) (λ s i e. refl);
    }

-- ---- the machine, and where the round may be over

module _ (over : Bus → Bool) (top : TopOnly over) where
  abbrev E : Engine
  E = ending_round over

  -- while the circuit waits
  passes_calls :
      (row : List Asked) (D : ℕ) (s : Station) (p : Packet) (later : List Call)
      → Everywhere row D s p (λ ahead last left said. Passed row D s p last said) (λ b. answers E b later)
  passes_calls row D s p [] ahead b h w = (passing row D s p).at-end b h w
  passes_calls row D s p (c ∷ later) ahead b h w =
      rw (call.replied, call.state)
      (one_call row D s p (λ before last left said. Passed row D s p last said) (passing row D s p) c (λ b'. answers E (round_over call.test b') later)
      (λ before b' h' w'.
      passed_over row D s p call.test call.test_top b' _ w'
      (passes_calls row D s p later before (round_over call.test b') (over_sound call.test call.test_top h')
      (over_waits call.test call.test_top w')))
      ahead
      b
      h
      w)
    where
      call : CallOver over top b c
      call = call_over over top b c

  -- from the beginning of a contention, with a packet
  passes_waiting :
      (b : Bus) → Sound b → (s : Station) (p : Packet) → CircuitWaits b s [] p → (later : List Call)
      → PassedOnce s.address (up_to (wins s.address) (answers E b later))
  passes_waiting b sound s p h later =
      record {
        each_other = λ other h. omega (arith, k.each other h, (wins_most (circuits_at other row) s.capability b.last).0, few other);
        idle_ones = omega (arith, k.idles, bit_most (sits_out RTVC b.last s.capability));
      }
    where
      row : List Asked
      row = map asked b.stations

      k : Passed row b.D s p b.last (answers E b later)
      k = passes_calls row b.D s p later [] b sound (waits_first b s [] p h)

      apart : Distinct (map (λ t. t.address) row)
      apart =
          subst Distinct (sym (map-map (λ (t : Asked). t.address) asked b.stations)) (set_up_stands b sound.standing).addresses_apart

      few : (other : ℕ) → length (circuits_at other row) ≤ 1
      few other =
          omega (
            arith,
            length-map (keep (λ t. eqb other t.address) row) (λ t. t.capability),
            length_keep (λ t. eqb other t.address) row,
            one_apart (λ t. t.address) other row apart,
          )

  module _ (address : ℕ) where
    -- where the round is over a tally tells as much, and a bus is between contentions as before
    over_tells : (test : Bus → Bool) (b : Bus) (t : Tally) → Tells address b t → Tells address (round_over test b) t
    over_tells test b t h =
        either test (λ b'. Tells address b' t) b h (λ e. record { by_circuit = h.by_circuit; under_way = h.under_way; waiting = h.waiting })

    over_between : (test : Bus → Bool) (b : Bus) → Between address b → Between address (round_over test b)
    over_between test b h =
        either test (Between address) b h (λ e. record { station = h.station; listed = h.listed; here = h.here; ended = h.ended })

    -- a call, and what calls and replies tell
    tells_call : (b : Bus) (t : Tally) (c : Call) → Sound b → Tells address b t
        → Sound (next E b c) × Tells address (next E b c) (tallied address t c (reply E b c))
    tells_call b t c h k =
        let call = call_over over top b c in
        rw (call.replied, call.state)
        (over_sound call.test call.test_top (sound_next h c), over_tells call.test (next machine b c) _ (tells_next address b h.standing k.by_circuit t k c))

    tells_calls : (b : Bus) (t : Tally) (calls : List Call) → Sound b → Tells address b t
        → Sound (after E b calls) × Tells address (after E b calls) (tally address t (beside calls (replies E b calls)))
    tells_calls b t [] h k = (h, k)
    tells_calls b t (c ∷ calls) h k = let n = tells_call b t c h k in tells_calls (next E b c) (tallied address t c (reply E b c)) calls n.0 n.1

    -- ---- until it has a packet again

    -- over these calls, from any sound state between contentions
    abbrev Passes : List Call → Type 0
    Passes later =
        (b : Bus) (t : Tally) → Sound b → Between address b → Tells address b t → waits_throughout address t (beside later (replies E b later)) ≡ true
        → PassedOnce address (up_to (wins address) (answers E b later))

    -- a refused probe is no success, and ends no contention
    passes_refused :
        (n : ℕ) (said : List Answer) → PassedOnce address (up_to (wins address) said) → PassedOnce address (up_to (wins address) (refused_answer n ∷ said))
    passes_refused n said k = record { each_other = λ other h. omega (arith, k.each_other other h); idle_ones = omega (arith, k.idle_ones) }

    -- an accepted probe that begins a contention while no packet waits does not meet the premise
    unmet : (t : Tally) (a : Answer) → t.under_way ≡ false → a.refusal ≡ 0 → t.waiting ≡ 0 → waits_at t (probed a) ≡ false
    unmet t a u n w = rw (u, n, w)

    -- where it has no packet, no contention begins
    passes_empty : (c : Call) (later : List Call) → Passes later → (b : Bus) (t : Tally) → t.waiting ≡ 0 → Sound b → Between address b → Tells address b t
        → waits_throughout address t (beside (c ∷ later) (replies E b (c ∷ later))) ≡ true
        → PassedOnce address (up_to (wins address) (answers E b (c ∷ later)))
    passes_empty c later passes b t empty h between tells =
        rw (call.replied, call.state)
        (outcome b
        (λ rep b'.
        Sound b' → Tells address b' (tallied address t c rep)
        → waits_throughout address t ((c, rep) ∷ beside later (replies E (round_over call.test b') later)) ≡ true
        → PassedOnce address (up_to (wins address) (probe_in rep (answers E (round_over call.test b') later))))
        (record {
          refuses = λ n z e h' k w. goes_on_with b between h k w;
          turns = λ n z e h' k w.
              goes_on_with (turned_away b)
              (record { station = between.station; listed = between.listed; here = between.here; ended = between.ended })
              h'
              k
              w;
          admits = λ a z h' k w.
              let alike = joined_alike b a between.station in
              goes_on_with (with_packet b a)
              (record {
                station = joined b a between.station;
                listed = map_into (joined b a) b.stations between.listed;
                here = alike.0 ∙ between.here;
                ended = between.ended;
              })
              h'
              k
              w;
          refuses_begin = λ n z h' k w. goes_on_with b between h k (and-true (waits_at t (begun (refused_begun n))) _ w).1;
          begins = λ z h' k w. clash w (rw empty);
          refuses_probe = λ n z h' k w.
              passes_refused n (answers E (round_over call.test b) later) (goes_on_with b between h k (and-true (waits_at t (probed (refused_answer n))) _ w).1);
          probes_one = λ z h' k w.
              clash (and-true (waits_at t (probed (probe (opened b)).0)) _ w).0
              (unmet t (probe (opened b)).0 (sym tells.under_way ∙ ap is_under_way between.ended) (probe_number (opened b)) empty);
        })
        c
        (sound_next h c)
        (tells_next address b h.standing tells.by_circuit t tells c))
      where
        call : CallOver over top b c
        call = call_over over top b c

        goes_on_with : (b' : Bus) {t' : Tally} → Between address b' → Sound b' → Tells address b' t'
            → waits_throughout address t' (beside later (replies E (round_over call.test b') later)) ≡ true
            → PassedOnce address (up_to (wins address) (answers E (round_over call.test b') later))
        goes_on_with b' {t'} i h' k w =
            passes (round_over call.test b') t' (over_sound call.test call.test_top h') (over_between call.test b' i)
            (over_tells call.test b' t' k)
            w

    passes_after : (later : List Call) → Passes later
    passes_after [] b t h between tells premise = record { each_other = λ other h. omega arith; idle_ones = omega arith }
    passes_after (c ∷ later) b t h between tells premise = go between.station.queue refl (passes_after later)
      where
        go : (queue : List Packet) → between.station.queue ≡ queue → Passes later → PassedOnce address (up_to (wins address) (answers E b (c ∷ later)))
        go [] e passes =
            passes_empty c later passes b t (sym (tells.waiting between.station between.listed between.here) ∙ ap length e) h between tells premise
        go (p ∷ rest) e passes =
            subst (λ n. PassedOnce n (up_to (wins n) (answers E b (c ∷ later)))) between.here
            (passes_waiting b h between.station p
            (record { by_circuit = tells.by_circuit; listed = between.listed; rest = rest; queue = e; begins = between.ended })
            (c ∷ later))

  -- ---- from set-up

  tells_from_set_up :
      (r : Request) (calls : List Call) (address : ℕ) → r.discipline ≡ code RTVC → (set_up r).0.refusal ≡ 0
      → Sound (reach E r calls) × Tells address (reach E r calls) (tally_of address calls (replies E (set_up r).1 calls))
  tells_from_set_up r calls address d z = tells_calls address (set_up r).1 blank calls (sound_reached r [] begins.by_circuit) begins
    where
      begins : Tells address (set_up r).1 blank
      begins = subst (λ (b : Bus). Tells address b blank) (sym (accepted_set_up r z)) (tells_fresh address r d)

  pub passes_from_set_up : NobodyPassesTwice E
  passes_from_set_up r calls c later address d won premise = go (accepted_or_nothing r [])
    where
      sofar : List Call
      sofar = calls ++ (c ∷ [])

      go : ((set_up r).0.refusal ≡ 0) ⊎ ((set_up r).1 ≡ nothing) → PassedOnce address (up_to (wins address) (answers E (reach E r sofar) later))
      go (inr e) =
          let handed : reach E r calls ≡ nothing = ap (λ b. after E b calls) e ∙ nothing_stays over top calls in
          clash (sym (ap (succeeds address) (call_over over top nothing c).replied) ∙ subst (λ (b : Bus). succeeds address (reply E b c) ≡ true) handed won) (nothing_succeeds address c)
      go (inl z) =
          let call = call_over over top (reach E r calls) c in
          let before = tells_from_set_up r calls address d z in
          let now = tells_from_set_up r sofar address d z in
          passes_after address later (reach E r sofar) (tally_of address sofar (replies E (set_up r).1 sofar)) now.0
          (subst (Between address) (sym (after_more E (set_up r).1 calls (c ∷ []) ∙ call.state))
          (over_between address call.test (next machine (reach E r calls) c)
          (sent_next address (reach E r calls) before.0.standing before.1.by_circuit c (sym (ap (succeeds address) call.replied) ∙ won))))
          now.1
          premise

-- ---- every engine that meets demand 2

-- what the machine's replies tell is so, and so what an engine's do
pub tallies_are_true : (E : Engine) → Demand2 E → TalliesAreTrue E
tallies_are_true E meets r calls address d z =
    let k = (tells_from_set_up (λ b. false) never r calls address d z).1 in
    rw (steps_agree E meets r calls) (record { waiting = λ s i e. sym (k.waiting s i e); under_way = sym k.under_way })

nobody_passes_twice_machine : NobodyPassesTwice machine
nobody_passes_twice_machine = passes_from_set_up (λ b. false) never

pub nobody_passes_twice : (E : Engine) → Demand2 E → NobodyPassesTwice E
nobody_passes_twice E meets r calls c later address d won premise =
    subst (λ said. PassedOnce address (up_to (wins address) said)) (sym (answers_agree E meets r sofar later))
    (nobody_passes_twice_machine r calls c later address d (rw (same) at won)
    (rw (steps_agree E meets r sofar, replies_agree E meets r sofar later) at premise))
  where
    sofar : List Call
    sofar = calls ++ (c ∷ [])

    same : reply E (reach E r calls) c ≡ reply machine (reach machine r calls) c
    same = ap (λ rs. get_or rs 0 (begun (refused_begun 0))) (replies_agree E meets r calls (c ∷ []))
