-- A stretch is single calls, one after the other: the state that it comes to is theirs, and its reports are what they reply. So a state
-- that stands stands after it, and one that does not comes back as lent. Assumes nothing.
use Prim.Native.Nat.{ℕ, zero, suc, ◌≤◌}
use mathlib.Core.Path.{◌≡◌, refl, sym, ap, ap₂, ◌∙◌, subst}
use mathlib.Core.Logic.{inl, inr}
use mathlib.Core.Bool.{Bool, true, false, cond}
use mathlib.Core.List.{List, [], ◌∷◌, ◌++◌, map}
use native.Mathlib.Omega.{arith}
use Rattle.rules.specs.Lists.{All}
use Rattle.rules.specs.SetUp.{Request}
use Rattle.rules.specs.declared.Admitted.{Admitted}
use Rattle.rules.specs.Admission.{TurnsAway}
use Rattle.rules.specs.Probe.{Answer}
use Rattle.rules.specs.Step.{Begun}
use Rattle.rules.specs.Engine as Engine
use Rattle.rules.specs.Engine.{Reply, admitted, probed, Call, admission, one-begin, one-probe, one-step, replies, reach}
use Rattle.rules.proofs.Laws.{all_nil, all_cons, map_into}
use Rattle.rules.proofs.Reach.{after_more}
use Rattle.bus.specs.Types.{State, Arrival}
use Rattle.state.specs.State.{Held, standing}
use Rattle.bus.specs.Coded.{coded_admit, coded_step, coded}
use Rattle.bus.specs.Stretch.{Course, asks, due, arrival_report, rests, after, step_then, course, step_reports, after_steps, reply_of, refusal_in, Called}
use Rattle.bus.proofs.Coded.{hands_back_admission, hands_back_begin, hands_back_probe, hands_back_step, standing_exactly_admission, standing_exactly_begin, standing_exactly_probe, standing_exactly_step, next_stands, answer_read}

-- ---- where no arrival comes, a stretch is that many steps, one after the other

pub steps_alone :
    (calls steps : ℕ) (s : State) → steps ≤ calls
    → course calls s [] false steps ≡ record { reports = step_reports steps s; taken = 0; left = 0; state = after_steps steps s }
unfolding course
steps_alone zero zero s h = refl
steps_alone zero (suc steps) s h = absurd (omega arith)
steps_alone (suc calls) zero s h = refl
steps_alone (suc calls) (suc steps) s h = ap (step_then s) (steps_alone calls steps (coded_step s).1 (omega arith))

-- ---- a stretch is single calls, one after the other, and its reports are what they reply

by_step : (s : State) (c : Course) → Called (coded_step s).1 c → Called s (step_then s c)
by_step s c x =
    record {
      calls = one-step ∷ x.calls;
      state = x.state;
      replied = ap₂ (λ (r : Reply) (rs : List Reply). r ∷ rs) (ap probed (answer_read s)) x.replied;
    }

by_arrival :
    (s : State) (a : Arrival) (c : Course) → Called (coded_admit s (asks a)).1 c
    → Called s (after (arrival_report s a (coded_admit s (asks a)).0 ∷ []) 1 c)
by_arrival s a c x =
    record {
      calls = admission (asks a) ∷ x.calls;
      state = x.state;
      replied = ap (λ (rs : List Reply). admitted (coded_admit s (asks a)).0 ∷ rs) x.replied;
    }

none_called : (s : State) (left : ℕ) → Called s (rests s left)
none_called s left = record { calls = []; state = refl; replied = refl }

pub called : (calls : ℕ) (s : State) (arrivals : List Arrival) (more : Bool) (left : ℕ) → Called s (course calls s arrivals more left)
unfolding course
called zero s arrivals more left = none_called s left
called (suc calls) s arrivals more zero = none_called s zero
called (suc calls) s [] more (suc left) = go more (called calls (coded_step s).1 [] more left)
  where
    go :
        (t : Bool) → Called (coded_step s).1 (course calls (coded_step s).1 [] more left)
        → Called s (cond t (rests s (suc left)) (step_then s (course calls (coded_step s).1 [] more left)))
    go true x = none_called s (suc left)
    go false x = by_step s (course calls (coded_step s).1 [] more left) x
called (suc calls) s (a ∷ arrivals) more (suc left) =
    go (due s.segment.clock.0 a) (called calls (coded_admit s (asks a)).1 arrivals more (suc left))
    (called calls (coded_step s).1 (a ∷ arrivals) more left)
  where
    go :
        (t : Bool) → Called (coded_admit s (asks a)).1 (course calls (coded_admit s (asks a)).1 arrivals more (suc left))
        → Called (coded_step s).1 (course calls (coded_step s).1 (a ∷ arrivals) more left)
        → Called
        s
        (cond
        t
        (after
        (arrival_report s a (coded_admit s (asks a)).0 ∷ [])
        1
        (course calls (coded_admit s (asks a)).1 arrivals more (suc left)))
        (step_then s (course calls (coded_step s).1 (a ∷ arrivals) more left)))
    go true x y = by_arrival s a (course calls (coded_admit s (asks a)).1 arrivals more (suc left)) x
    go false x y = by_step s (course calls (coded_step s).1 (a ∷ arrivals) more left) y

-- a stretch from a state that calls have reached comes to a state that calls reach
pub still_reached :
    (r : Request) (calls : List Call) (n : ℕ) (arrivals : List Arrival) (more : Bool) (left : ℕ)
    → (later : List Call)
    × ((course n (reach coded r calls) arrivals more left).state ≡ reach coded r (calls ++ later))
    × (map reply_of (course n (reach coded r calls) arrivals more left).reports ≡ replies coded (reach coded r calls) later)
still_reached r calls n arrivals more left =
    let x = called n (reach coded r calls) arrivals more left in
    (x.calls, x.state ∙ sym (after_more coded (coded.set_up r).1 calls x.calls), x.replied)

-- ---- a state that stands stands after calls; one that does not comes back as lent, and each call is refused with 1

after_stands : (s : State) (calls : List Call) → standing s ≡ true → standing (Engine.after coded s calls) ≡ true
after_stands s [] e = e
after_stands s (c ∷ calls) e = after_stands (Engine.next coded s c) calls (next_stands s c e)

not_accepted : {n : ℕ} → n ≡ 1 → ¬ (n ≡ 0)
not_accepted one z = omega arith

reply_refused : (s : State) → standing s ≡ false → (c : Call) → refusal_in (Engine.reply coded s c) ≡ 1
reply_refused s e (admission a) = (standing_exactly_admission s a).1 e
reply_refused s e one-begin = (standing_exactly_begin s).1 e
reply_refused s e one-probe = (standing_exactly_probe s).1 e
reply_refused s e one-step = (standing_exactly_step s).1 e

-- 1 turns no packet away
one_turns_none : {n : ℕ} → n ≡ 1 → ¬ TurnsAway n
one_turns_none one (inl e) = omega arith
one_turns_none one (inr e) = omega arith

-- a call that is accepted was lent a state that stands, and leaves one
pub accepted_stands : (s : State) (c : Call) → refusal_in (Engine.reply coded s c) ≡ 0 → standing (Engine.next coded s c) ≡ true
accepted_stands s c z = go (standing s) refl
  where
    go : (t : Bool) → standing s ≡ t → standing (Engine.next coded s c) ≡ true
    go true e = next_stands s c e
    go false e = absurd (not_accepted (reply_refused s e c) z)

module _ (s : State) (held : Held s) (e : standing s ≡ false) where
  pub next_same : (c : Call) → Engine.next coded s c ≡ s
  next_same (admission a) =
      ap (λ (o : Admitted × State). o.1) (hands_back_admission s held a (not_accepted (reply_refused s e (admission a))) (one_turns_none (reply_refused s e (admission a))))
  next_same one-begin = ap (λ (o : Begun × State). o.1) (hands_back_begin s held (not_accepted (reply_refused s e one-begin)))
  next_same one-probe = ap (λ (o : Answer × State). o.1) (hands_back_probe s held (not_accepted (reply_refused s e one-probe)))
  next_same one-step = ap (λ (o : Answer × State). o.1) (hands_back_step s held (not_accepted (reply_refused s e one-step)))

  after_same : (calls : List Call) → Engine.after coded s calls ≡ s
  after_same [] = refl
  after_same (c ∷ calls) = ap (λ o. Engine.after coded o calls) (next_same c) ∙ after_same calls

  all_refused : (calls : List Call) → All (λ r. refusal_in r ≡ 1) (replies coded s calls)
  all_refused [] = all_nil (λ r. refusal_in r ≡ 1)
  all_refused (c ∷ calls) =
      all_cons (Engine.reply coded s c) (reply_refused s e c)
      (subst (λ o. All (λ r. refusal_in r ≡ 1) (replies coded o calls)) (sym (next_same c)) (all_refused calls))

-- and so of a stretch
module _ (calls : ℕ) (s : State) (arrivals : List Arrival) (more : Bool) (left : ℕ) where
  pub still_stands : standing s ≡ true → standing (course calls s arrivals more left).state ≡ true
  still_stands e = let x = called calls s arrivals more left in ap standing x.state ∙ after_stands s x.calls e

  pub stays_refused :
      Held s → standing s ≡ false
      → ((course calls s arrivals more left).state ≡ s)
      × All (λ r. refusal_in (reply_of r) ≡ 1) (course calls s arrivals more left).reports
  stays_refused held e =
      let x = called calls s arrivals more left in
      let refused = subst (All (λ r. refusal_in r ≡ 1)) (sym x.replied) (all_refused s held e x.calls) in (
        x.state ∙ after_same s held e x.calls,
        λ r i. refused (reply_of r) (map_into reply_of (course calls s arrivals more left).reports i),
      )
