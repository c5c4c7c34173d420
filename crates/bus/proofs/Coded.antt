-- The coded engine meets demand 2, and so has all that demand 2 promises: after any set-up and any calls its state is the form of the
-- machine's. A refused call hands back the state as lent, 14 and 15 but for the count of packets turned away, and refusal 1 is given exactly
-- where the standing conditions fail; a call that accepts keeps them. Assumes nothing.
use Prim.Native.Nat.{ℕ, zero, suc, ◌≤◌}
use mathlib.Core.Path.{◌≡◌, refl, sym, ap, ap₂, ◌∙◌, subst}
use mathlib.Core.Logic.{◌⊎◌, inl, inr, ◌↔◌}
use mathlib.Core.Bool.{Bool, true, false, not, ◌&&◌, cond}
use mathlib.Core.Option.{Option, none, some}
use mathlib.Core.List.{List, [], ◌∷◌}
use native.Mathlib.Omega.{arith}
use lib.Dec.{eqb}
use lib.ListN.{drop}
use borrow.Author.Tests.{eqb-true, eqb-false, not-true}
use Rattle.rules.specs.Lists.{bit, each_of, verdict, first_of}
use Rattle.rules.specs.Bus.{Contention, Bus, nothing}
use Rattle.rules.specs.SetUp.{Request, set_up}
use Rattle.rules.specs.Standing.{Standing, stands}
use Rattle.rules.specs.declared.Admitted.{Admitted}
use Rattle.rules.specs.Admission.{Arrival, admission_tests, admission_refusal, TurnsAway, turned_after, handed_back, admit}
use Rattle.rules.specs.Begin.{begin}
use Rattle.rules.specs.Probe.{Contender, Answer, refused_answer, dropping, phase_of, idle, collision, success, wait_of, answered, Open, transmitters, unheard, heard}
use Rattle.window.specs.declared.Side.{Side}
use Rattle.window.specs.declared.Side.TheVariants.{Left, Right}
use Rattle.rules.specs.Step.{Begun, refused_begun, begun_answer, begin_tests, begin_refusal, begin_call, probe_tests, probe_refusal, open_under_way, probed_in, probe_call, opened, step_refusal, step}
use Rattle.rules.specs.Closing.{totals, refused_totals, closing_call}
use Rattle.rules.specs.Engine.{machine, probed_after, begun_then, probed_first, Call, admission, one-begin, one-probe, one-step, admitted, begun, probed, reply, next, after, replies, reach}
use Rattle.rules.specs.Demands.{Demand2, Promised}
use Rattle.rules.proofs.Laws.{clash, and-true}
use Rattle.rules.proofs.Tests.{tells}
use Rattle.rules.proofs.Standing as Rules
use Rattle.rules.proofs.TurnedAway.{turned_refused, not_counted, is_counted}
use Rattle.rules.proofs.Refusals as Refusals
use Rattle.rules.proofs.Refusals.{probe_number, probed_number, hands_back}
use Rattle.rules.proofs.Keeps.{begin_stands}
use Rattle.rules.proofs.Step.{step_ways, step_made}
use Rattle.rules.proofs.Reach as Reach
use Rattle.rules.proofs.Reach.{standing_reached}
use Rattle.rules.proofs.Promises.{promised}
use Rattle.bus.specs.Types.{State}
use Rattle.state.specs.State.{Held, meaning, form, padded, standing}
use Rattle.bus.specs.Coded.{on_meaning, coded_admit, coded_begin, coded_probe, coded_step, coded_closing, coded, phase_number, phase_form, event_number, event_form, answer_form, answer_of, state_turned, turned_in}
use Rattle.state.proofs.Form.{form_meaning, Fits, standing_fits, nothing_fits, meaning_form, padded_form}
use Rattle.state.proofs.Stands.{form_stands}

-- ---- demand 2

-- a call on the form of a bus is the machine's call on the bus
on_form : {X : Type 0} (call : Bus → X × Bus) (refused : X) (b : Bus) → Fits b → on_meaning call refused (form b) ≡ ((call b).0, form (call b).1)
on_form call refused b fits = ap₂ (λ t m. cond t ((call m).0, form (call m).1) (refused, form b)) (padded_form b fits) (meaning_form b fits)

pub coded_admit_form : (b : Bus) → Fits b → (a : Arrival) → coded_admit (form b) a ≡ ((admit b a).0, form (admit b a).1)
coded_admit_form b fits a = on_form (λ m. admit m a) _ b fits

pub coded_begin_form : (b : Bus) → Fits b → coded_begin (form b) ≡ ((begin_call b).0, form (begin_call b).1)
coded_begin_form b fits = on_form begin_call _ b fits

pub coded_probe_form : (b : Bus) → Fits b → coded_probe (form b) ≡ ((probe_call b).0, form (probe_call b).1)
coded_probe_form b fits = on_form probe_call _ b fits

-- what a begin hands back fits
begun_fits : (b : Bus) → Fits b → Fits (begin_call b).1
begun_fits b fits = go (eqb (begin_refusal b) 0) refl
  where
    result : Bool → Begun × Bus
    result t = cond t (begun_answer b, begin b) (refused_begun (begin_refusal b), b)

    go : (t : Bool) → eqb (begin_refusal b) 0 ≡ t → Fits (result t).1
    go true e = standing_fits (begin b) (begin_stands b (Rules.begin_accepted b (eqb-true _ _ e)).0)
    go false e = fits

pub coded_step_form : (b : Bus) → Fits b → coded_step (form b) ≡ ((step b).0, form (step b).1)
coded_step_form b fits =
    ap (probed_first coded (form b)) (coded_probe_form b fits)
    ∙ by_first (eqb (probe_call b).0.refusal 26)
    ∙ ap (λ (o : Answer × Bus). (o.0, form o.1)) (step_made b)
  where
    begun : Begun × Bus
    begun = begin_call b

    after : Answer × Bus
    after = probe_call begun.1

    -- an answer beside the form of the bus
    held : Answer × Bus → Answer × State
    held o = (o.0, form o.1)

    by_second :
        (t : Bool)
        → cond t (dropping begun.0.drops after.0, form after.1) (refused_answer after.0.refusal, form b)
        ≡ held (cond t (dropping begun.0.drops after.0, after.1) (refused_answer after.0.refusal, b))
    by_second true = refl
    by_second false = refl

    by_begin :
        (t : Bool)
        → cond t (probed_after (form b) begun.0.drops (coded_probe (form begun.1))) (refused_answer begun.0.refusal, form b)
        ≡ held (cond t (probed_after b begun.0.drops after) (refused_answer begun.0.refusal, b))
    by_begin true =
        ap (probed_after (form b) begun.0.drops) (coded_probe_form begun.1 (begun_fits b fits)) ∙ by_second (eqb after.0.refusal 0)
    by_begin false = refl

    by_first :
        (t : Bool)
        → cond t (begun_then coded (form b) (coded_begin (form b))) ((probe_call b).0, form (probe_call b).1)
        ≡ held (cond t (begun_then machine b begun) (probe_call b))
    by_first true = ap (begun_then coded (form b)) (coded_begin_form b fits) ∙ by_begin (eqb begun.0.refusal 0)
    by_first false = refl

coded_reply : (b : Bus) → Fits b → (c : Call) → reply coded (form b) c ≡ reply machine b c
coded_reply b fits (admission a) = ap (λ (o : Admitted × State). admitted o.0) (coded_admit_form b fits a)
coded_reply b fits one-begin = ap (λ (o : Begun × State). begun o.0) (coded_begin_form b fits)
coded_reply b fits one-probe = ap (λ (o : Answer × State). probed o.0) (coded_probe_form b fits)
coded_reply b fits one-step =
    ap (λ (o : Answer × State). probed o.0) (coded_step_form b fits) ∙ sym (ap (λ (o : Answer × Bus). probed o.0) (step_made b))

pub coded_next : (b : Bus) → Fits b → (c : Call) → next coded (form b) c ≡ form (next machine b c)
coded_next b fits (admission a) = ap (λ (o : Admitted × State). o.1) (coded_admit_form b fits a)
coded_next b fits one-begin = ap (λ (o : Begun × State). o.1) (coded_begin_form b fits)
coded_next b fits one-probe = ap (λ (o : Answer × State). o.1) (coded_probe_form b fits)
coded_next b fits one-step =
    ap (λ (o : Answer × State). o.1) (coded_step_form b fits) ∙ sym (ap (λ (o : Answer × Bus). form o.1) (step_made b))

-- and so are calls, while the machine's states fit
coded_after :
    (b : Bus) (calls : List Call) → ((earlier : List Call) → Fits (after machine b earlier))
    → after coded (form b) calls ≡ form (after machine b calls)
coded_after b [] fits = refl
coded_after b (c ∷ calls) fits =
    ap (λ s. after coded s calls) (coded_next b (fits []) c) ∙ coded_after (next machine b c) calls (λ earlier. fits (c ∷ earlier))

coded_replies :
    (b : Bus) (calls : List Call) → ((earlier : List Call) → Fits (after machine b earlier))
    → replies coded (form b) calls ≡ replies machine b calls
coded_replies b [] fits = refl
coded_replies b (c ∷ calls) fits =
    ap₂
    ◌∷◌
    (coded_reply b (fits []) c)
    (ap (λ s. replies coded s calls) (coded_next b (fits []) c) ∙ coded_replies (next machine b c) calls (λ earlier. fits (c ∷ earlier)))

pub coded_closing_form : (b : Bus) → Fits b → coded_closing (form b) ≡ closing_call b
coded_closing_form b fits =
    ap₂ (λ (t : Bool) (m : Bus). cond (t && stands m) (totals m) (refused_totals 1)) (padded_form b fits) (meaning_form b fits)

-- every state that the machine reaches fits
pub fits_reached : (r : Request) (calls : List Call) → Fits (reach machine r calls)
fits_reached r calls = go (standing_reached r calls)
  where
    go : Standing (reach machine r calls) ⊎ (reach machine r calls ≡ nothing) → Fits (reach machine r calls)
    go (inl h) = standing_fits (reach machine r calls) h
    go (inr e) = subst Fits (sym e) nothing_fits

-- after any set-up and any calls the coded state is the form of the machine's
pub reached_coded : (r : Request) (calls : List Call) → reach coded r calls ≡ form (reach machine r calls)
reached_coded r calls = coded_after (set_up r).1 calls (fits_reached r)

pub demand2_coded : Demand2 coded
demand2_coded =
    record {
      set_ups = λ r. refl;
      calls = λ r calls own. coded_replies (set_up r).1 calls (fits_reached r);
      closes = λ r calls own. ap coded_closing (reached_coded r calls) ∙ coded_closing_form (reach machine r calls) (fits_reached r calls);
    }

-- and so all that demand 2 gives
pub promised_coded : Promised coded
promised_coded = promised coded demand2_coded

-- ---- a refused call hands back the state as lent, 14 and 15 but for the count of packets turned away

-- a call whose refusals hand back their number and the bus
module _ {X : Type 0} (number : X → ℕ) (refused : ℕ → X) (call : Bus → X × Bus) (one : number (refused 1) ≡ 1)
    (back : (b : Bus) → ¬ (number (call b).0 ≡ 0) → call b ≡ (refused (number (call b).0), b)) where
  abbrev by_padding : State → Bool → X × State
  by_padding s t = cond t ((call (meaning s)).0, form (call (meaning s)).1) (refused 1, s)

  hands_it_back :
      (s : State) → Held s → ¬ (number (on_meaning call (refused 1) s).0 ≡ 0)
      → on_meaning call (refused 1) s ≡ (refused (number (on_meaning call (refused 1) s).0), s)
  hands_it_back s held = go (padded s) refl
    where
      go : (t : Bool) → padded s ≡ t → ¬ (number (by_padding s t).0 ≡ 0) → by_padding s t ≡ (refused (number (by_padding s t).0), s)
      go true e h =
          ap (λ (o : X × Bus). (o.0, form o.1)) (back (meaning s) h)
          ∙ ap (λ lent. (refused (number (call (meaning s)).0), lent)) (form_meaning s held e)
      go false e h = ap (λ n. (refused n, s)) (sym one)

-- an admission: the state as lent, but for the count of packets turned away where that is raised
handed_form : (s : State) → Held s → padded s ≡ true → (n : ℕ) → form (handed_back (meaning s) n) ≡ state_turned s (turned_after n s.segment.turned)
handed_form s held e n = ap (λ (lent : State). state_turned lent (turned_after n s.segment.turned)) (form_meaning s held e)

pub handed_admission :
    (s : State) → Held s → (a : Arrival) → ¬ ((coded_admit s a).0.refusal ≡ 0)
    → coded_admit s a
    ≡ (record { refusal = (coded_admit s a).0.refusal; number = 0 }, state_turned s (turned_after (coded_admit s a).0.refusal s.segment.turned))
handed_admission s held a = go (padded s) refl
  where
    result : Bool → Admitted × State
    result t = cond t ((admit (meaning s) a).0, form (admit (meaning s) a).1) (record { refusal = 1; number = 0 }, s)

    go :
        (t : Bool) → padded s ≡ t → ¬ ((result t).0.refusal ≡ 0)
        → result t ≡ (record { refusal = (result t).0.refusal; number = 0 }, state_turned s (turned_after (result t).0.refusal s.segment.turned))
    go true e h =
        ap (λ (o : Admitted × Bus). (o.0, form o.1)) (Refusals.handed_admission (meaning s) a h)
        ∙ ap (λ (lent : State). (record { refusal = (admit (meaning s) a).0.refusal; number = 0 }, lent)) (handed_form s held e (admit (meaning s) a).0.refusal)
    go false e h = refl

pub hands_back_admission :
    (s : State) → Held s → (a : Arrival) → ¬ ((coded_admit s a).0.refusal ≡ 0) → ¬ TurnsAway (coded_admit s a).0.refusal
    → coded_admit s a ≡ (record { refusal = (coded_admit s a).0.refusal; number = 0 }, s)
hands_back_admission s held a h other =
    handed_admission s held a h
    ∙ ap (λ (n : ℕ). (record { refusal = (coded_admit s a).0.refusal; number = 0 }, state_turned s n)) (not_counted _ s.segment.turned other)

pub turns_away_admission :
    (s : State) → Held s → (a : Arrival) → TurnsAway (coded_admit s a).0.refusal
    → coded_admit s a ≡ (record { refusal = (coded_admit s a).0.refusal; number = 0 }, turned_in s)
turns_away_admission s held a t =
    handed_admission s held a (turned_refused _ t)
    ∙ ap (λ (n : ℕ). (record { refusal = (coded_admit s a).0.refusal; number = 0 }, state_turned s n)) (is_counted _ s.segment.turned t)

pub hands_back_begin :
    (s : State) → Held s → ¬ ((coded_begin s).0.refusal ≡ 0) → coded_begin s ≡ (refused_begun (coded_begin s).0.refusal, s)
hands_back_begin = hands_it_back (λ (x : Begun). x.refusal) refused_begun begin_call refl hands_back.begin

pub hands_back_probe :
    (s : State) → Held s → ¬ ((coded_probe s).0.refusal ≡ 0) → coded_probe s ≡ (refused_answer (coded_probe s).0.refusal, s)
hands_back_probe = hands_it_back (λ (x : Answer). x.refusal) refused_answer probe_call refl hands_back.probe

pub hands_back_step :
    (s : State) → Held s → ¬ ((coded_step s).0.refusal ≡ 0) → coded_step s ≡ (refused_answer (coded_step s).0.refusal, s)
hands_back_step s held =
    step_ways coded s (λ o. ¬ (o.0.refusal ≡ 0) → o ≡ (refused_answer o.0.refusal, s)) (λ e. hands_back_probe s held) (λ n h. refl) (λ n h. refl)
    (λ b z h. absurd (h z))

-- ---- refusal 1 is given exactly where the standing conditions fail

-- none of these tests bears 1
abbrev none_bears : List (ℕ × Bool) → Bool
none_bears tests = each_of (λ v. not (eqb v.0 1)) tests

not_given : (tests : List (ℕ × Bool)) → none_bears tests ≡ true → ¬ (first_of 0 tests ≡ 1)
not_given [] e = λ z. omega arith
not_given (v ∷ tests) e =
    let both = and-true (not (eqb v.0 1)) (none_bears tests) e in
    go v.1 (eqb-false v.0 1 (not-true (eqb v.0 1) both.0)) (not_given tests both.1)
  where
    go : (t : Bool) → ¬ (v.0 ≡ 1) → ¬ (first_of 0 tests ≡ 1) → ¬ (verdict t v.0 (first_of 0 tests) ≡ 1)
    go true h k = h
    go false h k = k

-- where the first test alone bears 1, 1 is given exactly when the first holds
one_first :
    {n : ℕ} (t : Bool) (tests : List (ℕ × Bool)) → none_bears tests ≡ true → n ≡ first_of 0 ((1, not t) ∷ tests) → (n ≡ 1) ↔ (t ≡ false)
one_first true tests e k = ((λ z. absurd (not_given tests e (sym k ∙ z))), (λ z. clash refl z))
one_first false tests e k = ((λ z. refl), (λ z. k))

-- the answer of a call bears the refusal's number, 0 where the call is accepted
bears :
    {X : Type 0} (number : X → ℕ) (n : ℕ) (own refused : X) → (n ≡ 0 → number own ≡ 0) → number refused ≡ n
    → number (cond (eqb n 0) own refused) ≡ n
bears number n own refused h k = go (eqb n 0) refl
  where
    go : (t : Bool) → eqb n 0 ≡ t → number (cond t own refused) ≡ n
    go true e = let z = eqb-true n 0 e in h z ∙ sym z
    go false e = k

pub admit_bears : (b : Bus) (a : Arrival) → (admit b a).0.refusal ≡ admission_refusal b a
admit_bears b a = bears (λ (x : Admitted × Bus). x.0.refusal) (admission_refusal b a) _ _ (λ z. refl) refl

pub begin_bears : (b : Bus) → (begin_call b).0.refusal ≡ begin_refusal b
begin_bears b = bears (λ (x : Begun × Bus). x.0.refusal) (begin_refusal b) _ _ (λ z. refl) refl

pub probe_bears : (b : Bus) → (probe_call b).0.refusal ≡ probe_refusal b
probe_bears b = bears (λ (x : Answer × Bus). x.0.refusal) (probe_refusal b) _ _ (probed_number b) refl

pub step_bears : (b : Bus) → (step b).0.refusal ≡ step_refusal b
step_bears b = bears (λ (x : Answer × Bus). x.0.refusal) (step_refusal b) _ _ (λ z. probe_number (opened b)) refl

-- on a state whose padding is zero it is the first test of the rules; any other does not stand
module _ {X : Type 0} (number : X → ℕ) (refused : X) (call : Bus → X × Bus) (tests : Bus → List (ℕ × Bool)) (one : number refused ≡ 1)
    (others : (b : Bus) → none_bears (tests b) ≡ true) (given : (b : Bus) → number (call b).0 ≡ first_of 0 ((1, not (stands b)) ∷ tests b)) where
  exactly : (s : State) → (number (on_meaning call refused s).0 ≡ 1) ↔ (standing s ≡ false)
  exactly s = go (padded s)
    where
      result : Bool → X × State
      result t = cond t ((call (meaning s)).0, form (call (meaning s)).1) (refused, s)

      go : (t : Bool) → (number (result t).0 ≡ 1) ↔ ((t && stands (meaning s)) ≡ false)
      go true = one_first (stands (meaning s)) (tests (meaning s)) (others (meaning s)) (given (meaning s))
      go false = ((λ z. refl), (λ z. one))

pub standing_exactly_admission : (s : State) (a : Arrival) → ((coded_admit s a).0.refusal ≡ 1) ↔ (standing s ≡ false)
standing_exactly_admission s a =
    exactly (λ (x : Admitted). x.refusal) _ (λ b. admit b a) (λ b. drop 1 (admission_tests b a)) refl (λ b. refl) (λ b. admit_bears b a) s

pub standing_exactly_begin : (s : State) → ((coded_begin s).0.refusal ≡ 1) ↔ (standing s ≡ false)
standing_exactly_begin = exactly (λ (x : Begun). x.refusal) _ begin_call (λ b. drop 1 (begin_tests b)) refl (λ b. refl) begin_bears

pub standing_exactly_probe : (s : State) → ((coded_probe s).0.refusal ≡ 1) ↔ (standing s ≡ false)
standing_exactly_probe = exactly (λ (x : Answer). x.refusal) _ probe_call (λ b. drop 1 (probe_tests b)) refl (λ b. refl) probe_bears

-- ---- calls keep the standing conditions

-- of a state that stands, which is the form of a bus that does
stands_on :
    {X : Type 0} (call : Bus → X × Bus) (refused : X) → ((b : Bus) → Standing b → Standing (call b).1) → (s : State) → standing s ≡ true
    → standing (on_meaning call refused s).1 ≡ true
stands_on {X} call refused keeps s e =
    let parts = and-true (padded s) (stands (meaning s)) e in
    ap (λ t. standing (result t).1) parts.0
    ∙ form_stands (call (meaning s)).1 (keeps (meaning s) (tells (Rules.stands_exactly (meaning s)) parts.1))
  where
    result : Bool → X × State
    result t = cond t ((call (meaning s)).0, form (call (meaning s)).1) (refused, s)

next_begun : (s : State) → standing s ≡ true → standing (coded_begin s).1 ≡ true
next_begun = stands_on begin_call _ (λ b h. Reach.next_stands b h one-begin)

next_probed : (s : State) → standing s ≡ true → standing (coded_probe s).1 ≡ true
next_probed = stands_on probe_call _ (λ b h. Reach.next_stands b h one-probe)

-- any call on a state that stands, a refused one too, leaves a state that stands
pub next_stands : (s : State) (c : Call) → standing s ≡ true → standing (next coded s c) ≡ true
next_stands s (admission a) e = stands_on (λ b. admit b a) _ (λ b h. Reach.next_stands b h (admission a)) s e
next_stands s one-begin e = next_begun s e
next_stands s one-probe e = next_probed s e
next_stands s one-step e =
    step_ways coded s (λ o. standing o.1 ≡ true) (λ f. next_probed s e) (λ n. e) (λ n. e) (λ b z. next_probed (coded_begin s).1 (next_begun s e))

-- a step is refused with 1 exactly where a probe is
pub standing_exactly_step : (s : State) → ((coded_step s).0.refusal ≡ 1) ↔ (standing s ≡ false)
standing_exactly_step s = (
  step_ways coded s (λ o. o.0.refusal ≡ 1 → standing s ≡ false) (λ f. (standing_exactly_probe s).0) (λ n. (standing_exactly_begin s).0)
      (λ n one. go (standing s) refl one) (λ b z one. absurd (omega (arith, z, one))),
  (λ e.
      let one = (standing_exactly_probe s).1 e in
      ap (λ t. (cond t (begun_then coded s (coded_begin s)) (coded_probe s)).0.refusal) (ap (λ n. eqb n 26) one) ∙ one),
)
  where
    go : (t : Bool) → standing s ≡ t → (coded_probe (coded_begin s).1).0.refusal ≡ 1 → t ≡ false
    go true e one = clash (next_begun s e) ((standing_exactly_probe (coded_begin s).1).0 one)
    go false e one = refl

-- ---- an answer in the code's sorts says all of the engine's answer: its phase, its event and whether the contention ended are among those that the
-- sorts have

-- what the sorts hold: the phases up to 1, the events up to 2, and 0 or 1
pub record Sorted (a : Answer) : Type 0 where
  pub phase : a.phase ≤ 1
  pub event : a.event ≤ 2
  pub ended : a.ended ≤ 1

phase_same : (n : ℕ) → n ≤ 1 → phase_number (phase_form n) ≡ n
phase_same zero h = refl
phase_same (suc zero) h = refl
phase_same (suc (suc n)) h = absurd (omega arith)

event_same : (n : ℕ) → n ≤ 2 → event_number (event_form n) ≡ n
event_same zero h = refl
event_same (suc zero) h = refl
event_same (suc (suc zero)) h = refl
event_same (suc (suc (suc n))) h = absurd (omega arith)

ended_bit : (n : ℕ) → n ≤ 1 → bit (not (eqb n 0)) ≡ n
ended_bit zero h = refl
ended_bit (suc zero) h = refl
ended_bit (suc (suc n)) h = absurd (omega arith)

refused_sorted : (n : ℕ) → Sorted (refused_answer n)
refused_sorted n = record { phase = omega arith; event = omega arith; ended = omega arith }

answered_sorted :
    (o : Open) (event address number length wait ended : ℕ) → event ≤ 2 → ended ≤ 1 → Sorted (answered o event address number length wait ended)
answered_sorted o event address number length wait ended h k = record { phase = go o.contention.tie; event = h; ended = k }
  where
    go : (tie : Option ℕ) → phase_of tie ≤ 1
    go none = omega arith
    go (some tied) = omega arith

unheard_sorted : (o : Open) (side : Side) → Sorted (unheard o side).0
unheard_sorted o Left = answered_sorted o idle 0 0 0 0 0 (omega arith) (omega arith)
unheard_sorted o Right = answered_sorted o idle 0 0 0 0 1 (omega arith) (omega arith)

heard_sorted : (o : Open) (xs : List Contender) → Sorted (heard o xs).0
heard_sorted o [] = unheard_sorted o o.contention.window.side
heard_sorted o (x ∷ []) =
    answered_sorted o success x.address x.packet.number x.packet.length (wait_of x.packet o.bus.clock) 1 (omega arith) (omega arith)
heard_sorted o (x ∷ y ∷ more) = answered_sorted o collision 0 0 0 0 0 (omega arith) (omega arith)

probe_sorted : (s : State) → Sorted (coded_probe s).0
probe_sorted s = go (padded s)
  where
    accepted : (b : Bus) (c : Option Contention) → Sorted (probed_in b c).0
    accepted b none = refused_sorted _
    accepted b (some c) = heard_sorted (open_under_way b c) (transmitters b c)

    on_bus : (b : Bus) (t : Bool) → Sorted (cond t (probed_in b b.contention) (refused_answer (probe_refusal b), b)).0
    on_bus b true = accepted b b.contention
    on_bus b false = refused_sorted (probe_refusal b)

    result : Bool → Answer × State
    result t = cond t ((probe_call (meaning s)).0, form (probe_call (meaning s)).1) (refused_answer 1, s)

    go : (t : Bool) → Sorted (result t).0
    go true = on_bus (meaning s) (eqb (probe_refusal (meaning s)) 0)
    go false = refused_sorted 1

-- an answer with this phase, event and ending
abbrev with_kinds : Answer → ℕ → ℕ → ℕ → Answer
with_kinds a phase event ended =
    record {
      refusal = a.refusal;
      drops = a.drops;
      slot = a.slot;
      phase = phase;
      start = a.start;
      size = a.size;
      event = event;
      address = a.address;
      number = a.number;
      length = a.length;
      wait = a.wait;
      ended = ended;
    }

read : (a : Answer) → Sorted a → answer_of (answer_form a) ≡ a
read a h = λ i. with_kinds a (phase_same a.phase h.phase i) (event_same a.event h.event i) (ended_bit a.ended h.ended i)

pub answer_read : (s : State) → answer_of (answer_form (coded_step s).0) ≡ (coded_step s).0
answer_read s =
    read (coded_step s).0
    (step_ways coded s (λ o. Sorted o.0) (λ f. probe_sorted s) (λ n. refused_sorted _) (λ n. refused_sorted _)
    (λ b z.
    let h = probe_sorted (coded_begin s).1 in
    record { phase = h.phase; event = h.event; ended = h.ended }))

pub probe_read : (s : State) → answer_of (answer_form (coded_probe s).0) ≡ (coded_probe s).0
probe_read s = read (coded_probe s).0 (probe_sorted s)

-- ---- an accepted step is a probe, or a begin and a probe

pub step_both :
    (s : State) → (coded_step s).0.refusal ≡ 0
    → (coded_step s ≡ coded_probe s)
    ⊎ (((coded_begin s).0.refusal ≡ 0)
    × ((coded_probe (coded_begin s).1).0.refusal ≡ 0)
    × (coded_step s ≡ (dropping (coded_begin s).0.drops (coded_probe (coded_begin s).1).0, (coded_probe (coded_begin s).1).1)))
step_both s =
    step_ways coded s
    (λ o.
    o.0.refusal ≡ 0
    → (o ≡ coded_probe s)
    ⊎ (((coded_begin s).0.refusal ≡ 0)
    × ((coded_probe (coded_begin s).1).0.refusal ≡ 0)
    × (o ≡ (dropping (coded_begin s).0.drops (coded_probe (coded_begin s).1).0, (coded_probe (coded_begin s).1).1))))
    (λ e z. inl refl)
    (λ n z. absurd (n z))
    (λ n z. absurd (n z))
    (λ b p z. inr (b, p, refl))
