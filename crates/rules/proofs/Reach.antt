-- Reached states: they stand, an invariant holds of them all, and an engine that meets demand 2 answers as the machine does.
-- Assumes nothing.
use Prim.Native.Nat.{ℕ, suc}
use mathlib.Core.Path.{◌≡◌, refl, sym, ap, ap₂, ◌∙◌, subst}
use mathlib.Core.Logic.{◌⊎◌, inl, inr}
use mathlib.Core.Bool.{Bool, true, false, cond}
use mathlib.Core.Option.{none}
use mathlib.Core.List.{List, [], ◌∷◌, ◌++◌}
use native.Mathlib.Omega.{arith}
use lib.Dec.{eqb}
use lib.ListN.{length, drop, get_or}
use borrow.Author.Tests.{eqb-true, eqb-false}
use Rattle.rules.specs.Lists.{All}
use Rattle.rules.specs.Bus.{Bus, nothing}
use Rattle.rules.specs.SetUp.{Request, set_up, set_up_verdict, fresh_bus}
use Rattle.rules.specs.Standing.{Standing}
use Rattle.rules.specs.Admission.{Arrival, Admitted, admission_refusal, with_packet, turns_away, turned_away, handed_back}
use Rattle.rules.specs.Begin.{begin}
use Rattle.rules.specs.Probe.{Answer, refused_answer, probe}
use Rattle.rules.specs.Step.{Begun, refused_begun, begun_answer, begin_refusal, begin_call, probe_refusal, probe_call, opened, step_refusal, step}
use Rattle.rules.specs.Closing.{closing_call}
use Rattle.rules.specs.Engine.{Engine, machine, step_of, Call, OwnCall, admission, one-begin, one-probe, one-step, Reply, admitted, begun, probed, reply, next, after, replies, reach, probe_in, probes_in, begins_in, answers}
use Rattle.rules.specs.Demands.{Demand2, StepsAgree, ReachedStands}
use Rattle.rules.proofs.Laws.{among_append, all_nil, all_cons}
use Rattle.rules.proofs.Standing.{accepted_set_up, admit_is, begin_accepted, probe_accepted, probed_opened, step_is}
use Rattle.rules.proofs.TurnedAway.{back_cases}
use Rattle.rules.proofs.Refusals.{hands_back}
use Rattle.rules.proofs.Keeps.{begin_stands, turned_stands, stepped_stands, keeps_standing}
use Rattle.rules.proofs.Step.{step_alike, step_made}

-- ---- one call

-- a call that is refused with its number, or taken where that is 0
pub call_cases :
    {X : Type 0} (P : X → Type 0) (n : ℕ) (taken : X) (refused : ℕ → X) → (¬ (n ≡ 0) → P (refused n)) → (n ≡ 0 → P taken)
    → P (cond (eqb n 0) taken (refused n))
call_cases P n taken refused h k = go (eqb n 0) refl
  where
    go : (t : Bool) → eqb n 0 ≡ t → P (cond t taken (refused n))
    go true e = k (eqb-true n 0 e)
    go false e = h (eqb-false n 0 e)

-- What a call on the machine comes to, of its reply and the state: it is refused, and the state stays; or an admission is, and turns its packet away;
-- or an admission, a begin or a probe, which may be that of a step, is accepted.
pub record Outcomes (b : Bus) (P : Reply → Bus → Type 0) : Type 0 where
  pub refuses : (n : ℕ) → ¬ (n ≡ 0) → turns_away n ≡ false → P (admitted (record { refusal = n; number = 0 })) b
  pub turns : (n : ℕ) → ¬ (n ≡ 0) → turns_away n ≡ true → P (admitted (record { refusal = n; number = 0 })) (turned_away b)
  pub admits : (a : Arrival) → admission_refusal b a ≡ 0 → P (admitted (record { refusal = 0; number = suc b.admitted })) (with_packet b a)
  pub refuses_begin : (n : ℕ) → ¬ (n ≡ 0) → P (begun (refused_begun n)) b
  pub begins : begin_refusal b ≡ 0 → P (begun (begun_answer b)) (begin b)
  pub refuses_probe : (n : ℕ) → ¬ (n ≡ 0) → P (probed (refused_answer n)) b
  pub probes_one : step_refusal b ≡ 0 → P (probed (probe (opened b)).0) (probe (opened b)).1

pub outcome : (b : Bus) (P : Reply → Bus → Type 0) → Outcomes b P → (c : Call) → P (reply machine b c) (next machine b c)
outcome b P o (admission a) =
    call_cases (λ (x : Admitted × Bus). P (admitted x.0) x.1) (admission_refusal b a) _
    (λ n. (record { refusal = n; number = 0 }, handed_back b n))
    (λ z. back_cases (P (admitted _)) b (admission_refusal b a) (o.refuses _ z) (o.turns _ z))
    (o.admits a)
outcome b P o one-begin =
    call_cases (λ (x : Begun × Bus). P (begun x.0) x.1) (begin_refusal b) _ (λ n. (refused_begun n, b))
    (o.refuses_begin (begin_refusal b))
    o.begins
outcome b P o one-probe =
    call_cases (λ (x : Answer × Bus). P (probed x.0) x.1) (probe_refusal b) _ (λ n. (refused_answer n, b))
    (o.refuses_probe (probe_refusal b))
    (λ z.
    let ok = probe_accepted b z in
    subst (λ (x : Answer × Bus). P (probed x.0) x.1) (sym (probed_opened b ok.0)) (o.probes_one ok.1))
outcome b P o one-step =
    subst (λ (x : Answer × Bus). P (probed x.0) x.1) (sym (step_made b))
    (call_cases (λ (x : Answer × Bus). P (probed x.0) x.1) (step_refusal b) _ (λ n. (refused_answer n, b))
    (o.refuses_probe (step_refusal b))
    o.probes_one)

-- the answer to one call, if it is a probe or a step
pub answer_cases :
    (b : Bus) (P : Answer → Type 0) → ((n : ℕ) → ¬ (n ≡ 0) → P (refused_answer n)) → (step_refusal b ≡ 0 → P (probe (opened b)).0)
    → (c : Call) → All P (answers machine b (c ∷ []))
answer_cases b P refused taken =
    outcome b (λ r b'. All P (probe_in r []))
    (record {
      refuses = λ n z e. all_nil P;
      turns = λ n z e. all_nil P;
      admits = λ a z. all_nil P;
      refuses_begin = λ n z. all_nil P;
      begins = λ z. all_nil P;
      refuses_probe = λ n z. all_cons (refused_answer n) (refused n z) (all_nil P);
      probes_one = λ z. all_cons (probe (opened b)).0 (taken z) (all_nil P);
    })

-- ---- reached states

-- an accepted call keeps P, and so does a packet turned away, as in the premises of `reach_holds`
pub record Keeps (P : Bus → Type 0) : Type 0 where
  pub at_set_up : (r : Request) → (set_up r).0.refusal ≡ 0 → P (fresh_bus r)
  pub at_admission : (b : Bus) (a : Arrival) → Standing b → P b → admission_refusal b a ≡ 0 → P (with_packet b a)
  pub at_turned : (b : Bus) → Standing b → P b → P (turned_away b)
  pub at_begin : (b : Bus) → Standing b → P b → b.contention ≡ none → P (begin b)
  pub at_probe : (b : Bus) → Standing b → P b → step_refusal b ≡ 0 → P (probe (opened b)).1

module _ (P : Bus → Type 0) (keeps : Keeps P) where
  -- one call on a standing state
  pub next_keeps : (b : Bus) (c : Call) → Standing b → P b → Standing (next machine b c) × P (next machine b c)
  next_keeps b c h p =
      outcome b (λ r b'. Standing b' × P b')
      (record {
        refuses = λ n z e. (h, p);
        turns = λ n z e. (turned_stands b h, keeps.at_turned b h p);
        admits = λ a z. (subst (λ (x : Admitted × Bus). Standing x.1) (admit_is b a z) (keeps_standing.admission b a (ap (λ (x : Admitted × Bus). x.0.refusal) (admit_is b a z))), keeps.at_admission b a h p z);
        refuses_begin = λ n z. (h, p);
        begins = λ z. (begin_stands b h, keeps.at_begin b h p (begin_accepted b z).1);
        refuses_probe = λ n z. (h, p);
        probes_one = λ z. (subst (λ (x : Answer × Bus). Standing x.1) (step_is b z) (stepped_stands b z), keeps.at_probe b h p z);
      })
      c

  after_keeps : (b : Bus) (calls : List Call) → Standing b → P b → Standing (after machine b calls) × P (after machine b calls)
  after_keeps b [] h p = (h, p)
  after_keeps b (c ∷ calls) h p = let k = next_keeps b c h p in after_keeps (next machine b c) calls k.0 k.1

-- whatever is called, a bus that stands goes on standing
anything : Keeps (λ b. Unit {0})
anything = record { at_set_up = λ r z. tt; at_admission = λ b a h p z. tt; at_turned = λ b h p. tt; at_begin = λ b h p e. tt; at_probe = λ b h p z. tt }

pub next_stands : (b : Bus) → Standing b → (c : Call) → Standing (next machine b c)
next_stands b h c = (next_keeps (λ b. Unit {0}) anything b c h tt).0

-- also under a step as paper 01 has it
pub step_stands : (b : Bus) → Standing b → Standing (step b).1
step_stands b h = subst (λ (r : Answer × Bus). Standing r.1) (step_made b) (next_stands b h one-step)

-- what a refused set-up hands back stays as it is, whatever is called
pub nothing_next : (c : Call) → next machine nothing c ≡ nothing
nothing_next (admission a) = refl
nothing_next one-begin = refl
nothing_next one-probe = refl
nothing_next one-step = refl

-- a state that no call changes
pub stays_so : (E : Engine) (s : E.State) → ((c : Call) → next E s c ≡ s) → (calls : List Call) → after E s calls ≡ s
stays_so E s still [] = refl
stays_so E s still (c ∷ calls) = ap (λ t. after E t calls) (still c) ∙ stays_so E s still calls

-- P and the standing conditions hold of every state reached from an accepted set-up
accepted_keeps :
    (P : Bus → Type 0) → Keeps P → (r : Request) (calls : List Call) → (set_up r).0.refusal ≡ 0
    → Standing (reach machine r calls) × P (reach machine r calls)
accepted_keeps P keeps r calls z =
    after_keeps P keeps (set_up r).1 calls (keeps_standing.set_up_call r z) (subst P (sym (accepted_set_up r z)) (keeps.at_set_up r z))

-- what is reached from a refused set-up is what it handed back
pub refused_nothing : (r : Request) (calls : List Call) → ¬ ((set_up r).0.refusal ≡ 0) → reach machine r calls ≡ nothing
refused_nothing r calls n = ap (λ b. after machine b calls) (hands_back.set_up_call r n) ∙ stays_so machine nothing nothing_next calls

-- a set-up was accepted, or what is reached from it is what it handed back
pub accepted_or_nothing : (r : Request) (calls : List Call) → ((set_up r).0.refusal ≡ 0) ⊎ (reach machine r calls ≡ nothing)
accepted_or_nothing r calls = go (eqb (set_up_verdict r).refusal 0) refl
  where
    go : (t : Bool) → eqb (set_up_verdict r).refusal 0 ≡ t → ((set_up r).0.refusal ≡ 0) ⊎ (reach machine r calls ≡ nothing)
    go true e = inl (eqb-true (set_up_verdict r).refusal 0 e)
    go false e = inr (refused_nothing r calls (eqb-false (set_up_verdict r).refusal 0 e))

pub reached_stands : ReachedStands
reached_stands r calls z = (accepted_keeps (λ b. Unit {0}) anything r calls z).0

pub standing_reached : (r : Request) (calls : List Call) → Standing (reach machine r calls) ⊎ (reach machine r calls ≡ nothing)
standing_reached r calls = go (accepted_or_nothing r calls)
  where
    go : ((set_up r).0.refusal ≡ 0) ⊎ (reach machine r calls ≡ nothing) → Standing (reach machine r calls) ⊎ (reach machine r calls ≡ nothing)
    go (inl z) = inl (reached_stands r calls z)
    go (inr e) = inr e

-- P holds of every reached state, if it holds after set-up and each accepted call keeps it
pub reach_holds : (P : Bus → Type 0) → P nothing → Keeps P → (r : Request) (calls : List Call) → P (reach machine r calls)
reach_holds P empty keeps r calls = go (accepted_or_nothing r calls)
  where
    go : ((set_up r).0.refusal ≡ 0) ⊎ (reach machine r calls ≡ nothing) → P (reach machine r calls)
    go (inl z) = (accepted_keeps P keeps r calls z).1
    go (inr e) = subst P (sym e) empty

-- ---- engines that meet demand 2

-- the machine is one of them
pub demand2_machine : Demand2 machine
demand2_machine = record { set_ups = λ r. refl; calls = λ r calls own. refl; closes = λ r calls own. refl }

-- calls after calls
pub after_more : (E : Engine) (s : E.State) (calls later : List Call) → after E s (calls ++ later) ≡ after E (after E s calls) later
after_more E s [] later = refl
after_more E s (c ∷ calls) later = after_more E (next E s c) calls later

-- the replies to calls after calls, and the replies to those before dropped
replies_more : (E : Engine) (s : E.State) (calls later : List Call) → drop (length calls) (replies E s (calls ++ later)) ≡ replies E (after E s calls) later
replies_more E s [] later = refl
replies_more E s (c ∷ calls) later = replies_more E (next E s c) calls later

-- no begin and no probe is a step
begin_own : OwnCall one-begin
begin_own e = let z : ◌≡◌ {A = ℕ} 0 1 = cc in omega arith

probe_own : OwnCall one-probe
probe_own e = let z : ◌≡◌ {A = ℕ} 0 1 = cc in omega arith

admission_own : (a : Arrival) → OwnCall (admission a)
admission_own a e = let z : ◌≡◌ {A = ℕ} 0 1 = cc in omega arith

-- The engine E and the machine, after the same admissions, begins and probes.
module _ (E : Engine) (meets : Demand2 E) (r : Request) where
  record Abreast (s : E.State) (b : Bus) : Type 0 where
    calls : List Call
    own : All OwnCall calls
    engine : reach E r calls ≡ s
    bus : reach machine r calls ≡ b

  -- after more such calls
  abreast_more : {s : E.State} {b : Bus} → Abreast s b → (later : List Call) → All OwnCall later → Abreast (after E s later) (after machine b later)
  abreast_more h later own =
      record {
        calls = h.calls ++ later;
        own = λ c i. elim (among_append h.calls i) [ inl j ↦ h.own c j | inr j ↦ own c j ];
        engine = after_more E (E.set_up r).1 h.calls later ∙ ap (λ t. after E t later) h.engine;
        bus = after_more machine (set_up r).1 h.calls later ∙ ap (λ t. after machine t later) h.bus;
      }

  replies_same : {s : E.State} {b : Bus} → Abreast s b → (later : List Call) → All OwnCall later → replies E s later ≡ replies machine b later
  replies_same {s} {b} h later own =
      ap (λ t. replies E t later) (sym h.engine)
      ∙ sym (replies_more E (E.set_up r).1 h.calls later)
      ∙ ap (drop (length h.calls)) (meets.calls r (h.calls ++ later) (λ c i. elim (among_append h.calls i) [ inl j ↦ h.own c j | inr j ↦ own c j ]))
      ∙ replies_more machine (set_up r).1 h.calls later
      ∙ ap (λ t. replies machine t later) h.bus

  -- one call of its own
  one_own : (c : Call) → OwnCall c → All OwnCall (c ∷ [])
  one_own c own = all_cons c own (all_nil OwnCall)

  probe_same : {s : E.State} {b : Bus} → Abreast s b → (E.probe s).0 ≡ (probe_call b).0
  probe_same h = ap (λ rs. get_or (probes_in rs) 0 (refused_answer 0)) (replies_same h (one-probe ∷ []) (one_own one-probe probe_own))

  begin_same : {s : E.State} {b : Bus} → Abreast s b → (E.begin s).0 ≡ (begin_call b).0
  begin_same h = ap (λ rs. get_or (begins_in rs) 0 (refused_begun 0)) (replies_same h (one-begin ∷ []) (one_own one-begin begin_own))

  -- a step is answered as the machine's, and leaves them abreast
  step_same : {s : E.State} {b : Bus} → Abreast s b → ((step_of E s).0 ≡ (step_of machine b).0) × Abreast (step_of E s).1 (step_of machine b).1
  step_same {s} {b} h =
      let begun = abreast_more h (one-begin ∷ []) (one_own one-begin begin_own) in
      step_alike E machine Abreast s b h (probe_same h, abreast_more h (one-probe ∷ []) (one_own one-probe probe_own)) (begin_same h)
      (probe_same begun, abreast_more begun (one-probe ∷ []) (one_own one-probe probe_own))

  -- any call
  call_same : {s : E.State} {b : Bus} → Abreast s b → (c : Call) → (reply E s c ≡ reply machine b c) × Abreast (next E s c) (next machine b c)
  call_same h (admission a) =
      let own = one_own (admission a) (admission_own a) in
      (ap (λ rs. get_or rs 0 (begun (refused_begun 0))) (replies_same h (admission a ∷ []) own), abreast_more h (admission a ∷ []) own)
  call_same h one-begin = (ap begun (begin_same h), abreast_more h (one-begin ∷ []) (one_own one-begin begin_own))
  call_same h one-probe = (ap probed (probe_same h), abreast_more h (one-probe ∷ []) (one_own one-probe probe_own))
  call_same h one-step = let k = step_same h in (ap probed k.0, k.1)

  calls_same : {s : E.State} {b : Bus} → Abreast s b → (calls : List Call) → replies E s calls ≡ replies machine b calls
  calls_same h [] = refl
  calls_same {s} {b} h (c ∷ calls) = let k = call_same h c in ap₂ ◌∷◌ k.0 (calls_same {s = next E s c} {b = next machine b c} k.1 calls)

  abreast_after : {s : E.State} {b : Bus} → Abreast s b → (calls : List Call) → Abreast (after E s calls) (after machine b calls)
  abreast_after h [] = h
  abreast_after {s} {b} h (c ∷ calls) = abreast_after {s = next E s c} {b = next machine b c} (call_same h c).1 calls

  closing_same : {s : E.State} {b : Bus} → Abreast s b → E.closing s ≡ closing_call b
  closing_same h = ap E.closing (sym h.engine) ∙ meets.closes r h.calls h.own ∙ ap closing_call h.bus

  at_set_up : Abreast (E.set_up r).1 (set_up r).1
  at_set_up = record { calls = []; own = all_nil OwnCall; engine = refl; bus = refl }

-- with steps among the calls
pub steps_agree : (E : Engine) → Demand2 E → StepsAgree E
steps_agree E meets r calls = calls_same E meets r (at_set_up E meets r) calls

pub replies_agree :
    (E : Engine) → Demand2 E → (r : Request) (calls later : List Call) → replies E (reach E r calls) later ≡ replies machine (reach machine r calls) later
replies_agree E meets r calls later = calls_same E meets r (abreast_after E meets r (at_set_up E meets r) calls) later

pub answers_agree :
    (E : Engine) → Demand2 E → (r : Request) (calls later : List Call) → answers E (reach E r calls) later ≡ answers machine (reach machine r calls) later
answers_agree E d r calls later = ap probes_in (replies_agree E d r calls later)

-- what it closes with
pub closing_agrees :
    (E : Engine) → Demand2 E → (r : Request) (calls : List Call) → E.closing (reach E r calls) ≡ closing_call (reach machine r calls)
closing_agrees E meets r calls = closing_same E meets r (abreast_after E meets r (at_set_up E meets r) calls)
