-- What is so of any finished run: its bus stands, and so its counts balance; the packets sent are the successes among its answers; and no wait
-- comes to 32 bits, since none is longer than the clock. Assumes nothing.
use Prim.Native.Nat.{ℕ, zero, suc, ◌+◌, ◌≤◌, ◌<◌}
use mathlib.Core.Path.{◌≡◌, refl, sym, ap, ◌∙◌, subst}
use mathlib.Core.Bool.{Bool, true, false, cond}
use mathlib.Core.List.{List, [], ◌∷◌}
use native.Mathlib.Omega.{arith}
use Rattle.window.specs.declared.Side.{Side}
use Rattle.window.specs.declared.Side.TheVariants as Is
use Rattle.rules.specs.Lists.{bit, count}
use Rattle.rules.specs.Bus.{Bus}
use Rattle.rules.specs.Standing.{Standing}
use Rattle.rules.specs.declared.Admitted.{Admitted}
use Rattle.rules.specs.SetUp.{Request, set_up}
use Rattle.rules.specs.Admission as Rules
use Rattle.rules.specs.Admission.{admission_refusal, with_packet, handed_back, admit}
use Rattle.rules.specs.Probe.{Contender, Answer, Open, transmitters, refused_answer, unheard, heard, probe}
use Rattle.rules.specs.Step.{opened, step_refusal, step}
use Rattle.rules.proofs.TurnedAway.{back_cases}
use Rattle.rules.proofs.Standing.{accepted_set_up}
use Rattle.rules.proofs.Keeps.{keeps_standing, opened_same}
use Rattle.rules.proofs.Reach.{call_cases, step_stands}
use Rattle.state.specs.declared.Arrival.{Arrival}
use Rattle.bus.specs.Stretch.{asks, due}
use Rattle.scenario.specs.Reading.{Reading, refused, accepted, reading}
use Rattle.scenario.proofs.Sound.{Sound, sound}
use Rattle.listing.specs.Text.{refusal_text}
use Rattle.listing.specs.Run.{Left, after, admit_due, answers_of, end_of}
use Rattle.listing.proofs.NeverRefused.{due_stands}
use Rattle.measure.specs.Measured.{succeeded, wait_in, longest_wait, finished, measured_of, measured, run_in, Fits}
use Rattle.measure.proofs.Waits.{longer_below, none_longer}

-- ---- a step

-- what a probe that nobody hears tells
unheard_wait : (o : Open) (side : Side) → wait_in (unheard o side).0 ≤ o.bus.clock
unheard_wait o Is.Left = omega arith
unheard_wait o Is.Right = omega arith

-- no wait is longer than the clock
heard_wait : (o : Open) (xs : List Contender) → wait_in (heard o xs).0 ≤ o.bus.clock
heard_wait o [] = unheard_wait o o.contention.window.side
heard_wait o (x ∷ []) = omega arith
heard_wait o (x ∷ y ∷ more) = omega arith

step_wait : (b : Bus) → wait_in (step b).0 ≤ b.clock
step_wait b =
    call_cases
    (λ (x : Answer × Bus). wait_in x.0 ≤ b.clock)
    (step_refusal b)
    (probe (opened b))
    (λ n. (refused_answer n, b))
    (λ n. omega arith)
    (λ z.
    subst
    (λ (n : ℕ). wait_in (probe (opened b)).0 ≤ n)
    (opened_same (λ (m : Bus). m.clock) b refl)
    (heard_wait (opened b) (transmitters (opened b).bus (opened b).contention)))

-- a success is one packet sent, and nothing else is
unheard_sent : (o : Open) (side : Side) → (unheard o side).1.sent ≡ o.bus.sent + bit (succeeded (unheard o side).0)
unheard_sent o Is.Left = omega arith
unheard_sent o Is.Right = omega arith

heard_sent : (o : Open) (xs : List Contender) → (heard o xs).1.sent ≡ o.bus.sent + bit (succeeded (heard o xs).0)
heard_sent o [] = unheard_sent o o.contention.window.side
heard_sent o (x ∷ []) = omega arith
heard_sent o (x ∷ y ∷ more) = omega arith

step_sent : (b : Bus) → (step b).1.sent ≡ b.sent + bit (succeeded (step b).0)
step_sent b =
    call_cases
    (λ (x : Answer × Bus). x.1.sent ≡ b.sent + bit (succeeded x.0))
    (step_refusal b)
    (probe (opened b))
    (λ n. (refused_answer n, b))
    (λ n. omega arith)
    (λ z.
    heard_sent (opened b) (transmitters (opened b).bus (opened b).contention)
    ∙ ap (λ (n : ℕ). n + bit (succeeded (probe (opened b)).0)) (opened_same (λ (m : Bus). m.sent) b refl))

-- ---- the arrivals that are due

-- an admission sends nothing
admit_sent : (b : Bus) (a : Rules.Arrival) → (admit b a).1.sent ≡ b.sent
admit_sent b a =
    call_cases
    (λ (x : Admitted × Bus). x.1.sent ≡ b.sent)
    (admission_refusal b a)
    (record { refusal = 0; number = suc b.admitted }, with_packet b a)
    (λ n. (record { refusal = n; number = 0 }, handed_back b n))
    (λ n. back_cases (λ (m : Bus). m.sent ≡ b.sent) b (admission_refusal b a) (λ e. refl) (λ e. refl))
    (λ z. refl)

-- nor do all of them
due_sent : (arrivals : List Arrival) (b : Bus) → (admit_due b arrivals).bus.sent ≡ b.sent
due_sent [] b = refl
due_sent (a ∷ later) b = go (due b.clock a) (due_sent later (admit b (asks a)).1 ∙ admit_sent b (asks a))
  where
    admitted : Left
    admitted = admit_due (admit b (asks a)).1 later

    text : List ℕ
    text = refusal_text b.clock a.address.0 (admit b (asks a)).0.refusal

    waits : Left
    waits = record { text = []; bus = b; arrivals = a ∷ later }

    go : (t : Bool) → admitted.bus.sent ≡ b.sent → (cond t (after text admitted) waits).bus.sent ≡ b.sent
    go true kept = kept
    go false kept = refl

-- ---- the run

-- it ends with a bus that stands
end_stands : (steps : ℕ) (b : Bus) (arrivals : List Arrival) → Standing b → Standing (end_of steps b arrivals)
end_stands zero b arrivals h = h
end_stands (suc steps) b arrivals h =
    let x = admit_due b arrivals in
    end_stands steps (step x.bus).1 x.arrivals (step_stands x.bus (due_stands arrivals b h).0)

-- its waits are below 2 ^ 32
waits_below : (steps : ℕ) (b : Bus) (arrivals : List Arrival) → Standing b → longest_wait (answers_of steps b arrivals) < 4_294_967_296
waits_below zero b arrivals h = omega arith
waits_below (suc steps) b arrivals h =
    let x = admit_due b arrivals in
    let stands = (due_stands arrivals b h).0 in
    longer_below
    (wait_in (step x.bus).0)
    (longest_wait (answers_of steps (step x.bus).1 x.arrivals))
    4_294_967_296
    (omega (arith, step_wait x.bus, stands.clock_in))
    (waits_below steps (step x.bus).1 x.arrivals (step_stands x.bus stands))

-- the packets that it sends are its successes
sent_counted :
    (steps : ℕ) (b : Bus) (arrivals : List Arrival) → (end_of steps b arrivals).sent ≡ b.sent + count succeeded (answers_of steps b arrivals)
sent_counted zero b arrivals = omega arith
sent_counted (suc steps) b arrivals =
    let x = admit_due b arrivals in
    omega (arith, sent_counted steps (step x.bus).1 x.arrivals, step_sent x.bus, due_sent arrivals b)

-- where none succeeds there is no wait
none_waits : (said : List Answer) → count succeeded said ≡ 0 → longest_wait said ≡ 0
none_waits [] e = refl
none_waits (a ∷ said) e = go (succeeded a) refl e (none_waits said)
  where
    go :
        (t : Bool) → succeeded a ≡ t → bit t + count succeeded said ≡ 0 → (count succeeded said ≡ 0 → longest_wait said ≡ 0)
        → longest_wait (a ∷ said) ≡ 0
    go true is none later = absurd (omega arith)
    go false is none later = simp is (none_longer (longest_wait said) ∙ later (omega arith))

-- ---- measured runs

fits_of : (b : Bus) (said : List Answer) → Standing b → longest_wait said < 4_294_967_296 → Fits (finished b said)
fits_of b said h few =
    record {
      balanced = h.counts;
      admitted = omega (arith, h.admitted_in);
      sent = omega (arith, h.admitted_in, h.counts);
      lost = omega (arith, h.admitted_in, h.counts);
      waiting = omega (arith, h.admitted_in, h.counts);
      turned = omega (arith, h.turned_within);
      wait = few;
    }

pub fits : (input : List ℕ) → Fits (run_in (measured input))
fits input = go (reading input) (sound input)
  where
    go : (y : Reading) → Sound input y → Fits (run_in (measured_of y))
    go (refused number offset) bears =
        record
        { balanced = refl; admitted = omega arith; sent = omega arith; lost = omega arith; waiting = omega arith; turned = omega arith; wait = omega arith }
    go (accepted r arrivals steps) ok =
        let h = keeps_standing.set_up_call r ok.0 in
        fits_of
        (end_of steps (set_up r).1 arrivals)
        (answers_of steps (set_up r).1 arrivals)
        (end_stands steps (set_up r).1 arrivals h)
        (waits_below steps (set_up r).1 arrivals h)

-- the packets sent are the successes among the answers
pub sent_are_successes :
    (input : List ℕ) (r : Request) (arrivals : List Arrival) (steps : ℕ) → reading input ≡ accepted r arrivals steps
    → (run_in (measured input)).sent ≡ count succeeded (answers_of steps (set_up r).1 arrivals)
sent_are_successes input r arrivals steps e =
    let fine : (set_up r).0.refusal ≡ 0 = (subst (Sound input) e (sound input)).0 in
    let start : (set_up r).1.sent ≡ 0 = ap (λ (b : Bus). b.sent) (accepted_set_up r fine) in
    ap (λ (y : Reading). (run_in (measured_of y)).sent) e ∙ omega (arith, sent_counted steps (set_up r).1 arrivals, start)

-- a run in which nothing was sent has no wait
pub nothing_sent : (input : List ℕ) → (run_in (measured input)).sent ≡ 0 → (run_in (measured input)).wait ≡ 0
nothing_sent input = go (reading input) refl
  where
    go : (y : Reading) → reading input ≡ y → (run_in (measured_of y)).sent ≡ 0 → (run_in (measured_of y)).wait ≡ 0
    go (refused number offset) is none = refl
    go (accepted r arrivals steps) is none =
        none_waits (answers_of steps (set_up r).1 arrivals)
        (sym (sent_are_successes input r arrivals steps is) ∙ ap (λ (y : Reading). (run_in (measured_of y)).sent) is ∙ none)
