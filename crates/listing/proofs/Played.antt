-- A stretch of calls: what it takes and what it leaves; and, from the state of a bus that stands, that what it tells is the text of the run,
-- and what it reports the answers to the run's steps, up to where it stops. Assumes nothing.
use Prim.Native.Nat.{ℕ, zero, suc, ◌+◌, ◌≤◌, ◌<◌}
use mathlib.Core.Path.{◌≡◌, refl, sym, ap, ap₂, ◌∙◌, subst}
use mathlib.Core.Bool.{Bool, true, false, cond}
use mathlib.Core.List.{List, [], ◌∷◌, ◌++◌, append_assoc}
use native.Mathlib.Nat.{zero-add}
use native.Mathlib.Omega.{arith}
use lib.Dec.{leb}
use lib.ListN.{length, drop}
use Rattle.rules.specs.Bus.{Bus}
use Rattle.rules.specs.Standing.{Standing}
use Rattle.rules.specs.declared.Admitted.{Admitted}
use Rattle.rules.specs.Admission.{admit}
use Rattle.rules.specs.Probe as Probe
use Rattle.rules.specs.Step.{step}
use Rattle.rules.specs.Engine.{admission}
use Rattle.rules.proofs.Laws.{clash}
use Rattle.rules.proofs.Reach.{next_stands, step_stands}
use Rattle.state.specs.declared.State.{State}
use Rattle.state.specs.declared.Arrival.{Arrival}
use Rattle.state.specs.State.{form}
use Rattle.bus.specs.Coded.{answer_form, answer_of, coded_admit, coded_step}
use Rattle.bus.specs.Stretch.{row_places, Course, most_calls, asks, due, rests, after, step_then, arrival_report, step_report, course}
use Rattle.state.proofs.Form.{standing_fits}
use Rattle.bus.proofs.Coded.{coded_admit_form, coded_step_form}
use Rattle.bus.proofs.Promises.{answer_read}
use Rattle.listing.specs.Text.{refusal_text, dropped_text, probed_text}
use Rattle.listing.specs.Run.{Left, admit_due, closing_text, run_text, answers_of, end_of}
use Rattle.listing.specs.Run as Run
use Rattle.listing.specs.Turns.{Play, report_text, reports_text, answers_in, course_of}

-- ---- what a stretch takes and leaves

-- an arrival was admitted, and then a course
abbrev admit_then : State → Arrival → Course → Course
admit_then s a c = after (arrival_report s a (coded_admit s (asks a)).0 ∷ []) 1 c

-- no more calls are made than there may be, no more arrivals taken than there are, nor more steps left than there were
pub record Bounds (c : Course) (calls most steps : ℕ) : Type 0 where
  pub made : length c.reports ≤ calls
  pub taken : c.taken ≤ most
  pub left : c.left ≤ steps

rest_bounds : (s : State) (calls most steps : ℕ) → Bounds (rests s steps) calls most steps
rest_bounds s calls most steps = record { made = omega arith; taken = omega arith; left = omega arith }

step_bounds :
    (s : State) (c : Course) (calls most steps : ℕ) → Bounds c calls most steps → Bounds (step_then s c) (suc calls) most (suc steps)
step_bounds s c calls most steps b =
    record { made = omega (arith, b.made); taken = omega (arith, b.taken); left = omega (arith, b.left) }

admit_bounds :
    (s : State) (a : Arrival) (c : Course) (calls most steps : ℕ) → Bounds c calls most steps
    → Bounds (admit_then s a c) (suc calls) (suc most) steps
admit_bounds s a c calls most steps b =
    record { made = omega (arith, b.made); taken = omega (arith, b.taken); left = b.left }

course_bounds :
    (calls : ℕ) (s : State) (arrivals : List Arrival) (more : Bool) (steps : ℕ)
    → Bounds (course calls s arrivals more steps) calls (length arrivals) steps
unfolding course
course_bounds zero s arrivals more steps = rest_bounds s zero (length arrivals) steps
course_bounds (suc calls) s arrivals more zero = rest_bounds s (suc calls) (length arrivals) zero
course_bounds (suc calls) s [] true (suc steps) = rest_bounds s (suc calls) 0 (suc steps)
course_bounds (suc calls) s [] false (suc steps) = step_bounds s _ calls 0 steps (course_bounds calls (coded_step s).1 [] false steps)
course_bounds (suc calls) s (a ∷ later) more (suc steps) =
    by_due
    (due s.segment.clock.0 a)
    (course_bounds calls (coded_admit s (asks a)).1 later more (suc steps))
    (course_bounds calls (coded_step s).1 (a ∷ later) more steps)
  where
    by_due :
        (t : Bool) → {c d : Course} → Bounds c calls (length later) (suc steps) → Bounds d calls (suc (length later)) steps
        → Bounds (cond t (admit_then s a c) (step_then s d)) (suc calls) (suc (length later)) (suc steps)
    by_due true {c} {d} h k = admit_bounds s a c calls (length later) (suc steps) h
    by_due false {c} {d} h k = step_bounds s d calls (suc (length later)) steps k

-- the same, of the stretch of a play
pub bounds_of : (arrivals : List Arrival) (p : Play) → Bounds (course_of arrivals p) most_calls (length arrivals) p.steps
bounds_of arrivals p = course_bounds most_calls p.state arrivals (leb row_places (length arrivals)) p.steps

-- a stretch with a call, a step and arrivals or none to wait for takes an arrival or makes a step
pub course_moves :
    (calls : ℕ) (s : State) (arrivals : List Arrival) (more : Bool) (steps : ℕ) → (arrivals ≡ [] → more ≡ false)
    → let c = course (suc calls) s arrivals more (suc steps) in c.left < suc steps + c.taken
unfolding course
course_moves calls s [] true steps h = clash refl (h refl)
course_moves calls s [] false steps h = let b = (course_bounds calls (coded_step s).1 [] false steps).left in omega arith
course_moves calls s (a ∷ later) more steps h =
    by_due
    (due s.segment.clock.0 a)
    (course_bounds calls (coded_admit s (asks a)).1 later more (suc steps))
    (course_bounds calls (coded_step s).1 (a ∷ later) more steps)
  where
    by_due :
        (t : Bool) → {c d : Course} → Bounds c calls (length later) (suc steps) → Bounds d calls (suc (length later)) steps
        → (cond t (admit_then s a c) (step_then s d)).left < suc steps + (cond t (admit_then s a c) (step_then s d)).taken
    by_due true {c} {d} h k = omega (arith, h.left)
    by_due false {c} {d} h k = omega (arith, k.left)

-- ---- the run

-- where an arrival is due, it is admitted
due_admitted :
    (b : Bus) (a : Arrival) (later : List Arrival) → due b.clock a ≡ true
    → admit_due b (a ∷ later) ≡ Run.after (refusal_text b.clock a.address.0 (admit b (asks a)).0.refusal) (admit_due (admit b (asks a)).1 later)
due_admitted b a later e = simp e

-- and the run is what it leaves
run_admits :
    (steps : ℕ) (b : Bus) (a : Arrival) (later : List Arrival) → due b.clock a ≡ true
    → run_text (suc steps) b (a ∷ later)
    ≡ refusal_text b.clock a.address.0 (admit b (asks a)).0.refusal ++ run_text (suc steps) (admit b (asks a)).1 later
run_admits steps b a later e =
    ap
    (λ (x : Left).
    x.text ++ (dropped_text (step x.bus).0 ++ (probed_text (step x.bus).0 ++ run_text steps (step x.bus).1 x.arrivals)))
    (due_admitted b a later e)
    ∙ append_assoc (refusal_text b.clock a.address.0 (admit b (asks a)).0.refusal) _ _

-- and so are its answers and its end, which such an arrival adds nothing to
answers_admit :
    (steps : ℕ) (b : Bus) (a : Arrival) (later : List Arrival) → due b.clock a ≡ true
    → answers_of (suc steps) b (a ∷ later) ≡ answers_of (suc steps) (admit b (asks a)).1 later
answers_admit steps b a later e =
    ap (λ (x : Left). (step x.bus).0 ∷ answers_of steps (step x.bus).1 x.arrivals) (due_admitted b a later e)

end_admits :
    (steps : ℕ) (b : Bus) (a : Arrival) (later : List Arrival) → due b.clock a ≡ true
    → end_of (suc steps) b (a ∷ later) ≡ end_of (suc steps) (admit b (asks a)).1 later
end_admits steps b a later e = ap (λ (x : Left). end_of steps (step x.bus).1 x.arrivals) (due_admitted b a later e)

-- none of these arrivals is due: there is none, or the first is not
abbrev none_due : Bus → List Arrival → Type 0
none_due b [] = Unit {0}
none_due b (a ∷ later) = due b.clock a ≡ false

-- where none is due, none is admitted
none_admitted :
    (b : Bus) (arrivals : List Arrival) → none_due b arrivals → admit_due b arrivals ≡ record { text = []; bus = b; arrivals = arrivals }
none_admitted b [] h = refl
none_admitted b (a ∷ later) h = simp h

-- and the run makes a step
run_steps :
    (steps : ℕ) (b : Bus) (arrivals : List Arrival) → none_due b arrivals
    → run_text (suc steps) b arrivals
    ≡ (dropped_text (step b).0 ++ probed_text (step b).0) ++ run_text steps (step b).1 arrivals
run_steps steps b arrivals h =
    ap
    (λ (x : Left).
    x.text ++ (dropped_text (step x.bus).0 ++ (probed_text (step x.bus).0 ++ run_text steps (step x.bus).1 x.arrivals)))
    (none_admitted b arrivals h)
    ∙ sym (append_assoc (dropped_text (step b).0) _ _)

answers_step :
    (steps : ℕ) (b : Bus) (arrivals : List Arrival) → none_due b arrivals
    → answers_of (suc steps) b arrivals ≡ (step b).0 ∷ answers_of steps (step b).1 arrivals
answers_step steps b arrivals h =
    ap (λ (x : Left). (step x.bus).0 ∷ answers_of steps (step x.bus).1 x.arrivals) (none_admitted b arrivals h)

end_steps :
    (steps : ℕ) (b : Bus) (arrivals : List Arrival) → none_due b arrivals
    → end_of (suc steps) b arrivals ≡ end_of steps (step b).1 arrivals
end_steps steps b arrivals h = ap (λ (x : Left). end_of steps (step x.bus).1 x.arrivals) (none_admitted b arrivals h)

-- a run's text ends with the line that tells the counts of the bus at its end
pub run_ends : (steps : ℕ) (b : Bus) (arrivals : List Arrival) → (text : List ℕ) × (run_text steps b arrivals ≡ text ++ closing_text (end_of steps b arrivals))
run_ends zero b arrivals = ([], refl)
run_ends (suc steps) b arrivals =
    let x = admit_due b arrivals in
    let r = step x.bus in
    let drops = dropped_text r.0 in
    let probe = probed_text r.0 in
    let rest = run_ends steps r.1 x.arrivals in
    let end = closing_text (end_of steps r.1 x.arrivals) in (
      x.text ++ (drops ++ (probe ++ rest.0)),
      ap (λ (l : List ℕ). x.text ++ (drops ++ (probe ++ l))) rest.1
          ∙ ap (λ (l : List ℕ). x.text ++ (drops ++ l)) (sym (append_assoc probe rest.0 end))
          ∙ ap (λ (l : List ℕ). x.text ++ l) (sym (append_assoc drops (probe ++ rest.0) end))
          ∙ sym (append_assoc x.text (drops ++ (probe ++ rest.0)) end),
    )

-- ---- a stretch of the run

-- A course that is a stretch of the run of a bus: it ends with a bus that stands; the run's text is what it tells and the text of what is
-- left of the run; the run's answers are those that it reports and those of what is left; and the run ends as what is left does.
pub record Runs (b : Bus) (arrivals : List Arrival) (steps : ℕ) (c : Course) : Type 0 where
  pub bus : Bus
  pub stands : Standing bus
  pub state : c.state ≡ form bus
  pub text : run_text steps b arrivals ≡ reports_text c.reports ++ run_text c.left bus (drop c.taken arrivals)
  pub answers : answers_of steps b arrivals ≡ answers_in c.reports ++ answers_of c.left bus (drop c.taken arrivals)
  pub end : end_of steps b arrivals ≡ end_of c.left bus (drop c.taken arrivals)

runs_still : (b : Bus) (arrivals : List Arrival) (steps : ℕ) → Standing b → Runs b arrivals steps (rests (form b) steps)
runs_still b arrivals steps h = record { bus = b; stands = h; state = refl; text = refl; answers = refl; end = refl }

module _ (b : Bus) (h : Standing b) where
  -- a step, and then a stretch of the run after it
  step_runs :
      (arrivals : List Arrival) (steps : ℕ) (c : Course) → none_due b arrivals → Runs (step b).1 arrivals steps c
      → Runs b arrivals (suc steps) (step_then (form b) c)
  step_runs arrivals steps c none r =
      let said : answer_of (answer_form (coded_step (form b)).0) ≡ (step b).0 =
      answer_read (form b) ∙ ap (λ (o : Probe.Answer × State). o.0) (coded_step_form b (standing_fits b h)) in
      let told : report_text (step_report (form b) (answer_form (coded_step (form b)).0)) ≡ dropped_text (step b).0 ++ probed_text (step b).0 =
      ap (λ (a : Probe.Answer). dropped_text a ++ probed_text a) said in
      let rest = run_text c.left r.bus in
      let none-taken : c.taken ≡ 0 + c.taken = sym (zero-add c.taken) in
      record {
        bus = r.bus;
        stands = r.stands;
        state = r.state;
        text =
            run_steps steps b arrivals none
            ∙ ap₂ ◌++◌ (sym told) r.text
            ∙ sym (append_assoc (report_text (step_report (form b) (answer_form (coded_step (form b)).0))) (reports_text c.reports) _)
            ∙ ap (λ (n : ℕ). reports_text (step_then (form b) c).reports ++ rest (drop n arrivals)) none-taken;
        answers =
            answers_step steps b arrivals none
            ∙ ap₂ ◌∷◌ (sym said) r.answers
            ∙ ap
            (λ (n : ℕ). answers_in (step_then (form b) c).reports ++ answers_of c.left r.bus (drop n arrivals))
            none-taken;
        end = end_steps steps b arrivals none ∙ r.end ∙ ap (λ (n : ℕ). end_of c.left r.bus (drop n arrivals)) none-taken;
      }

  -- an arrival that is due, and then a stretch of the run after it
  admit_runs :
      (a : Arrival) (later : List Arrival) (steps : ℕ) (c : Course) → due b.clock a ≡ true
      → Runs (admit b (asks a)).1 later (suc steps) c → Runs b (a ∷ later) (suc steps) (admit_then (form b) a c)
  admit_runs a later steps c now! r =
      let told :
      report_text (arrival_report (form b) a (coded_admit (form b) (asks a)).0)
      ≡ refusal_text b.clock a.address.0 (admit b (asks a)).0.refusal =
      ap (λ (o : Admitted × State). refusal_text b.clock a.address.0 o.0.refusal) (coded_admit_form b (standing_fits b h) (asks a)) in
      let rest = run_text c.left r.bus in
      let one : suc c.taken ≡ 1 + c.taken = omega arith in
      record {
        bus = r.bus;
        stands = r.stands;
        state = r.state;
        text =
            run_admits steps b a later now!
            ∙ ap₂ ◌++◌ (sym told) r.text
            ∙ sym (append_assoc (report_text (arrival_report (form b) a (coded_admit (form b) (asks a)).0)) (reports_text c.reports) _)
            ∙ ap (λ (n : ℕ). reports_text (admit_then (form b) a c).reports ++ rest (drop n (a ∷ later))) one;
        answers =
            answers_admit steps b a later now!
            ∙ r.answers
            ∙ ap
            (λ (n : ℕ). answers_in (admit_then (form b) a c).reports ++ answers_of c.left r.bus (drop n (a ∷ later)))
            one;
        end = end_admits steps b a later now! ∙ r.end ∙ ap (λ (n : ℕ). end_of c.left r.bus (drop n (a ∷ later))) one;
      }

  -- the states after the calls
  after_step :
      (arrivals : List Arrival) (steps : ℕ) (course! : State → Course)
      → Runs (step b).1 arrivals steps (course! (form (step b).1)) → Runs (step b).1 arrivals steps (course! (coded_step (form b)).1)
  after_step arrivals steps course! =
      subst (λ (s : State). Runs (step b).1 arrivals steps (course! s))
      (sym (ap (λ (o : Probe.Answer × State). o.1) (coded_step_form b (standing_fits b h))))

  after_admission :
      (a : Arrival) (arrivals : List Arrival) (steps : ℕ) (course! : State → Course)
      → Runs (admit b (asks a)).1 arrivals steps (course! (form (admit b (asks a)).1))
      → Runs (admit b (asks a)).1 arrivals steps (course! (coded_admit (form b) (asks a)).1)
  after_admission a arrivals steps course! =
      subst (λ (s : State). Runs (admit b (asks a)).1 arrivals steps (course! s))
      (sym (ap (λ (o : Admitted × State). o.1) (coded_admit_form b (standing_fits b h) (asks a))))

-- any stretch, by the first arrivals of the run, and all of them where there are no more
pub course_runs :
    (calls : ℕ) (b : Bus) → Standing b → (found others : List Arrival) (more : Bool) (steps : ℕ) → (more ≡ false → others ≡ [])
    → Runs b (found ++ others) steps (course calls (form b) found more steps)
unfolding course
course_runs zero b h found others more steps all = runs_still b (found ++ others) steps h
course_runs (suc calls) b h found others more zero all = runs_still b (found ++ others) 0 h
course_runs (suc calls) b h [] others true (suc steps) all = runs_still b others (suc steps) h
course_runs (suc calls) b h [] others false (suc steps) all =
    step_runs b h others steps (course calls (coded_step (form b)).1 [] false steps)
    (subst (none_due b) (sym (all refl)) tt)
    (after_step b h others steps (λ (s : State). course calls s [] false steps)
    (course_runs calls (step b).1 (step_stands b h) [] others false steps all))
course_runs (suc calls) b h (a ∷ later) others more (suc steps) all =
    by_due
    (due b.clock a)
    refl
    (after_admission b h a (later ++ others) (suc steps) (λ (s : State). course calls s later more (suc steps))
    (course_runs calls (admit b (asks a)).1 (next_stands b h (admission (asks a))) later others more (suc steps) all))
    (after_step b h (a ∷ (later ++ others)) steps (λ (s : State). course calls s (a ∷ later) more steps)
    (course_runs calls (step b).1 (step_stands b h) (a ∷ later) others more steps all))
  where
    by_due :
        (t : Bool) → due b.clock a ≡ t → {c d : Course} → Runs (admit b (asks a)).1 (later ++ others) (suc steps) c
        → Runs (step b).1 (a ∷ (later ++ others)) steps d
        → Runs b (a ∷ (later ++ others)) (suc steps) (cond t (admit_then (form b) a c) (step_then (form b) d))
    by_due true e {c} {d} x y = admit_runs b h a (later ++ others) steps c e x
    by_due false e {c} {d} x y = step_runs b h (a ∷ (later ++ others)) steps d e y
