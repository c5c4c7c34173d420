-- Laws of a stretch (specs/Stretch.antt) as a loop makes it: what has been said so far, and the course of what is left. Assumes nothing.
use Prim.Native.Nat.{ℕ, zero, suc, ◌+◌, ◌-◌, ◌≤◌, ◌<◌}
use mathlib.Core.Path.{◌≡◌, refl, sym, ap, ap₂, ◌∙◌, subst}
use mathlib.Core.Logic.{⊎_elim}
use mathlib.Core.Bool.{Bool, true, false, ◌&&◌, cond}
use mathlib.Core.List.{List, [], ◌∷◌, ◌++◌, append-nil, append_assoc}
use native.Mathlib.Nat.{add-zero, zero-add}
use native.Mathlib.Numerals.{add-one}
use native.Mathlib.Omega.{arith}
use mir.Val.{Val}
use denote.Laws.{Is}
use lib.Dec.{ltb}
use lib.ListN.{length, get_or, drop, set, replicate, length-append, length-take, drop_of_length-le}
use lib.Seq.{drop-cons, set_at, append_snoc, get_or-take}
use borrow.Author.Tests.{ltb-true, ltb-false, le-leb, lt-leb}
use Rattle.rules.proofs.Laws.{and-true, and-false}
use Rattle.bus.specs.Types.{State, Arrival}
use Rattle.bus.specs.Coded.{Admission, Stepped, answer_form, coded_admit, coded_step, admission_result, step_result}
use Rattle.bus.specs.Stretch.{Arrivals, Report, no_arrival, Stretch, Course, most_calls, asks, due, no_report, arrival_report, step_report, rests, after, step_then, course, in_row, may_be_more, stretch_form}
use Rattle.bus.specs.contracts.Arrivals as arrivals-of

-- a course with nothing before it, and one course after another
after_none : (c : Course) → c ≡ after [] 0 c
after_none c =
    ap (λ (taken : ℕ). record { reports = c.reports; taken = taken; left = c.left; state = c.state }) (sym (zero-add c.taken))

after_after :
    (rs os : List Report) (n m : ℕ) (c : Course) → after rs n (after os m c) ≡ after (rs ++ os) (n + m) c
after_after rs os n m c =
    let many : n + (m + c.taken) ≡ n + m + c.taken = omega arith in
    ap₂ (λ (reports : List Report) (taken : ℕ). record { reports = reports; taken = taken; left = c.left; state = c.state })
    (sym (append_assoc rs os c.reports))
    many

-- what has been said so far, in the row, and the course that is left
pub record So-far (s : State) (arrivals : List Arrival) (more : Bool) (steps : ℕ) (state : State) (reports : List Report) (made taken left : ℕ) : Type 0 where
  pub said : List Report
  pub filled : reports ≡ said ++ replicate (most_calls - made) no_report
  pub many : length said ≡ made
  pub goes : course most_calls s arrivals more steps ≡ after said taken (course (most_calls - made) state (drop taken arrivals) more left)

-- the same, of equal things
pub so_far_of :
    {s : State} {arrivals : List Arrival} {more : Bool} {steps : ℕ} {state state' : State} {reports reports' : List Report} {made taken taken' left left' : ℕ}
    → state' ≡ state → reports' ≡ reports → taken' ≡ taken → left' ≡ left → So-far s arrivals more steps state reports made taken left
    → So-far s arrivals more steps state' reports' made taken' left'
so_far_of {s} {arrivals} {more} {steps} {state} {state'} {reports} {reports'} {made} {taken} {taken'} {left} {left'} a b c d x =
    record {
      said = x.said;
      filled = b ∙ x.filled;
      many = x.many;
      goes =
          x.goes
          ∙ ap₂ (λ (o : State) (n : ℕ). after x.said n (course (most_calls - made) o (drop n arrivals) more left)) (sym a) (sym c)
          ∙ ap (λ (n : ℕ). after x.said taken' (course (most_calls - made) state' (drop taken' arrivals) more n)) (sym d);
    }

pub at_first : (s : State) (arrivals : List Arrival) (more : Bool) (steps : ℕ) → So-far s arrivals more steps s (replicate most_calls no_report) 0 0 steps
at_first s arrivals more steps = record { said = []; filled = refl; many = refl; goes = after_none (course most_calls s arrivals more steps) }

-- no arrival comes next that is due, by whether there may be more than these
abbrev pub none_due : Bool → State → List Arrival → Type 0
none_due more state [] = more ≡ false
none_due more state (a ∷ later) = due state.segment.clock.0 a ≡ false

module _ (s : State) (arrivals : List Arrival) (more : Bool) (steps : ℕ) where
  -- one report more in the row
  row_fills :
      (said : List Report) (reports : List Report) (made : ℕ) (r : Report) → reports ≡ said ++ replicate (most_calls - made) no_report
      → length said ≡ made → made < most_calls
      → set reports made r ≡ (said ++ (r ∷ [])) ++ replicate (most_calls - (made + 1)) no_report
  row_fills said reports made r e n l =
      let rest = most_calls - (made + 1) in
      let free : most_calls - made ≡ suc rest = omega arith in
      ap (λ (row : List Report). set row made r) (e ∙ ap (λ (k : ℕ). said ++ replicate k no_report) free)
      ∙ set_at said no_report (replicate rest no_report) r made n
      ∙ sym (append_snoc said r (replicate rest no_report))

  -- what is left of a stretch that goes on with an arrival, or with a step
  abbrev arrival_then : ℕ → State → Arrival → List Arrival → ℕ → Course
  arrival_then calls state a later left =
      after (arrival_report state a (coded_admit state (asks a)).0 ∷ []) 1 (course calls (coded_admit state (asks a)).1 later more left)

  -- where an arrival comes next, by whether it is due
  goes_by :
      (calls : ℕ) (state : State) (a : Arrival) (later : List Arrival) (left : ℕ) {now! : Bool} → due state.segment.clock.0 a ≡ now!
      → course (suc calls) state (a ∷ later) more (suc left)
      ≡ cond now! (arrival_then calls state a later (suc left)) (step_then state (course calls (coded_step state).1 (a ∷ later) more left))
  unfolding course
  goes_by calls state a later left e =
      ap
      (λ (t : Bool).
      cond t (arrival_then calls state a later (suc left)) (step_then state (course calls (coded_step state).1 (a ∷ later) more left)))
      e

  -- where none comes, and there are no more
  goes_alone :
      (calls : ℕ) (state : State) (left : ℕ) → more ≡ false
      → course (suc calls) state [] more (suc left) ≡ step_then state (course calls (coded_step state).1 [] more left)
  unfolding course
  goes_alone calls state left e =
      ap (λ (t : Bool). cond t (rests state (suc left)) (step_then state (course calls (coded_step state).1 [] more left))) e

  steps_on :
      (calls : ℕ) (state : State) (coming : List Arrival) (left : ℕ) → none_due more state coming
      → course (suc calls) state coming more (suc left) ≡ step_then state (course calls (coded_step state).1 coming more left)
  steps_on calls state [] left e = goes_alone calls state left e
  steps_on calls state (a ∷ later) left e = goes_by calls state a later left e

  -- the calls and the steps that are left, one of each taken off
  opened :
      (state : State) (coming : List Arrival) (made left : ℕ) → made < most_calls → 0 < left
      → course (most_calls - made) state coming more left ≡ course (suc (most_calls - (made + 1))) state coming more (suc (left - 1))
  opened state coming made left m l =
      let calls : most_calls - made ≡ suc (most_calls - (made + 1)) = omega arith in
      let still : left ≡ suc (left - 1) = omega arith in
      ap₂ (λ (k n : ℕ). course k state coming more n) calls still

  module _ (state : State) (reports : List Report) (made taken left : ℕ) (x : So-far s arrivals more steps state reports made taken left)
      (m : made < most_calls) (l : 0 < left) where
    -- one report more
    told :
        (r : Report) (next : State) (n left' : ℕ)
        → course (most_calls - made) state (drop taken arrivals) more left
        ≡ after (r ∷ []) n (course (most_calls - (made + 1)) next (drop (taken + n) arrivals) more left')
        → So-far s arrivals more steps next (set reports made r) (made + 1) (taken + n) left'
    told r next n left' e =
        let c = course (most_calls - (made + 1)) next (drop (taken + n) arrivals) more left' in
        record {
          said = x.said ++ (r ∷ []);
          filled = row_fills x.said reports made r x.filled x.many m;
          many = length-append x.said (r ∷ []) ∙ ap (λ (k : ℕ). k + 1) x.many;
          goes = x.goes ∙ ap (after x.said taken) e ∙ after_after x.said (r ∷ []) taken n c;
        }

    -- an arrival is taken
    pub one_arrival :
        taken < length arrivals → due state.segment.clock.0 (get_or arrivals taken no_arrival) ≡ true → (r : Report) (next : State)
        → r ≡ arrival_report state (get_or arrivals taken no_arrival) (coded_admit state (asks (get_or arrivals taken no_arrival))).0
        → next ≡ (coded_admit state (asks (get_or arrivals taken no_arrival))).1
        → So-far s arrivals more steps next (set reports made r) (made + 1) (taken + 1) left
    one_arrival t e r next f g =
        let rest = most_calls - (made + 1) in
        let a = get_or arrivals taken no_arrival in
        let later = drop (suc taken) arrivals in
        let still : suc (left - 1) ≡ left = omega arith in
        told r next 1 left
        (opened state (drop taken arrivals) made left m l
        ∙ ap (λ (os : List Arrival). course (suc rest) state os more (suc (left - 1))) (drop-cons arrivals taken no_arrival t)
        ∙ goes_by rest state a later (left - 1) e
        ∙ ap₂ (λ (o : Report) (d : Course). after (o ∷ []) 1 d) (sym f)
        (ap₂ (λ (o : State) (k : ℕ). course rest o later more k) (sym g) still
        ∙ ap (λ (k : ℕ). course rest next (drop k arrivals) more left) (sym (add-one taken))))

    -- a step is made
    pub one-step :
        none_due more state (drop taken arrivals) → (r : Report) (next : State) → r ≡ step_report state (answer_form (coded_step state).0)
        → next ≡ (coded_step state).1 → So-far s arrivals more steps next (set reports made r) (made + 1) taken (left - 1)
    one-step e r next f g =
        let rest = most_calls - (made + 1) in
        so_far_of refl refl (sym (add-zero taken)) refl
        (told r next 0 (left - 1)
        (opened state (drop taken arrivals) made left m l
        ∙ steps_on rest state (drop taken arrivals) (left - 1) e
        ∙ ap₂ (λ (o : Report) (d : Course). after (o ∷ []) 0 d) (sym f)
        (ap₂ (λ (o : State) (k : ℕ). course rest o (drop k arrivals) more (left - 1)) (sym g) (sym (add-zero taken)))))

  -- the course of a stretch that does not go on
  no_calls :
      (state : State) (calls left : ℕ) (os : List Arrival) → calls ≡ 0 → course calls state os more left ≡ rests state left
  unfolding course
  no_calls state calls left os e = ap (λ (k : ℕ). course k state os more left) e

  no_steps :
      (state : State) (calls left : ℕ) (os : List Arrival) → left ≡ 0 → course calls state os more left ≡ rests state left
  unfolding course
  no_steps state zero left os e = refl
  no_steps state (suc calls) left os e = ap (course (suc calls) state os more) e ∙ ap (rests state) (sym e)

  no_arrivals :
      (state : State) (calls left : ℕ) (os : List Arrival) → os ≡ [] → more ≡ true → course calls state os more left ≡ rests state left
  unfolding course
  no_arrivals state zero left os e f = refl
  no_arrivals state (suc calls) zero os e f = refl
  no_arrivals state (suc calls) (suc left) os e f = ap₂ (λ (o : List Arrival) (t : Bool). course (suc calls) state o t (suc left)) e f

  stops :
      (state : State) (made taken left : ℕ) → length arrivals ≤ 64 → (64 ≤ taken → more ≡ true)
      → (ltb made 512 && ltb taken 64 && ltb 0 left) ≡ false
      → course (most_calls - made) state (drop taken arrivals) more left ≡ rests state left
  stops state made taken left n full e =
      ⊎_elim
      (λ f.
      ⊎_elim
      (λ g. let h = ltb-false made 512 g in no_calls state (most_calls - made) left (drop taken arrivals) (omega arith))
      (λ g.
      let h = ltb-false taken 64 g in
      no_arrivals state (most_calls - made) left (drop taken arrivals) (drop_of_length-le arrivals {i = taken} (omega arith)) (full h))
      (and-false (ltb made 512) (ltb taken 64) f))
      (λ f. let h = ltb-false 0 left f in no_steps state (most_calls - made) left (drop taken arrivals) (omega arith))
      (and-false (ltb made 512 && ltb taken 64) (ltb 0 left) e)

  -- the stretch with these reports, of which so many are filled, these arrivals taken and steps left, and this state
  abbrev pub stretch : List Report → ℕ → ℕ → ℕ → State → Stretch
  stretch reports made taken left state = record { reports = reports; made = made; taken = taken; left = left; state = state }

  pub at_last :
      (state : State) (reports : List Report) (made taken left : ℕ) → So-far s arrivals more steps state reports made taken left
      → length arrivals ≤ 64 → (64 ≤ taken → more ≡ true) → (ltb made 512 && ltb taken 64 && ltb 0 left) ≡ false
      → stretch reports made taken left state ≡ stretch_form (course most_calls s arrivals more steps)
  at_last state reports made taken left x n full e =
      let all = append-nil x.said in
      let is = x.goes ∙ ap (after x.said taken) (stops state made taken left n full e) in
      ap₂ (λ (row : List Report) (k : ℕ). stretch row made k left state) x.filled (sym (add-zero taken))
      ∙ ap (λ (k : ℕ). stretch (x.said ++ replicate (most_calls - k) no_report) k (taken + 0) left state) (sym x.many)
      ∙ ap
      (λ (rs : List Report). stretch (rs ++ replicate (most_calls - length rs) no_report) (length rs) (taken + 0) left state)
      (sym all)
      ∙ sym (ap stretch_form is)

-- where the stretch goes on
pub on : (made taken left : ℕ) → (ltb made 512 && ltb taken 64 && ltb 0 left) ≡ true → (made < 512) × (taken < 64) × (0 < left)
on made taken left e =
    let f = and-true (ltb made 512 && ltb taken 64) (ltb 0 left) e in
    let g = and-true (ltb made 512) (ltb taken 64) f.0 in
    (ltb-true made 512 g.0, ltb-true taken 64 g.1, ltb-true 0 left f.1)

-- ---- the row of arrivals that the code is lent

pub arrivals_array : (x : Arrivals) (vs : List Val) → Is arrivals-of.the_row x vs → length x.row ≡ 64
arrivals_array x vs owned = owned.1.1.0.1.0.1

module _ (x : Arrivals) (places : length x.row ≡ 64) where
  pub row_few : length (in_row x) ≤ 64
  row_few = omega (arith, length-take x.length x.row)

  -- at each place of it there is an arrival, as in the list
  pub row_at : (taken : ℕ) → taken < x.length → get_or (in_row x) taken no_arrival ≡ get_or x.row taken no_arrival
  row_at taken h = get_or-take x.length x.row taken no_arrival h

  pub row_there : (taken : ℕ) → taken < x.length → taken < 64 → taken < length (in_row x)
  row_there taken h k = omega (arith, length-take x.length x.row)

  -- where all 64 have been taken, the row was full
  pub row_full : (taken : ℕ) → taken ≤ length (in_row x) → 64 ≤ taken → may_be_more x ≡ true
  row_full taken h k = le-leb 64 x.length (omega (arith, length-take x.length x.row))

  -- no arrival is due where the row has been used up and was not full, or its next one is not due
  pub row_waits :
      (state : State) (taken : ℕ) → taken < 64
      → (ltb taken x.length && due state.segment.clock.0 (get_or x.row taken no_arrival)) ≡ false
      → none_due (may_be_more x) state (drop taken (in_row x))
  row_waits state taken h e = go (ltb taken x.length) refl
    where
      go : (there : Bool) → ltb taken x.length ≡ there → none_due (may_be_more x) state (drop taken (in_row x))
      go true f =
          let k = ltb-true taken x.length f in
          subst
          (none_due (may_be_more x) state)
          (sym (drop-cons (in_row x) taken no_arrival (row_there taken k h)))
          (ap (due state.segment.clock.0) (row_at taken k)
          ∙ sym (ap (λ (t : Bool). t && due state.segment.clock.0 (get_or x.row taken no_arrival)) f)
          ∙ e)
      go false f =
          let k = ltb-false taken x.length f in
          subst
          (none_due (may_be_more x) state)
          (sym (drop_of_length-le (in_row x) {i = taken} (omega (arith, length-take x.length x.row))))
          (lt-leb 64 x.length (omega arith))

  pub row_due :
      (taken : ℕ) (now! : Bool) → taken < 64 → (ltb taken x.length && now!) ≡ true → taken < length (in_row x)
  row_due taken now! t e = row_there taken (ltb-true taken x.length (and-true (ltb taken x.length) now! e).0) t

  -- one turn of a loop: an arrival is taken, or a step is made
  module _ (s : State) (steps : ℕ) (state : State) (reports : List Report) (made taken left : ℕ)
      (y : So-far s (in_row x) (may_be_more x) steps state reports made taken left) (m : made < 512) (t : taken < 64) (l : 0 < left) where
    abbrev coming : Arrival
    coming = get_or x.row taken no_arrival

    pub took :
        (ltb taken x.length && due state.segment.clock.0 coming) ≡ true → (admission : Admission)
        → admission ≡ admission_result (coded_admit state (asks coming)) → (r : Report) → r ≡ arrival_report state coming admission.answer
        → So-far s (in_row x) (may_be_more x) steps admission.state (set reports made r) (made + 1) (taken + 1) left
    took e admission f r g =
        let now! = and-true (ltb taken x.length) (due state.segment.clock.0 coming) e in
        let there = ltb-true taken x.length now!.0 in
        let is = row_at taken there in
        one_arrival s (in_row x) (may_be_more x) steps state reports made taken left y m l (row_there taken there t)
        (ap (due state.segment.clock.0) is ∙ now!.1)
        r
        admission.state
        (g
        ∙ ap (λ (o : Admission). arrival_report state coming o.answer) f
        ∙ ap (λ (o : Arrival). arrival_report state o (coded_admit state (asks o)).0) (sym is))
        (ap (λ (o : Admission). o.state) f ∙ ap (λ (o : Arrival). (coded_admit state (asks o)).1) (sym is))

    pub stepped_on :
        (ltb taken x.length && due state.segment.clock.0 coming) ≡ false → (stepped : Stepped)
        → stepped ≡ step_result (coded_step state) → (r : Report) → r ≡ step_report state stepped.answer
        → So-far s (in_row x) (may_be_more x) steps stepped.state (set reports made r) (made + 1) taken (left - 1)
    stepped_on e stepped f r g =
        one-step s (in_row x) (may_be_more x) steps state reports made taken left y m l (row_waits state taken t e)
        r
        stepped.state
        (g ∙ ap (λ (o : Stepped). step_report state o.answer) f)
        (ap (λ (o : Stepped). o.state) f)
