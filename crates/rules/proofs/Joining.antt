-- A packet admitted after a begin does not join: the answers of that contention are the same. Assumes nothing.
use Prim.Native.Nat.{ℕ, zero, suc}
use mathlib.Core.Path.{◌≡◌, refl, sym, ap, ap₂, ◌∙◌, subst, subst₂}
use mathlib.Core.Bool.{Bool, true, false, not, ◌&&◌, cond}
use mathlib.Core.Option.{Option, none, some}
use mathlib.Core.List.{List, [], ◌∷◌, ◌++◌, map}
use lib.Dec.{ltb, eqb}
use lib.ListN.{replicate}
use borrow.Author.Tests.{eqb-true, eqb-false}
use Rattle.window.specs.declared.Side.{Side}
use Rattle.window.specs.declared.Side.TheVariants.{Left, Right}
use Rattle.rules.specs.Lists.{keep, first_of}
use Rattle.rules.specs.Bus.{last_slot, Contention, Bus}
use Rattle.rules.specs.Standing.{stands, Standing}
use Rattle.rules.specs.Admission.{Arrival, Admitted, admission_refusal, with_packet, admit, turned_away, handed_back}
use Rattle.rules.specs.Probe.{Answer, Contender, contenders, able, lies_in, transmitters, Open, refused_answer, unheard, heard, probe}
use Rattle.rules.specs.Step.{is_under_way, probe_refusal, open_under_way, probed_in, probe_call}
use Rattle.rules.specs.Engine.{Engine, machine, Call, admission, one-probe, after, reach, answers}
use Rattle.rules.specs.Demands.{Demand2, of_contention, NobodyJoins}
use Rattle.rules.proofs.TurnedAway.{turned_standing, back_cases}
use Rattle.rules.proofs.Tests.{told}
use Rattle.rules.proofs.Standing.{stands_exactly, admission_accepted, admit_is, probe_accepted}
use Rattle.rules.proofs.Refusals.{probed_number}
use Rattle.rules.proofs.Keeps.{turned_stands, keeps_standing}
use Rattle.rules.proofs.Reach.{answers_agree}
use Rattle.rules.proofs.Contenders.{contenders_admitted}

-- two buses on which the same contention is under way, or none
record Alike (b b' : Bus) : Type 0 where
  standing : stands b ≡ stands b'
  discipline : b.discipline ≡ b'.discipline
  A : b.A ≡ b'.A
  clock : b.clock ≡ b'.clock
  contention : b.contention ≡ b'.contention
  contend : contenders b.stations ≡ contenders b'.stations

alike_same : (b : Bus) → Alike b b
alike_same b = record { standing = refl; discipline = refl; A = refl; clock = refl; contention = refl; contend = refl }

alike_both : {a b c : Bus} → Alike a b → Alike b c → Alike a c
alike_both h k =
    record {
      standing = h.standing ∙ k.standing;
      discipline = h.discipline ∙ k.discipline;
      A = h.A ∙ k.A;
      clock = h.clock ∙ k.clock;
      contention = h.contention ∙ k.contention;
      contend = h.contend ∙ k.contend;
    }

-- a packet turned away
turned_alike : (b : Bus) → Standing b → Alike b (turned_away b)
turned_alike b h =
    record {
      standing = told (stands_exactly b) h ∙ sym (told (stands_exactly (turned_away b)) (turned_stands b h));
      discipline = refl;
      A = refl;
      clock = refl;
      contention = refl;
      contend = refl;
    }

-- an admission, refused or not
admitted_alike : (b : Bus) (a : Arrival) → Alike b (admit b a).1
admitted_alike b a = go (eqb (admission_refusal b a) 0) refl
  where
    result : Bool → Admitted × Bus
    result t =
        cond
        t
        (record { refusal = 0; number = suc b.admitted }, with_packet b a)
        (record { refusal = admission_refusal b a; number = 0 }, handed_back b (admission_refusal b a))

    go : (t : Bool) → eqb (admission_refusal b a) 0 ≡ t → Alike b (result t).1
    go true e =
        let ok = eqb-true (admission_refusal b a) 0 e in
        let h : Standing (with_packet b a) = subst (λ (o : Admitted × Bus). Standing o.1) (admit_is b a ok) (keeps_standing.admission b a (ap (λ (o : Admitted × Bus). o.0.refusal) (admit_is b a ok))) in
        record {
          standing = told (stands_exactly b) (admission_accepted b a ok).standing ∙ sym (told (stands_exactly (with_packet b a)) h);
          discipline = refl;
          A = refl;
          clock = refl;
          contention = refl;
          contend = sym (contenders_admitted b a);
        }
    go false e = back_cases (Alike b) b (admission_refusal b a) (λ f. alike_same b) (λ f. turned_alike b (turned_standing b a f))

admissions_alike : (b : Bus) (arrivals : List Arrival) → Alike b (after machine b (map admission arrivals))
admissions_alike b [] = alike_same b
admissions_alike b (a ∷ arrivals) = alike_both (admitted_alike b a) (admissions_alike (admit b a).1 arrivals)

-- their answers are no probes'
admissions_silent :
    (b : Bus) (arrivals : List Arrival) (later : List Call)
    → answers machine b (map admission arrivals ++ later) ≡ answers machine (after machine b (map admission arrivals)) later
admissions_silent b [] later = refl
admissions_silent b (a ∷ arrivals) later = admissions_silent (admit b a).1 arrivals later

-- ---- a probe

-- what is heard of the same contenders
module _ (o o' : Open) (d : o.bus.discipline ≡ o'.bus.discipline) (A : o.bus.A ≡ o'.bus.A) (clock : o.bus.clock ≡ o'.bus.clock)
    (c : o.contention ≡ o'.contention) (drops : o.drops ≡ o'.drops) (xs' : contenders o.bus.stations ≡ contenders o'.bus.stations) where
  -- the answer is the same, and while the contention goes on the buses are, but for whether they stand
  record Same (out out' : Answer × Bus) : Type 0 where
    answer : out.0 ≡ out'.0
    goes_on :
        ¬ (out.0.ended ≡ 1)
        → (out.1.discipline ≡ out'.1.discipline) × (out.1.A ≡ out'.1.A) × (out.1.clock ≡ out'.1.clock)
        × (out.1.contention ≡ out'.1.contention) × (contenders out.1.stations ≡ contenders out'.1.stations)

  silent_same : (side : Side) → Same (unheard o side) (unheard o' side)
  silent_same Left = record { answer = cc; goes_on = λ n. (d, A, ap suc clock, cc, xs') }
  silent_same Right = record { answer = cc; goes_on = λ n. absurd (n refl) }

  heard_same : (xs : List Contender) → Same (heard o xs) (heard o' xs)
  heard_same [] = subst (λ (s : Side). Same (heard o []) (unheard o' s)) (ap (λ (x : Contention). x.window.side) c) (silent_same o.contention.window.side)
  heard_same (x ∷ []) = record { answer = cc; goes_on = λ n. absurd (n refl) }
  heard_same (x ∷ y ∷ more) = record { answer = cc; goes_on = λ n. (d, A, ap suc clock, cc, xs') }

-- one probe of two buses alike: the same answer, and while the contention goes on buses alike
abbrev Together : Answer × Bus → Answer × Bus → Type 0
Together out out' = (out.0 ≡ out'.0) × (¬ (out.0.ended ≡ 1) → Alike out.1 out'.1)

module _ (b b' : Bus) (h : Alike b b') where
  same_refusal : probe_refusal b ≡ probe_refusal b'
  same_refusal = λ i. first_of 0 ((1, not (h.standing i)) ∷ (26, not (is_under_way (h.contention i))) ∷ (17, ltb last_slot (h.clock i)) ∷ [])

  same_transmitters : (c : Contention) → transmitters b c ≡ transmitters b' c
  same_transmitters c = λ i. keep (λ x. lies_in c.window c.tie x && able (h.discipline i) (h.clock i) x) (h.contend i)

  -- both stand after an accepted probe
  both_stand : (probe_call b).0.refusal ≡ 0 → (probe_call b').0.refusal ≡ 0 → stands (probe_call b).1 ≡ stands (probe_call b').1
  both_stand e e' =
      told (stands_exactly (probe_call b).1) (keeps_standing.probe b e) ∙ sym (told (stands_exactly (probe_call b').1) (keeps_standing.probe b' e'))

  probed_same :
      (m : Option Contention) → ¬ (m ≡ none) → stands (probed_in b m).1 ≡ stands (probed_in b' m).1 → Together (probed_in b m) (probed_in b' m)
  probed_same none n standing = absurd (n refl)
  probed_same (some c) n standing =
      let o = open_under_way b c in
      let o' = open_under_way b' c in
      let same =
      subst (λ (xs : List Contender). Same o o' h.discipline h.A h.clock refl refl h.contend (probe o) (heard o' xs)) (same_transmitters c)
      (heard_same o o' h.discipline h.A h.clock refl refl h.contend (transmitters b c)) in (
        same.answer,
        λ goes.
            let on = same.goes_on goes in
            record { standing = standing; discipline = on.0; A = on.1; clock = on.2; contention = on.3; contend = on.4 },
      )

  probe_together : Together (probe_call b) (probe_call b')
  probe_together = go (eqb (probe_refusal b) 0) refl
    where
      result : Bus → Bool → Answer × Bus
      result m t = cond t (probed_in m m.contention) (refused_answer (probe_refusal m), m)

      second : {t : Bool} → eqb (probe_refusal b) 0 ≡ t → probe_call b' ≡ result b' t
      second e = ap (result b') (ap (λ n. eqb n 0) (sym same_refusal) ∙ e)

      go : (t : Bool) → eqb (probe_refusal b) 0 ≡ t → Together (probe_call b) (probe_call b')
      go true e =
          let ok = eqb-true (probe_refusal b) 0 e in
          let ok' : probe_refusal b' ≡ 0 = sym same_refusal ∙ ok in
          let is : probe_call b ≡ probed_in b b.contention = ap (result b) e in
          let is' : probe_call b' ≡ probed_in b' b.contention = second e ∙ sym (ap (probed_in b') h.contention) in
          let standing =
          both_stand (ap (λ (r : Answer × Bus). r.0.refusal) is ∙ probed_number b ok) (ap (λ (r : Answer × Bus). r.0.refusal) (second e) ∙ probed_number b' ok') in
          subst₂ Together (sym is) (sym is')
          (probed_same b.contention (probe_accepted b ok).0
          (subst₂ (λ (r r' : Answer × Bus). stands r.1 ≡ stands r'.1) is is' standing))
      go false e = subst₂ Together (sym (ap (result b) e)) (sym (second e)) (ap refused_answer same_refusal, λ goes. h)

-- so many probes
probes_together :
    (n : ℕ) (b b' : Bus) → Alike b b' → of_contention (answers machine b (replicate n one-probe)) ≡ of_contention (answers machine b' (replicate n one-probe))
probes_together zero b b' h = refl
probes_together (suc n) b b' h = go (eqb (probe_call b).0.ended 1) refl (probe_together b b' h) (probes_together n (probe_call b).1 (probe_call b').1)
  where
    rest : Bus → List Answer
    rest m = of_contention (answers machine m (replicate n one-probe))

    go :
        (t : Bool) → eqb (probe_call b).0.ended 1 ≡ t → Together (probe_call b) (probe_call b')
        → (Alike (probe_call b).1 (probe_call b').1 → rest (probe_call b).1 ≡ rest (probe_call b').1)
        → ((probe_call b).0 ∷ cond (eqb (probe_call b).0.ended 1) [] (rest (probe_call b).1))
        ≡ ((probe_call b').0 ∷ cond (eqb (probe_call b').0.ended 1) [] (rest (probe_call b').1))
    go true e same more =
        ap (λ u. (probe_call b).0 ∷ cond u [] (rest (probe_call b).1)) e
        ∙ ap (λ a. a ∷ []) same.0
        ∙ sym (ap (λ u. (probe_call b').0 ∷ cond u [] (rest (probe_call b').1)) (ap (λ (a : Answer). eqb a.ended 1) (sym same.0) ∙ e))
    go false e same more =
        ap (λ u. (probe_call b).0 ∷ cond u [] (rest (probe_call b).1)) e
        ∙ ap₂ ◌∷◌ same.0 (more (same.1 (eqb-false (probe_call b).0.ended 1 e)))
        ∙ sym (ap (λ u. (probe_call b').0 ∷ cond u [] (rest (probe_call b').1)) (ap (λ (a : Answer). eqb a.ended 1) (sym same.0) ∙ e))

pub nobody_joins : (E : Engine) → Demand2 E → NobodyJoins E
nobody_joins E d r calls arrivals n =
    let b = reach machine r calls in
    ap of_contention (answers_agree E d r calls (map admission arrivals ++ replicate n one-probe))
    ∙ ap of_contention (admissions_silent b arrivals (replicate n one-probe))
    ∙ sym (probes_together n b (after machine b (map admission arrivals)) (admissions_alike b arrivals))
    ∙ sym (ap of_contention (answers_agree E d r calls (replicate n one-probe)))
