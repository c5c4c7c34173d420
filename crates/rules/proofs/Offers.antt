-- What a station offers as a contention begins: of its packets in time the one that goes before every other. Assumes nothing.
use Prim.Native.Nat.{ℕ, ◌≤◌, ◌<◌}
use mathlib.Core.Path.{◌≡◌, refl, sym, ◌∙◌, subst}
use mathlib.Core.Logic.{◌⊎◌, inl, inr}
use mathlib.Core.Bool.{Bool, true, false, not, cond}
use mathlib.Core.Option.{Option, none, some}
use mathlib.Core.List.{List, [], ◌∷◌}
use native.Mathlib.Omega.{arith}
use Rattle.rules.specs.Lists.{Among, at_head, in_tail, All}
use Rattle.rules.specs.Bus.{Discipline, PRI, RTDG, RTVC, Packet, late, Station, Bus}
use Rattle.rules.specs.Conditions.{Late}
use Rattle.rules.specs.Begin.{smaller, goes_before, chosen, choice, parameter_of, sits_out, offers, in_time}
use Rattle.rules.specs.Demands.{Smaller, Before, SitsOut, OffersBy, OffersTheFirst}
use Rattle.rules.proofs.Laws.{clash, among_none, all_cons, keep_from, keep_into}
use Rattle.rules.proofs.Tests.{Whether, holds, fails, stable, tells, told, negated, both, one_of, below, at_most, equal}
use Rattle.rules.proofs.Standing.{late_whether}

-- ---- the order of offers: the test tells which of two goes before the other, and the order can be chained

-- the lower value, or the lower number of equal values
abbrev Lower : Packet → Packet → Type 0
Lower p q = (p.value < q.value) ⊎ ((p.value ≡ q.value) × (p.number < q.number))

smaller_tells : (p q : Packet) → cond (smaller p q) (Smaller p q) (Smaller q p)
smaller_tells p q =
    go (one_of (below p.value q.value) (both (equal p.value q.value) (below p.number q.number))) (below q.value p.value)
  where
    so : Lower p q → Smaller p q
    so (inl l) = inl l
    so (inr e) = inr (e.0, omega arith)

    neither : ¬ Lower p q → ¬ (q.value < p.value) → Smaller q p
    neither n m =
        let level : ¬ (p.value < q.value) = λ l. n (inl l) in
        let same : p.value ≡ q.value = omega arith in
        let later : ¬ (p.number < q.number) = λ l. n (inr (same, l)) in
        inr (sym same, omega arith)

    go : {t u : Bool} → Whether (Lower p q) t → Whether (q.value < p.value) u → cond t (Smaller p q) (Smaller q p)
    go (holds f) w = so f
    go (fails n) (holds l) = inl l
    go (fails n) (fails m) = neither n m

before_tells : (d : Discipline) (p q : Packet) → cond (goes_before d p q) (Before d p q) (Before d q p)
before_tells PRI p q = smaller_tells p q
before_tells RTDG p q = smaller_tells p q
before_tells RTVC p q = go (below p.number q.number)
  where
    go : {t : Bool} → Whether (p.number < q.number) t → cond t (p.number ≤ q.number) (q.number ≤ p.number)
    go (holds l) = omega arith
    go (fails n) = omega arith

before_itself : (d : Discipline) (p : Packet) → Before d p p
before_itself PRI p = inr (refl, omega arith)
before_itself RTDG p = inr (refl, omega arith)
before_itself RTVC p = omega arith

smaller_chained : (p q r : Packet) → Smaller p q → Smaller q r → Smaller p r
smaller_chained p q r (inl a) (inl b) = inl (omega arith)
smaller_chained p q r (inl a) (inr b) = inl (let e = b.0 in omega arith)
smaller_chained p q r (inr a) (inl b) = inl (let e = a.0 in omega arith)
smaller_chained p q r (inr a) (inr b) = inr (a.0 ∙ b.0, let l = a.1 in let m = b.1 in omega arith)

before_chained : (d : Discipline) (p q r : Packet) → Before d p q → Before d q r → Before d p r
before_chained PRI p q r a b = smaller_chained p q r a b
before_chained RTDG p q r a b = smaller_chained p q r a b
before_chained RTVC p q r a b = omega arith

-- ---- the packet chosen

-- of these packets p goes before every other; there is no choice among none
abbrev pub ChosenOf : Discipline → List Packet → Option Packet → Type 0
ChosenOf d queue none = queue ≡ []
ChosenOf d queue (some p) = Among p queue × All (Before d p) queue

pub chosen_first : (d : Discipline) (queue : List Packet) → ChosenOf d queue (choice d queue)
chosen_first d [] = refl
chosen_first d (p ∷ queue) = go (choice d queue) (chosen_first d queue)
  where
    of_two :
        (q : Packet) (t : Bool) → cond t (Before d q p) (Before d p q) → Among q queue × All (Before d q) queue
        → ChosenOf d (p ∷ queue) (some (cond t q p))
    of_two q true b h = (in_tail h.0, all_cons p b h.1)
    of_two q false b h = (at_head refl, all_cons p (before_itself d p) (λ r i. before_chained d p q r b (h.1 r i)))

    go : (c : Option Packet) → ChosenOf d queue c → ChosenOf d (p ∷ queue) (chosen d p c)
    go none e = (at_head refl, all_cons p (before_itself d p) (λ r i. absurd (among_none (subst (Among r) e i))))
    go (some q) h = of_two q (goes_before d q p) (before_tells d q p) h

-- ---- what a station offers

-- the test of who sits out, and the condition
sits_whether : (d : Discipline) (last : Option ℕ) (capability : ℕ) → Whether (SitsOut d last capability) (sits_out d last capability)
sits_whether PRI last capability = fails (λ h. h)
sits_whether RTDG last capability = fails (λ h. h)
sits_whether RTVC none capability = fails (λ h. h)
sits_whether RTVC (some winner) capability = at_most capability winner

module _ (b : Bus) (s : Station) where
  -- a packet is in time, by the test and by the condition
  on_time : (p : Packet) → Whether (¬ Late b.discipline b.clock p.value) (not (late b.discipline b.clock p.value))
  on_time p = negated (late_whether b.discipline b.clock p.value)

  -- of a queue none of which is in time all are late
  none_in_time : in_time b s ≡ [] → All (λ p. Late b.discipline b.clock p.value) s.queue
  none_in_time e p i = stable (late_whether b.discipline b.clock p.value) (λ n. among_none (subst (Among p) e (keep_into _ s.queue i (told (on_time p) n))))

  offered : (c : Option Packet) → ChosenOf b.discipline (in_time b s) c → OffersBy b s (offers b s c)
  offered none e = inl (none_in_time e)
  offered (some p) h = go (sits_out b.discipline b.last s.capability) refl
    where
      own : Among p s.queue × (not (late b.discipline b.clock p.value) ≡ true)
      own = keep_from (λ q. not (late b.discipline b.clock q.value)) s.queue h.0

      sitting : Whether (SitsOut b.discipline b.last s.capability) (sits_out b.discipline b.last s.capability)
      sitting = sits_whether b.discipline b.last s.capability

      go :
          (t : Bool) → sits_out b.discipline b.last s.capability ≡ t
          → OffersBy b s (cond t none (some (record { parameter = parameter_of b.discipline b s p; packet = p })))
      go true e = inr (tells sitting e)
      go false e =
          record {
            own = own.0;
            on_time = tells (on_time p) own.1;
            first = λ q i n. h.1 q (keep_into _ s.queue i (told (on_time q) n));
            takes_part = λ out. clash (told sitting out) e;
            parameter = refl;
          }

pub offers_the_first : OffersTheFirst
offers_the_first b s = offered b s (choice b.discipline (in_time b s)) (chosen_first b.discipline (in_time b s))
