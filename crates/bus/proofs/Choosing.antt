-- The search for a station's offer: of the best so far and those left one may be looked at first, ranks tell the order of offers, in RTVC the
-- first packet is the one, and where the packet offered is in time all are. Assumes nothing.
use Prim.Native.Nat.{ℕ, zero, suc, ◌^◌, ◌≤◌, ◌<◌}
use mathlib.Core.Path.{◌≡◌, refl, sym, ap, ◌∙◌, subst}
use mathlib.Core.Logic.{◌⊎◌, inl, inr}
use mathlib.Core.Bool.{Bool, true, false, cond}
use mathlib.Core.Option.{Option, none, some}
use mathlib.Core.List.{List, [], ◌∷◌}
use native.Mathlib.Omega.{arith}
use lib.Dec.{ltb}
use lib.ListN.{take}
use borrow.Author.Tests.{ltb-false, lt-ltb, le-ltb}
use Rattle.rules.specs.Lists.{Among, All}
use Rattle.rules.specs.declared.Discipline.{Discipline}
use Rattle.rules.specs.declared.Discipline.TheVariants.{PRI, RTDG, RTVC}
use Rattle.rules.specs.Bus.{late}
use Rattle.rules.specs.Standing.{Rising}
use Rattle.rules.specs.Begin.{smaller, goes_before, chosen, choice}
use Rattle.rules.specs.Demands.{Before}
use Rattle.rules.proofs.Laws.{all_nil, all_cons}
use Rattle.rules.proofs.Tests.{Whether, holds, fails, both, one_of, below, equal}
use Rattle.rules.proofs.Offers.{ChosenOf, chosen_first}
use Rattle.rules.proofs.Circuit.{oldest_chosen}
use Rattle.bus.specs.Types.{Packet}
use Rattle.bus.specs.Parts.{rank_of, looked_of}

-- ---- the order of offers can be chained, and so can its denial

-- the lower value, or the lower number of equal values
abbrev Lower : Packet → Packet → Type 0
Lower p q = (p.value < q.value) ⊎ ((p.value ≡ q.value) × (p.number < q.number))

lower_chained : (p q r : Packet) → Lower p q → Lower q r → Lower p r
lower_chained p q r (inl a) (inl b) = inl (omega arith)
lower_chained p q r (inl a) (inr b) = inl (let e = b.0 in omega arith)
lower_chained p q r (inr a) (inl b) = inl (let e = a.0 in omega arith)
lower_chained p q r (inr a) (inr b) = inr (a.0 ∙ b.0, let l = a.1 in let m = b.1 in omega arith)

not_lower_chained : (p q r : Packet) → ¬ Lower p q → ¬ Lower q r → ¬ Lower p r
not_lower_chained p q r m n (inl a) =
    let f : ¬ (p.value < q.value) = λ l. m (inl l) in
    let g : ¬ (q.value < r.value) = λ l. n (inl l) in
    omega arith
not_lower_chained p q r m n (inr a) =
    let e = a.0 in
    let f : ¬ (p.value < q.value) = λ l. m (inl l) in
    let g : ¬ (q.value < r.value) = λ l. n (inl l) in
    let same : p.value ≡ q.value = omega arith in
    let f' : ¬ (p.number < q.number) = λ l. m (inr (same, l)) in
    let g' : ¬ (q.number < r.number) = λ l. n (inr (sym same ∙ e, l)) in
    let l = a.1 in
    omega arith

-- what `goes_before` tests
abbrev Goes : Discipline → Packet → Packet → Type 0
Goes PRI p q = Lower p q
Goes RTDG p q = Lower p q
Goes RTVC p q = p.number < q.number

lower_whether : (p q : Packet) → Whether (Lower p q) (smaller p q)
lower_whether p q = one_of (below p.value q.value) (both (equal p.value q.value) (below p.number q.number))

goes_whether : (d : Discipline) (p q : Packet) → Whether (Goes d p q) (goes_before d p q)
goes_whether PRI p q = lower_whether p q
goes_whether RTDG p q = lower_whether p q
goes_whether RTVC p q = below p.number q.number

goes_chained : (d : Discipline) (p q r : Packet) → Goes d p q → Goes d q r → Goes d p r
goes_chained PRI p q r a b = lower_chained p q r a b
goes_chained RTDG p q r a b = lower_chained p q r a b
goes_chained RTVC p q r a b = omega arith

not_goes_chained : (d : Discipline) (p q r : Packet) → ¬ Goes d p q → ¬ Goes d q r → ¬ Goes d p r
not_goes_chained PRI p q r m n a = not_lower_chained p q r m n a
not_goes_chained RTDG p q r m n a = not_lower_chained p q r m n a
not_goes_chained RTVC p q r m n a = omega arith

-- ---- so of the best so far and those left, one of them may be looked at first

-- a test of one of two packets
test_of : (test : Packet → Bool) (t : Bool) (p q : Packet) → test (cond t p q) ≡ cond t (test p) (test q)
test_of test true p q = refl
test_of test false p q = refl

pub better_first :
    (d : Discipline) (best p : Packet) (rest : Option Packet)
    → chosen d best (chosen d p rest) ≡ chosen d (cond (goes_before d p best) p best) rest
better_first d best p none = refl
better_first d best p (some q) =
    ap some
    (ap (λ t. cond t (cond (goes_before d q p) q p) best) (test_of (λ r. goes_before d r best) (goes_before d q p) q p)
    ∙ go (goes_whether d q p) (goes_whether d p best) (goes_whether d q best)
    ∙ sym (ap (λ t. cond t q (cond (goes_before d p best) p best)) (test_of (goes_before d q) (goes_before d p best) p best)))
  where
    go :
        {t u v : Bool} → Whether (Goes d q p) t → Whether (Goes d p best) u → Whether (Goes d q best) v
        → cond (cond t v u) (cond t q p) best ≡ cond (cond u t v) q (cond u p best)
    go (holds a) (holds b) (holds c) = refl
    go (holds a) (holds b) (fails n) = absurd (n (goes_chained d q p best a b))
    go (holds a) (fails m) w = refl
    go (fails l) (holds b) w = refl
    go (fails l) (fails m) (holds c) = absurd (not_goes_chained d q p best l m c)
    go (fails l) (fails m) (fails n) = refl

-- ---- the order as ranks, of packets whose numbers have 32 bits

rank_whether : (p q : Packet) → p.number < 2 ^ 32 → q.number < 2 ^ 32 → Whether (rank_of p < rank_of q) (smaller p q)
rank_whether p q a b = go (lower_whether p q)
  where
    go : {t : Bool} → Whether (Lower p q) t → Whether (rank_of p < rank_of q) t
    go (holds (inl l)) = holds (omega arith)
    go (holds (inr l)) = let e = l.0 in let m = l.1 in holds (omega arith)
    go (fails n) =
        fails
        (λ l.
        let f : ¬ (p.value < q.value) = λ k. n (inl k) in
        let g : p.value ≡ q.value → ¬ (p.number < q.number) = λ e k. n (inr (e, k)) in
        apart f g l)
      where
        apart : ¬ (p.value < q.value) → (p.value ≡ q.value → ¬ (p.number < q.number)) → rank_of p < rank_of q → ⊥
        apart f g l = let e : p.value ≡ q.value = omega arith in let k = g e in omega arith

same_test : {t : Bool} (p q : ℕ) → Whether (p < q) t → t ≡ ltb p q
same_test p q (holds l) = sym (lt-ltb p q l)
same_test p q (fails n) = sym (le-ltb p q (omega arith))

pub rank_tells :
    (d : Discipline) → ¬ (d ≡ RTVC) → (p q : Packet) → p.number < 2 ^ 32 → q.number < 2 ^ 32
    → goes_before d p q ≡ ltb (rank_of p) (rank_of q)
rank_tells PRI n p q a b = same_test (rank_of p) (rank_of q) (rank_whether p q a b)
rank_tells RTDG n p q a b = same_test (rank_of p) (rank_of q) (rank_whether p q a b)
rank_tells RTVC n p q a b = absurd (n refl)

-- ---- numbers of a rising queue

rising_le : (n m : ℕ) (queue : List Packet) → Rising n m queue → n ≤ m
rising_le n m [] h = h
rising_le n m (p ∷ queue) h = let a = h.0 in let b = rising_le p.number m queue h.1 in omega arith

pub numbers_at_most : (n m : ℕ) (queue : List Packet) → Rising n m queue → All (λ p. p.number ≤ m) queue
numbers_at_most n m [] h = all_nil (λ p. p.number ≤ m)
numbers_at_most n m (p ∷ queue) h = all_cons p (rising_le p.number m queue h.1) (numbers_at_most p.number m queue h.1)

-- ---- how many packets are looked at

-- the choice among those looked at is the choice among all
pub looked_choice :
    (d : Discipline) (len looked m : ℕ) (ps : List Packet) → looked ≡ looked_of d len → 0 < len → Rising 0 m (take len ps)
    → choice d (take looked ps) ≡ choice d (take len ps)
looked_choice PRI len looked m ps e some! rises = ap (λ k. choice PRI (take k ps)) e
looked_choice RTDG len looked m ps e some! rises = ap (λ k. choice RTDG (take k ps)) e
looked_choice RTVC len looked m ps e some! rises = ap (λ k. choice RTVC (take k ps)) e ∙ go len ps some! rises
  where
    go : (k : ℕ) (qs : List Packet) → 0 < k → Rising 0 m (take k qs) → choice RTVC (take 1 qs) ≡ choice RTVC (take k qs)
    go zero qs l h = absurd (omega arith)
    go (suc k) [] l h = refl
    go (suc k) (q ∷ qs) l h = sym (oldest_chosen 0 m q (take k qs) h)

-- ---- where the packet offered is in time all are

pub in_time_all :
    (d : Discipline) (clock : ℕ) (ps : List Packet) (q : Packet) → choice d ps ≡ some q → late d clock q.value ≡ false
    → (p : Packet) → Among p ps → late d clock p.value ≡ false
in_time_all PRI clock ps q e h p i = refl
in_time_all RTVC clock ps q e h p i = refl
in_time_all RTDG clock ps q e h p i =
    let first = (subst (ChosenOf RTDG ps) e (chosen_first RTDG ps)).1 p i in
    le-ltb p.value clock (earlier first (ltb-false q.value clock h))
  where
    earlier : Before RTDG q p → clock ≤ q.value → clock ≤ p.value
    earlier (inl l) k = omega arith
    earlier (inr l) k = let e = l.0 in omega arith
