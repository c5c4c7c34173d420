-- 'none twice over all queues' (src/numbers.rt): the links along which a number is found among those before it. Assumes nothing.
use Prim.Native.Nat.{ℕ, zero, suc, ◌+◌, ◌-◌, ◌*◌, ◌/◌, ◌%◌, ◌≤◌, ◌<◌}
use mathlib.Core.Path.{◌≡◌, refl, sym, ap, ◌∙◌, subst}
use mathlib.Core.Logic.{◌≢◌, ◌⊎◌, inl, inr}
use mathlib.Core.Bool.{Bool, true, false, not, not-not}
use mathlib.Core.List.{List, [], ◌∷◌, ◌++◌}
use native.Mathlib.Nat.{mod-lt}
use native.Mathlib.Numerals.{add-one}
use native.Mathlib.Omega.{arith}
use lib.Dec.{eqb}
use lib.ListN.{length, get_or, take, set, replicate, length-set}
use lib.Seq.{take-suc, take_all, split_at, get_or-set_same, get_or-set_other}
use borrow.Author.Tests.{eqb-true, eqb-false}
use Rattle.rules.specs.Lists.{distinct, Distinct, Among, at_head, in_tail}
use Rattle.rules.proofs.Laws.{among_none, among_left, among_right, among_append}
use Rattle.rules.proofs.Tests.{told, negated, none_twice}

-- ---- distinct numbers

distinct_more : {x : ℕ} (xs : List ℕ) → Distinct xs → ¬ Among x xs → Distinct (xs ++ (x ∷ []))
distinct_more [] d new = (among_none, tt)
distinct_more {x} (y ∷ xs) d new = (λ i. go (among_append xs i), distinct_more xs d.1 (λ i. new (in_tail i)))
  where
    go : Among y xs ⊎ Among y (x ∷ []) → ⊥
    go (inl i) = d.0 i
    go (inr (at_head e)) = new (at_head (sym e))
    go (inr (in_tail i)) = among_none i

distinct_not : {x : ℕ} (xs ys : List ℕ) → Among x xs → ¬ Distinct (xs ++ (x ∷ ys))
distinct_not [] ys i d = elim i [ ]
distinct_not (y ∷ xs) ys (at_head e) d = d.0 (among_right xs (at_head (sym e)))
distinct_not (y ∷ xs) ys (in_tail i) d = distinct_not xs ys i d.1

-- ---- along the links

-- x is found from a link on: it is the number at the link's place, or is found from that place's link for the next bit on.
pub data Found (numbers links : List ℕ) (x : ℕ) : ℕ → ℕ → Type 0 where
  here : {at rest : ℕ} → 0 < get_or links at 0 → get_or numbers (get_or links at 0 - 1) 0 ≡ x → Found numbers links x at rest
  on :
      {at rest : ℕ} → 0 < get_or links at 0 → Found numbers links x (2046 + 2 * get_or links at 0 + rest % 2) (rest / 2)
      → Found numbers links x at rest

-- x is found along its own bits
abbrev pub Hung : List ℕ → List ℕ → ℕ → Type 0
Hung numbers links x = Found numbers links x (x % 2048) (x / 2048)

-- links that are taken stay
abbrev pub Kept : List ℕ → List ℕ → Type 0
Kept links links' = (at : ℕ) → 0 < get_or links at 0 → get_or links' at 0 ≡ get_or links at 0

found_kept :
    {numbers links links' : List ℕ} {x at rest : ℕ} → Kept links links' → Found numbers links x at rest → Found numbers links' x at rest
found_kept {at = at} k (here h e) = let same = k at h in here {at = at} (omega arith) (rw same e)
found_kept {at = at} {rest = rest} k (on h f) = let same = k at h in on {at = at} {rest = rest} (omega arith) (rw same (found_kept k f))

-- what stands at a link: 0, or one more than the place of a number among the first k, whose own links lie further on
abbrev pub Sound : List ℕ → ℕ → ℕ → ℕ → Type 0
Sound numbers k at link = (link ≤ k) × (0 < link → (at < 2046 + 2 * link) × Among (get_or numbers (link - 1) 0) (take k numbers))

-- The first k numbers differ and are hung: what the loop over the numbers keeps.
pub record Known (numbers links : List ℕ) (k : ℕ) : Type 0 where
  pub differ : Distinct (take k numbers)
  pub hung : (x : ℕ) → Among x (take k numbers) → Hung numbers links x
  pub long : length links ≡ 4096
  pub sound : (at : ℕ) → Sound numbers k at (get_or links at 0)

zeros : (m at : ℕ) → ◌≡◌ {A = ℕ} (get_or (replicate m 0) at 0) 0
zeros zero at = refl
zeros (suc m) zero = refl
zeros (suc m) (suc at) = zeros m at

pub known_start : (numbers : List ℕ) → Known numbers (replicate 4096 0) 0
known_start numbers =
    record {
      differ = tt;
      hung = λ x i. absurd (among_none i);
      long = refl;
      sound = λ at. let z = zeros 4096 at in (omega arith, λ h. absurd (omega arith));
    }

-- all are known
pub known_end : {numbers links : List ℕ} {k : ℕ} → Known numbers links k → length numbers ≤ k → true ≡ distinct numbers
known_end {numbers} {k = k} g h =
    sym (told (none_twice numbers) (subst Distinct (take_all k numbers h) g.differ))

-- The way of number k has come to a link: the number is found from there on if it is known, and from its first link on once it is found
-- from there: what the loop along the links keeps.
pub record Way (numbers links : List ℕ) (k at rest : ℕ) : Type 0 where
  pub known : Known numbers links k
  pub low : at < 2048 + 2 * k
  pub inside : get_or links at 0 ≤ k
  pub onward : Among (get_or numbers k 0) (take k numbers) → Found numbers links (get_or numbers k 0) at rest
  pub back : (links' : List ℕ) → Kept links links' → Found numbers links' (get_or numbers k 0) at rest → Hung numbers links' (get_or numbers k 0)

pub way_start :
    {numbers links : List ℕ} {k : ℕ} → Known numbers links k → Way numbers links k (get_or numbers k 0 % 2048) (get_or numbers k 0 / 2048)
way_start {numbers} {k = k} g =
    record {
      known = g;
      low = omega (arith, mod-lt (get_or numbers k 0) {m = 2048} (omega arith));
      inside = (g.sound (get_or numbers k 0 % 2048)).0;
      onward = g.hung (get_or numbers k 0);
      back = λ links' k f. f;
    }

module _ {numbers links : List ℕ} {k at rest : ℕ} (w : Way numbers links k at rest) where
  -- the number
  abbrev x : ℕ
  x = get_or numbers k 0

  -- the number is known
  pub way_again :
      {link : ℕ} → link ≡ get_or links at 0 → k < length numbers → 0 < link → get_or numbers (link - 1) 0 ≡ get_or numbers k 0
      → false ≡ distinct numbers
  way_again e l h same =
      let before = subst (λ link. 0 < link → get_or numbers (link - 1) 0 ≡ x → Among x (take k numbers)) (sym e) among h same in
      let twice = subst (λ ns. ¬ Distinct ns) (sym (split_at numbers k 0 l)) (distinct_not (take k numbers) _ before) in
      sym (ap not (told (negated (none_twice numbers)) twice)) ∙ not-not (distinct numbers)
    where
      among : 0 < get_or links at 0 → get_or numbers (get_or links at 0 - 1) 0 ≡ x → Among x (take k numbers)
      among h e = subst (λ y. Among y (take k numbers)) e ((w.known.sound at).1 h).1

  -- another number
  pub way_on :
      {link : ℕ} → link ≡ get_or links at 0 → 0 < link → get_or numbers (link - 1) 0 ≢ get_or numbers k 0
      → Way numbers links k (2046 + 2 * link + rest % 2) (rest / 2)
  way_on e =
      subst
      (λ link. 0 < link → get_or numbers (link - 1) 0 ≢ x → Way numbers links k (2046 + 2 * link + rest % 2) (rest / 2))
      (sym e)
      on_from
    where
      on_from :
          0 < get_or links at 0 → get_or numbers (get_or links at 0 - 1) 0 ≢ x
          → Way numbers links k (2046 + 2 * get_or links at 0 + rest % 2) (rest / 2)
      on_from h other =
          record {
            known = w.known;
            low = omega (arith, w.inside, mod-lt rest {m = 2} (omega arith));
            inside = (w.known.sound (2046 + 2 * get_or links at 0 + rest % 2)).0;
            onward = λ i. go (w.onward i);
            back =
                λ links' k f.
                let same = k at h in
                w.back links' k (on {at = at} (omega arith) (rw same f));
          }
        where
          go : Found numbers links x at rest → Found numbers links x (2046 + 2 * get_or links at 0 + rest % 2) (rest / 2)
          go (here h e) = absurd (other e)
          go (on h f) = f

  -- the number is hung at a free link
  pub known_more : at < 4096 → k < length numbers → get_or links at 0 ≡ 0 → Known numbers (set links at (k + 1)) (k + 1)
  known_more h inside free =
      record {
        differ = rw more (distinct_more (take k numbers) w.known.differ (λ i. unfound (w.onward i)));
        hung = λ y i. found y (among_append (take k numbers) (rw more at i));
        long = length-set links at (k + 1) ∙ w.known.long;
        sound = λ a. sound a (eqb a at) refl;
      }
    where
      more : take (k + 1) numbers ≡ take k numbers ++ (x ∷ [])
      more = ap (λ m. take m numbers) (add-one k) ∙ take-suc numbers k 0 inside

      links' : List ℕ
      links' = set links at (k + 1)

      unfound : ¬ Found numbers links x at rest
      unfound (here h e) = omega arith
      unfound (on h f) = omega arith

      stored : get_or links' at 0 ≡ k + 1
      stored = get_or-set_same links at (k + 1) 0 (omega (arith, w.known.long))

      kept : Kept links links'
      kept a h = get_or-set_other links at a (k + 1) 0 (λ e. omega (arith, ap (λ b. get_or links b 0) e))

      itself : k + 1 - 1 ≡ k
      itself = omega arith

      found : (y : ℕ) → Among y (take k numbers) ⊎ Among y (x ∷ []) → Hung numbers links' y
      found y (inl i) = found_kept kept (w.known.hung y i)
      found y (inr (at_head e)) =
          subst (Hung numbers links') (sym e) (w.back links' kept (here {at = at} (omega (arith, stored)) (rw (stored, itself))))
      found y (inr (in_tail i)) = absurd (among_none i)

      sound : (a : ℕ) (t : Bool) → eqb a at ≡ t → Sound numbers (k + 1) a (get_or links' a 0)
      sound a true e =
          rw (eqb-true a at e, stored, itself, more) (omega arith, λ h. (omega (arith, w.low), among_right (take k numbers) (at_head refl)))
      sound a false e =
          let s = w.known.sound a in
          rw
          (get_or-set_other links at a (k + 1) 0 (eqb-false a at e), more)
          (omega arith, λ h. ((s.1 h).0, among_left (x ∷ []) (s.1 h).1))
