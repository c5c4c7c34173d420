-- Numbers in queues: how often one stands there, how they rise, and how many packets there are. Assumes nothing.
use Prim.Native.Nat.{ℕ, suc, ◌+◌, ◌≤◌}
use mathlib.Core.Path.{◌≡◌, refl, sym, ap, ◌∙◌, subst}
use mathlib.Core.Bool.{Bool, true, false, ◌&&◌, cond, and-true, and-false}
use mathlib.Core.List.{List, [], ◌∷◌, ◌++◌, map}
use native.Mathlib.Nat.{le_refl}
use native.Mathlib.Omega.{arith}
use lib.Dec.{eqb}
use lib.ListN.{length, length-append}
use borrow.Author.Tests.{eqb-true, eq-eqb, ne_eqb}
use Rattle.rules.specs.Lists.{bit, kept, keep, count, total, Among, at_head, in_tail, All, Distinct}
use Rattle.rules.specs.Bus.{Packet, Station, Bus, waiting, numbers_in, numbers}
use Rattle.rules.specs.Standing.{Rising}
use Rattle.rules.specs.Admission.{Arrival, named, new_packet, queued, joined}
use Rattle.rules.proofs.Laws.{keep_from, length_keep, count-le, count_none, count_mono, count_some, count-append, count_keep, total_among, total_mono, total_none, total_count, total_map, map_into, count_map}

-- ---- distinct numbers are those that stand once at the most

distinct_counts : (n : ℕ) (ns : List ℕ) → Distinct ns → count (eqb n) ns ≤ 1
distinct_counts n [] h = omega arith
distinct_counts n (m ∷ ns) h = go (eqb n m) refl (distinct_counts n ns h.1)
  where
    go : (t : Bool) → eqb n m ≡ t → count (eqb n) ns ≤ 1 → bit t + count (eqb n) ns ≤ 1
    go true e i = rw (eqb-true n m e) (omega (arith, count_none ns (λ k j. ne_eqb m k (λ q. h.0 (subst (λ x. Among x ns) (sym q) j)))))
    go false e i = omega arith

counts_distinct : (ns : List ℕ) → ((n : ℕ) → count (eqb n) ns ≤ 1) → Distinct ns
counts_distinct [] h = tt
counts_distinct (m ∷ ns) h = (
  λ i.
      let self = eq-eqb m m refl in
      absurd (omega (arith, h m, ap bit self, count_some (eqb m) ns i self)),
  counts_distinct ns (λ n. omega (arith, h n)),
)

-- where no two have the same number, at most one has a given one, and two that have it are one
pub one_apart : {X : Type 0} (g : X → ℕ) (n : ℕ) (xs : List X) → Distinct (map g xs) → count (λ x. eqb n (g x)) xs ≤ 1
one_apart g n xs h = rw (count_map (eqb n) g xs) at (distinct_counts n (map g xs) h)

pub same_apart : {X : Type 0} (g : X → ℕ) {x y : X} (xs : List X) → Distinct (map g xs) → Among x xs → Among y xs → g x ≡ g y → x ≡ y
same_apart g [] h i j same = elim i [ ]
same_apart g (z ∷ xs) h (at_head e) (at_head e') same = e ∙ sym e'
same_apart g (z ∷ xs) h (at_head e) (in_tail j) same = absurd (h.0 (subst (λ (n : ℕ). Among n (map g xs)) (sym same ∙ ap g e) (map_into g xs j)))
same_apart g (z ∷ xs) h (in_tail i) (at_head e) same = absurd (h.0 (subst (λ (n : ℕ). Among n (map g xs)) (same ∙ ap g e) (map_into g xs i)))
same_apart g (z ∷ xs) h (in_tail i) (in_tail j) same = same_apart g xs h.1 i j same

-- ---- numbers in queues

-- how many packets a station has: `waiting` is the total of this
abbrev pub held : Station → ℕ
held s = length s.queue

-- how often a number stands in a station's queue
abbrev pub times : ℕ → Station → ℕ
times n s = count (λ p. eqb n p.number) s.queue

count_numbers : (n : ℕ) (stations : List Station) → count (eqb n) (numbers stations) ≡ total (times n) stations
count_numbers n [] = refl
count_numbers n (s ∷ stations) =
    omega (arith, count-append (eqb n) (numbers_in s.queue) (numbers stations), count_map (eqb n) (λ p. p.number) s.queue, count_numbers n stations)

-- a number stands once at the most in one queue
pub times_once : (n : ℕ) {s : Station} (stations : List Station) → Distinct (numbers stations) → Among s stations → times n s ≤ 1
times_once n stations h i = omega (arith, total_among (times n) stations i, count_numbers n stations, distinct_counts n (numbers stations) h)

-- where each queue holds a number no more often than before, none stands twice that did not
pub none_twice_kept :
    (f : Station → Station) (stations : List Station) → All (λ s. (n : ℕ) → times n (f s) ≤ times n s) stations → Distinct (numbers stations)
    → Distinct (numbers (map f stations))
none_twice_kept f stations h d =
    counts_distinct (numbers (map f stations)) (λ n.
    let before = count_numbers n stations in
    let sum = total_map (times n) f stations in
    let fewer = total_mono stations (λ s i. h s i n) in
    omega (arith, count_numbers n (map f stations), distinct_counts n (numbers stations) d))

-- ---- rising numbers

-- a queue that rises, rises from a smaller number too
rising_from : {before before' : ℕ} (admitted : ℕ) (queue : List Packet) → before' ≤ before → Rising before admitted queue → Rising before' admitted queue
rising_from admitted [] l h = omega arith
rising_from admitted (p ∷ queue) l h = let first = h.0 in (omega arith, h.1)

-- what is kept of it rises
rising_keep : (before admitted : ℕ) (test : Packet → Bool) (queue : List Packet) → Rising before admitted queue → Rising before admitted (keep test queue)
rising_keep before admitted test [] h = h
rising_keep before admitted test (p ∷ queue) h = go (test p) (rising_keep p.number admitted test queue h.1)
  where
    go : (t : Bool) → Rising p.number admitted (keep test queue) → Rising before admitted (kept t p (keep test queue))
    go true i = (h.0, i)
    go false i = let first = h.0 in rising_from admitted (keep test queue) (omega arith) i

-- the count of packets admitted grows by one, and a packet of that number may come to the end
pub rising_suc : (before admitted : ℕ) (queue : List Packet) → Rising before admitted queue → Rising before (suc admitted) queue
rising_suc before admitted [] h = omega arith
rising_suc before admitted (p ∷ queue) h = (h.0, rising_suc p.number admitted queue h.1)

pub rising_append :
    (before admitted : ℕ) (p : Packet) (queue : List Packet) → p.number ≡ suc admitted → Rising before admitted queue
    → Rising before (suc admitted) (queue ++ (p ∷ []))
rising_append before admitted p [] e h = (omega arith, omega arith)
rising_append before admitted p (p' ∷ queue) e h = (h.0, rising_append p'.number admitted p queue e h.1)

-- a queue that rises, rises to no less than it rises from
rising_below : (before admitted : ℕ) (queue : List Packet) → Rising before admitted queue → before ≤ admitted
rising_below before admitted [] h = h
rising_below before admitted (p ∷ queue) h = let first = h.0 in omega (arith, rising_below p.number admitted queue h.1)

-- the number after the count of packets admitted is not there yet
pub rising_none : (before admitted : ℕ) (queue : List Packet) → Rising before admitted queue → count (λ p. eqb (suc admitted) p.number) queue ≡ 0
rising_none before admitted [] h = refl
rising_none before admitted (p ∷ queue) h =
    let below = rising_below p.number admitted queue h.1 in
    let other = ne_eqb (suc admitted) p.number (λ (e : suc admitted ≡ p.number). omega arith) in
    omega (arith, ap bit other, rising_none p.number admitted queue h.1)

-- ---- what is left of a queue: no more packets, in order, each from the queue, and no number more often

pub record Fewer (queue queue' : List Packet) : Type 0 where
  pub room : length queue' ≤ length queue
  pub rises : (admitted : ℕ) → Rising 0 admitted queue → Rising 0 admitted queue'
  pub packets : All (λ p. Among p queue) queue'
  pub numbers : (n : ℕ) → count (λ p. eqb n p.number) queue' ≤ count (λ p. eqb n p.number) queue

pub fewer_all : (queue : List Packet) → Fewer queue queue
fewer_all queue = record { room = le_refl _; rises = λ admitted h. h; packets = λ p i. i; numbers = λ n. le_refl _ }

pub fewer_keep : (test : Packet → Bool) (queue : List Packet) → Fewer queue (keep test queue)
fewer_keep test queue =
    record {
      room = rw (length_keep test queue) (count-le test queue);
      rises = λ admitted. rising_keep 0 admitted test queue;
      packets = λ p i. (keep_from test queue i).0;
      numbers = λ n. count_keep (λ p. eqb n p.number) test queue;
    }

-- ---- a packet admitted, at the end of at most one queue

module _ (b : Bus) (a : Arrival) where
  -- one more where it has come, in packets and in packets of its number
  pub joined-held : (s : Station) → held (joined b a s) ≡ held s + bit (named a s)
  joined-held s = go (named a s)
    where
      go : (t : Bool) → held (cond t (queued (new_packet b a) s) s) ≡ held s + bit t
      go true = length-append s.queue (new_packet b a ∷ [])
      go false = omega arith

  joined_times : (n : ℕ) (s : Station) → times n (joined b a s) ≡ times n s + bit (named a s && eqb n (suc b.admitted))
  joined_times n s = go (named a s)
    where
      go : (t : Bool) → times n (cond t (queued (new_packet b a) s) s) ≡ times n s + bit (t && eqb n (suc b.admitted))
      go true = omega (arith, count-append (λ p. eqb n p.number) s.queue (new_packet b a ∷ []))
      go false = omega arith

  pub joined_waiting : (stations : List Station) → waiting (map (joined b a) stations) ≡ waiting stations + count (named a) stations
  joined_waiting stations = total_map held (joined b a) stations ∙ total_count _ _ (named a) stations (λ s i. joined-held s)

  -- its number was nowhere, so that no number stands twice now
  pub joined_none_twice :
      (stations : List Station) → count (named a) stations ≤ 1 → All (λ s. times (suc b.admitted) s ≡ 0) stations → Distinct (numbers stations)
      → Distinct (numbers (map (joined b a) stations))
  joined_none_twice stations one new h =
      counts_distinct (numbers (map (joined b a) stations)) (λ n.
      let here = count_numbers n (map (joined b a) stations) in
      let sum = total_map (times n) (joined b a) stations in
      let more = total_count (λ s. times n (joined b a s)) (times n) (λ s. named a s && eqb n (suc b.admitted)) stations (λ s i. joined_times n s) in
      let most = go n (eqb n (suc b.admitted)) refl in
      omega arith)
    where
      go : (n : ℕ) (t : Bool) → eqb n (suc b.admitted) ≡ t → total (times n) stations + count (λ s. named a s && t) stations ≤ 1
      go n true e =
          let none_yet : total (times n) stations ≡ 0 = rw (eqb-true n (suc b.admitted) e) (total_none stations new) in
          omega (arith, count_mono {test = λ s. named a s && true} {test' = named a} stations (λ s i k. sym (and-true (named a s)) ∙ k))
      go n false e =
          let none-new = count_none {test = λ s. named a s && false} stations (λ s i. and-false (named a s)) in
          omega (arith, count_numbers n stations, distinct_counts n (numbers stations) h)
