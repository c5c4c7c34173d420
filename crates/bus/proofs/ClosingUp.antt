-- Packets leave queues: those that stay close up, in one queue and so in the queues of a range of stations. Assumes nothing.
use Prim.Native.Nat.{ℕ, zero, suc, ◌+◌, ◌-◌, ◌*◌, ◌≤◌, ◌<◌}
use mathlib.Core.Path.{◌≡◌, refl, sym, ap, ap₂, ◌∙◌, subst}
use mathlib.Core.Bool.{Bool, true, false, ◌&&◌, cond}
use mathlib.Core.List.{List, [], ◌∷◌, ◌++◌, append_assoc, append-nil}
use native.Mathlib.Nat.{add-zero}
use native.Mathlib.Omega.{arith}
use borrow.Author.Tests.{leb-true, le-leb, ltb-true, lt-ltb, eqb-true, eqb-false}
use lib.Dec.{leb, ltb, eqb}
use lib.ListN.{length, get_or, take, drop, set, replicate, length-append, length-take, length-drop, length-replicate}
use lib.ListN.{take-append-drop, replicate-append-replicate}
use lib.Seq.{length-take-le, drop-cons, append_snoc, get_or-drop, get_or_at, set_at, drop_at, take-take, drop-drop, drop-append-le}
use Rattle.rules.specs.Lists.{kept, keep}
use Rattle.rules.proofs.Laws.{clash, and-true, true-and}
use Rattle.bus.specs.Types.{Queues, Queue, Packet}
use Rattle.state.specs.State.{no_packet, places_at, queue_at}
use Rattle.state.specs.Parts.{queue_of, packets_of}
use Rattle.state.proofs.Places.{places_count}
use Rattle.bus.specs.Parts.{queue_form}
use Rattle.bus.specs.Parts.{with_queue}
use Rattle.bus.proofs.QueueLaws.{kept_one, kept_length, kept_room, form_places, with_queue_lengths, queue_of_with}

-- ---- the places from `at` on: each packet is taken out, and one that stays is put back in the first free place

-- one free place more, before free places or after them
free_more : (n : ℕ) (ps : List Packet) → replicate n no_packet ++ no_packet ∷ ps ≡ replicate (suc n) no_packet ++ ps
free_more zero ps = refl
free_more (suc n) ps = ap (λ qs. no_packet ∷ qs) (free_more n ps)

module _ (f : Packet → Bool) (xs : List Packet) (at : ℕ) where
  -- those kept of the first j places
  abbrev pub kept_to : ℕ → List Packet
  kept_to j = keep f (take j (drop at xs))

  -- the places up to there: what stands before the queue, those kept, and free places
  abbrev pub closed_to : ℕ → List Packet
  closed_to j = take at xs ++ kept_to j ++ replicate (j - length (kept_to j)) no_packet

  -- `ys` is `xs` with the first j places gone through, and so many packets kept of them
  abbrev pub ClosedUp : ℕ → List Packet → ℕ → Type 0
  ClosedUp j ys filled = (ys ≡ closed_to j ++ drop (at + j) xs) × (filled ≡ length (kept_to j))

  -- no place
  pub closed_none : ClosedUp 0 xs 0
  closed_none =
      let before = append-nil (take at xs ++ []) ∙ append-nil (take at xs) in
      (sym (ap₂ ◌++◌ before (ap (λ k. drop k xs) (add-zero at)) ∙ take-append-drop at xs), refl)

  -- no more are kept than are gone through
  pub closed_few : (j : ℕ) → length (kept_to j) ≤ j
  closed_few j = omega (arith, kept_length f (take j (drop at xs)), length-take j (drop at xs))

  closed_length : (j : ℕ) → at + j ≤ length xs → length (closed_to j) ≡ at + j
  closed_length j h =
      let free = replicate (j - length (kept_to j)) no_packet in
      omega (
        arith,
        closed_few j,
        length-take-le at xs (omega arith),
        length-append (take at xs ++ kept_to j) free,
        length-append (take at xs) (kept_to j),
        length-replicate (j - length (kept_to j)) no_packet,
      )

  module _ (j : ℕ) (h : at + j < length xs) (ys : List Packet) (filled : ℕ) (closed : ClosedUp j ys filled) where
    abbrev after : List Packet
    after = drop (at + (j + 1)) xs

    -- the next place still has its packet
    rest : drop (at + j) xs ≡ get_or xs (at + j) no_packet ∷ after
    rest =
        let one : suc (at + j) ≡ at + (j + 1) = omega arith in
        drop-cons xs (at + j) no_packet h ∙ ap (λ k. get_or xs (at + j) no_packet ∷ drop k xs) one

    next_at : get_or ys (at + j) no_packet ≡ get_or xs (at + j) no_packet
    next_at =
        ap (λ ps. get_or ps (at + j) no_packet) (closed.0 ∙ ap (λ ps. closed_to j ++ ps) rest)
        ∙ get_or_at (closed_to j) (get_or xs (at + j) no_packet) after no_packet (at + j) (closed_length j (omega arith))

    kept_next : (t : Bool) → f (get_or ys (at + j) no_packet) ≡ t → kept_to (j + 1) ≡ kept_to j ++ kept t (get_or ys (at + j) no_packet) []
    kept_next t e =
        kept_one f (drop at xs) j (omega (arith, length-drop at xs))
        ∙ ap (λ p. kept_to j ++ kept (f p) p []) (get_or-drop at xs j no_packet ∙ sym next_at)
        ∙ ap (λ u. kept_to j ++ kept u (get_or ys (at + j) no_packet) []) e

    -- its packet is taken out
    cleared : set ys (at + j) no_packet ≡ take at xs ++ kept_to j ++ replicate (suc (j - length (kept_to j))) no_packet ++ after
    cleared =
        let before = take at xs ++ kept_to j in
        let free = j - length (kept_to j) in
        ap (λ ps. set ps (at + j) no_packet) (closed.0 ∙ ap (λ ps. closed_to j ++ ps) rest)
        ∙ set_at (closed_to j) (get_or xs (at + j) no_packet) after no_packet (at + j) (closed_length j (omega arith))
        ∙ append_assoc before (replicate free no_packet) (no_packet ∷ after)
        ∙ ap (λ ps. before ++ ps) (free_more free after)
        ∙ sym (append_assoc before (replicate (suc free) no_packet) after)

    -- a packet that leaves
    pub closed_leaves : f (get_or ys (at + j) no_packet) ≡ false → ClosedUp (j + 1) (set ys (at + j) no_packet) filled
    closed_leaves no! =
        let same = kept_next false no! ∙ append-nil (kept_to j) in
        let n = ap length same in
        let free : suc (j - length (kept_to j)) ≡ j + 1 - length (kept_to (j + 1)) = omega (arith, closed_few j) in (
          cleared ∙ ap₂ (λ ks m. take at xs ++ ks ++ replicate m no_packet ++ after) (sym same) free,
          closed.1 ∙ sym n,
        )

    -- one that stays
    pub closed_stays :
        f (get_or ys (at + j) no_packet) ≡ true
        → ClosedUp (j + 1) (set (set ys (at + j) no_packet) (at + filled) (get_or ys (at + j) no_packet)) (filled + 1)
    closed_stays yes! =
        let p = get_or ys (at + j) no_packet in
        let before = take at xs ++ kept_to j in
        let more = kept_next true yes! in
        let n = ap length more ∙ length-append (kept_to j) (p ∷ []) in
        let free = replicate (j - length (kept_to j)) no_packet in
        let left : j - length (kept_to j) ≡ j + 1 - length (kept_to (j + 1)) = omega (arith, closed_few j) in
        let place : length before ≡ at + filled = omega (arith, closed.1, length-append (take at xs) (kept_to j), length-take-le at xs (omega arith)) in (
          ap (λ ps. set ps (at + filled) p) (cleared ∙ append_assoc before (no_packet ∷ free) after)
              ∙ set_at before no_packet (free ++ after) p (at + filled) place
              ∙ sym (append_snoc before p (free ++ after))
              ∙ ap (λ ps. ps ++ (free ++ after)) (append_assoc (take at xs) (kept_to j) (p ∷ []))
              ∙ sym (append_assoc (take at xs ++ (kept_to j ++ (p ∷ []))) free after)
              ∙ ap₂ (λ ks m. take at xs ++ ks ++ replicate m no_packet ++ after) (sym more) left,
          omega (arith, closed.1, n),
        )

-- All packets of station i are gone through, and its length is set: those kept are its queue.
pub closed_all :
    (f : Packet → Bool) (qs next : Queues) (i filled : ℕ) → i < 64 → length qs.packets ≡ 1024 → queue_of qs i ≡ queue_form (queue_at qs i)
    → ClosedUp f qs.packets (16 * i) (get_or qs.lengths i 0) next.packets filled → next.lengths ≡ set qs.lengths i filled
    → next ≡ with_queue qs i (queue_form (keep f (queue_at qs i)))
closed_all f qs next i filled here row form closed lengths =
    λ k. record { lengths = counts k; packets = places k }
  where
    xs : List Packet
    xs = qs.packets

    n : ℕ
    n = get_or qs.lengths i 0

    stay : List Packet
    stay = kept_to f xs (16 * i) n

    long : n ≡ length (queue_at qs i)
    long = ap (λ (queue : Queue). queue.length) form

    room : n ≤ 16
    room = omega (arith, long, length-take n (places_at qs i), places_count qs i here row)

    same : keep f (queue_at qs i) ≡ stay
    same = ap (keep f) (take-take n 16 (drop (16 * i) xs) room)

    counts : next.lengths ≡ set qs.lengths i (length (keep f (queue_at qs i)))
    counts = lengths ∙ ap (set qs.lengths i) (closed.1 ∙ ap length (sym same))

    -- the places past its packets are free
    past : drop (16 * i + n) xs ≡ replicate (16 - n) no_packet ++ drop (16 * i + 16) xs
    past =
        let free = replicate (16 - length (queue_at qs i)) no_packet in
        sym (drop-drop n (16 * i) xs)
        ∙ ap (drop n) (sym (take-append-drop 16 (drop (16 * i) xs)))
        ∙ drop-append-le n (places_at qs i) (drop 16 (drop (16 * i) xs)) (omega (arith, room, places_count qs i here row))
        ∙ ap₂ ◌++◌
        (ap (λ (queue : Queue). drop n queue.packets) form
        ∙ drop_at (queue_at qs i) free n (sym long)
        ∙ ap (λ k. replicate (16 - k) no_packet) (sym long))
        (drop-drop 16 (16 * i) xs)

    places : next.packets ≡ take (16 * i) xs ++ (queue_form (keep f (queue_at qs i))).packets ++ drop (16 * i + 16) xs
    places =
        let before = take (16 * i) xs in
        let freed = replicate (n - length stay) no_packet in
        let free : n - length stay + (16 - n) ≡ 16 - length stay = omega (arith, room, closed_few f xs (16 * i) n) in
        closed.0
        ∙ ap (λ ps. before ++ stay ++ freed ++ ps) past
        ∙ sym (append_assoc (before ++ stay ++ freed) (replicate (16 - n) no_packet) (drop (16 * i + 16) xs))
        ∙ ap
        (λ ps. ps ++ drop (16 * i + 16) xs)
        (append_assoc (before ++ stay) freed (replicate (16 - n) no_packet)
        ∙ ap (λ ps. before ++ stay ++ ps) (replicate-append-replicate (n - length stay) (16 - n) no_packet ∙ ap (λ k. replicate k no_packet) free)
        ∙ append_assoc before stay (replicate (16 - length stay) no_packet))
        ∙ ap (λ ps. before ++ (queue_form ps).packets ++ drop (16 * i + 16) xs) (sym same)

-- ---- the queues of a range of stations

-- two tests that hold together are the same
same_test : (a b : Bool) → (a ≡ true → b ≡ true) → (b ≡ true → a ≡ true) → a ≡ b
same_test true b there back = sym (there refl)
same_test false true there back = back refl
same_test false false there back = refl

-- station j is in the range
abbrev pub in_range : ℕ → ℕ → ℕ → Bool
in_range from to j = leb from j && ltb j to

pub range_tells : (from to j : ℕ) → in_range from to j ≡ true → (from ≤ j) × (j < to)
range_tells from to j e = let both = and-true (leb from j) (ltb j to) e in (leb-true from j both.0, ltb-true j to both.1)

range_told : (from to j : ℕ) → from ≤ j → j < to → in_range from to j ≡ true
range_told from to j h k = true-and (le-leb from j h) (lt-ltb j to k)

-- two ranges that hold station j together
range_same :
    (from to to' j : ℕ) → (from ≤ j → j < to → j < to') → (from ≤ j → j < to' → j < to) → in_range from to j ≡ in_range from to' j
range_same from to to' j there back =
    same_test
    (in_range from to j)
    (in_range from to' j)
    (λ e. let both = range_tells from to j e in range_told from to' j both.0 (there both.0 both.1))
    (λ e. let both = range_tells from to' j e in range_told from to j both.0 (back both.0 both.1))

-- a range that does not hold station j
range_out : (from to j : ℕ) → (from ≤ j → j < to → ⊥) → in_range from to j ≡ false
range_out from to j out =
    same_test
    (in_range from to j)
    false
    (λ e. let both = range_tells from to j e in absurd (out both.0 both.1))
    (λ e. clash e refl)

-- the queue of station j, without the packets that leave, if so
abbrev pub queue_if : Bool → (Packet → Bool) → Queues → ℕ → Queue
queue_if t f qs j = cond t (queue_form (keep f (queue_at qs j))) (queue_of qs j)

-- `next` has the queues of `qs`, of the stations from `from` on and before `to` without the packets that leave
abbrev pub LeftIn : (Packet → Bool) → Queues → ℕ → ℕ → Queues → Type 0
LeftIn f qs from to next = (j : ℕ) → j < 64 → queue_of next j ≡ queue_if (in_range from to j) f qs j

module _ (f : Packet → Bool) (qs : Queues) (from : ℕ) where
  -- no station
  pub left_none : LeftIn f qs from from qs
  left_none j l = ap (λ t. queue_if t f qs j) (sym (range_out from from j (λ a b. omega arith)))

  -- the queues of the stations in the range, and those of the others
  pub left_in :
      (to : ℕ) (next : Queues) → LeftIn f qs from to next → (j : ℕ) → j < 64 → from ≤ j → j < to
      → queue_of next j ≡ queue_form (keep f (queue_at qs j))
  left_in to next left j l h k = left j l ∙ ap (λ t. queue_if t f qs j) (range_told from to j h k)

  pub left_out :
      (to : ℕ) (next : Queues) → LeftIn f qs from to next → (j : ℕ) → j < 64 → (from ≤ j → j < to → ⊥) → queue_of next j ≡ queue_of qs j
  left_out to next left j l out = left j l ∙ ap (λ t. queue_if t f qs j) (range_out from to j out)

  -- station i, which comes next, still has its queue, and it is the form of its packets
  pub left_here : (i : ℕ) (next : Queues) → i < 64 → LeftIn f qs from i next → queue_of next i ≡ queue_of qs i
  left_here i next h left = left_out i next left i h (λ a b. omega arith)

  pub left_formed :
      (i : ℕ) (next : Queues) → i < 64 → LeftIn f qs from i next → queue_of qs i ≡ queue_form (queue_at qs i)
      → queue_of next i ≡ queue_form (queue_at next i)
  left_formed i next h left form =
      let same = left_here i next h left in same ∙ form ∙ ap (λ (queue : Queue). queue_form (packets_of queue)) (sym same)

  -- one station more
  module _
      (i : ℕ) (next : Queues) (h : from ≤ i) (k : i < 64) (ls : length next.lengths ≡ 64) (ps : length next.packets ≡ 1024)
      (room : get_or next.lengths i 0 ≤ 16) (left : LeftIn f qs from i next)
    where
      abbrev stay : List Packet
      stay = keep f (queue_at next i)

      full : length (queue_form stay).packets ≡ 16
      full = form_places stay (kept_room f next i room)

      one_more : LeftIn f qs from (i + 1) (with_queue next i (queue_form stay))
      one_more j l = queue_of_with next i j (queue_form stay) k l ls ps full ∙ go (eqb j i) refl
        where
          go : (t : Bool) → eqb j i ≡ t → cond t (queue_form stay) (queue_of next j) ≡ queue_if (in_range from (i + 1) j) f qs j
          go true e =
              let same = eqb-true j i e in
              ap (λ (queue : Queue). queue_form (keep f (packets_of queue))) (left_here i next k left)
              ∙ ap (λ m. queue_form (keep f (queue_at qs m))) (sym same)
              ∙ ap (λ t. queue_if t f qs j) (sym (range_told from (i + 1) j (omega arith) (omega arith)))
          go false e =
              let other = eqb-false j i e in
              left j l ∙ ap (λ t. queue_if t f qs j) (range_same from i (i + 1) j (λ a b. omega arith) (λ a b. omega arith))

      pub left_more :
          (after : Queues) → after ≡ with_queue next i (queue_form stay)
          → (length after.lengths ≡ 64) × (length after.packets ≡ 1024) × LeftIn f qs from (i + 1) after
      left_more after e =
          let n = with_queue_lengths next i (queue_form stay) k ls ps full in
          subst
          (λ rs. (length rs.lengths ≡ 64) × (length rs.packets ≡ 1024) × LeftIn f qs from (i + 1) rs)
          (sym e)
          (n.0, n.1, one_more)

  -- all of them
  pub left_all : (i to : ℕ) (next : Queues) → to ≤ i → i ≤ from + (to - from) → LeftIn f qs from i next → LeftIn f qs from to next
  left_all i to next h k left j l =
      left j l ∙ ap (λ t. queue_if t f qs j) (range_same from i to j (λ a b. omega arith) (λ a b. omega arith))
