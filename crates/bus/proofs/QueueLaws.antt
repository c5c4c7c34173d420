-- One station's queue by its packets, and the row with one queue put back. Assumes nothing.
use Prim.Native.Nat.{ℕ, zero, suc, ◌+◌, ◌-◌, ◌*◌, ◌≤◌, ◌<◌}
use mathlib.Core.Path.{◌≡◌, refl, sym, ap, ap₂, ◌∙◌}
use mathlib.Core.Bool.{Bool, true, false, cond}
use mathlib.Core.List.{List, [], ◌∷◌, ◌++◌, append_assoc}
use native.Mathlib.Numerals.{add-one}
use native.Mathlib.Omega.{arith}
use borrow.Author.Tests.{ltb-true, ltb-false, leb-true, le-leb, eqb-true, eqb-false}
use lib.Dec.{leb, ltb, eqb}
use lib.ListN.{length, get_or, take, drop, set, replicate, length-append, length-take, length-drop, length-set, length-replicate}
use lib.ListN.{take-append-drop}
use lib.Seq.{length-take-le, take-suc, take_at, drop_at, set_at, get_or-set_same, get_or-set_other, drop-drop}
use lib.Seq.{take-append_seam, drop-append_seam, take-append-le, drop-append-le, drop-append-add, append_snoc}
use Rattle.rules.specs.Lists.{kept, keep, each_of}
use Rattle.rules.proofs.Laws.{and-true, true-and, length_keep, count-le}
use Rattle.bus.specs.Types.{Queues, Queue, Packet}
use Rattle.state.specs.State.{no_packet, places_at, queue_at, has_no_packet, queue_padded}
use Rattle.state.specs.Parts.{queue_of, packets_of}
use Rattle.state.proofs.Form.{no_packet_is}
use Rattle.bus.specs.Parts.{queue_form, with_queue}

-- ---- queues by their packets

-- the queue of these places and this length
abbrev pub made : List Packet → ℕ → Queue
made packets n = record { packets = packets; length = n }

-- one packet more takes the first free place
pub form_joined :
    (q : Queue) (ps : List Packet) (p : Packet) → q ≡ queue_form ps → length ps < 16
    → made (set q.packets q.length p) (q.length + 1) ≡ queue_form (ps ++ (p ∷ []))
form_joined q ps p e h =
    let rest = replicate (16 - length (ps ++ (p ∷ []))) no_packet in
    let n = length-append ps (p ∷ []) in
    let free : 16 - length ps ≡ suc (16 - length (ps ++ (p ∷ []))) = omega arith in
    let here = ap (λ k. set (ps ++ replicate k no_packet) (length ps) p) free ∙ set_at ps no_packet rest p (length ps) refl in
    rw e (ap₂ made (here ∙ sym (append_snoc ps p rest)) (sym n))

-- those kept of two lists, one after the other
keep_append : (f : Packet → Bool) (ps qs : List Packet) → keep f (ps ++ qs) ≡ keep f ps ++ keep f qs
keep_append f [] qs = refl
keep_append f (p ∷ ps) qs = go (f p) (keep_append f ps qs)
  where
    go : (t : Bool) → keep f (ps ++ qs) ≡ keep f ps ++ keep f qs → kept t p (keep f (ps ++ qs)) ≡ kept t p (keep f ps) ++ keep f qs
    go true e = ap (λ rs. p ∷ rs) e
    go false e = e

-- those kept of one place more
pub kept_one :
    (f : Packet → Bool) (ps : List Packet) (j : ℕ) → j < length ps
    → keep f (take (j + 1) ps) ≡ keep f (take j ps) ++ kept (f (get_or ps j no_packet)) (get_or ps j no_packet) []
kept_one f ps j h = rw (add-one, take-suc ps j no_packet h) (keep_append f (take j ps) (get_or ps j no_packet ∷ []))

-- no more are kept than were there
pub kept_length : (f : Packet → Bool) (ps : List Packet) → length (keep f ps) ≤ length ps
kept_length f ps = omega (arith, length_keep f ps, count-le f ps)

-- those kept of a queue that has room have room
pub kept_room : (f : Packet → Bool) (qs : Queues) (i : ℕ) → get_or qs.lengths i 0 ≤ 16 → length (keep f (queue_at qs i)) ≤ 16
kept_room f qs i room = omega (arith, kept_length f (queue_at qs i), length-take (get_or qs.lengths i 0) (places_at qs i))

pub packets_of_form : (ps : List Packet) → packets_of (queue_form ps) ≡ ps
packets_of_form ps = take-append_seam ps (replicate (16 - length ps) no_packet)

pub form_places : (ps : List Packet) → length ps ≤ 16 → length (queue_form ps).packets ≡ 16
form_places ps h = simp (length-append, length-replicate) (omega arith)

-- ---- the row with one queue put back

-- a part that ends within the first of two lists
part_front : (xs ys : List Packet) (f m : ℕ) → f + m ≤ length xs → take m (drop f (xs ++ ys)) ≡ take m (drop f xs)
part_front xs ys f m h =
    ap (take m) (drop-append-le f xs ys (omega arith)) ∙ take-append-le m (drop f xs) ys (omega (arith, length-drop f xs))

-- a part that begins after the first of two lists
part_back : (xs ys : List Packet) (f m : ℕ) → length xs ≤ f → take m (drop f (xs ++ ys)) ≡ take m (drop (f - length xs) ys)
part_back xs ys f m h =
    let past : f ≡ length xs + (f - length xs) = omega arith in
    ap (λ k. take m (drop k (xs ++ ys))) past ∙ ap (take m) (drop-append-add xs ys (f - length xs))

module _ (qs : Queues) (i : ℕ) (queue : Queue) (here : i < 64) (row : length qs.packets ≡ 1024) (full : length queue.packets ≡ 16) where
  -- how many places stand before station i's, and how many with them
  front : length (take (16 * i) qs.packets) ≡ 16 * i
  front = length-take-le (16 * i) qs.packets (omega arith)

  front_and_queue : length (take (16 * i) qs.packets ++ queue.packets) ≡ 16 * i + 16
  front_and_queue = omega (arith, front, full, length-append (take (16 * i) qs.packets) queue.packets)

  -- station i has the queue put back
  places_here : places_at (with_queue qs i queue) i ≡ queue.packets
  places_here =
      let before = take (16 * i) qs.packets in
      let after = drop (16 * i + 16) qs.packets in
      ap (λ ps. take 16 (drop (16 * i) ps)) (append_assoc before queue.packets after)
      ∙ ap (take 16) (drop_at before (queue.packets ++ after) (16 * i) front) ∙ take_at queue.packets after 16 full

  -- the stations before it have what they had
  places_before : (j : ℕ) → j < i → places_at (with_queue qs i queue) j ≡ places_at qs j
  places_before j h =
      let before = take (16 * i) qs.packets in
      let after = drop (16 * i + 16) qs.packets in
      let n = front in
      ap (λ ps. take 16 (drop (16 * j) ps)) (append_assoc before queue.packets after)
      ∙ part_front before (queue.packets ++ after) (16 * j) 16 (omega arith)
      ∙ sym (part_front before (drop (16 * i) qs.packets) (16 * j) 16 (omega arith))
      ∙ ap (λ ps. take 16 (drop (16 * j) ps)) (take-append-drop (16 * i) qs.packets)

  -- and so have those after it
  places_after : (j : ℕ) → i < j → places_at (with_queue qs i queue) j ≡ places_at qs j
  places_after j h =
      let both = take (16 * i) qs.packets ++ queue.packets in
      let after = drop (16 * i + 16) qs.packets in
      let n = front_and_queue in
      let there : 16 * i + 16 + (16 * j - length both) ≡ 16 * j = omega arith in
      part_back both after (16 * j) 16 (omega arith)
      ∙ ap (take 16) (drop-drop (16 * j - length both) (16 * i + 16) qs.packets ∙ ap (λ k. drop k qs.packets) there)

-- The row keeps its lengths.
pub with_queue_lengths :
    (qs : Queues) (i : ℕ) (queue : Queue) → i < 64 → length qs.lengths ≡ 64 → length qs.packets ≡ 1024 → length queue.packets ≡ 16
    → (length (with_queue qs i queue).lengths ≡ 64) × (length (with_queue qs i queue).packets ≡ 1024)
with_queue_lengths qs i queue here counts row full =
    let both = take (16 * i) qs.packets ++ queue.packets in
    let n = front_and_queue qs i queue here row full in
    let m = length-drop (16 * i + 16) qs.packets in
    (length-set qs.lengths i queue.length ∙ counts, omega (arith, length-append both (drop (16 * i + 16) qs.packets)))

-- Station j's queue after station i's is put back.
pub queue_of_with :
    (qs : Queues) (i j : ℕ) (queue : Queue) → i < 64 → j < 64 → length qs.lengths ≡ 64 → length qs.packets ≡ 1024
    → length queue.packets ≡ 16 → queue_of (with_queue qs i queue) j ≡ cond (eqb j i) queue (queue_of qs j)
queue_of_with qs i j queue h k ls ps full = go (eqb j i) refl
  where
    elsewhere : (j ≡ i → ⊥) → (t : Bool) → ltb j i ≡ t → places_at (with_queue qs i queue) j ≡ places_at qs j
    elsewhere other true e = places_before qs i queue h ps full j (ltb-true j i e)
    elsewhere other false e = places_after qs i queue h ps full j (omega (arith, ltb-false j i e))

    go : (t : Bool) → eqb j i ≡ t → queue_of (with_queue qs i queue) j ≡ cond t queue (queue_of qs j)
    go true e =
        rw (eqb-true j i e) (ap₂ made (places_here qs i queue h ps full) (get_or-set_same qs.lengths i queue.length 0 (omega arith)))
    go false e =
        ap₂ made (elsewhere (eqb-false j i e) (ltb j i) refl) (get_or-set_other qs.lengths i j queue.length 0 (eqb-false j i e))

-- ---- places that no packet fills, and queues whose other places are such

no_packets : (n : ℕ) → each_of has_no_packet (replicate n no_packet) ≡ true
no_packets zero = refl
no_packets (suc n) = no_packets n

no_packets_are : (ps : List Packet) → each_of has_no_packet ps ≡ true → ps ≡ replicate (length ps) no_packet
no_packets_are [] e = refl
no_packets_are (p ∷ ps) e =
    let a = and-true (has_no_packet p) (each_of has_no_packet ps) e in
    ap₂ ◌∷◌ (no_packet_is p a.0) (no_packets_are ps a.1)

pub form_padded : (ps : List Packet) → length ps ≤ 16 → queue_padded (length ps) (queue_form ps).packets ≡ true
form_padded ps h =
    let free = replicate (16 - length ps) no_packet in
    true-and (le-leb (length ps) 16 h) (ap (each_of has_no_packet) (drop-append_seam ps free) ∙ no_packets (16 - length ps))

pub padded_form_of :
    (queue : Queue) → length queue.packets ≡ 16 → queue_padded queue.length queue.packets ≡ true → queue ≡ queue_form (packets_of queue)
padded_form_of queue full e =
    let free = drop queue.length queue.packets in
    let a = and-true (leb queue.length 16) (each_of has_no_packet free) e in
    let within : queue.length ≤ length queue.packets = omega (arith, leb-true queue.length 16 a.0) in
    let n = length-take-le queue.length queue.packets within in
    let m : length free ≡ 16 - length (packets_of queue) = omega (arith, length-drop queue.length queue.packets) in
    let zeros = no_packets_are free a.1 ∙ ap (λ k. replicate k no_packet) m in
    ap₂ made (sym (take-append-drop queue.length queue.packets) ∙ ap (λ ps. packets_of queue ++ ps) zeros) (sym n)
