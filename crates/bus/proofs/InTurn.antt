-- A turn of the loop of `playing::calls`, by the values that it finds: what its offers, its probe and the winner's queue come to.
-- Assumes nothing.
use Rattle.std.proofs.Common.{ℕ, ◌+◌, ◌-◌, ◌*◌, ◌≤◌, ◌<◌, ◌≡◌, sym, ap, refl, ap₂, ◌∙◌, subst, false, ◌||◌, add-zero, arith, rules, Fits, w64, eqb, length, get_or, set}
use Rattle.std.proofs.Math.Option.{some}
use Rattle.word.specs.Word.{set_at}
use Rattle.rules.specs.Begin.{begin, drops_of, choice, sits_out}
use Rattle.rules.proofs.Standing.{set_up_stands}
use Rattle.bus.specs.Types.{Packet, Contention, Segment, Queues, State}
use Rattle.state.specs.State.{form, recorded_in, nobody, queue_at, meaning, last_of, waiting_in}
use Rattle.bus.specs.Parts.{offers_of, offering_all, AllInTime, opening_of, parameter_for, begun_with, segment_counting}
use Rattle.state.proofs.Stands.{Lent}
use Rattle.bus.proofs.ClosingUp.{LeftIn}
use Rattle.bus.proofs.BeginningLaws.{in_time_at, room_left, late_counted, lost_counted, begun_is, waiting_dropped}
use Rattle.bus.proofs.OffersInPlace.{offering_to, none_leaves, offering_more}
use Rattle.bus.proofs.InPlace.{whole, Opened, begun_open}

-- ---- places of the rows

pub below : (i n : ℕ) → i < n → n ≤ 64 → i < 64
below i n a b = omega arith

pub below_length : (j n : ℕ) → j < n → n ≤ 16 → j < 16
below_length j n a b = omega arith

pub below_of : (j n m : ℕ) → j < n → n ≤ m → j < m
below_of j n m a b = omega arith

pub slot_in : (place k : ℕ) → place < 64 → k < 16 → 16 * place + k < 1024
slot_in place k a b = omega arith

pub slot_fits : (place k : ℕ) → place < 64 → k < 16 → Fits w64 (16 * place + k)
slot_fits place k a b = search rules

pub slot_offset : (place k : ℕ) → place < 64 → k < 16 → Fits w64 ((16 * place + k) * 16)
slot_offset place k a b = search rules

pub within_rows : (i len place : ℕ) → i < 64 → len ≤ 16 → place < 16 * i + len → place < 1024
within_rows i len place a b c = omega arith

pub within_offset : (place : ℕ) → place < 1024 → Fits w64 (place * 16)
within_offset place a = search rules

pub at_end : (j n : ℕ) → j ≤ n → n ≤ j → j ≡ n
at_end j n a b = omega arith

-- ---- a contention begins

-- the segment with a packet recorded at a place
abbrev recorded_on : ℕ → Packet → Segment → ℕ → ℕ → Segment
recorded_on i p x word parameter =
    segment_counting x x.admitted x.lost x.contention (record {
      word = word;
      parameters = set x.parameters i parameter;
      numbers = set x.numbers i p.number;
      values = set x.values i p.value;
      lengths = set x.lengths i p.length;
      admissions = set x.admissions i p.admission;
    })

module _ (s : State) (r : Lent s) where
  pub spaces : (1 ≤ s.segment.settings.q) × (1 ≤ s.segment.settings.d)
  spaces = let stand = set_up_stands (meaning s) r.stands in (stand.q_least, omega (arith, stand.d_least))

  -- a station's offer is recorded
  pub offer_recorded :
      (i : ℕ) (here : i < s.segment.settings.n)
      (offers : (eqb (get_or s.queues.lengths i 0) 0 || sits_out (meaning s).discipline (last_of s.segment.round) (get_or s.segment.listed i nobody).capability.0) ≡ false)
      (p : Packet) → choice (meaning s).discipline (queue_at s.queues i) ≡ some p → (g : Segment) → g ≡ offering_to s i → (word : ℕ)
      → word ≡ set_at g.contenders i → (parameter : ℕ)
      → parameter ≡ parameter_for (meaning s).discipline s.segment.settings s.segment.clock (get_or g.listed i nobody).capability p
      → segment_counting g g.admitted g.lost g.contention (record {
        word = word;
        parameters = set g.parameters i parameter;
        numbers = set g.numbers i p.number;
        values = set g.values i p.value;
        lengths = set g.lengths i p.length;
        admissions = set g.admissions i p.admission;
      })
      ≡ offering_to s (i + 1)
  offer_recorded i here offers p chosen! g g! word word! parameter parameter! =
      ap₂ (recorded_on i p g) word! parameter!
      ∙ ap (λ (x : Segment). recorded_on i p x (set_at x.contenders i) (parameter_for (meaning s).discipline s.segment.settings s.segment.clock (get_or x.listed i nobody).capability p)) g!
      ∙ offering_more s r i here offers p chosen!

  -- late packets leave
  module _ (rest : Queues) (left : LeftIn (in_time_at s) s.queues 0 s.segment.settings.n rest)
      (arrays : (length rest.lengths ≡ 64) × (length rest.packets ≡ 1024)) where
    pub fewer_left : waiting_in rest.lengths s.segment.settings.n ≤ waiting_in s.queues.lengths s.segment.settings.n
    fewer_left = omega (arith, late_counted s r rest left arrays.0)

    module _ (drops : ℕ) (drops! : drops ≡ waiting_in s.queues.lengths s.segment.settings.n - waiting_in rest.lengths s.segment.settings.n)
        (g : Segment) (k : ℕ) (g! : g ≡ offering_to s k) where
      pub drops_are : drops ≡ drops_of (meaning s)
      drops_are = omega (arith, drops!, late_counted s r rest left arrays.0)

      -- `begun` may be called
      pub record MayBegin : Type 0 where
        pub room : (j : ℕ) → j < g.settings.n → get_or rest.lengths j 0 ≤ 16
        pub q_positive : 1 ≤ g.settings.q
        pub d_positive : 1 ≤ g.settings.d
        pub drops_bound : g.lost + drops ≤ 18446744073709551615

      pub may_begin_so : MayBegin
      may_begin_so =
          let count = lost_counted s r in
          let dropped = drops_are in
          let lost! = ap (λ (x : Segment). x.lost) g! in
          record {
            room = subst (λ (x : Segment). (j : ℕ) → j < x.settings.n → get_or rest.lengths j 0 ≤ 16) (sym g!) (room_left s r rest left);
            q_positive = subst (λ (x : Segment). 1 ≤ x.settings.q) (sym g!) spaces.0;
            d_positive = subst (λ (x : Segment). 1 ≤ x.settings.d) (sym g!) spaces.1;
            drops_bound = omega arith;
          }

  -- so that the state is the form of the bus in which it has begun
  pub begun_late :
      (rest : Queues) (left : LeftIn (in_time_at s) s.queues 0 s.segment.settings.n rest)
      (arrays : (length rest.lengths ≡ 64) × (length rest.packets ≡ 1024)) (drops : ℕ)
      (drops! : drops ≡ waiting_in s.queues.lengths s.segment.settings.n - waiting_in rest.lengths s.segment.settings.n) (x : State)
      → x ≡ offering_all s → (g : Segment) → g ≡ begun_with x.segment rest drops
      → whole g rest ≡ form (begin (meaning s))
  begun_late rest left arrays drops drops! x x! g g! =
      ap (λ (y : Segment). whole y rest) (g! ∙ ap (λ (y : State). begun_with y.segment rest drops) x!)
      ∙ begun_is s r rest left drops (drops_are rest left arrays drops drops! (offering_to s 0) 0 refl) arrays.0 arrays.1

  -- and the contention has begun in place
  pub opened_late :
      s.segment.contention.begun ≡ false → (rest : Queues) (left : LeftIn (in_time_at s) s.queues 0 s.segment.settings.n rest)
      (arrays : (length rest.lengths ≡ 64) × (length rest.packets ≡ 1024)) (drops : ℕ)
      (drops! : drops ≡ waiting_in s.queues.lengths s.segment.settings.n - waiting_in rest.lengths s.segment.settings.n) (x : State)
      → x ≡ offering_all s → (g : Segment) → g ≡ begun_with x.segment rest drops → Opened s g rest drops
  opened_late between rest left arrays drops drops! x x! g g! =
      begun_open s r between rest left arrays.0 arrays.1 drops (drops_are rest left arrays drops drops! (offering_to s 0) 0 refl) g
      (g! ∙ ap (λ (y : State). begun_with y.segment rest drops) x!)

  pub none_dropped : AllInTime s → 0 ≡ drops_of (meaning s)
  none_dropped on_time = let all = waiting_dropped s r s.queues (none_leaves s r on_time) r.held.lengths in omega arith

  -- or none leaves
  pub begun_on_time :
      AllInTime s → (x : State) → x ≡ offering_all s → (c : Contention) → c ≡ opening_of s.segment.settings.d
      → whole (segment_counting x.segment x.segment.admitted x.segment.lost c (recorded_in x.segment)) x.queues ≡ form (begin (meaning s))
  begun_on_time on_time x x! c c! =
      ap₂
      (λ (y : State) (k : Contention).
      whole (segment_counting y.segment y.segment.admitted y.segment.lost k (recorded_in y.segment)) y.queues)
      x!
      c!
      ∙ ap
      (λ (m : ℕ). whole (segment_counting s.segment s.segment.admitted m (opening_of s.segment.settings.d) (recorded_in (offers_of s.segment s.queues))) s.queues)
      (sym (add-zero s.segment.lost))
      ∙ begun_is s r s.queues (none_leaves s r on_time) 0 (none_dropped on_time) r.held.lengths r.held.packets

  pub opened_on_time :
      s.segment.contention.begun ≡ false → AllInTime s → (x : State) → x ≡ offering_all s → (c : Contention) → c ≡ opening_of s.segment.settings.d
      → Opened s (segment_counting x.segment x.segment.admitted x.segment.lost c (recorded_in x.segment)) s.queues 0
  opened_on_time between on_time x x! c c! =
      begun_open s r between s.queues (none_leaves s r on_time) r.held.lengths r.held.packets 0 (none_dropped on_time)
      (segment_counting x.segment x.segment.admitted x.segment.lost c (recorded_in x.segment))
      (ap₂ (λ (y : State) (k : Contention). segment_counting y.segment y.segment.admitted y.segment.lost k (recorded_in y.segment)) x! c!
      ∙ ap
      (λ (m : ℕ). segment_counting s.segment s.segment.admitted m (opening_of s.segment.settings.d) (recorded_in (offers_of s.segment s.queues)))
      (sym (add-zero s.segment.lost)))
