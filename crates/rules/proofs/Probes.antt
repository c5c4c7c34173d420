-- How many probes a contention takes, and that one with contenders who are never late has a winner. Assumes nothing.
use Prim.Native.Nat.{ℕ, zero, suc, ◌+◌, ◌*◌, ◌/◌, ◌^◌, ◌≤◌, ◌<◌}
use mathlib.Core.Path.{◌≡◌, refl, sym, ap, ◌∙◌, subst}
use mathlib.Core.Logic.{◌⊎◌, inl, inr}
use mathlib.Core.Bool.{Bool, true, false, ◌&&◌, ◌||◌, cond}
use mathlib.Core.Option.{Option, none, some}
use mathlib.Core.List.{List, [], ◌∷◌}
use native.Mathlib.Nat.{le_trans, lt_of_not-le}
use native.Mathlib.Omega.{arith}
use lib.Dec.{leb, eqb}
use lib.ListN.{length}
use lib.Pow.{pow_pos}
use borrow.Author.Tests.{leb-true, leb-false, eqb-false, eq-eqb, ne_eqb}
use Rattle.window.specs.declared.Side.{Side}
use Rattle.window.specs.declared.Side.TheVariants.{Left, Right}
use Rattle.window.specs.declared.Window.{Window}
use Rattle.window.specs.Splitting.{exponent_of, first_window, left_half, move_right, in_window}
use Rattle.window.proofs.Facts.{exponent_le, covers, exponent_power, first_holds, halves, halves_apart, single, Level, placed_level, unit_size, half_level}
use Rattle.rules.specs.Lists.{bit, keep, count, at_head, in_tail, All, Some}
use Rattle.rules.specs.Bus.{Discipline, PRI, RTDG, RTVC, code, Contention, Bus}
use Rattle.rules.specs.SetUp.{Request}
use Rattle.rules.specs.Standing.{OfferStands, WindowStands, ContentionStands, Standing}
use Rattle.rules.specs.Admission.{Arrival, with_packet, turned_away}
use Rattle.rules.specs.Begin.{begin, opening}
use Rattle.rules.specs.Probe.{Contender, contenders, able, lies_in, transmits, transmitters, idle, collision, Answer, Open, unsent, sent_by, going_further, unwon, won, tied_at, unheard, heard, probe}
use Rattle.rules.specs.Step.{opened, opened_by}
use Rattle.rules.specs.Engine.{Engine, machine, Call, reach, probe_in, answers}
use Rattle.rules.specs.Demands.{Demand2, contenders_at, probes, most_probes, ProbesBounded, EmptyEnds}
use Rattle.rules.proofs.Laws.{and-true, true-and, length_keep, count-le, count_same, none_counted, count_parts, count_mono, clash}
use Rattle.rules.proofs.Standing.{set_up_stands, begin_accepted, step_accepted}
use Rattle.rules.proofs.Keeps.{opened_stands, opened_contention}
use Rattle.rules.proofs.Reach.{Keeps, outcome, answer_cases, reach_holds, answers_agree}
use Rattle.rules.proofs.Contenders.{contender_from, contenders_admitted, one_address, one_capability}

-- ---- the definitions

-- a left half's parent: the half and the half moved right
abbrev pub parent : Window → Window
parent w = record { start = w.start; size = 2 * w.size; side = Left }

-- what is still to be probed of a window's parent: of a left half all of it, of a right one, and of a first window, the window itself
abbrev pub spanned : Window → Side → Window
spanned w Left = parent w
spanned w Right = w

abbrev pub span : Window → Window
span w = spanned w w.side

-- of these contenders two or more are in the span, where nobody is ever late; somebody contends; and RTVC has no ties
pub record Crowds (d : Discipline) (xs : List Contender) (c : Contention) : Type 0 where
  pub several : ¬ (d ≡ RTDG) → 2 ≤ count (lies_in (span c.window) c.tie) xs
  pub somebody : 1 ≤ length xs
  pub untied : d ≡ RTVC → c.tie ≡ none

abbrev pub CrowdedBy : Bus → Option Contention → Type 0
CrowdedBy b none = Unit {0}
CrowdedBy b (some c) = (c ≡ opening b) ⊎ Crowds b.discipline (contenders b.stations) c

-- what is true of every reached state: a contention has just begun, with however many contenders; or it has been probed, and in PRI and RTVC two
-- contenders or more are in the window or, of a left half, in its parent
abbrev pub Crowded : Bus → Type 0
Crowded b = CrowdedBy b b.contention

-- The probes that can still come once the window is a right one of one number. Addresses, and in RTVC capabilities, are distinct: two
-- contenders are never in it, and it is not probed, but in RTDG, where those who collided earlier can be late by then. Equal parameters
-- are: it is probed, and a tie phase follows.
abbrev pub following : Discipline → ℕ → Option ℕ → ℕ
following PRI M none = 2 * M + 1
following RTDG M none = 2 * M + 2
following RTVC M none = 0
following PRI M (some tied) = 0
following RTDG M (some tied) = 1
following RTVC M (some tied) = 0

-- after a left half, the half moved right can be probed
abbrev pub other_half : Side → ℕ
other_half Left = 1
other_half Right = 0

abbrev pub left_by : Discipline → ℕ → ℕ → Option Contention → ℕ
left_by d L M none = most_probes d L M
left_by d L M (some c) = 2 * exponent_of c.window.size + following d M c.tie + other_half c.window.side

-- the probes that the contention under way, or the next one, has left at the most
abbrev pub probes_left : Bus → ℕ
probes_left b = left_by b.discipline (exponent_of b.D) (exponent_of b.A) b.contention

pub probes_at_begin : (b : Bus) → b.contention ≡ none → probes_left b ≡ most_probes b.discipline (exponent_of b.D) (exponent_of b.A)
probes_at_begin b e = ap (left_by b.discipline (exponent_of b.D) (exponent_of b.A)) e

-- ---- windows

bit_or : (a b : Bool) → (a && b) ≡ false → bit (a || b) ≡ bit a + bit b
bit_or true true e = clash refl e
bit_or true false e = refl
bit_or false b e = omega arith

-- a number in a left half's parent is either in the half or in the half moved right
parent_parts : (w : Window) (n : ℕ) → bit (in_window (parent w) n) ≡ bit (in_window w n) + bit (in_window (move_right w) n)
parent_parts w n =
    let same : 2 * w.size / 2 ≡ w.size = omega arith in
    ap bit (rw same at (halves (parent w) w.size n refl))
    ∙ bit_or (in_window w n) (in_window (move_right w) n) (rw same at (halves_apart (parent w) w.size n refl))

-- the same of contenders
lies_in_parts : (w : Window) (tie : Option ℕ) (x : Contender) → bit (lies_in (parent w) tie x) ≡ bit (lies_in w tie x) + bit (lies_in (move_right w) tie x)
lies_in_parts w none x = parent_parts w x.parameter
lies_in_parts w (some tied) x = go (eqb x.parameter tied)
  where
    go : (t : Bool) → bit (t && in_window (parent w) x.address) ≡ bit (t && in_window w x.address) + bit (t && in_window (move_right w) x.address)
    go true = parent_parts w x.address
    go false = refl

-- who lies in a window goes by its start and size
lies_in_same : (w w' : Window) (tie : Option ℕ) (x : Contender) → w.start ≡ w'.start → w.size ≡ w'.size → lies_in w tie x ≡ lies_in w' tie x
lies_in_same w w' none x p q = rw (p, q)
lies_in_same w w' (some tied) x p q = rw (p, q)

-- in a crowded right window itself are two or more
in_right :
    {d : Discipline} {xs : List Contender} {c : Contention} → Crowds d xs c → ¬ (d ≡ RTDG) → c.window.side ≡ Right
    → 2 ≤ count (lies_in c.window c.tie) xs
in_right {d} {xs} {c} k f s = subst (λ (w : Window). 2 ≤ count (lies_in w c.tie) xs) (ap (spanned c.window) s) (k.several f)

-- ---- one probe

abbrev window : Open → Window
window o = o.contention.window

abbrev tie : Open → Option ℕ
tie o = o.contention.tie

-- the contenders, how many of them lie in the window, and how many transmit
abbrev everyone : Open → List Contender
everyone o = contenders o.bus.stations

abbrev inside : Open → ℕ
inside o = count (lies_in (window o) (tie o)) (everyone o)

abbrev senders : Open → ℕ
senders o = count (transmits o.bus o.contention) (everyone o)

-- the contention with the window moved right, with its left half, and in the tie phase
abbrev moved : Open → Contention
moved o = record { window = move_right (window o); tie = tie o }

abbrev halved : Open → Contention
halved o = record { window = left_half (window o); tie = tie o }

abbrev tied : Open → Contention
tied o = record { window = first_window o.bus.A; tie = some (tied_at (window o) (tie o)) }

-- what holds of each of the five ways that a probe can go holds of the probe
module _
    (o : Open)
    (P : Answer × Bus → Type 0)
    (moves : senders o ≡ 0 → (window o).side ≡ Left → P (unsent o idle 0, going_further o.bus (moved o)))
    (ends : senders o ≡ 0 → (window o).side ≡ Right → P (unsent o idle 1, unwon o.bus))
    (wins : (x : Contender) → P (sent_by o x, won o.bus x))
    (splits : 2 ≤ senders o → 2 ≤ (window o).size → P (unsent o collision 0, going_further o.bus (halved o)))
    (ties : 2 ≤ senders o → (window o).size < 2 → P (unsent o collision 0, going_further o.bus (tied o)))
  where
    probe_ways : P (probe o)
    probe_ways = go (transmitters o.bus o.contention) (length_keep (transmits o.bus o.contention) (everyone o))
      where
        idly : senders o ≡ 0 → (s : Side) → (window o).side ≡ s → P (unheard o s)
        idly n Left e = moves n e
        idly n Right e = ends n e

        together :
            2 ≤ senders o → (t : Bool) → leb 2 (window o).size ≡ t → P (unsent o collision 0, going_further o.bus (cond t (halved o) (tied o)))
        together n true e = splits n (leb-true _ _ e)
        together n false e = ties n (leb-false _ _ e)

        go : (xs : List Contender) → length xs ≡ senders o → P (heard o xs)
        go [] e = idly (sym e) (window o).side refl
        go (x ∷ []) e = wins x
        go (x ∷ y ∷ more) e = together (omega arith) (leb 2 (window o).size) refl

-- a probe that ends the contention without a winner is of a right window in which nobody transmits
ends_idle : (o : Open) → (probe o).0.ended ≡ 1 → (probe o).0.event ≡ idle → (senders o ≡ 0) × ((window o).side ≡ Right)
ends_idle o =
    probe_ways o (λ r. r.0.ended ≡ 1 → r.0.event ≡ idle → (senders o ≡ 0) × ((window o).side ≡ Right)) (λ n s x y. absurd (omega arith))
    (λ n s x y. (n, s)) (λ c x y. absurd (omega arith)) (λ n l x y. absurd (omega arith)) (λ n l x y. absurd (omega arith))

-- only those in the window transmit, and in PRI and RTVC, where nobody is late, all of them do
only_they_send : (o : Open) → senders o ≤ inside o
only_they_send o = count_mono (everyone o) (λ x i t. (and-true (lies_in (window o) (tie o) x) (able o.bus.discipline o.bus.clock x) t).0)

-- all of them contend
heard_among : (o : Open) → senders o ≤ length (everyone o)
heard_among o = count-le (transmits o.bus o.contention) (everyone o)

all_send : (o : Open) → ¬ (o.bus.discipline ≡ RTDG) → inside o ≤ senders o
all_send o f = count_mono (everyone o) (λ x i l. true-and l (never_late o.bus.discipline f x))
  where
    never_late : (d : Discipline) → ¬ (d ≡ RTDG) → (x : Contender) → able d o.bus.clock x ≡ true
    never_late PRI f x = refl
    never_late RTDG f x = absurd (f refl)
    never_late RTVC f x = refl

-- the probes that the contention under way has left
abbrev open_left : Open → ℕ
open_left o = left_by o.bus.discipline (exponent_of o.bus.D) (exponent_of o.bus.A) (some o.contention)

-- what a probe does: it is accepted, and ends the contention or leaves fewer probes than n
abbrev Fewer : ℕ → Answer × Bus → Type 0
Fewer n r = (r.0.refusal ≡ 0) × ((r.0.ended ≡ 1) ⊎ ((r.0.ended ≡ 0) × (suc (probes_left r.1) ≤ n)))

-- what a contender is on a bus that stands
pub record ContenderStands (b : Bus) (x : Contender) : Type 0 where
  pub parameter_in : x.parameter < b.D
  pub address_in : x.address < b.A
  pub circuit : b.discipline ≡ RTVC → x.parameter ≡ x.capability

-- a bus that stands, with its contention under way
module _ (o : Open) (h : Standing o.bus) (e : o.bus.contention ≡ some o.contention) where
  pub contender_stands : All (ContenderStands o.bus) (everyone o)
  contender_stands x i =
      let f = contender_from o.bus.stations i in
      let s : OfferStands o.bus f.station (some o.contention) (some f.offer) =
      rw (e, f.offered) at (h.each_station f.station f.listed).offered in
      let a = (set_up_stands o.bus h).addresses_in f.station f.listed in
      subst (ContenderStands o.bus) (sym f.is) (record { parameter_in = s.1; address_in = a; circuit = λ d. rw d at s.2 })

  window_level : Level (window o)
  window_level = go (tie o) (subst (ContentionStands o.bus) e h.window)
    where
      go : (t : Option ℕ) → WindowStands o.bus o.contention t → Level (window o)
      go none p = placed_level o.bus.D (window o) p
      go (some v) p = placed_level o.bus.A (window o) p.1

  -- a window that cannot be halved has one number
  one_number : (window o).size < 2 → (window o).size ≡ 1
  one_number l = omega (arith, window_level.size_is, pow_pos window_level.level)

  -- in a window of one address, or of one capability, lies one contender at the most
  alone : (w : Window) (t : Option ℕ) → w.size ≡ 1 → (t ≡ none → o.bus.discipline ≡ RTVC) → count (lies_in w t) (everyone o) ≤ 1
  alone w none s circuits =
      let d = circuits refl in
      le_trans (count_mono (everyone o) (λ x i l. eq-eqb _ _ (sym ((contender_stands x i).circuit d) ∙ single w x.parameter s l)))
      (one_capability w.start o.bus.stations ((set_up_stands o.bus h).capabilities_apart d))
  alone w (some v) s circuits =
      le_trans (count_mono (everyone o) (λ x i l. eq-eqb _ _ (single w x.address s (and-true (eqb x.parameter v) (in_window w x.address) l).1)))
      (one_address w.start o.bus.stations (set_up_stands o.bus h).addresses_apart)

  -- so a collision in a window of one number is in the parameter phase, and not in RTVC
  tie_begins : 2 ≤ senders o → (window o).size < 2 → (tie o ≡ none) × (¬ (o.bus.discipline ≡ RTVC))
  tie_begins n l = go (tie o) refl
    where
      not_alone : (tie o ≡ none → o.bus.discipline ≡ RTVC) → ⊥
      not_alone f = omega (arith, only_they_send o, alone (window o) (tie o) (one_number l) f)

      go : (t : Option ℕ) → tie o ≡ t → (t ≡ none) × (¬ (o.bus.discipline ≡ RTVC))
      go none t = (refl, λ d. not_alone (λ _. d))
      go (some v) t = absurd (not_alone (λ z. let no_tie : ◌≡◌ {A = ℕ} 0 1 = cc in absurd (omega arith)))

  probe_fewer : Fewer (open_left o) (probe o)
  probe_fewer = probe_ways o (Fewer (open_left o)) moves (λ n s. (refl, inl refl)) (λ x. (refl, inl refl)) splits ties
    where
      moves : senders o ≡ 0 → (window o).side ≡ Left → Fewer (open_left o) (unsent o idle 0, going_further o.bus (moved o))
      moves n s = (refl, inr (refl, rw s (omega arith)))

      splits : 2 ≤ senders o → 2 ≤ (window o).size → Fewer (open_left o) (unsent o collision 0, going_further o.bus (halved o))
      splits n l = let half = (half_level (window o) window_level l).down in (refl, inr (refl, omega arith))

      -- the tie phase has fewer probes than can follow the parameter phase
      fewer : (d : Discipline) (M v : ℕ) → ¬ (d ≡ RTVC) → suc (2 * M + following d M (some v)) ≤ following d M none
      fewer PRI M v f = omega arith
      fewer RTDG M v f = omega arith
      fewer RTVC M v f = absurd (f refl)

      ties : 2 ≤ senders o → (window o).size < 2 → Fewer (open_left o) (unsent o collision 0, going_further o.bus (tied o))
      ties n l =
          let t = tie_begins n l in
          let first = exponent_power (exponent_of o.bus.A) (exponent_le o.bus.A) in
          let less = fewer o.bus.discipline (exponent_of o.bus.A) (window o).start t.1 in
          (refl, inr (refl, rw (t.0, first) (omega arith)))

  -- a probe leaves a bus crowded, if it is, or if this is the first window
  probe_crowded :
      (¬ (o.bus.discipline ≡ RTDG) → (window o).side ≡ Left → 2 ≤ count (lies_in (parent (window o)) (tie o)) (everyone o))
      → ((window o).side ≡ Left → 1 ≤ length (everyone o)) → (o.bus.discipline ≡ RTVC → tie o ≡ none) → Crowded (probe o).1
  probe_crowded above somebody untied = probe_ways o (λ r. Crowded r.1) moves (λ n s. tt) (λ x. tt) splits ties
    where
      moves : senders o ≡ 0 → (window o).side ≡ Left → Crowded (going_further o.bus (moved o))
      moves n s =
          let parts = count_parts (lies_in (parent (window o)) (tie o)) (lies_in (window o) (tie o)) (lies_in (move_right (window o)) (tie o)) (everyone o) in
          let sum = parts (λ x i. lies_in_parts (window o) (tie o) x) in
          inr (record { several = λ f. omega (arith, above f s, all_send o f); somebody = somebody s; untied = untied })

      splits : 2 ≤ senders o → 2 ≤ (window o).size → Crowded (going_further o.bus (halved o))
      splits n l =
          let whole = (half_level (window o) window_level l).twice in
          let same = count_same (everyone o) (λ x i. lies_in_same (parent (left_half (window o))) (window o) (tie o) x refl whole) in
          inr (record { several = λ f. omega (arith, only_they_send o); somebody = omega (arith, heard_among o); untied = untied })

      -- all who lie in a window of one parameter lie in the first window of the tie phase
      ties : 2 ≤ senders o → (window o).size < 2 → Crowded (going_further o.bus (tied o))
      ties n l =
          let t = tie_begins n l in
          let lie : 2 ≤ inside o = omega (arith, only_they_send o) in
          let all : count (lies_in (window o) none) (everyone o) ≤ count (lies_in (first_window o.bus.A) (some (window o).start)) (everyone o) =
          count_mono (everyone o) (λ x i m. true-and (eq-eqb _ _ (single (window o) x.parameter (one_number l) m))
          (first_holds o.bus.A x.address (omega (arith, (set_up_stands o.bus h).a_most)) (contender_stands x i).address_in)) in
          inr
          (record {
            several = λ f. rw t.0 (le_trans (rw t.0 at lie) all);
            somebody = omega (arith, heard_among o);
            untied = λ d. absurd (t.1 d);
          })

-- ---- calls

-- what a step probes has as many probes left as the bus
opened_left : (b : Bus) (c : Option Contention) → open_left (opened_by b c) ≡ left_by b.discipline (exponent_of b.D) (exponent_of b.A) c
opened_left b none = rw (exponent_power (exponent_of b.D) (exponent_le b.D)) (go b.discipline (exponent_of b.D) (exponent_of b.A))
  where
    go : (d : Discipline) (L M : ℕ) → 2 * L + following d M none + 0 ≡ most_probes d L M
    go PRI L M = omega arith
    go RTDG L M = omega arith
    go RTVC L M = omega arith
opened_left b (some c) = refl

-- a contention that has just begun has all of them left
pub left_at_opening :
    (b : Bus) (c : Contention) → c ≡ opening b
    → left_by b.discipline (exponent_of b.D) (exponent_of b.A) (some c) ≡ most_probes b.discipline (exponent_of b.D) (exponent_of b.A)
left_at_opening b c f = ap (λ (x : Contention). left_by b.discipline (exponent_of b.D) (exponent_of b.A) (some x)) f ∙ opened_left b none

-- a probe is accepted, and ends the contention or leaves fewer probes than the bus had
step_fewer : (b : Bus) → Standing b → Fewer (probes_left b) (probe (opened b))
step_fewer b h = rw (opened_left b b.contention) at (probe_fewer (opened b) (opened_stands b h) (opened_contention b))

-- a probe, an admission, and a packet turned away leave a crowded bus crowded
turned_crowded : (b : Bus) (c : Option Contention) → CrowdedBy b c → CrowdedBy (turned_away b) c
turned_crowded b none k = tt
turned_crowded b (some c) k = k

step_crowded : (b : Bus) → Standing b → Crowded b → Crowded (probe (opened b)).1
step_crowded b h k = go b.contention k (opened_stands b h) (opened_contention b)
  where
    first : (side : Side) → side ≡ Right → side ≡ Left → ⊥
    first Left e f = let z : ◌≡◌ {A = ℕ} 0 1 = cc in omega arith
    first Right e f = let z : ◌≡◌ {A = ℕ} 0 1 = cc in omega arith

    go :
        (c : Option Contention) → CrowdedBy b c → Standing (opened_by b c).bus
        → (opened_by b c).bus.contention ≡ some (opened_by b c).contention → Crowded (probe (opened_by b c)).1
    go none k h e = probe_crowded (opened_by b none) h e (λ f s. absurd (first _ refl s)) (λ s. absurd (first _ refl s)) (λ d. refl)
    go (some c) (inl f) h e =
        let right : c.window.side ≡ Right = ap (λ (x : Contention). x.window.side) f in
        probe_crowded (opened_by b (some c)) h e (λ _ s. absurd (first _ right s)) (λ s. absurd (first _ right s)) (λ d. ap (λ (x : Contention). x.tie) f)
    go (some c) (inr k) h e = probe_crowded (opened_by b (some c)) h e (λ f s. rw s at (k.several f)) (λ s. k.somebody) k.untied

admission_crowded : (b : Bus) (a : Arrival) → Crowded b → Crowded (with_packet b a)
admission_crowded b a k = go b.contention k
  where
    go : (c : Option Contention) → CrowdedBy b c → CrowdedBy (with_packet b a) c
    go none k = tt
    go (some c) (inl e) = inl e
    go (some c) (inr k) = inr (rw (contenders_admitted b a) k)

pub crowded_keeps : Keeps Crowded
crowded_keeps =
    record {
      at_set_up = λ r e. tt;
      at_admission = λ b a h k e. admission_crowded b a k;
      at_turned = λ b h k. turned_crowded b b.contention k;
      at_begin = λ b h k e. inl refl;
      at_probe = λ b h k e. step_crowded b h k;
    }

pub crowded_reached : (r : Request) (calls : List Call) → Crowded (reach machine r calls)
crowded_reached = reach_holds Crowded tt crowded_keeps

right_half : (s : Side) → other_half s ≡ 0 → s ≡ Right
right_half Left e = absurd (omega arith)
right_half Right e = refl

-- where nothing can follow, nobody is ever late, and a tie phase is under way or it is RTVC
none_follow : (d : Discipline) (M : ℕ) (t : Option ℕ) → following d M t ≡ 0 → (¬ (d ≡ RTDG)) × (t ≡ none → d ≡ RTVC)
none_follow PRI M none e = absurd (omega arith)
none_follow RTDG M none e = absurd (omega arith)
none_follow RTVC M none e = (λ q. omega (arith, ap code q), λ z. refl)
none_follow PRI M (some v) e = (λ q. omega (arith, ap code q), λ z. let no_tie : ◌≡◌ {A = ℕ} 0 1 = cc in absurd (omega arith))
none_follow RTDG M (some v) e = absurd (omega arith)
none_follow RTVC M (some v) e = (λ q. omega (arith, ap code q), λ z. refl)

-- the first window of D is halved at least once
pub halved_once : (b : Bus) → Standing b → 1 ≤ exponent_of b.D
halved_once b h = go (exponent_of b.D) (covers b.D (omega (arith, (set_up_stands b h).d_most)))
  where
    go : (L : ℕ) → b.D ≤ 2 ^ L → 1 ≤ L
    go zero l = absurd (omega (arith, (set_up_stands b h).d_least))
    go (suc L) l = omega arith

-- A contention has a probe left: where the window has one number and nothing can follow, it could not hold the two contenders.
pub probes_left_some : (b : Bus) → Standing b → Crowded b → 1 ≤ probes_left b
probes_left_some b h k = go b.contention refl k
  where
    begins : (d : Discipline) (L M : ℕ) → 1 ≤ L → 1 ≤ most_probes d L M
    begins PRI L M l = omega arith
    begins RTDG L M l = omega arith
    begins RTVC L M l = omega arith

    go : (c : Option Contention) → b.contention ≡ c → CrowdedBy b c → 1 ≤ left_by b.discipline (exponent_of b.D) (exponent_of b.A) c
    go none e k = begins b.discipline (exponent_of b.D) (exponent_of b.A) (halved_once b h)
    go (some c) e (inl f) = rw (left_at_opening b c f) (begins b.discipline (exponent_of b.D) (exponent_of b.A) (halved_once b h))
    go (some c) e (inr k) = lt_of_not-le none_left
      where
        none_left : open_left (opened_by b (some c)) ≤ 0 → ⊥
        none_left z =
            let f = none_follow b.discipline (exponent_of b.A) c.tie (omega arith) in
            let s = right_half c.window.side (omega arith) in
            let one = unit_size c.window (window_level (opened_by b (some c)) h e) (omega arith) in
            omega (arith, in_right k f.0 s, alone (opened_by b (some c)) h e c.window c.tie one f.1)

-- a test that counts fewer than all fails for some
some_fails : {X : Type 0} (test : X → Bool) (xs : List X) → count test xs < length xs → Some (λ x. test x ≡ false) xs
some_fails test [] l = absurd (omega arith)
some_fails test (x ∷ xs) l = go (test x) refl l (some_fails test xs)
  where
    go :
        (t : Bool) → test x ≡ t → bit t + count test xs < suc (length xs) → (count test xs < length xs → Some (λ y. test y ≡ false) xs)
        → Some (λ y. test y ≡ false) (x ∷ xs)
    go true e l more = let (y, i, f) = more (omega arith) in (y, in_tail i, f)
    go false e l more = (x, at_head refl, e)

-- In RTVC a contention about to be probed first has two probes left or more, and one that has been probed has a contender of another capability
-- than n.
pub rival : (b : Bus) → Standing b → Crowded b → b.discipline ≡ RTVC → (n : ℕ) → (2 ≤ probes_left b) ⊎ Some (λ y. ¬ (y.capability ≡ n)) (contenders_at b)
rival b h k d n = go b.contention k
  where
    go :
        (c : Option Contention) → CrowdedBy b c
        → (2 ≤ left_by b.discipline (exponent_of b.D) (exponent_of b.A) c)
        ⊎ Some (λ y. ¬ (y.capability ≡ n)) (contenders (opened_by b c).bus.stations)
    go none k = inl (rw d (omega (arith, halved_once b h)))
    go (some c) (inl f) = inl (rw (left_at_opening b c f, d) (omega (arith, halved_once b h)))
    go (some c) (inr k) =
        let two = k.several (λ e. omega (arith, ap code (sym d ∙ e))) in
        let all = count-le (lies_in (span c.window) c.tie) (contenders b.stations) in
        let one = one_capability n b.stations ((set_up_stands b h).capabilities_apart d) in
        let (y, i, f) = some_fails (λ y. eqb y.capability n) (contenders b.stations) (omega arith) in
        inr (y, i, eqb-false y.capability n f)

-- a contention that goes on has fewer probes left
pub probes_fall : (b : Bus) → Standing b → (probe (opened b)).0.ended ≡ 0 → suc (probes_left (probe (opened b)).1) ≤ probes_left b
probes_fall b h = go (probe (opened b)) (step_fewer b h).1
  where
    go :
        (r : Answer × Bus) → (r.0.ended ≡ 1) ⊎ ((r.0.ended ≡ 0) × (suc (probes_left r.1) ≤ probes_left b)) → r.0.ended ≡ 0
        → suc (probes_left r.1) ≤ probes_left b
    go r (inl x) goes_on = absurd (omega arith)
    go r (inr x) goes_on = x.1

-- a list is empty where a test holds of each and is counted for none
nobody : {X : Type 0} (test : X → Bool) (xs : List X) → All (λ x. test x ≡ true) xs → count test xs ≡ 0 → xs ≡ []
nobody test [] h e = refl
nobody test (x ∷ xs) h e = clash (h x (at_head refl)) (none_counted test (x ∷ xs) e x (at_head refl))

-- nobody contends where nobody is ever late and the first window is silent
first_silent :
    (o : Open) → Standing o.bus → o.bus.contention ≡ some o.contention → o.contention ≡ opening o.bus → ¬ (o.bus.discipline ≡ RTDG)
    → senders o ≡ 0 → everyone o ≡ []
first_silent o h e f d n =
    let all : All (λ x. lies_in (window o) (tie o) x ≡ true) (everyone o) =
    λ x i. subst (λ (c : Contention). lies_in c.window c.tie x ≡ true) (sym f)
    (first_holds o.bus.D x.parameter (omega (arith, (set_up_stands o.bus h).d_most)) (contender_stands o h e x i).parameter_in) in
    nobody (lies_in (window o) (tie o)) (everyone o) all (omega (arith, all_send o d))

-- a contention whose packets are never late ends without a winner only where nobody contends, and at its first probe
pub unwon_empty :
    (b : Bus) → Standing b → Crowded b → ¬ (b.discipline ≡ RTDG) → (probe (opened b)).0.ended ≡ 1 → (probe (opened b)).0.event ≡ idle
    → (probes_left b ≡ most_probes b.discipline (exponent_of b.D) (exponent_of b.A)) × (contenders_at b ≡ [])
unwon_empty b h k d ended unheard =
    let f = ends_idle (opened b) ended unheard in go b.contention k (opened_stands b h) (opened_contention b) f.0 f.1
  where
    go :
        (c : Option Contention) → CrowdedBy b c → Standing (opened_by b c).bus
        → (opened_by b c).bus.contention ≡ some (opened_by b c).contention → senders (opened_by b c) ≡ 0 → (window (opened_by b c)).side ≡ Right
        → (left_by b.discipline (exponent_of b.D) (exponent_of b.A) c ≡ most_probes b.discipline (exponent_of b.D) (exponent_of b.A))
        × (everyone (opened_by b c) ≡ [])
    go none k h e n s = (refl, first_silent (opened_by b none) h e refl d n)
    go (some c) (inl f) h e n s = (left_at_opening b c f, first_silent (opened_by b (some c)) h e f d n)
    go (some c) (inr k) h e n s = absurd (omega (arith, in_right k d s, all_send (opened_by b (some c)) d))

-- ---- a contention without contenders

empty_idle : (b : Bus) → Crowded b → contenders_at b ≡ [] → ((probe (opened b)).0.event ≡ idle) × ((probe (opened b)).0.ended ≡ 1)
empty_idle b k none_there = go b.contention k none_there
  where
    by : (o : Open) (side : Side) → side ≡ Right → ((unheard o side).0.event ≡ idle) × ((unheard o side).0.ended ≡ 1)
    by o Left e = let z : ◌≡◌ {A = ℕ} 0 1 = cc in absurd (omega arith)
    by o Right e = (refl, refl)

    silent : (o : Open) → everyone o ≡ [] → (window o).side ≡ Right → ((probe o).0.event ≡ idle) × ((probe o).0.ended ≡ 1)
    silent o e right =
        subst (λ (xs : List Contender). ((heard o xs).0.event ≡ idle) × ((heard o xs).0.ended ≡ 1))
        (sym (ap (keep (transmits o.bus o.contention)) e))
        (by o (window o).side right)

    go :
        (c : Option Contention) → CrowdedBy b c → everyone (opened_by b c) ≡ []
        → ((probe (opened_by b c)).0.event ≡ idle) × ((probe (opened_by b c)).0.ended ≡ 1)
    go none k e = silent (opened_by b none) e refl
    go (some c) (inl f) e = silent (opened_by b (some c)) e (ap (λ (x : Contention). x.window.side) f)
    go (some c) (inr k) e = let some_one = k.somebody in absurd (omega (arith, ap length e))

pub empty_ends : (E : Engine) → Demand2 E → EmptyEnds E
empty_ends E d r calls c none_there =
    let b = reach machine r calls in
    let P : Answer → Type 0 = λ a. a.refusal ≡ 0 → (a.event ≡ idle) × (a.ended ≡ 1) in
    subst (All P) (sym (answers_agree E d r calls (c ∷ [])))
    (answer_cases b P (λ n z e. absurd (z e)) (λ z e. empty_idle b (crowded_reached r calls) none_there) c)

-- ---- the bound

-- whatever is called, no more probes than are left are answered until the contention ends
probes_within : (later : List Call) (b : Bus) → Crowded b → probes (answers machine b later) ≤ probes_left b
probes_within [] b k = omega arith
probes_within (c ∷ later) b k =
    outcome b (λ r b'. probes (probe_in r (answers machine b' later)) ≤ probes_left b)
    (record {
      refuses = λ n z e. probes_within later b k;
      turns = λ n z e. probes_within later (turned_away b) (turned_crowded b b.contention k);
      admits = λ a z. probes_within later (with_packet b a) (admission_crowded b a k);
      refuses_begin = λ n z. probes_within later b k;
      begins = λ z.
          omega (arith, probes_within later (begin b) (inl refl), left_at_opening b (opening b) refl, probes_at_begin b (begin_accepted b z).1);
      refuses_probe = λ n z. rw (ne_eqb n 0 z) (probes_within later b k);
      probes_one = λ z.
          let h = (step_accepted b z).standing in
          let f = step_fewer b h in
          accepted (probe (opened b)) h f.0 f.1 (probes_within later (probe (opened b)).1 (step_crowded b h k));
    })
    c
  where
    accepted :
        (r : Answer × Bus) → Standing b → r.0.refusal ≡ 0 → (r.0.ended ≡ 1) ⊎ ((r.0.ended ≡ 0) × (suc (probes_left r.1) ≤ probes_left b))
        → probes (answers machine r.1 later) ≤ probes_left r.1 → probes (r.0 ∷ answers machine r.1 later) ≤ probes_left b
    accepted r h e (inl x) more = rw (e, x) (probes_left_some b h k)
    accepted r h e (inr x) more = rw (e, x.0) (omega arith)

pub probes_are_bounded : (E : Engine) → Demand2 E → ProbesBounded E
probes_are_bounded E d r calls e later =
    rw (answers_agree E d r calls later, ← probes_at_begin (reach machine r calls) e) (probes_within later (reach machine r calls) (crowded_reached r calls))
