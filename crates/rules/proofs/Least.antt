-- Demand 2's words of the machine: whoever wins is least among the contenders still able to start; no false win. Assumes nothing.
use Prim.Native.Nat.{ℕ, suc, ◌+◌, ◌≤◌, ◌<◌}
use mathlib.Core.Path.{◌≡◌, refl, sym, ap, ◌∙◌, subst}
use mathlib.Core.Logic.{◌⊎◌, inl, inr}
use mathlib.Core.Bool.{Bool, true, false, not, cond}
use mathlib.Core.Option.{Option, none, some}
use mathlib.Core.List.{List, [], ◌∷◌, map}
use native.Mathlib.Omega.{arith}
use native.Mathlib.Decide.{dec_le}
use lib.Dec.{leb, ltb, eqb}
use lib.ListN.{length}
use borrow.Author.Tests.{ltb-false, eqb-true, not-true, le-ltb, eq-eqb}
use Rattle.window.specs.declared.Side.{Side}
use Rattle.window.specs.declared.Side.TheVariants.{Left, Right}
use Rattle.window.specs.declared.Window.{Window}
use Rattle.window.specs.Splitting.{first_window, left_half, move_right, in_window}
use Rattle.window.proofs.Facts.{in_window_bounds, out_window}
use Rattle.rules.specs.Lists.{Among, at_head, All, Distinct}
use Rattle.rules.specs.Bus.{Discipline, PRI, RTDG, RTVC, Contention, Bus, nothing}
use Rattle.rules.specs.SetUp.{Request}
use Rattle.rules.specs.Standing.{Standing}
use Rattle.rules.specs.Admission.{Arrival, with_packet, turned_away}
use Rattle.rules.specs.Probe.{Contender, Open, able, contenders, lies_in, transmits, transmitters, tied_at, split, idle, success, sent_by, unheard, heard, probe}
use Rattle.rules.specs.Step.{opened_by, opened}
use Rattle.rules.specs.Engine.{Engine, machine, Call, reach}
use Rattle.rules.specs.Demands.{Demand2, Ahead, contenders_at, StillAble, transmitters_at, Least, WinnerIsLeast, Heard, TrueEvents, NoFalseWin, EventsAreTrue, AddressesApart}
use Rattle.rules.proofs.Laws.{clash, and-true, and-false, among_cases, among_none, keep_from, keep_into}
use Rattle.rules.proofs.Standing.{set_up_stands}
use Rattle.rules.proofs.Reach.{Keeps, answer_cases, reach_holds, standing_reached, answers_agree}
use Rattle.rules.proofs.Contenders.{contenders_admitted}

-- no contender below the window: in the tie phase none of a smaller parameter, nor of the tied one and a smaller address
abbrev pub NotBelow : Window → Option ℕ → Contender → Type 0
NotBelow w none x = w.start ≤ x.parameter
NotBelow w (some tied) x = (tied < x.parameter) ⊎ ((tied ≡ x.parameter) × (w.start ≤ x.address))

abbrev pub ClearedBy : Bus → Option Contention → Type 0
ClearedBy b none = Unit {0}
ClearedBy b (some c) = All (λ x. StillAble b x → NotBelow c.window c.tie x) (contenders b.stations)

-- what is true of every reached state: who is below the window is not able to start any more
abbrev pub Cleared : Bus → Type 0
Cleared b = ClearedBy b b.contention

-- ---- one contender and the window's moves

-- who is not below a window and not in it is not below the window moved right
not_in : (w : Window) (tie : Option ℕ) (x : Contender) → lies_in w tie x ≡ false → NotBelow w tie x → NotBelow (move_right w) tie x
not_in w none x e h = out_window w x.parameter e h
not_in w (some tied) x e (inl h) = inl h
not_in w (some tied) x e (inr h) = inr (h.0, out_window w x.address (simp (eq-eqb x.parameter tied (sym h.0)) at e) h.1)

-- who lies in a window is ahead of whoever is not below the window moved right
ahead : (w : Window) (tie : Option ℕ) (x y : Contender) → lies_in w tie x ≡ true → NotBelow (move_right w) tie y → Ahead x y
ahead w none x y e h = let i = in_window_bounds w x.parameter e in inl (omega arith)
ahead w (some tied) x y e h = go (eqb-true x.parameter tied p.0) (in_window_bounds w x.address p.1) h
  where
    p : (eqb x.parameter tied ≡ true) × (in_window w x.address ≡ true)
    p = and-true (eqb x.parameter tied) (in_window w x.address) e

    go : x.parameter ≡ tied → (w.start ≤ x.address) × (x.address < w.start + w.size) → NotBelow (move_right w) (some tied) y → Ahead x y
    go same i (inl k) = inl (omega arith)
    go same i (inr k) = let l = k.1 in inr (same ∙ k.0, omega arith)

-- a collision lets nobody fall below the window: its left half starts where it does, and the tie phase is of the parameter at its start
split_clears : (b : Bus) (c : Contention) (x : Contender) → NotBelow c.window c.tie x → NotBelow (split b c).window (split b c).tie x
split_clears b c x h = go (leb 2 c.window.size)
  where
    half : (tie : Option ℕ) → NotBelow c.window tie x → NotBelow (left_half c.window) tie x
    half none k = k
    half (some tied) k = k

    least : (n : ℕ) → Dec (suc n ≤ x.parameter) → n ≤ x.parameter → NotBelow (first_window b.A) (some n) x
    least n (yes l) k = inl l
    least n (no l) k = inr (omega arith, omega arith)

    tied : (tie : Option ℕ) → NotBelow c.window tie x → NotBelow (first_window b.A) (some (tied_at c.window tie)) x
    tied none k = least c.window.start (dec_le (suc c.window.start) x.parameter) k
    tied (some v) (inl k) = inl k
    tied (some v) (inr k) = inr (k.0, omega arith)

    next : Bool → Contention
    next t = cond t (record { window = left_half c.window; tie = c.tie }) (record { window = first_window b.A; tie = some (tied_at c.window c.tie) })

    go : (t : Bool) → NotBelow (next t).window (next t).tie x
    go true = half c.tie h
    go false = tied c.tie h

-- who is able to start in a slot was able in the slot before
earlier_able : (d : Discipline) (slot : ℕ) (x : Contender) → able d (suc slot) x ≡ true → able d slot x ≡ true
earlier_able PRI slot x e = refl
earlier_able RTDG slot x e =
    let l = ltb-false x.packet.value (suc slot) (not-true (ltb x.packet.value (suc slot)) e) in
    ap not (le-ltb x.packet.value slot (omega arith))
earlier_able RTVC slot x e = refl

-- ---- one probe

-- who is able to start transmits or is not below the window moved right
heard_or_past :
    (b : Bus) (c : Contention) → ClearedBy b (some c)
    → All (λ x. StillAble b x → Among x (transmitters b c) ⊎ NotBelow (move_right c.window) c.tie x) (contenders b.stations)
heard_or_past b c k x i a = go (transmits b c x) refl
  where
    go : (t : Bool) → transmits b c x ≡ t → Among x (transmitters b c) ⊎ NotBelow (move_right c.window) c.tie x
    go true e = inl (keep_into (transmits b c) (contenders b.stations) i e)
    go false e =
        inr
        (elim (and-false (lies_in c.window c.tie x) (able b.discipline b.clock x) e) [
          | inl out ↦ not_in c.window c.tie x out (k x i a)
          | inr late ↦ clash a late
        ])

-- what a probe leaves is cleared, if what it probes is
probe_clears : (o : Open) → ClearedBy o.bus (some o.contention) → Cleared (probe o).1
probe_clears o k = go (transmitters o.bus o.contention) refl
  where
    now : (x : Contender) → able o.bus.discipline (suc o.bus.clock) x ≡ true → StillAble o.bus x
    now = earlier_able o.bus.discipline o.bus.clock

    silent : (side : Side) → transmitters o.bus o.contention ≡ [] → Cleared (unheard o side).1
    silent Left e = λ x i a. elim (heard_or_past o.bus o.contention k x i (now x a)) [ inl j ↦ absurd (among_none (subst (Among x) e j)) | inr h ↦ h ]
    silent Right e = tt

    go : (ts : List Contender) → transmitters o.bus o.contention ≡ ts → Cleared (heard o ts).1
    go [] e = silent o.contention.window.side e
    go (x ∷ []) e = tt
    go (x ∷ y ∷ more) e = λ z i a. split_clears o.bus o.contention z (k z i (now z a))

-- ---- reached states

-- what a step probes is cleared, whether or not it first begins a contention
opened_clears : (b : Bus) (c : Option Contention) → ClearedBy b c → ClearedBy (opened_by b c).bus (some (opened_by b c).contention)
opened_clears b none k = λ x i a. omega arith
opened_clears b (some c) k = k

-- an admission changes neither contenders nor window
admission_clears : (b : Bus) (a : Arrival) (c : Option Contention) → ClearedBy b c → ClearedBy (with_packet b a) c
admission_clears b a none k = tt
admission_clears b a (some c) k = λ x i. k x (subst (Among x) (contenders_admitted b a) i)

turned_clears : (b : Bus) (c : Option Contention) → ClearedBy b c → ClearedBy (turned_away b) c
turned_clears b none k = tt
turned_clears b (some c) k = k

pub cleared_keeps : Keeps Cleared
cleared_keeps =
    record {
      at_set_up = λ r e. tt;
      at_admission = λ b a h k e. admission_clears b a b.contention k;
      at_turned = λ b h k. turned_clears b b.contention k;
      at_begin = λ b h k e. opened_clears b none tt;
      at_probe = λ b h k e. probe_clears (opened b) (opened_clears b b.contention k);
    }

pub cleared_reached : (r : Request) (calls : List Call) → Cleared (reach machine r calls)
cleared_reached = reach_holds Cleared tt cleared_keeps

-- ---- the theorems

-- a silent slot is idle, whatever the side
pub silent_idle : (o : Open) (side : Side) → (unheard o side).0.event ≡ idle
silent_idle o Left = refl
silent_idle o Right = refl

-- a step that begins a contention probes the present slot, under the same discipline
opened_able :
    (b : Bus) (c : Option Contention) (x : Contender) → able (opened_by b c).bus.discipline (opened_by b c).bus.clock x ≡ able b.discipline b.clock x
opened_able b none x = refl
opened_able b (some c) x = refl

-- the one who transmits alone is least
lone_least : (b : Bus) (x : Contender) → Cleared b → transmitters_at b ≡ x ∷ [] → Least b (sent_by (opened b) x)
lone_least b x k sent =
    record {
      winner = x;
      contends = from.0;
      is_able = sym (opened_able b b.contention x) ∙ lies.1;
      address = refl;
      number = refl;
      length = refl;
      least = λ y i a. behind y (heard_or_past now c cleared y i (opened_able b b.contention y ∙ a));
    }
  where
    now : Bus
    now = (opened b).bus

    c : Contention
    c = (opened b).contention

    cleared : ClearedBy now (some c)
    cleared = opened_clears b b.contention k

    from : Among x (contenders_at b) × (transmits now c x ≡ true)
    from = keep_from (transmits now c) (contenders_at b) (subst (Among x) (sym sent) (at_head refl))

    lies : (lies_in c.window c.tie x ≡ true) × (able now.discipline now.clock x ≡ true)
    lies = and-true (lies_in c.window c.tie x) (able now.discipline now.clock x) from.1

    behind : (y : Contender) → Among y (transmitters_at b) ⊎ NotBelow (move_right c.window) c.tie y → Ahead x y
    behind y (inl i) =
        elim (among_cases (subst (Among y) sent i)) [ inl e ↦ subst (Ahead x) (sym e) (inr (omega arith)) | inr j ↦ absurd (among_none j) ]
    behind y (inr h) = ahead c.window c.tie x y lies.0 h

-- so the winner of the machine's probe is least,
pub least_wins : (b : Bus) → Cleared b → (probe (opened b)).0.event ≡ success → Least b (probe (opened b)).0
least_wins b k = go (transmitters_at b) refl
  where
    go : (ts : List Contender) → transmitters_at b ≡ ts → (heard (opened b) ts).0.event ≡ success → Least b (heard (opened b) ts).0
    go [] sent s = let i = silent_idle (opened b) (opened b).contention.window.side in absurd (omega arith)
    go (x ∷ []) sent s = lone_least b x k sent
    go (x ∷ y ∷ more) sent s = absurd (omega arith)

-- and the winner of any engine that meets demand 2
pub winner_is_least : (E : Engine) → Demand2 E → WinnerIsLeast E
winner_is_least E d r calls c =
    let b = reach machine r calls in
    subst (All (λ a. a.event ≡ success → Least b a)) (sym (answers_agree E d r calls (c ∷ [])))
    (answer_cases b (λ a. a.event ≡ success → Least b a) (λ n z won. absurd (omega arith)) (λ z. least_wins b (cleared_reached r calls)) c)

-- by cases on those who transmit
pub no_false_win : NoFalseWin
no_false_win b =
    answer_cases b (λ a. a.refusal ≡ 0 → Heard (length (transmitters_at b)) a.event) (λ n z e. absurd (z e))
    (λ z e. go (opened b) (transmitters_at b))
  where
    go : (o : Open) (ts : List Contender) → Heard (length ts) (heard o ts).0.event
    go o [] = let i = silent_idle o o.contention.window.side in omega arith
    go o (x ∷ []) = omega arith
    go o (x ∷ y ∷ more) = omega arith

pub events_are_true : (E : Engine) → Demand2 E → EventsAreTrue E
events_are_true E d r calls c =
    subst (TrueEvents (reach machine r calls)) (sym (answers_agree E d r calls (c ∷ []))) (no_false_win (reach machine r calls) c)

-- a state that stands has passed set-up's test of addresses, and an all-zero state has no station
pub addresses_all_apart : AddressesApart
addresses_all_apart r calls = go (standing_reached r calls)
  where
    go : Standing (reach machine r calls) ⊎ (reach machine r calls ≡ nothing) → Distinct (map (λ s. s.address) (reach machine r calls).stations)
    go (inl h) = (set_up_stands (reach machine r calls) h).addresses_apart
    go (inr e) = subst (λ (b : Bus). Distinct (map (λ s. s.address) b.stations)) (sym e) tt
