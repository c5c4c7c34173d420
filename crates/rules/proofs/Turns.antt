-- A waiting circuit over any calls: what holds of the answers to them, from what one probe does to the circuit's turn. Assumes nothing.
use Prim.Native.Nat.{ℕ, ◌*◌}
use mathlib.Core.Path.{◌≡◌, refl, sym, ap, ◌∙◌, subst}
use mathlib.Core.Logic.{◌⊎◌, inl, inr}
use mathlib.Core.Option.{Option, none}
use mathlib.Core.List.{List, [], ◌∷◌, map}
use native.Mathlib.Omega.{arith}
use Rattle.window.specs.Splitting.{exponent_of}
use Rattle.rules.specs.Bus.{Discipline, RTVC, code, Packet, Station, Bus, nothing}
use Rattle.rules.specs.SetUp.{Asked, Request}
use Rattle.rules.specs.Standing.{asked, Standing}
use Rattle.rules.specs.Admission.{with_packet, turned_away}
use Rattle.rules.specs.Begin.{begin, opening}
use Rattle.rules.specs.Probe.{Answer, refused_answer, probe}
use Rattle.rules.specs.Step.{opened}
use Rattle.rules.specs.Engine.{machine, Call, reply, next, reach, probe_in, answers}
use Rattle.rules.specs.Demands.{most_probes, CircuitWaits}
use Rattle.rules.proofs.Standing.{begin_accepted}
use Rattle.rules.proofs.Reach.{outcome, next_keeps, next_stands, standing_reached}
use Rattle.rules.proofs.Least.{Cleared, cleared_keeps, cleared_reached}
use Rattle.rules.proofs.Probes.{Crowded, crowded_keeps, crowded_reached, probes_left, probes_at_begin, left_at_opening}
use Rattle.rules.proofs.Enabled.{Enabled, enabled_keeps, enabled_reached}
use Rattle.rules.proofs.Circuit.{Waits, waits_admission, waits_turned, waits_begin, Turn, turn}

-- ---- sound states

-- what is so of every state reached in RTVC: it stands, it is crowded and cleared, and no contender sits out
pub record Sound (b : Bus) : Type 0 where
  pub standing : Standing b
  pub crowded : Crowded b
  pub cleared : Cleared b
  pub enabled : Enabled b

-- what a refused set-up hands back does not stand, but does not go by circuits either
pub sound_reached : (r : Request) (calls : List Call) → (reach machine r calls).discipline ≡ RTVC → Sound (reach machine r calls)
sound_reached r calls d =
    record { standing = go (standing_reached r calls); crowded = crowded_reached r calls; cleared = cleared_reached r calls; enabled = enabled_reached r calls }
  where
    go : Standing (reach machine r calls) ⊎ (reach machine r calls ≡ nothing) → Standing (reach machine r calls)
    go (inl k) = k
    go (inr e) = let y : ◌≡◌ {A = ℕ} 2 0 = ap code (sym d) ∙ ap (λ (m : Bus). code m.discipline) e in absurd (omega arith)

-- any call keeps it
pub sound_next : {b : Bus} → Sound b → (c : Call) → Sound (next machine b c)
sound_next {b} h c =
    record {
      standing = next_stands b h.standing c;
      crowded = (next_keeps Crowded crowded_keeps b c h.standing h.crowded).1;
      cleared = (next_keeps Cleared cleared_keeps b c h.standing h.cleared).1;
      enabled = (next_keeps Enabled enabled_keeps b c h.standing h.enabled).1;
    }

-- ---- a circuit as a contention begins

-- a contention that has just begun has as many probes left as one that is about to begin
left_begun : (b : Bus) → b.contention ≡ none → probes_left (begin b) ≡ probes_left b
left_begun b e = left_at_opening b (opening b) refl ∙ sym (probes_at_begin b e)

-- the probes left between contentions are 2L
pub left_at_begin : (b : Bus) (D : ℕ) → b.discipline ≡ RTVC → b.D ≡ D → b.contention ≡ none → probes_left b ≡ 2 * exponent_of D
left_at_begin b D d e c = probes_at_begin b c ∙ ap (λ (m : Discipline). most_probes m (exponent_of b.D) (exponent_of b.A)) d ∙ ap (λ n. 2 * exponent_of n) e

-- a circuit with a packet, as a contention begins
pub waits_first : (b : Bus) (s : Station) (ahead : List Packet) (p : Packet) → CircuitWaits b s ahead p → Waits (map asked b.stations) b.D s p ahead b
waits_first b s ahead p h =
    record {
      by_circuit = h.by_circuit;
      space = refl;
      all_asked = refl;
      station = s;
      listed = h.listed;
      address = refl;
      capability = refl;
      rest = h.rest;
      queue = h.queue;
      contends = λ c e out. let c' = h.begins in let y : ◌≡◌ {A = ℕ} 0 1 = cc in absurd (omega arith);
    }

-- ---- one call, and any calls

-- what may hold of a waiting circuit: of the packets ahead of p, the last winner, the probes left, and the answers that follow
module _ (row : List Asked) (D : ℕ) (s : Station) (p : Packet) (K : List Packet → Option ℕ → ℕ → List Answer → Type 0) where
  -- it holds of no answers, with a refused call's answer before others, and with a probe's
  pub record Holds : Type 0 where
    pub at-end : {ahead : List Packet} (b : Bus) → Sound b → Waits row D s p ahead b → K ahead b.last (probes_left b) []
    pub at_refusal :
        {ahead : List Packet} {last : Option ℕ} {left : ℕ} (n : ℕ) (said : List Answer) → ¬ (n ≡ 0) → K ahead last left said
        → K ahead last left (refused_answer n ∷ said)
    pub at_probe :
        {ahead : List Packet} (b : Bus) (said : List Answer) → Sound b → Turn row D s p b (probe (opened b)) ahead
        → ((before : List Packet) → Waits row D s p before (probe (opened b)).1
        → K before (probe (opened b)).1.last (probes_left (probe (opened b)).1) said)
        → K ahead b.last (probes_left b) ((probe (opened b)).0 ∷ said)

  -- it holds on every sound state on which s waits, of the answers that `following` gives for it
  abbrev pub Everywhere : (Bus → List Answer) → Type 0
  Everywhere following = (ahead : List Packet) (b : Bus) → Sound b → Waits row D s p ahead b → K ahead b.last (probes_left b) (following b)

  module _ (holds : Holds) where
    pub one_call : (c : Call) (following : Bus → List Answer) → Everywhere following → Everywhere (λ b. probe_in (reply machine b c) (following (next machine b c)))
    one_call c following more ahead b h w =
        outcome b (λ rep b'. Sound b' → K ahead b.last (probes_left b) (probe_in rep (following b')))
        (record {
          refuses = λ n z e h'. more ahead b h w;
          turns = λ n z e h'. more ahead (turned_away b) h' (waits_turned row D s p b w);
          admits = λ a z h'. more ahead (with_packet b a) h' (waits_admission row D s p b a w);
          refuses_begin = λ n z h'. more ahead b h w;
          begins = λ z h'.
              subst (λ n. K ahead b.last n (following (begin b))) (left_begun b (begin_accepted b z).1)
              (more ahead (begin b) h' (waits_begin row D s p b h.standing w));
          refuses_probe = λ n z h'. holds.at_refusal n (following b) z (more ahead b h w);
          probes_one = λ z h'.
              holds.at_probe b (following (probe (opened b)).1) h (turn row D s p b h.standing h.crowded h.enabled w h.cleared)
              (λ before. more before (probe (opened b)).1 h');
        })
        c
        (sound_next h c)

    pub any_calls : (later : List Call) → Everywhere (λ b. answers machine b later)
    any_calls [] ahead b h w = holds.at-end b h w
    any_calls (c ∷ later) ahead b h w = one_call c (λ b. answers machine b later) (any_calls later) ahead b h w
