-- The machine, but that the round may be over after a probe (`ending_round`, specs/WrongEngines.antt), where only the top circuit ends it: on one bus its
-- replies are the machine's, and a round that is over leaves a sound bus, and a circuit waiting. Assumes nothing.
use Prim.Native.Nat.{ℕ, ◌≤◌}
use mathlib.Core.Path.{◌≡◌, refl, sym, ap, ◌∙◌, subst}
use mathlib.Core.Bool.{Bool, true, false, not, cond}
use mathlib.Core.Option.{Option, none, some}
use mathlib.Core.List.{List, map-id}
use native.Mathlib.Nat.{le_refl}
use borrow.Author.Tests.{leb-true}
use Rattle.rules.specs.Lists.{All}
use Rattle.rules.specs.Bus.{Discipline, PRI, RTDG, RTVC, Packet, Station, Contention, Bus, nothing}
use Rattle.rules.specs.SetUp.{Asked}
use Rattle.rules.specs.Begin.{sits_out}
use Rattle.rules.specs.Step.{is_under_way, begin_call, probe_call}
use Rattle.rules.specs.Engine.{machine, Call, admission, one-begin, one-probe, one-step, probed, reply, next, after}
use Rattle.rules.specs.WrongEngines.{round_ended, round_over, ending_round, is_top, top_sent}
use Rattle.rules.proofs.Laws.{clash, and-true, each_view}
use Rattle.rules.proofs.Keeps.{amended_stands}
use Rattle.rules.proofs.Step.{step_alike}
use Rattle.rules.proofs.Reach.{stays_so, nothing_next}
use Rattle.rules.proofs.Probes.{CrowdedBy}
use Rattle.rules.proofs.Least.{ClearedBy}
use Rattle.rules.proofs.Circuit.{Waits, waits_ended}
use Rattle.rules.proofs.Turns.{Sound}

-- a round is over only between contentions, and only where no circuit is above the last winner
abbrev pub TopOnly : (Bus → Bool) → Type 0
TopOnly over = (b : Bus) → over b ≡ true → (b.contention ≡ none) × ((v : ℕ) → b.last ≡ some v → All (λ s. s.capability ≤ v) b.stations)

-- a round that is never over so, which is the machine's, and one that is over as soon as the top circuit has sent
pub never : TopOnly (λ b. false)
never b e = clash e refl

pub top_only : TopOnly top_sent
top_only b e =
    let parts = and-true (not (is_under_way b.contention)) (is_top b.stations b.last) e in
    (between b.contention parts.0, λ v l. above_all v (subst (λ last. is_top b.stations last ≡ true) l parts.1))
  where
    between : (c : Option Contention) → not (is_under_way c) ≡ true → c ≡ none
    between none h = refl
    between (some c) h = clash h refl

    above_all : (v : ℕ) → is_top b.stations (some v) ≡ true → All (λ s. s.capability ≤ v) b.stations
    above_all v h s i = leb-true s.capability v (each_view _ b.stations h s i)

-- ---- a round that is over

-- what holds whether or not it is over
pub either : (over : Bus → Bool) (P : Bus → Type 0) (b : Bus) → P b → (over b ≡ true → P (round_ended b)) → P (round_over over b)
either over P b h k = go (over b) refl
  where
    go : (t : Bool) → over b ≡ t → P (cond t (round_ended b) b)
    go true e = k e
    go false e = h

module _ (over : Bus → Bool) (top : TopOnly over) where
  -- a sound bus is sound
  pub over_sound : {b : Bus} → Sound b → Sound (round_over over b)
  over_sound {b} h = either over Sound b h (λ e. ended (top b e).0)
    where
      not_out : (d : Discipline) (k : ℕ) → sits_out d none k ≡ false
      not_out PRI k = refl
      not_out RTDG k = refl
      not_out RTVC k = refl

      ended : b.contention ≡ none → Sound (round_ended b)
      ended e =
          record {
            standing = amended_stands b b.clock none b.contention h.standing (le_refl _) h.standing.clock_in tt (λ z. z) h.standing.window;
            crowded = subst (CrowdedBy (round_ended b)) (sym e) tt;
            cleared = subst (ClearedBy (round_ended b)) (sym e) tt;
            enabled = λ x i. not_out b.discipline x.capability;
          }

  -- a circuit that waits goes on waiting
  pub over_waits :
      {row : List Asked} {D : ℕ} {s : Station} {p : Packet} {ahead : List Packet} {b : Bus} → Waits row D s p ahead b → Waits row D s p ahead (round_over over b)
  over_waits {row} {D} {s} {p} {ahead} {b} w =
      either over (Waits row D s p ahead) b w (λ e.
      waits_ended row D s p ahead b (round_ended b) (λ t. t) w refl refl (sym (map-id b.stations)) (top b e).0 (λ t. refl) w.queue)

  -- ---- a call

  -- a bus that is another one, on which the round may be over
  abbrev PerhapsOver : Bus → Bus → Type 0
  PerhapsOver b b' = (test : Bus → Bool) × TopOnly test × (b ≡ round_over test b')

  unchanged : (b : Bus) → PerhapsOver b b
  unchanged b = ((λ b. false), never, refl)

  perhaps_over : (b : Bus) → PerhapsOver (round_over over b) b
  perhaps_over b = (over, top, refl)

  -- a call is replied to as the machine does, and leaves the machine's bus, on which the round may be over
  pub record CallOver (b : Bus) (c : Call) : Type 0 where
    pub replied : reply (ending_round over) b c ≡ reply machine b c
    pub test : Bus → Bool
    pub test_top : TopOnly test
    pub state : next (ending_round over) b c ≡ round_over test (next machine b c)

  pub call_over : (b : Bus) (c : Call) → CallOver b c
  call_over b (admission a) = record { replied = refl; test = λ b. false; test_top = never; state = refl }
  call_over b one-begin = record { replied = refl; test = λ b. false; test_top = never; state = refl }
  call_over b one-probe = record { replied = refl; test = over; test_top = top; state = refl }
  call_over b one-step =
      let k =
      step_alike (ending_round over) machine PerhapsOver b b (unchanged b) (refl, perhaps_over (probe_call b).1) refl
      (refl, perhaps_over (probe_call (begin_call b).1).1) in
      record { replied = ap probed k.0; test = k.1.0; test_top = k.1.1; state = k.1.2 }

  -- what a refused set-up hands back stays as it is
  pub nothing_stays : (calls : List Call) → after (ending_round over) nothing calls ≡ nothing
  nothing_stays = stays_so (ending_round over) nothing still
    where
      still : (c : Call) → next (ending_round over) nothing c ≡ nothing
      still c =
          let k = call_over nothing c in
          k.state ∙ ap (round_over k.test) (nothing_next c) ∙ either k.test (λ b. b ≡ nothing) nothing refl (λ e. refl)
