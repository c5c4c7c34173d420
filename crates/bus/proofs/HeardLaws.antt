-- What a probe makes of a segment, by who transmits: it stores what `moved_by` (specs/Parts.antt) moves, and of a state that stands `moved`
-- may be called. Assumes nothing.
use Prim.Native.Nat.{ℕ, ◌<◌, ◌≤◌}
use mathlib.Core.Path.{◌≡◌, refl, sym, ap, ◌∙◌, subst}
use mathlib.Core.Bool.{true, cond}
use mathlib.Core.List.{List, [], ◌∷◌}
use native.Mathlib.Omega.{arith}
use lib.ListN.{length}
use borrow.Author.Tests.{eq-eqb, ne_eqb}
use Rattle.word.specs.Word.{bit_at, members, first_or, count_of, lowest_of}
use Rattle.bus.specs.Coded.{Success, succeeded}
use Rattle.bus.specs.Types.{Segment, State}
use Rattle.bus.specs.Parts.{Moved, transmitters_in, with_moved, Sole, no_sole, sole_at, sole_of, heard_in, moved_in}
use Rattle.state.proofs.Stands.{Lent}
use Rattle.bus.proofs.ProbedSlot.{probed, sole_more, first_in, first_sends, sent_short, sent_counted}

-- ---- the parts of a probe

module _ (g : Segment) (drops : ℕ) where
  abbrev sole : Sole
  sole = sole_of g (heard_in g)

  abbrev m : Moved
  m = moved_in g drops

  pub answer_moved : (probed g drops).answer ≡ m.answer
  answer_moved = refl

  pub segment_moved : (probed g drops).segment ≡ with_moved g m
  segment_moved = refl

  pub winner_moved : m.answer.event ≡ Success → (probed g drops).winner ≡ sole.place
  winner_moved e = ap (λ t. cond t sole.place 0) (ap succeeded e)

-- the lowest bit of a word, where one is set, is a place of the rows
pub lowest_in : (w : ℕ) → count_of w ≡ 1 → lowest_of w < 64
lowest_in w = go (members w) refl
  where
    go : (ms : List ℕ) → members w ≡ ms → length ms ≡ 1 → first_or ms < 64
    go [] e one = absurd (omega arith)
    go (i ∷ ms) e one = omega (arith, (first_in (bit_at w) 0 64 e).1)

-- ---- what `moved` requires, of a state that stands with a contention under way

module _ (s : State) (r : Lent s) (begun : s.segment.contention.begun ≡ true) where
  pub sole_short : (sole_of s.segment (heard_in s.segment)).packet.length ≤ 4096
  sole_short = go (heard_in s.segment) refl
    where
      go : (ms : List ℕ) → heard_in s.segment ≡ ms → (sole_of s.segment ms).packet.length ≤ 4096
      go [] e = omega arith
      go (i ∷ []) e = let at = first_sends s r e in sent_short s r begun i at.0 at.1
      go (i ∷ j ∷ ms) e = subst (λ (x : Sole). x.packet.length ≤ 4096) (sym (sole_more s.segment i j ms)) (omega arith)

  pub sole_counted : count_of (transmitters_in s.segment) ≡ 1 → s.segment.sent < 4294967295
  sole_counted = go (heard_in s.segment) refl
    where
      go : (ms : List ℕ) → heard_in s.segment ≡ ms → length ms ≡ 1 → s.segment.sent < 4294967295
      go [] e one = absurd (omega arith)
      go (i ∷ ms) e one = let at = first_sends s r e in sent_counted s r begun i at.0 at.1

-- ---- the sole winner, as the code finds it: by the word of those who transmit, how many they are and the lowest of them

module _ (g : Segment) (w count : ℕ) (w! : w ≡ transmitters_in g) (count! : count ≡ count_of w) where
  pub counted! : count ≡ count_of (transmitters_in g)
  counted! = count! ∙ ap count_of w!

  abbrev lowest : ℕ
  lowest = lowest_of (transmitters_in g)

  pub sole_taken : count ≡ 1 → (place : ℕ) → place ≡ lowest_of w → sole_at g place ≡ sole_of g (heard_in g)
  sole_taken one place e =
      ap (sole_at g) (e ∙ ap lowest_of w!)
      ∙ sym (ap (λ t. cond t (sole_at g lowest) no_sole) (eq-eqb (count_of (transmitters_in g)) 1 (sym counted! ∙ one)))

  pub sole_left : ¬ (count ≡ 1) → no_sole ≡ sole_of g (heard_in g)
  sole_left n = sym (ap (λ t. cond t (sole_at g lowest) no_sole) (ne_eqb (count_of (transmitters_in g)) 1 (λ one. n (counted! ∙ one))))
