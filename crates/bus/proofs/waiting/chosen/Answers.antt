-- `waiting::chosen` meets its contract.
use Rattle.std.proofs.Common.{ℕ, ◌+◌, ◌<◌, ◌≤◌, ◌≡◌, refl, sym, ap, ◌∙◌, Bool, true, false, cond, List, [], ◌∷◌, ltb, arith, length, get_or, Bor, Option, Some, None, is_some, unwrap_or, option_copied}
use borrow.Author.Tests.{ltb-true, ltb-false}
use lib.Seq.{slice}
use Rattle.rules.specs.declared.Discipline.{Discipline}
use Rattle.rules.specs.Begin.{goes_before, chosen, choice}
use Rattle.bus.specs.Types.{Packet}
use Rattle.state.specs.State.{no_packet}
use Rattle.bus.specs.Parts.{chosen_form}
use Rattle.state.proofs.Tested.{left_turn, left_end}
use Rattle.bus.proofs.Choosing.{better_first}
use Rattle.bus.proofs.waiting.chosen.Goals as goal
use Rattle.bus.proofs.waiting.chosen.Goals.{else-goes_before, then-goes_before}

-- the choice among the best packet so far and those that are left
abbrev left : Discipline → List Packet → ℕ → ℕ → Type 0
left d ps place j = choice d ps ≡ chosen d (get_or ps place no_packet) (choice d (slice j (length ps) ps))

-- all of a list
all_taken : (ps : List Packet) → slice 0 (length ps) ps ≡ ps
all_taken [] = refl
all_taken (p ∷ ps) = ap (λ (qs : List Packet). p ∷ qs) (all_taken ps)

-- one packet more
looked :
    (d : Discipline) (ps : List Packet) (place j : ℕ) → j < length ps → {better : Bool} {next : ℕ}
    → goes_before d (get_or ps j no_packet) (get_or ps place no_packet) ≡ better → next ≡ cond better j place
    → left d ps place j → left d ps next (j + 1)
looked d ps place j h {better} {next} e n before =
    before
    ∙ ap (λ qs. chosen d (get_or ps place no_packet) (choice d qs)) (left_turn (length ps) ps j no_packet h (omega arith))
    ∙ better_first d (get_or ps place no_packet) (get_or ps j no_packet) (choice d (slice (j + 1) (length ps) ps))
    ∙ ap (λ t. chosen d (cond t (get_or ps j no_packet) (get_or ps place no_packet)) (choice d (slice (j + 1) (length ps) ps))) e
    ∙ ap (λ (p : Packet). chosen d p (choice d (slice (j + 1) (length ps) ps))) (sym (at better) ∙ ap (λ k. get_or ps k no_packet) (sym n))
  where
    at : (t : Bool) → get_or ps (cond t j place) no_packet ≡ cond t (get_or ps j no_packet) (get_or ps place no_packet)
    at true = refl
    at false = refl

-- a packet does not go before itself
begins : (d : Discipline) (ps : List Packet) → 0 < length ps → left d ps 0 0
begins d [] some! = absurd (omega arith)
begins d (p ∷ ps) some! =
    sym (ap (λ q. chosen d p (choice d q)) (all_taken (p ∷ ps)) ∙ better_first d p p (choice d ps) ∙ ap (λ q. chosen d q (choice d ps)) (same (goes_before d p p)))
  where
    same : (t : Bool) → cond t p p ≡ p
    same true = refl
    same false = refl

pub loop-j-init : goal.loop-j-init
loop-j-init c = (omega arith, λ some!. some!, begins c.args.discipline c.args.queue.now)

pub loop-j-preserved : goal.loop-j-preserved
loop-j-preserved c =
    let ps = c.args.queue.now in
    let d = c.args.discipline in
    let turn = c.loop-j in
    let more = c.loop-j-test.true in
    elim c.if-goes_before.branch [
      | then-goes_before w ↦ (
        omega arith,
        λ some!. omega (arith, w.place-is),
        λ some!. looked d ps turn.place turn.j more (sym c.goes_before.ensures ∙ w.if-goes_before.true) w.place-is (turn.invariant.2 some!),
      )
      | else-goes_before w ↦ (
        omega arith,
        λ some!. omega (arith, w.place-is, turn.invariant.1 some!),
        λ some!. looked d ps turn.place turn.j more (sym c.goes_before.ensures ∙ w.if-goes_before.false) w.place-is (turn.invariant.2 some!),
      )
    ]

-- the packet at the best place, of a queue that has any, is the choice
fetched :
    (d : Discipline) (ps : List Packet) (place j : ℕ) → (0 < length ps → place < length ps) → length ps ≤ j → (0 < length ps → left d ps place j)
    → (r : Option (Bor Packet)) → is_some r ≡ ltb place (length ps)
    → (place ≤ place → (p : Packet) → unwrap_or (option_copied r) p ≡ get_or ps place p) → option_copied r ≡ chosen_form (choice d ps)
fetched d [] place j within end best None told at = refl
fetched d (p ∷ ps) place j within end best None told at = let here = within (omega arith) in let away = ltb-false place (length (p ∷ ps)) (sym told) in absurd (omega arith)
fetched d ps place j within end best (Some x) told at =
    let here = ltb-true place (length ps) (sym told) in
    ap Some (at (omega arith) no_packet)
    ∙ ap chosen_form (sym (best (omega arith) ∙ ap (λ qs. chosen d (get_or ps place no_packet) (choice d qs)) (left_end (length ps) ps j end)))

pub returns : goal.returns
returns c =
    let turn = c.loop-j in
    let got = c.get.ensures.lookup in
    c.copied.ensures
    ∙ fetched c.args.discipline c.args.queue.now turn.place turn.j turn.invariant.1 c.loop-j-test.false turn.invariant.2 c.get.result got.0 got.4
