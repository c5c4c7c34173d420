-- Laws of the place of a record. Assumes nothing.
use Prim.Native.Nat.{ℕ, zero, suc, ◌+◌, ◌≤◌, ◌<◌}
use mathlib.Core.Path.{◌≡◌, refl, sym, ap, ◌∙◌}
use mathlib.Core.Bool.{cond}
use mathlib.Core.List.{List}
use native.Mathlib.Omega.{arith}
use borrow.Author.Tests.{lt-ltb, le-ltb}
use lib.ListN.{drop}
use Rattle.scenario.specs.Format.{length_in}
use Rattle.meanings.specs.Refused.{begin_from, begins_after, place_of}

module _ (input : List ℕ) (byte end : ℕ) where
  -- a record that begins before the end is counted, and then those after it
  begin_one :
      (turns : ℕ) → byte < end
      → begin_from (suc turns) input byte end ≡ suc (begin_from turns input (byte + (2 + length_in (drop byte input))) end)
  begin_one turns h =
      ap (λ t. cond t (suc (begin_from turns input (byte + (2 + length_in (drop byte input))) end)) 0) (lt-ltb byte end h)

  -- and no other
  begin_none : (turns : ℕ) → end ≤ byte → begin_from turns input byte end ≡ 0
  begin_none zero h = refl
  begin_none (suc turns) h =
      ap (λ t. cond t (suc (begin_from turns input (byte + (2 + length_in (drop byte input))) end)) 0) (le-ltb byte end h)

-- ---- counting in a loop

-- so many records begin before a byte, and as many turns are left as there are bytes before the offset
pub record Counted (input : List ℕ) (offset byte place : ℕ) : Type 0 where
  pub turns : ℕ
  pub enough : offset ≤ byte + turns
  pub few : place ≤ byte + 1
  pub same : place_of input offset ≡ place + begin_from turns input byte offset

-- at first
pub at_first : (input : List ℕ) (offset : ℕ) → Counted input offset 0 1
unfolding place_of
at_first input offset = record { turns = offset; enough = omega arith; few = omega arith; same = omega arith }

-- one record more
pub one_more :
    {input : List ℕ} {offset byte place next : ℕ} → Counted input offset byte place → byte < offset
    → next ≡ byte + (2 + length_in (drop byte input)) → Counted input offset next (place + 1)
one_more {input} {offset} {byte} {place} {next} so h step = go so.turns so.enough so.same
  where
    go :
        (turns : ℕ) → offset ≤ byte + turns → place_of input offset ≡ place + begin_from turns input byte offset
        → Counted input offset next (place + 1)
    go zero enough same = absurd (omega arith)
    go (suc turns) enough same =
        let here = begin_one input byte offset turns h ∙ ap (λ n. suc (begin_from turns input n offset)) (sym step) in
        record { turns = turns; enough = omega arith; few = omega (arith, so.few); same = omega arith }

-- and no more
pub at_last : {input : List ℕ} {offset byte place : ℕ} → Counted input offset byte place → offset ≤ byte → place ≡ place_of input offset
at_last {input} {offset} {byte} so h = omega (arith, so.same, begin_none input byte offset so.turns h)

-- ---- places

-- a record begins after the one before it
after_byte : (others : ℕ) (input : List ℕ) (byte : ℕ) → byte + others ≤ begins_after others input byte
after_byte zero input byte = omega arith
after_byte (suc others) input byte = omega (arith, after_byte others input (byte + (2 + length_in (drop byte input))))

begins_counted :
    (others turns : ℕ) (input : List ℕ) (byte : ℕ) → begins_after others input byte ≤ byte + turns
    → begin_from turns input byte (begins_after others input byte) ≡ others
begins_counted zero turns input byte h = begin_none input byte byte turns (omega arith)
begins_counted (suc others) zero input byte h = absurd (omega (arith, after_byte (suc others) input byte))
begins_counted (suc others) (suc turns) input byte h =
    begin_one input byte (begins_after (suc others) input byte) turns (omega (arith, after_byte (suc others) input byte))
    ∙ ap suc (begins_counted others turns input (byte + (2 + length_in (drop byte input))) (omega arith))

-- the record with so many before it has the place after them
pub place_counts : (others : ℕ) (input : List ℕ) → place_of input (begins_after others input 0) ≡ suc others
unfolding place_of
place_counts others input = ap suc (begins_counted others (begins_after others input 0) input 0 (omega arith))
