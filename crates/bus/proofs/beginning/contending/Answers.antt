-- `beginning::contending` meets its contract.
use Rattle.std.proofs.Common.{◌≤◌, ℕ, ◌+◌, ◌<◌, ◌≡◌, refl, sym, ap, ◌∙◌, subst, Bool, true, false, cond, List, arith, eqb-true, eqb, get_or, set, length-set, get_or-set_same, get_or-set_other}
use borrow.Author.Tests.{eqb-false}
use lib.ListN.{get_or-replicate}
use Rattle.word.specs.Word.{bit_at}
use Rattle.bus.specs.Types.{Address, Listed}
use Rattle.state.specs.State.{nobody}
use Rattle.state.proofs.Rows.{row_ext}
use Rattle.bus.proofs.beginning.contending.Invariants.{Written}
use Rattle.bus.proofs.beginning.contending.Invariants.{zero_address, shown, Written}
use Rattle.bus.proofs.beginning.contending.Goals as goal
use Rattle.bus.proofs.beginning.contending.Goals.{else-test, then-test}

-- a contender more
written :
    (contenders : ℕ) (listed : List Listed) (addresses : List Address) (i : ℕ) → i < 64 → Written contenders listed addresses i
    → bit_at contenders i ≡ true → Written contenders listed (set addresses i (get_or listed i nobody).address) (i + 1)
written contenders listed addresses i room w bit =
    (length-set addresses i (get_or listed i nobody).address ∙ w.0, before, after)
  where
    before : (j : ℕ) → j < i + 1 → get_or (set addresses i (get_or listed i nobody).address) j zero_address ≡ shown contenders listed j
    before j h = go (eqb j i) refl
      where
        go : (t : Bool) → eqb j i ≡ t → get_or (set addresses i (get_or listed i nobody).address) j zero_address ≡ shown contenders listed j
        go true s =
            let here : j ≡ i = eqb-true j i s in
            ap (λ (k : ℕ). get_or (set addresses i (get_or listed i nobody).address) k zero_address) here
            ∙ get_or-set_same addresses i (get_or listed i nobody).address zero_address (omega (arith, w.0))
            ∙ ap (λ (t : Bool). cond t (get_or listed i nobody).address zero_address) (sym bit)
            ∙ ap (shown contenders listed) (sym here)
        go false s =
            let other = eqb-false j i s in
            get_or-set_other addresses i j (get_or listed i nobody).address zero_address other ∙ w.1 j (omega arith)

    after : (j : ℕ) → i + 1 ≤ j → j < 64 → get_or (set addresses i (get_or listed i nobody).address) j zero_address ≡ zero_address
    after j h l =
        get_or-set_other addresses i j (get_or listed i nobody).address zero_address (λ (e : j ≡ i). omega arith) ∙ w.2 j (omega arith) l

-- a station that does not contend
passed_over :
    (contenders : ℕ) (listed : List Listed) (addresses : List Address) (i : ℕ) → i < 64 → Written contenders listed addresses i
    → bit_at contenders i ≡ false → Written contenders listed addresses (i + 1)
passed_over contenders listed addresses i room w bit = (w.0, before, λ j h l. w.2 j (omega arith) l)
  where
    before : (j : ℕ) → j < i + 1 → get_or addresses j zero_address ≡ shown contenders listed j
    before j h = go (eqb j i) refl
      where
        go : (t : Bool) → eqb j i ≡ t → get_or addresses j zero_address ≡ shown contenders listed j
        go true s =
            let here : j ≡ i = eqb-true j i s in
            ap (λ (k : ℕ). get_or addresses k zero_address) here
            ∙ w.2 i (omega arith) room
            ∙ ap (λ (t : Bool). cond t (get_or listed i nobody).address zero_address) (sym bit)
            ∙ ap (shown contenders listed) (sym here)
        go false s = let other = eqb-false j i s in w.1 j (omega arith)

pub loop-i-init : goal.loop-i-init
loop-i-init c =
    (omega arith, (refl, (λ j h. absurd (omega arith)), λ j h l. get_or-replicate 64 j zero_address zero_address l))

pub loop-i-preserved : goal.loop-i-preserved
loop-i-preserved c =
    let contenders = c.args.contenders in
    let listed = c.args.listed.now in
    let addresses = c.loop-i.addresses in
    let i = c.loop-i.i in
    let inv = c.loop-i.invariant in
    let room : i < 64 = omega arith in
    elim c.if-test.branch [
      | then-test w ↦ (
        omega arith,
        subst (λ (row : List Address). Written contenders listed row (i + 1)) (sym w.addresses-is)
            (written contenders listed addresses i room inv.1 (sym c.test.ensures ∙ w.if-test.true)),
      )
      | else-test w ↦ (
        omega arith,
        subst (λ (row : List Address). Written contenders listed row (i + 1)) (sym w.addresses-is)
            (passed_over contenders listed addresses i room inv.1 (sym c.test.ensures ∙ w.if-test.false)),
      )
    ]

pub returns : goal.returns
returns c =
    row_ext 64 (shown c.args.contenders c.args.listed.now) c.loop-i.addresses zero_address c.loop-i.invariant.1.0
    (λ i h. c.loop-i.invariant.1.1 i (omega arith))
