-- `number` meets its contract: at first no digit is stored, and each turn stores one more.
use Rattle.std.proofs.Common.{ℕ, zero, suc, ◌+◌, ◌-◌, ◌/◌, ◌%◌, ◌<◌, ◌≡◌, List, [], ◌∷◌, ◌++◌, length, set, refl, sym, ap, ◌∙◌, append_assoc, arith, rules}
use mathlib.Core.List.{append-nil}
use Rattle.std.proofs.lemmas.List.Edits.{sets}
use Rattle.text.specs.Text.{digit, decimal}
use Rattle.text.proofs.Decimals.{digits, digits_last, decimal_places}
use Rattle.text.proofs.Stores.{sets_before}
use Rattle.text.proofs.number.Invariants.{Stored}
use Rattle.text.proofs.number.Goals as goal

-- no digit
none_stored : (n at : ℕ) (a : List ℕ) → Stored n a a at (length (decimal n)) n
none_stored n at a =
    record { text = []; whole = append-nil (digits (length (decimal n)) n) ∙ sym (decimal_places n); room = refl }

-- one digit more
one_more :
    (n : ℕ) (a b : List ℕ) (at k rest d : ℕ) → 0 < k → d ≡ digit (rest % 10) → Stored n a b at k rest
    → Stored n a (set b (at + (k - 1)) d) at (k - 1) (rest / 10)
one_more n a b at zero rest d h e s = absurd (omega arith)
one_more n a b at (suc k) rest d h e s =
    let down : suc k - 1 ≡ k = omega arith in
    let up : at + suc k ≡ suc (at + k) = omega arith in
    rw down
    (record {
      text = d ∷ s.text;
      whole = ap (λ b. digits k (rest / 10) ++ (b ∷ s.text)) e
          ∙ sym (append_assoc (digits k (rest / 10)) (digit (rest % 10) ∷ []) s.text)
          ∙ ap (λ (l : List ℕ). l ++ s.text) (digits_last k rest)
          ∙ s.whole;
      room = ap (λ (l : List ℕ). set l (at + k) d) (s.room ∙ ap (λ m. sets a m s.text) up)
          ∙ sets_before a s.text (at + k) (suc (at + k)) d (omega arith);
    })

pub loop-k-init : goal.loop-k-init
loop-k-init c = (
  search rules,
  omega arith,
  rw c.digits_of-size.ensures (none_stored c.args.n c.args.at c.args.room.now),
)

pub loop-k-preserved : goal.loop-k-preserved
loop-k-preserved c =
    let turn = c.loop-k in (
      turn.invariant.0,
      omega arith,
      one_more c.args.n c.args.room.now turn.room c.args.at turn.k turn.rest c.digit.result (omega arith) c.digit.ensures turn.invariant.2,
    )
