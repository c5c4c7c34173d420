-- The word of those who transmit: a loop that sets the bits of the stations for which a test holds, and what masks of such words are.
-- Assumes nothing.
use Prim.Native.Nat.{ℕ, ◌+◌, ◌^◌, ◌≤◌, ◌<◌}
use mathlib.Core.Path.{◌≡◌, refl, sym, ap, ap₂, ◌∙◌}
use mathlib.Core.Logic.{◌⊎◌, inl, inr}
use mathlib.Core.Bool.{Bool, true, false, not, ◌&&◌, cond, and-true, and-false, and_comm}
use mathlib.Core.List.{List}
use native.Mathlib.Decide.{dec_le}
use native.Mathlib.Nat.{lt_of_not-le}
use native.Mathlib.Numerals.{add-one}
use native.Mathlib.Omega.{arith}
use borrow.Author.Tests.{eqb-true, eqb-false, le-leb, lt-leb, lt-ltb, le-ltb}
use lib.Bits.{bit_and}
use lib.Dec.{leb, ltb, eqb}
use lib.ListN.{get_or}
use Rattle.window.specs.declared.Side.TheVariants.{Right}
use Rattle.window.specs.declared.Window.{Window}
use Rattle.window.specs.Splitting.{in_window}
use Rattle.word.specs.Word.{bits, bit_at, word_of, set_at}
use Rattle.word.proofs.Laws.{set_next, word_stays, word_bits, word_same, word_none, bit_none, both_of, both_with}
use Rattle.rules.specs.declared.Discipline.{Discipline}
use Rattle.rules.specs.declared.Discipline.TheVariants.{PRI, RTDG, RTVC}
use Rattle.rules.specs.Bus.{late}
use Rattle.rules.specs.SetUp.{discipline_of}
use Rattle.bus.specs.Types.{Slot, Contention}
use Rattle.bus.specs.Parts.{lies_within, transmitters_of}

-- ---- a word set bit by bit

pub word_start : (test : ℕ → Bool) → 0 ≡ word_of test 0
unfolding word_of
word_start test = refl

module _ (test : ℕ → Bool) (i found next : ℕ) where
  pub word_set : i < bits → found ≡ word_of test i → test i ≡ true → next ≡ set_at found i → next ≡ word_of test (i + 1)
  word_set l e t n = n ∙ ap (λ (w : ℕ). set_at w i) e ∙ set_next test i l t ∙ ap (word_of test) (sym (add-one i))

  pub word_left : found ≡ word_of test i → test i ≡ false → next ≡ found → next ≡ word_of test (i + 1)
  word_left e t n = n ∙ e ∙ sym (word_stays test i t) ∙ ap (word_of test) (sym (add-one i))

-- ---- the tests

-- the window of one number alone
pub tie_window : (tie n : ℕ) → in_window (record { start = tie; size = 1; side = Right }) n ≡ eqb n tie
tie_window tie n = go (eqb n tie) refl
  where
    apart : (n ≡ tie → ⊥) → Dec (tie ≤ n) → (leb tie n && ltb n (tie + 1)) ≡ false
    apart d (yes l) = ap (λ (t : Bool). leb tie n && t) (le-ltb n (tie + 1) (omega arith)) ∙ and-false (leb tie n)
    apart d (no f) = ap (λ (t : Bool). t && ltb n (tie + 1)) (lt-leb tie n (lt_of_not-le f))

    go : (t : Bool) → eqb n tie ≡ t → (leb tie n && ltb n (tie + 1)) ≡ t
    go true e =
        let same : n ≡ tie = eqb-true n tie e in
        ap₂ ◌&&◌ (le-leb tie n (omega arith)) (lt-ltb n (tie + 1) (omega arith))
    go false e = apart (eqb-false n tie e) (dec_le tie n)

-- where no packet is late
abbrev pub Untimed : Discipline → Type 0
Untimed d = (d ≡ PRI) ⊎ (d ≡ RTVC)

never_late : (d : Discipline) (slot value : ℕ) → Untimed d → late d slot value ≡ false
never_late d slot value (inl e) = ap (λ (k : Discipline). late k slot value) e
never_late d slot value (inr e) = ap (λ (k : Discipline). late k slot value) e

-- ---- those who transmit

module _ (discipline : ℕ) (clock : Slot) (contenders : ℕ) (values : List ℕ) where
  -- whether a station's packet is not late, and whether it contends with such a packet
  abbrev timely : ℕ → Bool
  timely i = not (late (discipline_of discipline) clock.0 (get_or values i 0))

  abbrev pub able_at : ℕ → Bool
  able_at i = bit_at contenders i && timely i

  pub able_timed : contenders < 2 ^ 64 → discipline_of discipline ≡ RTDG → bit_and contenders (word_of (λ i. not (ltb (get_or values i 0) clock.0)) 64) ≡ word_of able_at 64
  able_timed h e =
      both_with 64 contenders (λ i. not (ltb (get_or values i 0) clock.0)) h
      ∙ ap (λ (d : Discipline). word_of (λ i. bit_at contenders i && not (late d clock.0 (get_or values i 0))) 64) (sym e)

  pub able_untimed : contenders < 2 ^ 64 → Untimed (discipline_of discipline) → contenders ≡ word_of able_at 64
  able_untimed h n =
      sym (word_bits 64 contenders h)
      ∙ word_same (bit_at contenders) able_at 64
      (λ i l.
      sym
      (ap (λ (t : Bool). bit_at contenders i && not t) (never_late (discipline_of discipline) clock.0 (get_or values i 0) n)
      ∙ and-true (bit_at contenders i)))

  module _ (contention : Contention) (parameters addresses : List ℕ) where
    -- the word of those who transmit
    abbrev all : ℕ
    all = transmitters_of discipline clock contention contenders parameters values addresses

    -- the window of the tied parameter alone
    abbrev only : Window
    only = record { start = contention.tie; size = 1; side = Right }

    -- the tests of a parameter and an address
    abbrev lies : ℕ → Bool
    lies i = lies_within contention (get_or parameters i 0) (get_or addresses i 0)

    abbrev parameter_in : Window → ℕ → Bool
    parameter_in w i = in_window w (get_or parameters i 0)

    abbrev address_in : ℕ → Bool
    address_in i = in_window contention.window (get_or addresses i 0)

    pub none_transmit : contenders ≡ 0 → 0 ≡ all
    none_transmit e =
        sym
        (word_same (λ i. bit_at contenders i && (lies i && timely i)) (λ i. false) 64
        (λ i l. ap (λ (t : Bool). t && (lies i && timely i)) (ap (λ (w : ℕ). bit_at w i) e ∙ bit_none i))
        ∙ word_none 64)

    pub untied_transmit :
        {able lying : ℕ} → contention.tied ≡ false → able ≡ word_of able_at 64
        → lying ≡ word_of (parameter_in contention.window) 64 → bit_and able lying ≡ all
    untied_transmit t a b =
        ap₂ bit_and a b ∙ both_of able_at (parameter_in contention.window) 64
        ∙ word_same (λ i. able_at i && parameter_in contention.window i) _ 64
        (λ i l.
        order (bit_at contenders i) (timely i) (parameter_in contention.window i)
        ∙ ap
        (λ (tied : Bool).
        bit_at contenders i
        && (cond tied (eqb (get_or parameters i 0) contention.tie && address_in i) (parameter_in contention.window i) && timely i))
        (sym t))
      where
        order : (b l w : Bool) → (b && l && w) ≡ (b && (w && l))
        order true l w = and_comm l w
        order false l w = refl

    pub tied_transmit :
        {able same lying : ℕ} → contention.tied ≡ true → able ≡ word_of able_at 64
        → same ≡ word_of (parameter_in only) 64 → lying ≡ word_of address_in 64 → bit_and (bit_and able same) lying ≡ all
    tied_transmit t a b c =
        (λ j. bit_and (bit_and (a j) (b j)) (c j))
        ∙ ap (λ (w : ℕ). bit_and w (word_of address_in 64)) (both_of able_at (parameter_in only) 64)
        ∙ both_of (λ i. able_at i && parameter_in only i) address_in 64
        ∙ word_same (λ i. able_at i && parameter_in only i && address_in i) _ 64
        (λ i l.
        order (bit_at contenders i) (timely i) (parameter_in only i) (address_in i)
        ∙ ap₂
        (λ (here tied : Bool). bit_at contenders i && (cond tied (here && address_in i) (parameter_in contention.window i) && timely i))
        (tie_window contention.tie (get_or parameters i 0))
        (sym t))
      where
        order : (b l s w : Bool) → (b && l && s && w) ≡ (b && (s && w && l))
        order true true s w = sym (and-true (s && w))
        order true false s w = sym (and-false (s && w))
        order false l s w = refl
