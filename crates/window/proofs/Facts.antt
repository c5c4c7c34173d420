-- What holds of windows: that the first window covers its space, what lies in a window, how its halves cover it, and which
-- windows halving and moving right keep placed. Assumes nothing.
use Prim.Native.Nat.{ℕ, zero, suc, ◌+◌, ◌-◌, ◌*◌, ◌/◌, ◌%◌, ◌^◌, ◌≤◌, ◌<◌}
use mathlib.Core.Path.{◌≡◌, refl, sym, ap, ◌∙◌, subst}
use mathlib.Core.Bool.{Bool, true, false, ◌&&◌, ◌||◌, cond, false≢true, and-eq-true_iff}
use native.Mathlib.Decide.{dec_le}
use native.Mathlib.Nat.{le_refl, le_antisymm, le_of_suc-le-suc, lt_of_not-le, zero-mul, mul-mod_left, mul-div_cancel, mul_assoc, suc-mul, mul-le-mul_right, div-add-mod', pow-suc, pow-succ'}
use native.Mathlib.Omega.{arith}
use lib.Arith.{lt_of_le-ne}
use lib.Count.{ones, leading_length}
use lib.Dec.{leb, ltb, eqb}
use lib.Pow.{pow_pos, pow_mono}
use borrow.Author.Tests.{leb-true, ltb-true, ltb-false, eqb-true, eqb-false, le-leb, lt-leb, lt-ltb, le-ltb, eq-eqb, ne_eqb}
use Rattle.window.specs.declared.Side.{Side}
use Rattle.window.specs.declared.Side.TheVariants.{Left, Right}
use Rattle.window.specs.declared.Window.{Window}
use Rattle.window.specs.Splitting.{exponent_of, first_window, left_half, halved, move_right, moved_right, in_window, is_power, side_at, same_side, placed, Placed}
use Rattle.window.proofs.Powers.{pow_le, pow_parts, part_below, part_inside, after_even, pow_eqb, one_one, ones_pow}

-- The exponent of a space is at most 32.
pub exponent_le : (space : ℕ) → exponent_of space ≤ 32
unfolding exponent_of
exponent_le space = omega arith

-- The exponent is the length of the space less one in binary digits: below that power, and not below the one before.
pub exponent_length : (space : ℕ) → space ≤ 2 ^ 32 → (space - 1 < 2 ^ exponent_of space) × (2 ^ exponent_of space ≤ 2 * (space - 1) + 1)
unfolding exponent_of
exponent_length space h =
    let r = leading_length 32 (space - 1) (omega arith) in
    let e : exponent_of space ≡ r.0 = omega (arith, r.1) in
    rw e (r.2, r.3)

-- The first window covers its space.
pub covers : (space : ℕ) → space ≤ 2 ^ 32 → space ≤ 2 ^ exponent_of space
covers space h = let l = exponent_length space h in omega arith

-- No smaller power of two covers it.
pub least : (space k : ℕ) → space ≤ 2 ^ 32 → space ≤ 2 ^ k → exponent_of space ≤ k
least space k h c =
    let l = exponent_length space h in
    le_of_suc-le-suc (lt_of_not-le (λ (g : suc k ≤ exponent_of space). omega (arith, pow_mono g, pow-suc 2 k, pow_pos k)))

-- The exponent of a power of two is its exponent.
pub exponent_power : (k : ℕ) → k ≤ 32 → exponent_of (2 ^ k) ≡ k
exponent_power k h = le_antisymm (least (2 ^ k) k (pow_mono h) (le_refl _)) (pow_le _ _ (covers (2 ^ k) (pow_mono h)))

-- A number in a window is at its start or past it, and before its end.
pub in_window_bounds : (w : Window) (n : ℕ) → in_window w n ≡ true → (w.start ≤ n) × (n < w.start + w.size)
in_window_bounds w n e =
    let both = (and-eq-true_iff (leb w.start n) (ltb n (w.start + w.size))).0 e in
    (leb-true _ _ both.0, ltb-true _ _ both.1)

-- A number at the start or past it, and before the end, is in the window.
pub in_window_test : (w : Window) (n : ℕ) → w.start ≤ n → n < w.start + w.size → in_window w n ≡ true
in_window_test w n h l = simp (le-leb _ _ h, lt-ltb _ _ l)

-- The first window of a space holds all of it.
pub first_holds : (space n : ℕ) → space ≤ 2 ^ 32 → n < space → in_window (first_window space) n ≡ true
first_holds space n m l = in_window_test (first_window space) n (omega arith) (omega (arith, covers space m))

-- A number from the start on that is not in the window is at its end or past it.
pub out_window : (w : Window) (n : ℕ) → in_window w n ≡ false → w.start ≤ n → w.start + w.size ≤ n
out_window w n e h = ltb-false _ _ (simp (le-leb _ _ h) at e)

-- A number is in a window exactly where it is in its left half or in that half moved right.
pub halves : (w : Window) (h n : ℕ) → w.size ≡ 2 * h → in_window w n ≡ (in_window (left_half w) n || in_window (move_right (left_half w)) n)
halves w h n e = go (dec_le w.start n) (dec_le (w.start + w.size / 2) n)
  where
    go : Dec (w.start ≤ n) → Dec (w.start + w.size / 2 ≤ n) → in_window w n ≡ (in_window (left_half w) n || in_window (move_right (left_half w)) n)
    go (no f) d =
        let l : n < w.start = lt_of_not-le f in
        let m : n < w.start + w.size / 2 = omega arith in
        simp (lt-leb _ _ l, lt-leb _ _ m)
    go (yes p) (no f) =
        let m : n < w.start + w.size / 2 = lt_of_not-le f in
        let r : n < w.start + w.size = omega arith in
        simp (le-leb _ _ p, lt-ltb _ _ m, lt-ltb _ _ r)
    go (yes p) (yes q) =
        let same : w.start + w.size / 2 + w.size / 2 ≡ w.start + w.size = omega arith in
        simp (le-leb _ _ p, le-ltb _ _ q, le-leb _ _ q, same)

-- A number is never in both halves.
pub halves_apart : (w : Window) (h n : ℕ) → w.size ≡ 2 * h → (in_window (left_half w) n && in_window (move_right (left_half w)) n) ≡ false
halves_apart w h n e = go (in_window (left_half w) n) refl (in_window (move_right (left_half w)) n) refl
  where
    go : (a : Bool) → in_window (left_half w) n ≡ a → (b : Bool) → in_window (move_right (left_half w)) n ≡ b → (a && b) ≡ false
    go false p b q = refl
    go true p false q = refl
    go true p true q =
        let l = in_window_bounds (left_half w) n p in
        let r = in_window_bounds (move_right (left_half w)) n q in
        absurd (omega arith)

-- A window whose size is a power of two comes to size 1 by as many left halves as the exponent says.
pub halved_size : (k : ℕ) (w : Window) → w.size ≡ 2 ^ k → (halved k w).size ≡ 1
halved_size zero w e = e
halved_size (suc k) w e = halved_size k (left_half w) (omega (arith, pow-suc 2 k))

-- 'L halvings take the first window to size 1'
pub halvings : (space : ℕ) → (halved (exponent_of space) (first_window space)).size ≡ 1
halvings space = halved_size (exponent_of space) (first_window space) refl

-- In a window of size 1 lies its start alone.
pub single : (w : Window) (n : ℕ) → w.size ≡ 1 → in_window w n ≡ true → n ≡ w.start
single w n e i = let both = in_window_bounds w n i in omega arith

-- What the count of ones accepts is a power of two, with its exponent.
pub power_level : (n : ℕ) → is_power n ≡ true → (k : ℕ) × (n ≡ 2 ^ k)
unfolding is_power
power_level n e = one_one n (eqb-true (ones n) 1 e)

-- The count of ones accepts every power of two.
pub power_test : (k : ℕ) → is_power (2 ^ k) ≡ true
unfolding is_power
power_test k = eq-eqb _ _ (ones_pow k)

-- Sides that the test finds the same are equal.
same_side_equal : (a b : Side) → same_side a b ≡ true → a ≡ b
same_side_equal Left Left e = refl
same_side_equal Left Right e = absurd (false≢true e)
same_side_equal Right Left e = absurd (false≢true e)
same_side_equal Right Right e = refl

-- The test finds a side the same as itself.
side_self : (a : Side) → same_side a a ≡ true
side_self Left = refl
side_self Right = refl

-- The window numbered m among those of one size passes the test.
placed_at :
    (space level m : ℕ) → level ≤ exponent_of space → m * 2 ^ level < 2 ^ exponent_of space
    → placed space (record { start = m * 2 ^ level; size = 2 ^ level; side = cond (eqb level (exponent_of space)) Right (side_at m) }) ≡ true
placed_at space level m h l =
    simp (power_test level, le-leb _ _ (pow_mono h), lt-ltb _ _ l, mul-mod_left m (2 ^ level), mul-div_cancel m (pow_pos level), pow_eqb, side_self)

-- A window that is placed passes the test.
pub placed_test : (space : ℕ) (w : Window) → Placed space w → placed space w ≡ true
placed_test space w p =
    let here : w ≡ record { start = p.multiple * 2 ^ p.level; size = 2 ^ p.level; side = cond (eqb p.level (exponent_of space)) Right (side_at p.multiple) } =
    (λ i. record { start = p.start_is i; size = p.size_is i; side = p.side_is i }) in
    ap (placed space) here ∙ placed_at space p.level p.multiple p.level_le (subst (λ (x : ℕ). x < 2 ^ exponent_of space) p.start_is p.start_in)

-- A window that passes the test is placed.
pub placed_view : (space : ℕ) (w : Window) → placed space w ≡ true → Placed space w
placed_view space w e =
    let a = (and-eq-true_iff _ _).0 e in
    let b = (and-eq-true_iff _ _).0 a.0 in
    let c = (and-eq-true_iff _ _).0 b.0 in
    let d = (and-eq-true_iff _ _).0 c.0 in
    let k = power_level w.size d.0 in
    let whole : w.start % w.size ≡ 0 = eqb-true _ _ b.1 in
    record {
      level = k.0;
      size_is = k.1;
      level_le = pow_le _ _ (subst (λ (x : ℕ). x ≤ 2 ^ exponent_of space) k.1 (leb-true _ _ d.1));
      multiple = w.start / w.size;
      start_is = rw (← k.1) (omega (arith, div-add-mod' w.start w.size));
      start_in = ltb-true _ _ c.1;
      side_is = same_side_equal _ _ a.1 ∙ ap (λ (t : Bool). cond t Right (side_at (w.start / w.size))) (ap (λ (x : ℕ). eqb x (2 ^ exponent_of space)) k.1 ∙ pow_eqb k.0 (exponent_of space));
    }

-- The first window is placed.
pub placed_first : (space : ℕ) → placed space (first_window space) ≡ true
placed_first space =
    placed_test space (first_window space) (record {
      level = exponent_of space;
      size_is = refl;
      level_le = le_refl _;
      multiple = 0;
      start_is = sym (zero-mul _);
      start_in = pow_pos _;
      side_is = simp (eq-eqb (exponent_of space) (exponent_of space) refl);
    })

-- The left half of a placed window that can be halved is placed.
pub placed_left : (space : ℕ) (w : Window) → placed space w ≡ true → 2 ≤ w.size → placed space (left_half w) ≡ true
placed_left space w e h = let p = placed_view space w e in go p.level p.multiple p.size_is p.level_le p.start_is p.start_in
  where
    go : (k m : ℕ) → w.size ≡ 2 ^ k → k ≤ exponent_of space → w.start ≡ m * 2 ^ k → w.start < 2 ^ exponent_of space → placed space (left_half w) ≡ true
    go zero m s l st i = absurd (omega arith)
    go (suc k) m s l st i =
        let lower : k < exponent_of space = l in
        let even : side_at (m * 2) ≡ Left = simp (mul-mod_left m 2) in
        placed_test space (left_half w) (record {
          level = k;
          size_is = omega (arith, pow-suc 2 k);
          level_le = omega arith;
          multiple = m * 2;
          start_is = st ∙ ap (λ (x : ℕ). m * x) (pow-succ' 2 k) ∙ sym (mul_assoc m 2 (2 ^ k));
          start_in = i;
          side_is = simp (ne_eqb k (exponent_of space) (omega arith), even);
        })

-- A placed window is one of the parts, as large as it is, of the first window.
placed_part : (space : ℕ) (w : Window) (p : Placed space w) → p.multiple < 2 ^ (exponent_of space - p.level)
placed_part space w p = part_below _ _ _ p.level_le (subst (λ (x : ℕ). x < 2 ^ exponent_of space) p.start_is p.start_in)

-- A side left says that the window is smaller than the first window, and at an even multiple.
left_even : (level exponent m : ℕ) → cond (eqb level exponent) Right (side_at m) ≡ Left → (level ≡ exponent → ⊥) × (m % 2 ≡ 0)
left_even level exponent m e = go (eqb level exponent) refl (eqb (m % 2) 0) refl e
  where
    go :
        (a : Bool) → eqb level exponent ≡ a → (b : Bool) → eqb (m % 2) 0 ≡ b → cond a Right (cond b Left Right) ≡ Left
        → (level ≡ exponent → ⊥) × (m % 2 ≡ 0)
    go true p b q r = absurd (false≢true (ap (same_side Left) r))
    go false p true q r = (eqb-false _ _ p, eqb-true _ _ q)
    go false p false q r = absurd (false≢true (ap (same_side Left) r))

-- A placed window whose side is left stays placed when it moves right.
pub placed_right : (space : ℕ) (w : Window) → placed space w ≡ true → w.side ≡ Left → placed space (move_right w) ≡ true
placed_right space w e h =
    let p = placed_view space w e in
    let f = left_even p.level (exponent_of space) p.multiple (sym p.side_is ∙ h) in
    let lower : p.level < exponent_of space = lt_of_le-ne p.level_le f.0 in
    let even : p.multiple % 2 ≡ 0 = f.1 in
    let odd : suc p.multiple % 2 ≡ 0 → ⊥ = omega arith in
    let next : w.start + w.size ≡ suc p.multiple * 2 ^ p.level = omega (arith, suc-mul p.multiple (2 ^ p.level)) in
    placed_test space (move_right w) (record {
      level = p.level;
      size_is = p.size_is;
      level_le = p.level_le;
      multiple = suc p.multiple;
      start_is = next;
      start_in = rw next (part_inside _ _ _ p.level_le (after_even _ _ (omega arith) even (placed_part space w p)));
      side_is = simp (ne_eqb _ _ f.0, ne_eqb _ _ odd);
    })

-- A placed window lies inside the first window.
pub placed_inside : (space : ℕ) (w : Window) → placed space w ≡ true → w.start + w.size ≤ 2 ^ exponent_of space
placed_inside space w e =
    let p = placed_view space w e in
    omega
    (arith, suc-mul p.multiple (2 ^ p.level), pow_parts _ _ p.level_le, mul-le-mul_right (2 ^ p.level) (placed_part space w p))

-- For placed windows the move in 64 bits is the move of Figure 6.
pub moved_right_free : (space : ℕ) (w : Window) → placed space w ≡ true → moved_right w ≡ move_right w
moved_right_free space w e =
    let room : w.start + w.size < 2 ^ 64 = omega (arith, placed_inside space w e, pow_mono (exponent_le space)) in
    simp (lt-ltb _ _ room)

-- A size that is a power of two, with its exponent, the window's level.
pub record Level (w : Window) : Type 0 where
  pub level : ℕ
  pub small : level ≤ 32
  pub size_is : w.size ≡ 2 ^ level

-- A placed window has a level.
pub placed_level : (space : ℕ) (w : Window) → placed space w ≡ true → Level w
placed_level space w e =
    let p = placed_view space w e in
    record { level = p.level; small = omega (arith, p.level_le, exponent_le space); size_is = p.size_is }

-- At level 0 the size is 1.
pub unit_size : (w : Window) → Level w → exponent_of w.size ≡ 0 → w.size ≡ 1
unit_size w l e = l.size_is ∙ ap (λ (k : ℕ). 2 ^ k) (sym (ap exponent_of l.size_is ∙ exponent_power l.level l.small) ∙ e)

-- A window that can be halved is twice its half, which is one level down.
pub record Halvable (w : Window) : Type 0 where
  pub twice : 2 * (w.size / 2) ≡ w.size
  pub down : suc (exponent_of (w.size / 2)) ≡ exponent_of w.size

pub half_level : (w : Window) → Level w → 2 ≤ w.size → Halvable w
half_level w l h = go l.level l.small l.size_is
  where
    go : (k : ℕ) → k ≤ 32 → w.size ≡ 2 ^ k → Halvable w
    go zero small e = absurd (omega arith)
    go (suc k) small e =
        let half : w.size / 2 ≡ 2 ^ k = omega (arith, pow-suc 2 k) in
        record {
          twice = omega (arith, pow-suc 2 k);
          down = ap (λ (n : ℕ). suc (exponent_of n)) half ∙ ap suc (exponent_power k (omega arith)) ∙ sym (ap exponent_of e ∙ exponent_power (suc k) small);
        }
