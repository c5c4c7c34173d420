-- Laws of little-endian numbers at an offset of bytes. Assumes nothing.
use Prim.Native.Nat.{ℕ, zero, suc, ◌+◌, ◌*◌, ◌^◌}
use mathlib.Core.Path.{◌≡◌, refl, ap, ◌∙◌}
use mathlib.Core.List.{List, [], ◌∷◌}
use native.Mathlib.Nat.{zero-add, suc-add, mul-zero, mul_assoc, pow-succ'}
use native.Mathlib.Omega.{arith}
use lib.ListN.{get_or, take, drop}
use lib.Seq.{take-nil, drop-nil, drop-drop}
use Rattle.scenario.specs.Format.{number, fields}

-- The one-byte number at an offset is the byte there.
pub byte_at : (s : List ℕ) (at : ℕ) → number (take 1 (drop at s)) ≡ get_or s at 0
byte_at [] at = ap (λ (l : List ℕ). number (take 1 l)) (drop-nil at)
byte_at (x ∷ s) zero = omega arith
byte_at (x ∷ s) (suc at) = byte_at s at

-- The number of the first bytes, and that of the bytes after them times what one of those counts for.
two_parts : (m n : ℕ) (s : List ℕ) → number (take (m + n) s) ≡ number (take m s) + 256 ^ m * number (take n (drop m s))
two_parts zero n s = ap (λ (k : ℕ). number (take k s)) (zero-add n) ∙ omega arith
two_parts (suc m) n [] = simp (take-nil, mul-zero)
two_parts (suc m) n (x ∷ s) =
    let A = number (take m s) in
    let B = number (take n (drop m s)) in
    ap (λ (k : ℕ). number (take k (x ∷ s))) (suc-add m n)
    ∙ ap (λ (k : ℕ). x + 256 * k) (two_parts m n s)
    ∙ omega (arith, mul_assoc 256 (256 ^ m) B, ap (λ (k : ℕ). k * B) (pow-succ' 256 m))

-- A number at an offset is made of its two halves.
pub halves : (w at : ℕ) (s : List ℕ) → number (take (w + w) (drop at s)) ≡ number (take w (drop at s)) + 256 ^ w * number (take w (drop (at + w) s))
halves w at s = two_parts w w (drop at s) ∙ ap (λ (l : List ℕ). number (take w (drop at s)) + 256 ^ w * number (take w l)) (drop-drop w at s)

-- The numbers of these widths, one after the other, from an offset on.
abbrev pub fields_from : List ℕ → ℕ → List ℕ → List ℕ
fields_from [] at s = []
fields_from (width ∷ widths) at s = number (take width (drop at s)) ∷ fields_from widths (at + width) s

-- The fields of what lies from an offset on stand at their offsets.
pub fields_are_from : (widths : List ℕ) (at : ℕ) (s : List ℕ) → fields widths (drop at s) ≡ fields_from widths at s
fields_are_from [] at s = refl
fields_are_from (width ∷ widths) at s =
    ap (λ (l : List ℕ). number (take width (drop at s)) ∷ l) (ap (fields widths) (drop-drop width at s) ∙ fields_are_from widths (at + width) s)
