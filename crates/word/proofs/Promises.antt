-- What is proved of words, in one place: 'station i in listed order at bit i' (P10). A word means the list of the stations whose bits are set,
-- its members; `Among q (members w)` says that q is one of them. What the words mean is in specs/Word.antt, and the contracts of src/ cite
-- `set_at`, `clear_at`, `bit_at`, `count_of` and `lowest_of`; that each says all of its result is proofs/Unique.antt. Assumes nothing.
use Prim.Native.Nat.{ℕ, suc, ◌^◌, ◌≤◌, ◌<◌}
use mathlib.Core.Path.{◌≡◌, refl}
use mathlib.Core.Bool.{Bool, true, false, ◌&&◌}
use mathlib.Core.List.{[], Memᴰ as Among}
use mathlib.Core.Logic.{◌⊎◌, ◌↔◌}
use lib.Bits.{bit_and}
use lib.Count.{ones, count_trailing_zeros}
use lib.ListN.{length}
use Rattle.word.specs.Word.{bits, bit_at, places_from, members, word_of, set_at, clear_at, count_of, lowest_of}
use Rattle.word.proofs.Laws as Laws
use Rattle.word.proofs.Members as Members

-- ---- the word of some stations: below 2 ^ k where they are the first k, with the bit of station i at place i; every word is that of its bits

pub word_lt : (test : ℕ → Bool) (k : ℕ) → word_of test k < 2 ^ k
word_lt = Laws.word_lt

pub bit_word : (test : ℕ → Bool) (k i : ℕ) → i < k → bit_at (word_of test k) i ≡ test i
bit_word = Laws.bit_word

pub word_bits : (k w : ℕ) → w < 2 ^ k → word_of (bit_at w) k ≡ w
word_bits = Laws.word_bits

pub members_word : (f : ℕ → Bool) → members (word_of f bits) ≡ places_from f 0 bits
members_word = Laws.members_word

-- ---- words that have the same members are equal

pub same_members : (v w : ℕ) → v < 2 ^ bits → w < 2 ^ bits → ((p : ℕ) → Among p (members v) ↔ Among p (members w)) → v ≡ w
same_members = Members.same_members

-- ---- test: a station is a member exactly when its bit is set; a word has no bit past its last

pub member : (w p : ℕ) → Among p (members w) ↔ ((p < bits) × (bit_at w p ≡ true))
member = Members.member

pub bit_past : (w i : ℕ) → w < 2 ^ bits → bits ≤ i → bit_at w i ≡ false
bit_past = Laws.bit_past bits

-- ---- set: the station set, and those that were members; the result is a word

pub members-set : (w p q : ℕ) → Among q (members (set_at w p)) ↔ (((q ≡ p) × (q < bits)) ⊎ Among q (members w))
members-set = Members.members-set

pub set_lt : (w p : ℕ) → set_at w p < 2 ^ bits
set_lt = Members.set_lt

-- a word that is made station by station, in listed order: a station that is in it is set, and one that is not leaves it as it is
pub set_next : (f : ℕ → Bool) (k : ℕ) → k < bits → f k ≡ true → set_at (word_of f k) k ≡ word_of f (suc k)
set_next = Laws.set_next

pub word_stays : (f : ℕ → Bool) (k : ℕ) → f k ≡ false → word_of f (suc k) ≡ word_of f k
word_stays = Laws.word_stays

-- ---- clear: those that were members, but the station cleared; the result is a word

pub members_clear : (w p q : ℕ) → Among q (members (clear_at w p)) ↔ ((q ≡ p → ⊥) × Among q (members w))
members_clear = Members.members_clear

pub clear_lt : (w p : ℕ) → clear_at w p < 2 ^ bits
clear_lt = Members.clear_lt

-- ---- two words masked with each other: the members of both

pub members_both : (v w q : ℕ) → Among q (members (bit_and v w)) ↔ (Among q (members v) × Among q (members w))
members_both = Members.members_both

pub both_of : (f g : ℕ → Bool) (k : ℕ) → bit_and (word_of f k) (word_of g k) ≡ word_of (λ i. f i && g i) k
both_of = Laws.both_of

-- ---- count: the number of members, which is the count of ones

pub count_members : (w : ℕ) → count_of w ≡ length (members w)
count_members w = refl

pub ones_members : (w : ℕ) → w < 2 ^ bits → ones w ≡ count_of w
ones_members = Laws.ones_members

-- ---- lowest: the first member, which is the count of trailing zeros: below it no bit is set, and its own is; 64 where there is no member

pub trailing_lowest : (w : ℕ) → count_trailing_zeros bits w ≡ lowest_of w
trailing_lowest = Laws.trailing_lowest

pub lowest_le : (w : ℕ) → lowest_of w ≤ bits
lowest_le = Laws.lowest_le

pub lowest_member : (w : ℕ) → lowest_of w < bits → Among (lowest_of w) (members w)
lowest_member = Members.lowest_member

pub lowest_first : (w p : ℕ) → Among p (members w) → lowest_of w ≤ p
lowest_first = Members.lowest_first

pub lowest_below : (w i : ℕ) → i < lowest_of w → bit_at w i ≡ false
lowest_below = Members.lowest_below

pub lowest_own : (w : ℕ) → lowest_of w < bits → bit_at w (lowest_of w) ≡ true
lowest_own = Members.lowest_own

pub lowest_none : (w : ℕ) → lowest_of w ≡ bits → members w ≡ []
lowest_none = Members.lowest_none
