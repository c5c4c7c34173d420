-- What is proved of the words for refusals, in one place. `meaning_of` is the table of specs/Meanings.antt, and `refused_text` (specs/Refused.antt)
-- the text of a refused scenario. That each contract says all of its result and of the room is proofs/Unique.antt. Assumes nothing.
use Prim.Native.Nat.{ℕ, suc, ◌≤◌, ◌<◌}
use mathlib.Core.Path.{◌≡◌}
use mathlib.Core.List.{List}
use mathlib.Core.Option.{none}
use lib.ListN.{length}
use Rattle.text.specs.Text.{bytes}
use Rattle.meanings.specs.Meanings.{meaning_of}
use Rattle.meanings.specs.Refused.{begins_after, place_of}
use Rattle.meanings.specs.Examples.{examples, first_wrong}
use Rattle.meanings.proofs.Words as Words
use Rattle.meanings.proofs.Places as Places
use Rattle.meanings.proofs.Examples as Examples

-- no meaning has more than 80 bytes, and no number above 26 has one of its own
pub meaning_short : (n : ℕ) → length (meaning_of n) ≤ 80
meaning_short = Words.meaning_short

pub unknown : (n : ℕ) → 26 < n → meaning_of n ≡ bytes "unknown number"
unknown = Words.unknown

-- the record with so many before it, each by its own length, has the place after them
pub place_counts : (others : ℕ) (input : List ℕ) → place_of input (begins_after others input 0) ≡ suc others
place_counts = Places.place_counts

-- the table of refused scenarios and what is said of them holds, word for word
pub all_said : first_wrong 1 examples ≡ none
all_said = Examples.all_said
