-- What each refusal number means, in words, a row a number (paper 01, 'Refusal numbers'; paper 02, P2 and P5). docs/FORMAT.md has the same words,
-- with what to do. Assumes nothing.
use Rattle.std.specs.Prelude.{ℕ, cond, List, [], ◌∷◌, eqb}
use Prim.Native.String.{String}
use Rattle.text.specs.Text.{bytes}

-- a row: a number and its words
pub record Row : Type 0 where
  pub number : ℕ
  pub words : String

abbrev pub row : ℕ → String → Row
row number words = record { number = number; words = words }

-- the words that rows have for a number, or other ones where none has it
abbrev pub words_in : List Row → List ℕ → ℕ → List ℕ
words_in [] other number = other
words_in (r ∷ rows) other number = cond (eqb number r.number) (bytes r.words) (words_in rows other number)

-- ---- the table

-- of a lent state and of a set-up
abbrev pub set_up_rows : List Row
set_up_rows =
    row 1 "the state that was lent breaks a standing condition"
    ∷ row 2 "the discipline is none of 0 PRI, 1 RTDG, 2 RTVC"
    ∷ row 3 "D is outside 2 to 65,536"
    ∷ row 4 "A is outside 2 to 65,536"
    ∷ row 5 "q is outside its range: 1 to 65,535 in RTDG, otherwise 1"
    ∷ row 6 "the number of stations is outside 1 to 64"
    ∷ row 7 "a station has an address at or above A"
    ∷ row 8 "a station has the address of an earlier station"
    ∷ row 9 "a capability is outside its range: 0 to D - 1 in RTVC, otherwise 0"
    ∷ row 10 "a station has the capability of an earlier station"
    ∷ []

-- of an admission and of a step
abbrev pub call_rows : List Row
call_rows =
    row 11 "no station has the address of an arrival"
    ∷ row 12 "a value is outside its range: PRI 0 to D - 1, RTDG 0 to 1,073,741,824, RTVC 0"
    ∷ row 13 "a packet length is outside 1 to 4,096"
    ∷ row 14 "an RTDG packet comes after its latest start"
    ∷ row 15 "the 16 places of a station are filled"
    ∷ row 16 "4,294,967,295 packets have been admitted, and no more can be"
    ∷ row 17 "the clock is above 1,073,737,728, past which no slot is probed"
    ∷ []

-- of a scenario, of a batch of runs, of a begin and of a probe
abbrev pub other_rows : List Row
other_rows =
    row 18 "the input ends inside a record or before the run record"
    ∷ row 19 "a record has no known kind, or not the length of its kind"
    ∷ row 20 "a record is out of place, or bytes come after the run record"
    ∷ row 21 "an arrival has a time below that of the arrival before it"
    ∷ row 22 "a scenario has at most 65,536 bytes"
    ∷ row 23 "a sheet has at most 256 runs"
    ∷ row 24 "a run does not balance: admitted is not sent + lost + waiting"
    ∷ row 25 "a contention cannot begin while one is under way"
    ∷ row 26 "there is nothing to probe while no contention is under way"
    ∷ []

-- ---- what a number means

unfoldable pub other_meaning : ℕ → List ℕ
other_meaning number = words_in other_rows (bytes "unknown number") number

unfoldable pub call_meaning : ℕ → List ℕ
call_meaning number = words_in call_rows (other_meaning number) number

unfoldable pub meaning_of : ℕ → List ℕ
meaning_of number = words_in set_up_rows (call_meaning number) number
