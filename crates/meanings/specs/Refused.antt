-- A refused scenario in words: the number, what it means, and the record that is refused. Assumes nothing.
use Rattle.std.specs.Prelude.{ℕ, zero, suc, ◌+◌, min, cond, List, [], ◌∷◌, ◌++◌, ltb, eqb, length, drop}
use Rattle.text.specs.Text.{bytes, decimal}
use Rattle.scenario.specs.Format.{set_up_kind, station_kind, arrival_kind, run_kind, length_in, kind_in}
use Rattle.meanings.specs.Meanings.{Row, row, words_in, meaning_of}

-- ---- which record

-- how many records begin from a byte on and before an end, each by 'a two-byte length (of what follows it)'. A record takes bytes, so that as
-- many turns as there are bytes before the end are enough.
abbrev pub begin_from : ℕ → List ℕ → ℕ → ℕ → ℕ
begin_from zero input byte end = 0
begin_from (suc turns) input byte end =
    cond (ltb byte end) (suc (begin_from turns input (byte + (2 + length_in (drop byte input))) end)) 0

-- where the record begins that comes so many after the one at a byte: each right after the one before it
abbrev pub begins_after : ℕ → List ℕ → ℕ → ℕ
begins_after zero input byte = byte
begins_after (suc others) input byte = begins_after others input (byte + (2 + length_in (drop byte input)))

-- the place of the record at an offset, counted from 1: one more than the records that begin before it
unfoldable pub place_of : List ℕ → ℕ → ℕ
place_of input offset = suc (begin_from offset input 0 offset)

-- what a record is, by its kind
abbrev pub kinds : List Row
kinds =
    row set_up_kind.kind "a set-up"
    ∷ row station_kind.kind "a station"
    ∷ row arrival_kind.kind "an arrival"
    ∷ row run_kind.kind "a run"
    ∷ []

unfoldable pub kind_words : ℕ → List ℕ
kind_words kind = words_in kinds (bytes "of no known kind") kind

-- by what the input has from its first byte on: nothing, less than length and kind, or both
unfoldable pub record_words : List ℕ → List ℕ
record_words rest =
    cond (eqb (length rest) 0) (bytes "where the input ends") (cond (ltb (length rest) 4) (bytes "cut short") (kind_words (kind_in rest)))

-- ---- the text

-- the number, and what it means
abbrev pub number_text : ℕ → List ℕ
number_text number = bytes "refused, number " ++ (decimal number ++ (bytes ": " ++ meaning_of number))

-- the record at an offset
abbrev pub record_text : List ℕ → ℕ → List ℕ
record_text input offset =
    bytes "; record "
    ++ (decimal (place_of input offset) ++ (bytes ", " ++ (record_words (drop offset input) ++ (bytes ", at byte " ++ decimal offset))))

-- the whole; an offset past the input's end counts as that. '22: scenario above 65,536 bytes' is said of no record.
abbrev pub refused_text : List ℕ → ℕ → ℕ → List ℕ
refused_text input number offset = number_text number ++ cond (eqb number 22) [] (record_text input (min offset (length input)))
