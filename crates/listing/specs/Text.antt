-- The lines of a listing (paper 01, 'The scenario and its listing') as bytes of ASCII. Assumes nothing.
use Rattle.std.specs.Prelude.{ℕ, cond, List, [], ◌∷◌, ◌++◌, ltb, eqb}
use Rattle.rules.specs.Probe.{Answer}
use Rattle.text.specs.Text.{decimal, space, newline, fields, word_line, REFUSED}

-- 'END', 'R', 'D', the words that a line opens with, beside 'REFUSED'
abbrev pub END : List ℕ
END = 69 ∷ 78 ∷ 68 ∷ []

abbrev pub R : List ℕ
R = 82 ∷ []

abbrev pub D : List ℕ
D = 68 ∷ []

-- 'REFUSED number offset'
abbrev pub refused_text : ℕ → ℕ → List ℕ
refused_text number offset = word_line REFUSED (number ∷ offset ∷ [])

-- 'R slot address number (the clock, the refusal) for a refused arrival'
abbrev pub arrival_text : ℕ → ℕ → ℕ → List ℕ
arrival_text slot address number = word_line R (slot ∷ address ∷ number ∷ [])

-- nothing for an accepted one, whose refusal is 0
abbrev pub refusal_text : ℕ → ℕ → ℕ → List ℕ
refusal_text slot address number = cond (eqb number 0) [] (arrival_text slot address number)

-- 'D count'
abbrev pub drops_text : ℕ → List ℕ
drops_text count = word_line D (count ∷ [])

-- 'END clock admitted sent lost waiting', and P4: '`END` gains the count as its last field'
abbrev pub end_text : ℕ → ℕ → ℕ → ℕ → ℕ → ℕ → List ℕ
end_text clock admitted sent lost waiting turned = word_line END (clock ∷ admitted ∷ sent ∷ lost ∷ waiting ∷ turned ∷ [])

-- 'phase P or T': the parameter phase is 0
abbrev pub phase_letter : ℕ → ℕ
phase_letter phase = cond (eqb phase 0) 80 84

-- 'event I, C, or S': idle is 0, a collision 1, a success 2
abbrev pub event_letter : ℕ → ℕ
event_letter event = cond (eqb event 0) 73 (cond (eqb event 1) 67 83)

-- 'S with address, packet number, length', and P1: 'prints the wait as a fourth number after S'
abbrev pub winner_of : Answer → List ℕ
winner_of a = a.address ∷ a.number ∷ a.length ∷ a.wait ∷ []

-- what follows the event: nothing unless it is a success
abbrev pub winner_fields : ℕ → List ℕ → List ℕ
winner_fields event winner = cond (ltb event 2) [] (fields winner)

-- 'slot phase start size event'
abbrev pub probe_text : ℕ → ℕ → ℕ → ℕ → ℕ → List ℕ → List ℕ
probe_text slot phase start size event winner =
    (((((decimal slot ++ (space ∷ phase_letter phase ∷ [])) ++ fields (start ∷ size ∷ [])) ++ (space ∷ event_letter event ∷ []))
    ++ winner_fields event winner)
    ++ (newline ∷ []))

-- 'D count if packets were dropped'
abbrev pub dropped_text : Answer → List ℕ
dropped_text a = cond (eqb a.drops 0) [] (drops_text a.drops)

-- 'slot phase start size event, ..'; a refused step has no line
abbrev pub probed_text : Answer → List ℕ
probed_text a =
    cond
    (eqb a.refusal 0)
    (probe_text a.slot a.phase a.start a.size a.event (winner_of a))
    []
