-- Scenarios, measured: the worked example of paper 01, the same cut short, one whose longest wait is not that of its last success, and one in which
-- a packet is turned away.
-- Assumes nothing.
use Rattle.std.specs.Prelude.{ℕ, List, [], ◌∷◌, Result, Ok, Err}
use Rattle.scenario.specs.Reading.{Numbered}
use Rattle.sheet.specs.declared.Run.{Run}

-- a scenario that is accepted, with the packets admitted, sent, lost, waiting and turned away, and the longest wait
abbrev pub finished_with : ℕ → ℕ → ℕ → ℕ → ℕ → ℕ → Result Run Numbered
finished_with admitted sent lost waiting turned wait =
    Ok (record { admitted = admitted; sent = sent; lost = lost; waiting = waiting; turned = turned; wait = wait })

-- a scenario that is refused: its number, and the offset of what is refused
abbrev pub refused_with : ℕ → ℕ → Result Run Numbered
refused_with number offset = Err (record { number = number; offset = offset })

-- Its successes wait 1, 2 and 1 slots:
--     0 P 0 2 C
--     1 P 0 1 S 0 1 1 1
--     2 P 0 2 S 1 2 1 2
--     3 P 0 2 C
--     4 P 0 1 S 0 3 1 1
--     END 5 4 3 0 1 0
abbrev pub later_input : List ℕ
later_input =
    -- a set-up: discipline 0 (PRI), D 2, A 2, q 1, N 2
    14 ∷ 0 ∷ 1 ∷ 0 ∷ 0 ∷ 2 ∷ 0 ∷ 0 ∷ 0 ∷ 2 ∷ 0 ∷ 0 ∷ 0 ∷ 1 ∷ 0 ∷ 2 ∷
    -- a station: address 0, capability 0
    6 ∷ 0 ∷ 2 ∷ 0 ∷ 0 ∷ 0 ∷ 0 ∷ 0 ∷
    -- a station: address 1, capability 0
    6 ∷ 0 ∷ 2 ∷ 0 ∷ 1 ∷ 0 ∷ 0 ∷ 0 ∷
    -- an arrival: time 0, address 0, value 0, packet length 1
    14 ∷ 0 ∷ 3 ∷ 0 ∷ 0 ∷ 0 ∷ 0 ∷ 0 ∷ 0 ∷ 0 ∷ 0 ∷ 0 ∷ 0 ∷ 0 ∷ 1 ∷ 0 ∷
    -- an arrival: time 0, address 1, value 1, packet length 1
    14 ∷ 0 ∷ 3 ∷ 0 ∷ 0 ∷ 0 ∷ 0 ∷ 0 ∷ 1 ∷ 0 ∷ 1 ∷ 0 ∷ 0 ∷ 0 ∷ 1 ∷ 0 ∷
    -- an arrival: time 3, address 0, value 0, packet length 1
    14 ∷ 0 ∷ 3 ∷ 0 ∷ 3 ∷ 0 ∷ 0 ∷ 0 ∷ 0 ∷ 0 ∷ 0 ∷ 0 ∷ 0 ∷ 0 ∷ 1 ∷ 0 ∷
    -- an arrival: time 3, address 1, value 1, packet length 1
    14 ∷ 0 ∷ 3 ∷ 0 ∷ 3 ∷ 0 ∷ 0 ∷ 0 ∷ 1 ∷ 0 ∷ 1 ∷ 0 ∷ 0 ∷ 0 ∷ 1 ∷ 0 ∷
    -- a run: 5 steps
    4 ∷ 0 ∷ 4 ∷ 0 ∷ 5 ∷ 0 ∷
    []
