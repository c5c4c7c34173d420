-- The worked example of paper 01, 'The scenario and its listing': the bytes of its input and of its output, with P1's waits and P4's count, and
-- what it asks for; a second example, whose arrivals come later; a third, with an arrival that is admitted after its time; and a fourth, with one that
-- is late by then. Assumes nothing.
use Rattle.std.specs.Prelude.{ℕ, List, [], ◌∷◌}
use Rattle.rules.specs.SetUp.{Request}
use Rattle.state.specs.declared.Arrival.{Arrival}

-- 'Input, hexadecimal', record by record
abbrev pub worked_input : List ℕ
worked_input =
    -- a set-up: discipline 0 (PRI), D 4, A 8, q 1, N 3
    14 ∷ 0 ∷ 1 ∷ 0 ∷ 0 ∷ 4 ∷ 0 ∷ 0 ∷ 0 ∷ 8 ∷ 0 ∷ 0 ∷ 0 ∷ 1 ∷ 0 ∷ 3 ∷
    -- a station: address 1, capability 0
    6 ∷ 0 ∷ 2 ∷ 0 ∷ 1 ∷ 0 ∷ 0 ∷ 0 ∷
    -- a station: address 5, capability 0
    6 ∷ 0 ∷ 2 ∷ 0 ∷ 5 ∷ 0 ∷ 0 ∷ 0 ∷
    -- a station: address 6, capability 0
    6 ∷ 0 ∷ 2 ∷ 0 ∷ 6 ∷ 0 ∷ 0 ∷ 0 ∷
    -- an arrival: time 0, address 5, value 2, packet length 3
    14 ∷ 0 ∷ 3 ∷ 0 ∷ 0 ∷ 0 ∷ 0 ∷ 0 ∷ 5 ∷ 0 ∷ 2 ∷ 0 ∷ 0 ∷ 0 ∷ 3 ∷ 0 ∷
    -- an arrival: time 0, address 6, value 2, packet length 1
    14 ∷ 0 ∷ 3 ∷ 0 ∷ 0 ∷ 0 ∷ 0 ∷ 0 ∷ 6 ∷ 0 ∷ 2 ∷ 0 ∷ 0 ∷ 0 ∷ 1 ∷ 0 ∷
    -- an arrival: time 0, address 1, value 3, packet length 2
    14 ∷ 0 ∷ 3 ∷ 0 ∷ 0 ∷ 0 ∷ 0 ∷ 0 ∷ 1 ∷ 0 ∷ 3 ∷ 0 ∷ 0 ∷ 0 ∷ 2 ∷ 0 ∷
    -- a run: 14 steps
    4 ∷ 0 ∷ 4 ∷ 0 ∷ 14 ∷ 0 ∷
    []

-- 'Output', line by line
abbrev pub worked_output : List ℕ
worked_output =
    -- 0 P 0 4 C
    48 ∷ 32 ∷ 80 ∷ 32 ∷ 48 ∷ 32 ∷ 52 ∷ 32 ∷ 67 ∷ 10 ∷
    -- 1 P 0 2 I
    49 ∷ 32 ∷ 80 ∷ 32 ∷ 48 ∷ 32 ∷ 50 ∷ 32 ∷ 73 ∷ 10 ∷
    -- 2 P 2 2 C
    50 ∷ 32 ∷ 80 ∷ 32 ∷ 50 ∷ 32 ∷ 50 ∷ 32 ∷ 67 ∷ 10 ∷
    -- 3 P 2 1 C
    51 ∷ 32 ∷ 80 ∷ 32 ∷ 50 ∷ 32 ∷ 49 ∷ 32 ∷ 67 ∷ 10 ∷
    -- 4 T 0 8 C
    52 ∷ 32 ∷ 84 ∷ 32 ∷ 48 ∷ 32 ∷ 56 ∷ 32 ∷ 67 ∷ 10 ∷
    -- 5 T 0 4 I
    53 ∷ 32 ∷ 84 ∷ 32 ∷ 48 ∷ 32 ∷ 52 ∷ 32 ∷ 73 ∷ 10 ∷
    -- 6 T 4 4 C
    54 ∷ 32 ∷ 84 ∷ 32 ∷ 52 ∷ 32 ∷ 52 ∷ 32 ∷ 67 ∷ 10 ∷
    -- 7 T 4 2 S 5 1 3 7
    55 ∷ 32 ∷ 84 ∷ 32 ∷ 52 ∷ 32 ∷ 50 ∷ 32 ∷ 83 ∷ 32 ∷ 53 ∷ 32 ∷ 49 ∷ 32 ∷ 51 ∷ 32 ∷ 55 ∷ 10 ∷
    -- 10 P 0 4 C
    49 ∷ 48 ∷ 32 ∷ 80 ∷ 32 ∷ 48 ∷ 32 ∷ 52 ∷ 32 ∷ 67 ∷ 10 ∷
    -- 11 P 0 2 I
    49 ∷ 49 ∷ 32 ∷ 80 ∷ 32 ∷ 48 ∷ 32 ∷ 50 ∷ 32 ∷ 73 ∷ 10 ∷
    -- 12 P 2 2 C
    49 ∷ 50 ∷ 32 ∷ 80 ∷ 32 ∷ 50 ∷ 32 ∷ 50 ∷ 32 ∷ 67 ∷ 10 ∷
    -- 13 P 2 1 S 6 2 1 13
    49 ∷ 51 ∷ 32 ∷ 80 ∷ 32 ∷ 50 ∷ 32 ∷ 49 ∷ 32 ∷ 83 ∷ 32 ∷ 54 ∷ 32 ∷ 50 ∷ 32 ∷ 49 ∷ 32 ∷ 49 ∷ 51 ∷ 10 ∷
    -- 14 P 0 4 S 1 3 2 14
    49 ∷ 52 ∷ 32 ∷ 80 ∷ 32 ∷ 48 ∷ 32 ∷ 52 ∷ 32 ∷ 83 ∷ 32 ∷ 49 ∷ 32 ∷ 51 ∷ 32 ∷ 50 ∷ 32 ∷ 49 ∷ 52 ∷ 10 ∷
    -- 16 P 0 4 I
    49 ∷ 54 ∷ 32 ∷ 80 ∷ 32 ∷ 48 ∷ 32 ∷ 52 ∷ 32 ∷ 73 ∷ 10 ∷
    -- END 17 3 3 0 0 0
    69 ∷ 78 ∷ 68 ∷ 32 ∷ 49 ∷ 55 ∷ 32 ∷ 51 ∷ 32 ∷ 51 ∷ 32 ∷ 48 ∷ 32 ∷ 48 ∷ 32 ∷ 48 ∷ 10 ∷
    []

-- what it asks for: the set-up and the arrivals of its 14 steps
abbrev pub worked_request : Request
worked_request =
    record {
      discipline = 0;
      D = 4;
      A = 8;
      q = 1;
      N = 3;
      row = record { address = 1; capability = 0 } ∷ record { address = 5; capability = 0 } ∷ record { address = 6; capability = 0 } ∷ [];
    }

abbrev arrival : ℕ → ℕ → ℕ → Arrival
arrival address value long = record { time = record { 0 = 0 }; address = record { 0 = address }; value = value; length = long }

abbrev pub worked_arrivals : List Arrival
worked_arrivals = arrival 5 2 3 ∷ arrival 6 2 1 ∷ arrival 1 3 2 ∷ []

-- 'Before each step it admits, in file order, the arrivals whose time is not above the clock.' 'Arrivals the run never reaches are not admitted': the
-- last is due at slot 3, where no step is left.
abbrev pub timed_input : List ℕ
timed_input =
    -- a set-up: discipline 0 (PRI), D 2, A 2, q 1, N 1
    14 ∷ 0 ∷ 1 ∷ 0 ∷ 0 ∷ 2 ∷ 0 ∷ 0 ∷ 0 ∷ 2 ∷ 0 ∷ 0 ∷ 0 ∷ 1 ∷ 0 ∷ 1 ∷
    -- a station: address 0, capability 0
    6 ∷ 0 ∷ 2 ∷ 0 ∷ 0 ∷ 0 ∷ 0 ∷ 0 ∷
    -- an arrival: time 1, address 0, value 0, packet length 1
    14 ∷ 0 ∷ 3 ∷ 0 ∷ 1 ∷ 0 ∷ 0 ∷ 0 ∷ 0 ∷ 0 ∷ 0 ∷ 0 ∷ 0 ∷ 0 ∷ 1 ∷ 0 ∷
    -- an arrival: time 1, address 1, value 0, packet length 1
    14 ∷ 0 ∷ 3 ∷ 0 ∷ 1 ∷ 0 ∷ 0 ∷ 0 ∷ 1 ∷ 0 ∷ 0 ∷ 0 ∷ 0 ∷ 0 ∷ 1 ∷ 0 ∷
    -- an arrival: time 3, address 0, value 0, packet length 1
    14 ∷ 0 ∷ 3 ∷ 0 ∷ 3 ∷ 0 ∷ 0 ∷ 0 ∷ 0 ∷ 0 ∷ 0 ∷ 0 ∷ 0 ∷ 0 ∷ 1 ∷ 0 ∷
    -- a run: 3 steps
    4 ∷ 0 ∷ 4 ∷ 0 ∷ 3 ∷ 0 ∷
    []

abbrev pub timed_output : List ℕ
timed_output =
    -- 0 P 0 2 I
    48 ∷ 32 ∷ 80 ∷ 32 ∷ 48 ∷ 32 ∷ 50 ∷ 32 ∷ 73 ∷ 10 ∷
    -- R 1 1 11
    82 ∷ 32 ∷ 49 ∷ 32 ∷ 49 ∷ 32 ∷ 49 ∷ 49 ∷ 10 ∷
    -- 1 P 0 2 S 0 1 1 0
    49 ∷ 32 ∷ 80 ∷ 32 ∷ 48 ∷ 32 ∷ 50 ∷ 32 ∷ 83 ∷ 32 ∷ 48 ∷ 32 ∷ 49 ∷ 32 ∷ 49 ∷ 32 ∷ 48 ∷ 10 ∷
    -- 2 P 0 2 I
    50 ∷ 32 ∷ 80 ∷ 32 ∷ 48 ∷ 32 ∷ 50 ∷ 32 ∷ 73 ∷ 10 ∷
    -- END 3 1 1 0 0 0
    69 ∷ 78 ∷ 68 ∷ 32 ∷ 51 ∷ 32 ∷ 49 ∷ 32 ∷ 49 ∷ 32 ∷ 48 ∷ 32 ∷ 48 ∷ 32 ∷ 48 ∷ 10 ∷
    []

-- The wait is counted from the admission and not from the arrival's time: the second arrival, with time 1, is admitted at slot 10, as the packet
-- of 10 slots ends, and wins at once.
abbrev pub waited_input : List ℕ
waited_input =
    -- a set-up: discipline 0 (PRI), D 2, A 2, q 1, N 1
    14 ∷ 0 ∷ 1 ∷ 0 ∷ 0 ∷ 2 ∷ 0 ∷ 0 ∷ 0 ∷ 2 ∷ 0 ∷ 0 ∷ 0 ∷ 1 ∷ 0 ∷ 1 ∷
    -- a station: address 0, capability 0
    6 ∷ 0 ∷ 2 ∷ 0 ∷ 0 ∷ 0 ∷ 0 ∷ 0 ∷
    -- an arrival: time 0, address 0, value 0, packet length 10
    14 ∷ 0 ∷ 3 ∷ 0 ∷ 0 ∷ 0 ∷ 0 ∷ 0 ∷ 0 ∷ 0 ∷ 0 ∷ 0 ∷ 0 ∷ 0 ∷ 10 ∷ 0 ∷
    -- an arrival: time 1, address 0, value 0, packet length 1
    14 ∷ 0 ∷ 3 ∷ 0 ∷ 1 ∷ 0 ∷ 0 ∷ 0 ∷ 0 ∷ 0 ∷ 0 ∷ 0 ∷ 0 ∷ 0 ∷ 1 ∷ 0 ∷
    -- a run: 2 steps
    4 ∷ 0 ∷ 4 ∷ 0 ∷ 2 ∷ 0 ∷
    []

abbrev pub waited_output : List ℕ
waited_output =
    -- 0 P 0 2 S 0 1 10 0
    48 ∷ 32 ∷ 80 ∷ 32 ∷ 48 ∷ 32 ∷ 50 ∷ 32 ∷ 83 ∷ 32 ∷ 48 ∷ 32 ∷ 49 ∷ 32 ∷ 49 ∷ 48 ∷ 32 ∷ 48 ∷ 10 ∷
    -- 10 P 0 2 S 0 2 1 0
    49 ∷ 48 ∷ 32 ∷ 80 ∷ 32 ∷ 48 ∷ 32 ∷ 50 ∷ 32 ∷ 83 ∷ 32 ∷ 48 ∷ 32 ∷ 50 ∷ 32 ∷ 49 ∷ 32 ∷ 48 ∷ 10 ∷
    -- END 11 2 2 0 0 0
    69 ∷ 78 ∷ 68 ∷ 32 ∷ 49 ∷ 49 ∷ 32 ∷ 50 ∷ 32 ∷ 50 ∷ 32 ∷ 48 ∷ 32 ∷ 48 ∷ 32 ∷ 48 ∷ 10 ∷
    []

-- A packet turned away: the second arrival, with time 1 and latest start 2, is asked for at slot 3, as the packet of 3 slots ends.
abbrev pub turned_input : List ℕ
turned_input =
    -- a set-up: discipline 1 (RTDG), D 2, A 2, q 1, N 1
    14 ∷ 0 ∷ 1 ∷ 0 ∷ 1 ∷ 2 ∷ 0 ∷ 0 ∷ 0 ∷ 2 ∷ 0 ∷ 0 ∷ 0 ∷ 1 ∷ 0 ∷ 1 ∷
    -- a station: address 0, capability 0
    6 ∷ 0 ∷ 2 ∷ 0 ∷ 0 ∷ 0 ∷ 0 ∷ 0 ∷
    -- an arrival: time 0, address 0, value 0, packet length 3
    14 ∷ 0 ∷ 3 ∷ 0 ∷ 0 ∷ 0 ∷ 0 ∷ 0 ∷ 0 ∷ 0 ∷ 0 ∷ 0 ∷ 0 ∷ 0 ∷ 3 ∷ 0 ∷
    -- an arrival: time 1, address 0, value 2, packet length 1
    14 ∷ 0 ∷ 3 ∷ 0 ∷ 1 ∷ 0 ∷ 0 ∷ 0 ∷ 0 ∷ 0 ∷ 2 ∷ 0 ∷ 0 ∷ 0 ∷ 1 ∷ 0 ∷
    -- a run: 2 steps
    4 ∷ 0 ∷ 4 ∷ 0 ∷ 2 ∷ 0 ∷
    []

abbrev pub turned_output : List ℕ
turned_output =
    -- 0 P 0 2 S 0 1 3 0
    48 ∷ 32 ∷ 80 ∷ 32 ∷ 48 ∷ 32 ∷ 50 ∷ 32 ∷ 83 ∷ 32 ∷ 48 ∷ 32 ∷ 49 ∷ 32 ∷ 51 ∷ 32 ∷ 48 ∷ 10 ∷
    -- R 3 0 14
    82 ∷ 32 ∷ 51 ∷ 32 ∷ 48 ∷ 32 ∷ 49 ∷ 52 ∷ 10 ∷
    -- 3 P 0 2 I
    51 ∷ 32 ∷ 80 ∷ 32 ∷ 48 ∷ 32 ∷ 50 ∷ 32 ∷ 73 ∷ 10 ∷
    -- END 4 1 1 0 0 1
    69 ∷ 78 ∷ 68 ∷ 32 ∷ 52 ∷ 32 ∷ 49 ∷ 32 ∷ 49 ∷ 32 ∷ 48 ∷ 32 ∷ 48 ∷ 32 ∷ 49 ∷ 10 ∷
    []
