-- Three scenarios and the lines that they are shown as: by priority, by laxity and by virtual circuit. Assumes nothing.
use Rattle.std.specs.Prelude.{ℕ, List, [], ◌∷◌, ◌++◌}
use Prim.Native.String.{String}
use Rattle.rules.specs.SetUp.{Asked, Request}
use Rattle.state.specs.declared.Arrival.{Arrival}
use Rattle.text.specs.Text.{bytes, newline}

-- quoted lines, each with its newline
abbrev pub lines_text : List String → List ℕ
lines_text [] = []
lines_text (line ∷ later) = bytes line ++ (newline ∷ lines_text later)

abbrev asked : ℕ → ℕ → Asked
asked address capability = record { address = address; capability = capability }

abbrev arrival : ℕ → ℕ → ℕ → ℕ → Arrival
arrival time address value long = record { time = record { 0 = time }; address = record { 0 = address }; value = value; length = long }

-- by priority; the third arrival has a priority that is not below D, and the fourth no length
abbrev pub pri_request : Request
pri_request = record { discipline = 0; D = 4; A = 512; q = 1; N = 3; row = asked 7 0 ∷ asked 263 0 ∷ asked 6 0 ∷ [] }

abbrev pub pri_arrivals : List Arrival
pri_arrivals = arrival 0 7 2 3 ∷ arrival 0 263 2 1 ∷ arrival 10 6 4 1 ∷ arrival 10 6 3 0 ∷ []

abbrev pub pri_lines : List String
pri_lines =
    "bus PRI D 4 A 512 q 1"
    ∷ "station address 0x0007"
    ∷ "station address 0x0107"
    ∷ "station address 0x0006"
    ∷ "arrival time 0 address 0x0007 value 2 length 3"
    ∷ "arrival time 0 address 0x0107 value 2 length 1"
    ∷ "attempt time 10 address 0x0006 value 4 length 1"
    ∷ "attempt time 10 address 0x0006 value 3 length 0"
    ∷ "run steps 40"
    ∷ []

-- by laxity; the second arrival is too long, and no station has its address
abbrev pub rtdg_request : Request
rtdg_request = record { discipline = 1; D = 16; A = 4_096; q = 10; N = 1; row = asked 2_748 0 ∷ [] }

abbrev pub rtdg_arrivals : List Arrival
rtdg_arrivals = arrival 5 2_748 120 4_096 ∷ arrival 300 65_535 450 4_097 ∷ []

abbrev pub rtdg_lines : List String
rtdg_lines =
    "bus RTDG D 16 A 4096 q 10"
    ∷ "station address 0x0ABC"
    ∷ "arrival time 5 address 0x0ABC value 120 length 4096"
    ∷ "attempt time 300 address 0xFFFF value 450 length 4097"
    ∷ "run steps 1000"
    ∷ []

-- by virtual circuit, where a value is 0
abbrev pub rtvc_request : Request
rtvc_request = record { discipline = 2; D = 8; A = 16; q = 1; N = 2; row = asked 9 3 ∷ asked 12 0 ∷ [] }

abbrev pub rtvc_arrivals : List Arrival
rtvc_arrivals = arrival 2 9 1 4 ∷ arrival 2 12 0 8 ∷ []

abbrev pub rtvc_lines : List String
rtvc_lines =
    "bus RTVC D 8 A 16 q 1"
    ∷ "station address 0x0009 capability 3"
    ∷ "station address 0x000C capability 0"
    ∷ "attempt time 2 address 0x0009 value 1 length 4"
    ∷ "arrival time 2 address 0x000C value 0 length 8"
    ∷ "run steps 0"
    ∷ []
