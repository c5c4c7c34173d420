-- Layouts with what they say: one table, proved by proofs/Examples.antt. Each fault of docs/LAYOUT.md is in it, most of them beside the nearest
-- lines that are right. Assumes nothing.
use Rattle.std.specs.Prelude.{ℕ, suc, ◌/◌, ◌%◌, List, [], ◌∷◌, ◌++◌, map, length}
use Prim.Native.String.{String}
use Rattle.rules.specs.Lists.{count_up}
use Rattle.rules.specs.declared.Discipline.{Discipline}
use Rattle.rules.specs.declared.Discipline.TheVariants.{PRI, RTDG, RTVC}
use Rattle.rules.specs.Bus.{code}
use Rattle.rules.specs.SetUp.{Asked, Request}
use Rattle.text.specs.Text.{bytes, digit, newline}
use Rattle.layout.specs.Layout.{arrival_of, Saying, wrong, says}

-- ---- rows

-- a text and what it says
pub record Row : Type 0 where
  pub text : List ℕ
  pub saying : Saying

abbrev row : List ℕ → Saying → Row
row text saying = record { text = text; saying = saying }

-- lines, each closed by a newline
abbrev lines : List String → List ℕ
lines [] = []
lines (line ∷ later) = bytes line ++ (newline ∷ lines later)

-- the last of these lines is wrong, with this fault
abbrev last_wrong : List String → ℕ → Row
last_wrong text fault = row (lines text) (wrong (length text) fault)

-- all of these lines are right; what this fault says is missing after them
abbrev right : List String → ℕ → Row
right text fault = row (lines text) (wrong (suc (length text)) fault)

-- one line after others
abbrev after : List String → String → List String
after text line = text ++ (line ∷ [])

-- ---- scenarios

abbrev bus : Discipline → ℕ → ℕ → ℕ → List Asked → Request
bus d D A q stations = record { discipline = code d; D = D; A = A; q = q; N = length stations; row = stations }

abbrev circuit : ℕ → ℕ → Asked
circuit address capability = record { address = address; capability = capability }

abbrev station : ℕ → Asked
station address = circuit address 0

-- ---- layouts that are right

abbrev rights : List Row
rights =
    -- the worked example of paper 01
    row
    (lines
    ("bus PRI D 4 A 8 q 1"
    ∷ "station address 1"
    ∷ "station address 5"
    ∷ "station address 6"
    ∷ "arrival time 0 address 5 value 2 length 3"
    ∷ "arrival time 0 address 6 value 2 length 1"
    ∷ "arrival time 0 address 1 value 3 length 2"
    ∷ "run steps 14"
    ∷ []))
    (says
    (bus PRI 4 8 1 (station 1 ∷ station 5 ∷ station 6 ∷ []))
    (arrival_of 0 5 2 3 ∷ arrival_of 0 6 2 1 ∷ arrival_of 0 1 3 2 ∷ [])
    14)
    -- the example of docs/LAYOUT.md: two stations that differ in the upper byte of their addresses, a comment after a line, and arrivals of one
    -- time in the order of their lines, also where some are repeated
    ∷ row
    (lines
    ("# Three stations on one segment, priorities 0 to 3."
    ∷ "bus PRI D 4 A 512 q 1"
    ∷ "station address 0x0007"
    ∷ "station address 0x0107"
    ∷ "station address 6"
    ∷ "arrival time 0 address 0x0007 value 2 length 3     # a reading of the first weigher"
    ∷ "arrival time 0 address 0x0107 value 2 length 1"
    ∷ "arrivals every 10 from 0 to 40 address 6 value 3 length 2"
    ∷ "run steps 40"
    ∷ []))
    (says
    (bus PRI 4 512 1 (station 7 ∷ station 263 ∷ station 6 ∷ []))
    (arrival_of 0 7 2 3
    ∷ arrival_of 0 263 2 1
    ∷ arrival_of 0 6 3 2
    ∷ arrival_of 10 6 3 2
    ∷ arrival_of 20 6 3 2
    ∷ arrival_of 30 6 3 2
    ∷ arrival_of 40 6 3 2
    ∷ [])
    40)
    -- blanks before, between and after words, carriage returns, lines without a word, a comment in the middle of a word, no newline at the end
    ∷ row
    (bytes "\n \t\r\n# PRI\r\n\tbus  PRI D 4\tA 0xfF q 1 \r\nstation address 0#7\r\n\r\nrun#ning\nrun steps 3 # and no more")
    (wrong 7 113)
    ∷ row
    (bytes "\n \t\r\n# PRI\r\n\tbus  PRI D 4\tA 0xfF q 1 \r\nstation address 0#7\r\n\r\n#running\nrun steps 3 # and no more")
    (says (bus PRI 4 255 1 (station 0 ∷ [])) [] 3)
    -- the least layout
    ∷ row (bytes "bus PRI D 2 A 2 q 1\nstation address 1\nrun steps 0") (says (bus PRI 2 2 1 (station 1 ∷ [])) [] 0)
    -- arrivals out of the order of their times, some of them at the same time
    ∷ row
    (lines
    ("bus PRI D 4 A 8 q 1"
    ∷ "station address 5"
    ∷ "arrival time 9 address 5 value 0 length 1"
    ∷ "arrival time 3 address 5 value 1 length 1"
    ∷ "arrival time 9 address 5 value 2 length 2"
    ∷ "arrival time 0 address 5 value 3 length 1"
    ∷ "arrival time 3 address 5 value 0 length 2"
    ∷ "run steps 3"
    ∷ []))
    (says
    (bus PRI 4 8 1 (station 5 ∷ []))
    (arrival_of 0 5 3 1 ∷ arrival_of 3 5 1 1 ∷ arrival_of 3 5 0 2 ∷ arrival_of 9 5 0 1 ∷ arrival_of 9 5 2 2 ∷ [])
    3)
    -- repeated arrivals: 40 is none of them, and their times are those of others before and after them
    ∷ row
    (lines
    ("bus PRI D 4 A 8 q 1"
    ∷ "station address 5"
    ∷ "arrival time 15 address 5 value 0 length 1"
    ∷ "arrivals every 10 from 5 to 40 address 5 value 3 length 2"
    ∷ "arrival time 25 address 5 value 1 length 1"
    ∷ "run steps 3"
    ∷ []))
    (says
    (bus PRI 4 8 1 (station 5 ∷ []))
    (arrival_of 5 5 3 2
    ∷ arrival_of 15 5 0 1
    ∷ arrival_of 15 5 3 2
    ∷ arrival_of 25 5 3 2
    ∷ arrival_of 25 5 1 1
    ∷ arrival_of 35 5 3 2
    ∷ [])
    3)
    -- in RTDG each has its own latest start; an arrival says it, and repeated ones how long after their times it is
    ∷ row
    (lines
    ("bus RTDG D 4 A 8 q 4"
    ∷ "station address 1"
    ∷ "station address 6"
    ∷ "arrival time 0 address 6 value 40 length 3"
    ∷ "arrivals every 7 from 1 to 15 address 1 laxity 12 length 1"
    ∷ "run steps 16"
    ∷ []))
    (says
    (bus RTDG 4 8 4 (station 1 ∷ station 6 ∷ []))
    (arrival_of 0 6 40 3 ∷ arrival_of 1 1 13 1 ∷ arrival_of 8 1 20 1 ∷ arrival_of 15 1 27 1 ∷ [])
    16)
    -- in RTVC the stations have capabilities
    ∷ row
    (lines
    ("bus RTVC D 4 A 8 q 1"
    ∷ "station address 2 capability 3"
    ∷ "station address 4 capability 0"
    ∷ "arrivals every 1 from 0 to 1 address 4 value 0 length 1"
    ∷ "run steps 8"
    ∷ []))
    (says (bus RTVC 4 8 1 (circuit 2 3 ∷ circuit 4 0 ∷ [])) (arrival_of 0 4 0 1 ∷ arrival_of 1 4 0 1 ∷ []) 8)
    -- attempts outside their ranges, up to the last numbers that a scenario has room for; an address that no station has
    ∷ row
    (lines
    ("bus PRI D 4 A 8 q 1"
    ∷ "station address 5"
    ∷ "attempt time 0 address 5 value 4 length 0"
    ∷ "attempt time 4294967295 address 65535 value 0xFFFFFFFF length 65535"
    ∷ "arrival time 1 address 0xffff value 3 length 4096"
    ∷ "run steps 65535"
    ∷ []))
    (says
    (bus PRI 4 8 1 (station 5 ∷ []))
    (arrival_of 0 5 4 0 ∷ arrival_of 1 65_535 3 4_096 ∷ arrival_of 4_294_967_295 65_535 4_294_967_295 65_535 ∷ [])
    65_535)
    ∷ []

-- ---- a bus

abbrev bus_lines : List Row
bus_lines =
    right ("bus PRI D 4 A 8 q 1" ∷ []) 302
    -- 2: no discipline, one in small letters, none of the three
    ∷ last_wrong ("bus" ∷ []) 2
    ∷ last_wrong ("bus pri D 4 A 8 q 1" ∷ []) 2
    ∷ last_wrong ("bus PRIO D 4 A 8 q 1" ∷ []) 2
    ∷ last_wrong ("bus D 4 A 8 q 1" ∷ []) 2
    -- 101 to 103, 201 to 203, 300: words and numbers, from left to right
    ∷ last_wrong ("bus PRI" ∷ []) 101
    ∷ last_wrong ("bus PRI A 8 D 4 q 1" ∷ []) 101
    ∷ last_wrong ("bus PRI d 4 A 8 q 1" ∷ []) 101
    ∷ last_wrong ("bus PRI D" ∷ []) 201
    ∷ last_wrong ("bus PRI D four A" ∷ []) 201
    ∷ last_wrong ("bus PRI D 4" ∷ []) 102
    ∷ last_wrong ("bus PRI D 1 A 0x q" ∷ []) 202
    ∷ last_wrong ("bus PRI D 4 A 8" ∷ []) 103
    ∷ last_wrong ("bus PRI D 4 A 8 q -1" ∷ []) 203
    ∷ last_wrong ("bus PRI D 1 A 8 q 1 N 3" ∷ []) 300
    -- 3 to 5, in this order
    ∷ last_wrong ("bus PRI D 1 A 1 q 0" ∷ []) 3
    ∷ last_wrong ("bus PRI D 65537 A 1 q 0" ∷ []) 3
    ∷ last_wrong ("bus PRI D 2 A 1 q 0" ∷ []) 4
    ∷ last_wrong ("bus PRI D 65536 A 65537 q 0" ∷ []) 4
    ∷ last_wrong ("bus PRI D 2 A 2 q 0" ∷ []) 5
    ∷ last_wrong ("bus PRI D 65536 A 65536 q 2" ∷ []) 5
    ∷ last_wrong ("bus RTDG D 2 A 2 q 0" ∷ []) 5
    ∷ last_wrong ("bus RTDG D 2 A 2 q 65536" ∷ []) 5
    ∷ right ("bus RTDG D 65536 A 2 q 65535" ∷ []) 302
    ∷ right ("bus RTVC D 2 A 65536 q 1" ∷ []) 302
    -- 301: no bus before it, nor at the end; the first line that is wrong decides
    ∷ right [] 301
    ∷ last_wrong ("# a segment" ∷ "" ∷ "buses" ∷ []) 301
    ∷ last_wrong ("station address 5" ∷ []) 301
    ∷ last_wrong ("run steps 0" ∷ []) 301
    ∷ row (lines ("Bus PRI D 4 A 8 q 1" ∷ "station" ∷ [])) (wrong 1 301)
    ∷ []

-- ---- stations

abbrev pri_bus : List String
pri_bus = "bus PRI D 4 A 8 q 1" ∷ []

abbrev rtvc : List String
rtvc = "bus RTVC D 4 A 8 q 1" ∷ "station address 5 capability 3" ∷ []

-- n stations, of addresses 100, 101 and so on
abbrev station_text : ℕ → List ℕ
station_text i = bytes "station address 1" ++ (digit (i / 10) ∷ digit (i % 10) ∷ newline ∷ [])

abbrev station_texts : List ℕ → List ℕ
station_texts [] = []
station_texts (i ∷ later) = station_text i ++ station_texts later

abbrev many : ℕ → List ℕ
many n = bytes "bus PRI D 4 A 512 q 1\n" ++ station_texts (count_up 0 n)

abbrev station_line_rows : List Row
station_line_rows =
    right (after pri_bus "station address 7") 303
    -- 302: no station yet, but a line of another kind; 6 where it is one that comes after stations
    ∷ last_wrong (after pri_bus "bus PRI D 4 A 8 q 1") 302
    ∷ last_wrong (after pri_bus "stations address 5") 302
    ∷ last_wrong (after pri_bus "arrival") 6
    ∷ last_wrong (after pri_bus "arrivals") 6
    ∷ last_wrong (after pri_bus "attempt") 6
    ∷ last_wrong (after pri_bus "run steps 1") 6
    -- 104, 204, 105, 205, 300: the capability is written in RTVC alone. `0107` is no number, which `0x7` is
    ∷ last_wrong (after pri_bus "station") 104
    ∷ last_wrong (after pri_bus "station addr 5") 104
    ∷ last_wrong (after pri_bus "station address") 204
    ∷ last_wrong (after pri_bus "station address 07") 204
    ∷ last_wrong (after pri_bus "station address 0107") 204
    ∷ last_wrong (after pri_bus "station address 5h") 204
    ∷ last_wrong (after pri_bus "station address 0X7") 204
    ∷ last_wrong (after pri_bus "station address 4294967296") 204
    ∷ last_wrong (after pri_bus "station address 0x100000000") 204
    ∷ last_wrong (after pri_bus "station address 4294967295") 7
    ∷ right (after pri_bus "station address 0x00000000007") 303
    ∷ last_wrong (after pri_bus "station address 5 capability 0") 300
    ∷ last_wrong (after pri_bus "station address 8 # address 5") 7
    ∷ last_wrong (after rtvc "station address 6") 105
    ∷ last_wrong (after rtvc "station address 6 capability") 205
    ∷ last_wrong (after rtvc "station address 6 capability 2 2") 300
    -- 6: the 65th, whatever it says
    ∷ row (many 64 ++ bytes "station address 8888") (wrong 66 6)
    ∷ row (many 64 ++ bytes "run steps 1") (says (bus PRI 4 512 1 (map station (count_up 100 64))) [] 1)
    -- 7 to 10, in this order
    ∷ last_wrong (after pri_bus "station address 8") 7
    ∷ last_wrong (after (after pri_bus "station address 5") "station address 0x5") 8
    ∷ last_wrong (after rtvc "station address 8 capability 4") 7
    ∷ last_wrong (after rtvc "station address 5 capability 4") 8
    ∷ last_wrong (after rtvc "station address 6 capability 4") 9
    ∷ last_wrong (after rtvc "station address 6 capability 3") 10
    ∷ right (after rtvc "station address 6 capability 2") 303
    -- 303: after a station
    ∷ last_wrong (after rtvc "Station address 6 capability 2") 303
    ∷ last_wrong (after rtvc "bus RTVC D 4 A 8 q 1") 303
    ∷ []

-- ---- arrivals, repeated arrivals and attempts

abbrev pri : List String
pri = "bus PRI D 4 A 8 q 1" ∷ "station address 5" ∷ []

abbrev rtdg : List String
rtdg = "bus RTDG D 4 A 8 q 4" ∷ "station address 5" ∷ []

abbrev arrival_lines : List Row
arrival_lines =
    right (after pri "arrival time 0 address 5 value 0 length 1") 304
    -- 106, 206, 104, 204, 107, 207, 108, 208, 300
    ∷ last_wrong (after pri "arrival address 5 time 0 value 0 length 1") 106
    ∷ last_wrong (after pri "arrival time now address 5 value 0 length 1") 206
    ∷ last_wrong (after pri "arrival time 0 to 5 value 0 length 1") 104
    ∷ last_wrong (after pri "arrival time 0 address 05 value 0 length 1") 204
    ∷ last_wrong (after pri "arrival time 0 address 5 length 1") 107
    ∷ last_wrong (after rtdg "arrival time 0 address 5 laxity 0 length 1") 107
    ∷ last_wrong (after pri "arrival time 0 address 5 value length 1") 207
    ∷ last_wrong (after pri "arrival time 0 address 5 value 0") 108
    ∷ last_wrong (after pri "arrival time 0 address 5 value 0 length") 208
    ∷ last_wrong (after pri "arrival time 0 address 5 value 0 length 1 twice") 300
    -- 306, 12, 13, in this order
    ∷ last_wrong (after pri "arrival time 0 address 65536 value 4 length 0") 306
    ∷ last_wrong (after pri "arrival time 0 address 65535 value 4 length 0") 12
    ∷ last_wrong (after pri "arrival time 0 address 65535 value 3 length 0") 13
    ∷ last_wrong (after pri "arrival time 0 address 65535 value 3 length 4097") 13
    ∷ right (after pri "arrival time 0 address 65535 value 3 length 4096") 304
    ∷ last_wrong (after rtdg "arrival time 9 address 5 value 1073741825 length 1") 12
    ∷ right (after rtdg "arrival time 9 address 5 value 1073741824 length 1") 304
    ∷ right (after rtdg "arrival time 9 address 5 value 0 length 1") 304
    ∷ last_wrong (after rtvc "arrival time 0 address 5 value 1 length 1") 12
    ∷ right (after rtvc "arrival time 0 address 5 value 0 length 1") 304
    -- 304: after an arrival
    ∷ last_wrong (after (after pri "arrival time 0 address 5 value 0 length 1") "station address 6") 304
    ∷ last_wrong (after (after pri "attempt time 0 address 5 value 4 length 0") "bus") 304
    ∷ last_wrong (after (after pri "arrivals every 1 from 0 to 1 address 5 value 0 length 1") "arive") 304
    ∷ []

abbrev repeated_lines : List Row
repeated_lines =
    right (after pri "arrivals every 1 from 9 to 9 address 5 value 0 length 1") 304
    -- 109, 209 and so on; `laxity` in RTDG alone
    ∷ last_wrong (after pri "arrivals from 9 to 9 every 1 address 5 value 0 length 1") 109
    ∷ last_wrong (after pri "arrivals every from 9 to 9 address 5 value 0 length 1") 209
    ∷ last_wrong (after pri "arrivals every 1 to 9 address 5 value 0 length 1") 110
    ∷ last_wrong (after pri "arrivals every 1 from to 9 address 5 value 0 length 1") 210
    ∷ last_wrong (after pri "arrivals every 1 from 9 until 9 address 5 value 0 length 1") 111
    ∷ last_wrong (after pri "arrivals every 1 from 9 to 09 address 5 value 0 length 1") 211
    ∷ last_wrong (after pri "arrivals every 1 from 9 to 9 value 0 length 1") 104
    ∷ last_wrong (after pri "arrivals every 1 from 9 to 9 address five value 0 length 1") 204
    ∷ last_wrong (after pri "arrivals every 1 from 9 to 9 address 5 laxity 0 length 1") 107
    ∷ last_wrong (after pri "arrivals every 1 from 9 to 9 address 5 value -1 length 1") 207
    ∷ last_wrong (after rtdg "arrivals every 1 from 9 to 9 address 5 value 0 length 1") 112
    ∷ last_wrong (after rtdg "arrivals every 1 from 9 to 9 address 5 laxity none length 1") 212
    ∷ right (after rtdg "arrivals every 1 from 9 to 9 address 5 laxity 0 length 1") 304
    ∷ last_wrong (after pri "arrivals every 1 from 9 to 9 address 5 value 0 long 1") 108
    ∷ last_wrong (after pri "arrivals every 1 from 9 to 9 address 5 value 0 length 0x1G") 208
    ∷ last_wrong (after pri "arrivals every 1 from 9 to 9 address 5 value 0 length 1 1") 300
    -- 309, 310, 306, 12, 13, 22, in this order
    ∷ last_wrong (after pri "arrivals every 0 from 9 to 8 address 65536 value 4 length 0") 309
    ∷ last_wrong (after pri "arrivals every 1 from 9 to 8 address 65536 value 4 length 0") 310
    ∷ last_wrong (after pri "arrivals every 1 from 0 to 4094 address 65536 value 4 length 0") 306
    ∷ last_wrong (after pri "arrivals every 1 from 0 to 4094 address 5 value 4 length 0") 12
    ∷ last_wrong (after pri "arrivals every 1 from 0 to 4094 address 5 value 3 length 0") 13
    -- 12 in RTDG: of the last one, which is not at 40
    ∷ last_wrong (after rtdg "arrivals every 9 from 5 to 40 address 5 laxity 1073741793 length 1") 12
    ∷ right (after rtdg "arrivals every 9 from 5 to 40 address 5 laxity 1073741792 length 1") 304
    -- 22: the set-up, one station, 4,094 arrivals and the run are 65,534 bytes
    ∷ last_wrong (after pri "arrivals every 1 from 0 to 4094 address 5 value 3 length 1") 22
    ∷ last_wrong (after pri "arrivals every 1048576 from 0 to 4294967295 address 5 value 3 length 1") 22
    ∷ []

abbrev attempt_lines : List Row
attempt_lines =
    right (after pri "attempt time 0 address 5 value 4 length 0") 304
    ∷ last_wrong (after pri "attempt at 0 address 5 value 4 length 0") 106
    ∷ last_wrong (after pri "attempt time 0 address 5 value 4 length 0 again") 300
    -- 306, 307
    ∷ last_wrong (after pri "attempt time 0 address 65536 value 4 length 65536") 306
    ∷ last_wrong (after pri "attempt time 0 address 65535 value 4 length 65536") 307
    ∷ right (after pri "attempt time 0 address 65535 value 4 length 65535") 304
    ∷ []

-- ---- the run

abbrev run_lines : List Row
run_lines =
    -- 303, 304: no run at the end
    right pri 303
    -- 113, 213, 300
    ∷ last_wrong (after pri "run") 113
    ∷ last_wrong (after pri "run step 3") 113
    ∷ last_wrong (after pri "run steps") 213
    ∷ last_wrong (after pri "run steps 3.0") 213
    ∷ last_wrong (after pri "run steps 65536 slots") 300
    -- 308
    ∷ last_wrong (after pri "run steps 65536") 308
    -- 305: nothing comes after it but lines without a word
    ∷ last_wrong (after (after pri "run steps 3") "run steps 3") 305
    ∷ last_wrong (after (after (after pri "run steps 3") "# the end") "arrival") 305
    ∷ last_wrong (after (after pri "run steps 3") "end") 305
    ∷ row (lines (after (after (after pri "run steps 3") "") "# the end")) (says (bus PRI 4 8 1 (station 5 ∷ [])) [] 3)
    ∷ []

-- ---- all of them

abbrev pub rows : List Row
rows = rights ++ (bus_lines ++ (station_line_rows ++ (arrival_lines ++ (repeated_lines ++ (attempt_lines ++ run_lines)))))
