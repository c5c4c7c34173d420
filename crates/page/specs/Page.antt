-- The text of a sheet, as bytes of ASCII: a heading, a line for each run, the sums and the highest loss (docs/SHEET.md). Assumes nothing.
use Rattle.std.specs.Prelude.{ℕ, suc, ◌-◌, min, List, [], ◌∷◌, ◌++◌, length, take, replicate, Option, Some, None}
use Rattle.text.specs.Text.{space, newline, decimal, fields, REFUSED}
pub use Rattle.page.specs.declared.Entry.{Entry}
use Rattle.page.specs.declared.Entry.TheVariants as Has
use Rattle.sheet.specs.declared.Run.{Run}
use Rattle.sheet.specs.declared.Sums.{Sums}
use Rattle.sheet.specs.declared.Placed.{Placed}
use Rattle.sheet.specs.declared.Sheet.{Sheet}
use Rattle.sheet.specs.Sheet.{most_runs}

-- ---- words

-- 'admitted'
abbrev pub ADMITTED : List ℕ
ADMITTED = 97 ∷ 100 ∷ 109 ∷ 105 ∷ 116 ∷ 116 ∷ 101 ∷ 100 ∷ []

-- 'sent'
abbrev pub SENT : List ℕ
SENT = 115 ∷ 101 ∷ 110 ∷ 116 ∷ []

-- 'lost'
abbrev pub LOST : List ℕ
LOST = 108 ∷ 111 ∷ 115 ∷ 116 ∷ []

-- 'waiting'
abbrev pub WAITING : List ℕ
WAITING = 119 ∷ 97 ∷ 105 ∷ 116 ∷ 105 ∷ 110 ∷ 103 ∷ []

-- 'turned away'
abbrev pub TURNED_AWAY : List ℕ
TURNED_AWAY = 116 ∷ 117 ∷ 114 ∷ 110 ∷ 101 ∷ 100 ∷ 32 ∷ 97 ∷ 119 ∷ 97 ∷ 121 ∷ []

-- 'longest wait'
abbrev pub LONGEST_WAIT : List ℕ
LONGEST_WAIT = 108 ∷ 111 ∷ 110 ∷ 103 ∷ 101 ∷ 115 ∷ 116 ∷ 32 ∷ 119 ∷ 97 ∷ 105 ∷ 116 ∷ []

-- 'run'
abbrev pub RUN : List ℕ
RUN = 114 ∷ 117 ∷ 110 ∷ []

-- 'all runs'
abbrev pub ALL_RUNS : List ℕ
ALL_RUNS = 97 ∷ 108 ∷ 108 ∷ 32 ∷ 114 ∷ 117 ∷ 110 ∷ 115 ∷ []

-- 'UNREADABLE'
abbrev pub UNREADABLE : List ℕ
UNREADABLE = 85 ∷ 78 ∷ 82 ∷ 69 ∷ 65 ∷ 68 ∷ 65 ∷ 66 ∷ 76 ∷ 69 ∷ []

-- 'highest loss'
abbrev pub HIGHEST_LOSS : List ℕ
HIGHEST_LOSS = 104 ∷ 105 ∷ 103 ∷ 104 ∷ 101 ∷ 115 ∷ 116 ∷ 32 ∷ 108 ∷ 111 ∷ 115 ∷ 115 ∷ []

-- 'highest loss: no run has a figure'
abbrev pub NO_FIGURE : List ℕ
NO_FIGURE = 104 ∷ 105 ∷ 103 ∷ 104 ∷ 101 ∷ 115 ∷ 116 ∷ 32 ∷ 108 ∷ 111 ∷ 115 ∷ 115 ∷ 58 ∷ 32 ∷ 110 ∷ 111 ∷ 32 ∷ 114 ∷ 117 ∷ 110 ∷ 32 ∷ 104 ∷ 97 ∷ 115 ∷ 32 ∷ 97 ∷ 32 ∷ 102 ∷ 105 ∷ 103 ∷ 117 ∷ 114 ∷ 101 ∷ []

-- ---- columns

-- a text right-aligned in so many places; one that is longer takes as many as it needs
abbrev pub aligned : ℕ → List ℕ → List ℕ
aligned places text = replicate (places - length text) space ++ text

-- a column: a text after one space
abbrev pub column : ℕ → List ℕ → List ℕ
column places text = space ∷ aligned places text

-- the places of a count, of the packets turned away, of the longest wait, and of all columns
abbrev pub count_places : ℕ
count_places = 10

abbrev pub turned_places : ℕ
turned_places = 11

abbrev pub wait_places : ℕ
wait_places = 12

abbrev pub all_places : ℕ
all_places = 69

-- four counts, and the packets turned away
abbrev pub counts_text : List ℕ → List ℕ → List ℕ → List ℕ → List ℕ → List ℕ
counts_text admitted sent lost waiting turned =
    column count_places admitted
    ++ (column count_places sent ++ (column count_places lost ++ (column count_places waiting ++ column turned_places turned)))

-- ---- lines

-- of a name the first 4,096 bytes
abbrev pub name_bytes : ℕ
name_bytes = 4_096

unfoldable pub shown : List ℕ → List ℕ
shown name = take name_bytes name

-- what closes a line: two spaces and the run's name
abbrev pub named : List ℕ → List ℕ
named name = (space ∷ space ∷ shown name) ++ (newline ∷ [])

abbrev pub heading_text : List ℕ
heading_text = (counts_text ADMITTED SENT LOST WAITING TURNED_AWAY ++ column wait_places LONGEST_WAIT) ++ named RUN

-- a run's columns
abbrev pub run_cells : Run → List ℕ
run_cells r =
    counts_text (decimal r.admitted) (decimal r.sent) (decimal r.lost) (decimal r.waiting) (decimal r.turned)
    ++ column wait_places (decimal r.wait)

-- 'REFUSED number offset'
abbrev pub refusal_words : ℕ → ℕ → List ℕ
refusal_words number offset = REFUSED ++ fields (number ∷ offset ∷ [])

-- what stands in the columns of an entry: a run's numbers, that a scenario was refused, or that a file could not be read
abbrev pub cells : Entry → List ℕ
cells (Has.Run r) = run_cells r
cells (Has.Refused x) = aligned all_places (refusal_words x.number x.offset)
cells Has.Unread = aligned all_places UNREADABLE

abbrev pub line_text : Entry → List ℕ → List ℕ
line_text e name = cells e ++ named name

-- 'the four counts' sums', and that of the packets turned away; there is none of the waits
abbrev pub sums_text : Sums → List ℕ
sums_text s =
    counts_text (decimal s.admitted) (decimal s.sent) (decimal s.lost) (decimal s.waiting) (decimal s.turned)
    ++ (replicate (suc wait_places) space ++ named ALL_RUNS)

-- a loss as two whole numbers, with '/' between them: the packets lost or turned away, and those lost, turned away or sent
abbrev pub loss_text : ℕ → ℕ → List ℕ
loss_text lost ended = HIGHEST_LOSS ++ (space ∷ (decimal lost ++ (47 ∷ decimal ended)))

-- 'the run with the highest loss', with its name; 'If none has a figure, the sheet says so'
abbrev pub highest_text : Option Placed → List ℕ → List ℕ
highest_text None name = NO_FIGURE ++ (newline ∷ [])
highest_text (Some p) name = loss_text p.lost p.ended ++ named name

-- the lines that close a sheet
abbrev pub closing_text : Sums → Option Placed → List ℕ → List ℕ
closing_text s h name = sums_text s ++ highest_text h name

-- ---- the whole, where runs have no names: 'a run's name is its place in the batch, counted from 1, in decimal'

-- a place past the 256th counts as that
abbrev pub place_text : ℕ → List ℕ
place_text place = decimal (min (suc place) most_runs)

abbrev pub rows_text : ℕ → List Run → List ℕ
rows_text place [] = []
rows_text place (r ∷ runs) = line_text (Has.Run r) (place_text place) ++ rows_text (suc place) runs

-- the name of the run that comes highest
abbrev pub name_of : Option Placed → List ℕ
name_of None = []
name_of (Some p) = place_text p.place

abbrev pub sheet_text : Sheet → List ℕ
sheet_text s = heading_text ++ (rows_text 0 (take s.count s.rows) ++ closing_text s.sums s.highest (name_of s.highest))
