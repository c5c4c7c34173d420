-- Batches of runs and what their sheets say (change requests P2 and P4), each worked out by hand. Assumes nothing.
use Rattle.std.specs.Prelude.{ℕ, suc, ◌+◌, List, [], ◌∷◌, ◌++◌, take, replicate, Option, Some, None, Result, Ok, Err}
use Rattle.sheet.specs.Sheet.{Run, Sums, Placed, Sheet, Refused, number_of, place_of}

-- a run: packets admitted, sent, lost, waiting, turned away, and the longest wait
abbrev pub run : ℕ → ℕ → ℕ → ℕ → ℕ → ℕ → Run
run admitted sent lost waiting turned wait =
    record { admitted = admitted; sent = sent; lost = lost; waiting = waiting; turned = turned; wait = wait }

-- a run that has lost so many packets and sent so many
abbrev ends : ℕ → ℕ → Run
ends lost sent = run (lost + sent) sent lost 0 0 1

-- all packets turned away or lost, and as many turned away as sent
abbrev whole : Run
whole = run 4_294_967_295 0 4_294_967_295 0 4_294_967_295 0

abbrev half : Run
half = run 4_294_967_295 4_294_967_295 0 0 4_294_967_295 1

-- a run that has lost all but one, and turned so many away
abbrev turns : ℕ → Run
turns turned = run 4_294_967_295 1 4_294_967_294 0 turned 1

-- ---- what is said, as numbers

abbrev pub sums_said : Sums → List ℕ
sums_said s = s.admitted ∷ s.sent ∷ s.lost ∷ s.waiting ∷ s.turned ∷ []

-- the place of the highest, counted from 1, and its loss; or 0
abbrev pub highest_said : Option Placed → List ℕ
highest_said None = 0 ∷ []
highest_said (Some p) = suc p.place ∷ p.lost ∷ p.ended ∷ []

-- the refusal number and the place; the rows; the sums; the highest
pub record Said : Type 0 where
  pub refusal : List ℕ
  pub rows : List Run
  pub sums : List ℕ
  pub highest : List ℕ

-- a refused batch says its number and the place, and has no row
abbrev refuses : ℕ → ℕ → Said
refuses number place = record { refusal = number ∷ place ∷ []; rows = []; sums = 0 ∷ 0 ∷ 0 ∷ 0 ∷ 0 ∷ []; highest = 0 ∷ [] }

abbrev pub said : Result Sheet Refused → Said
said (Ok sheet) =
    record {
      refusal = 0 ∷ 0 ∷ [];
      rows = take sheet.count sheet.rows;
      sums = sums_said sheet.sums;
      highest = highest_said sheet.highest;
    }
said (Err refused) = refuses (number_of refused) (place_of refused)

abbrev says : List Run → List ℕ → List ℕ → Said
says rows sums highest = record { refusal = 0 ∷ 0 ∷ []; rows = rows; sums = sums; highest = highest }

-- ---- the table

pub record Example : Type 0 where
  pub runs : List Run
  pub count : ℕ
  pub says : Said

abbrev pub table : List Example
table =
    -- no run
    record { runs = []; count = 0; says = says [] (0 ∷ 0 ∷ 0 ∷ 0 ∷ 0 ∷ []) (0 ∷ []) } ∷
    -- each count in its place
    record {
      runs = run 10 4 3 3 0 7 ∷ run 6 1 2 3 0 9 ∷ [];
      count = 2;
      says = says (run 10 4 3 3 0 7 ∷ run 6 1 2 3 0 9 ∷ []) (16 ∷ 5 ∷ 5 ∷ 6 ∷ 0 ∷ []) (2 ∷ 2 ∷ 3 ∷ []);
    } ∷
    record {
      runs = run 10 4 3 3 5 7 ∷ run 6 1 2 3 8 9 ∷ [];
      count = 2;
      says = says (run 10 4 3 3 5 7 ∷ run 6 1 2 3 8 9 ∷ []) (16 ∷ 5 ∷ 5 ∷ 6 ∷ 13 ∷ []) (2 ∷ 10 ∷ 11 ∷ []);
    } ∷
    -- 'equal ones go to the earlier run': 1 over 2 and 2 over 4
    record { runs = ends 1 1 ∷ ends 2 2 ∷ []; count = 2; says = says (ends 1 1 ∷ ends 2 2 ∷ []) (6 ∷ 3 ∷ 3 ∷ 0 ∷ 0 ∷ []) (1 ∷ 1 ∷ 2 ∷ []) } ∷
    record { runs = ends 2 2 ∷ ends 1 1 ∷ []; count = 2; says = says (ends 2 2 ∷ ends 1 1 ∷ []) (6 ∷ 3 ∷ 3 ∷ 0 ∷ 0 ∷ []) (1 ∷ 2 ∷ 4 ∷ []) } ∷
    -- 33 over 100 is below 1 over 3, also where both are 33 in the hundred
    record {
      runs = ends 33 67 ∷ ends 1 2 ∷ [];
      count = 2;
      says = says (ends 33 67 ∷ ends 1 2 ∷ []) (103 ∷ 69 ∷ 34 ∷ 0 ∷ 0 ∷ []) (2 ∷ 1 ∷ 3 ∷ []);
    } ∷
    -- and 4,294,967,293 over 4,294,967,294 below 4,294,967,294 over 4,294,967,295
    record {
      runs = ends 4_294_967_293 1 ∷ ends 4_294_967_294 1 ∷ ends 4_294_967_293 1 ∷ [];
      count = 3;
      says =
          says
          (ends 4_294_967_293 1 ∷ ends 4_294_967_294 1 ∷ ends 4_294_967_293 1 ∷ [])
          (12_884_901_883 ∷ 3 ∷ 12_884_901_880 ∷ 0 ∷ 0 ∷ [])
          (2 ∷ 4_294_967_294 ∷ 4_294_967_295 ∷ []);
    } ∷
    -- a run with nothing lost, turned away or sent 'has no figure and never comes highest', beside one that has lost nothing
    record {
      runs = run 2 0 0 2 0 0 ∷ ends 0 3 ∷ run 1 0 0 1 0 0 ∷ [];
      count = 3;
      says = says (run 2 0 0 2 0 0 ∷ ends 0 3 ∷ run 1 0 0 1 0 0 ∷ []) (6 ∷ 3 ∷ 0 ∷ 3 ∷ 0 ∷ []) (2 ∷ 0 ∷ 3 ∷ []);
    } ∷
    -- 'If none has a figure, the sheet says so'
    record {
      runs = run 2 0 0 2 0 0 ∷ run 0 0 0 0 0 0 ∷ [];
      count = 2;
      says = says (run 2 0 0 2 0 0 ∷ run 0 0 0 0 0 0 ∷ []) (2 ∷ 0 ∷ 0 ∷ 2 ∷ 0 ∷ []) (0 ∷ []);
    } ∷
    -- 'lost + turned away over lost + turned away + sent': in what is lost, or 1 over 8 were below 1 over 2; and in what has ended, or 3 over 4
    -- were above 2 over 3
    record {
      runs = ends 1 1 ∷ run 4 3 1 0 4 1 ∷ [];
      count = 2;
      says = says (ends 1 1 ∷ run 4 3 1 0 4 1 ∷ []) (6 ∷ 4 ∷ 2 ∷ 0 ∷ 4 ∷ []) (2 ∷ 5 ∷ 8 ∷ []);
    } ∷
    record {
      runs = ends 2 1 ∷ run 4 3 1 0 2 1 ∷ [];
      count = 2;
      says = says (ends 2 1 ∷ run 4 3 1 0 2 1 ∷ []) (7 ∷ 4 ∷ 3 ∷ 0 ∷ 2 ∷ []) (1 ∷ 2 ∷ 3 ∷ []);
    } ∷
    -- 'with no figure only where that sum is 0': packets were turned away, and none was admitted; after a run with a figure, and before it
    record {
      runs = ends 1 1 ∷ run 0 0 0 0 3 0 ∷ [];
      count = 2;
      says = says (ends 1 1 ∷ run 0 0 0 0 3 0 ∷ []) (2 ∷ 1 ∷ 1 ∷ 0 ∷ 3 ∷ []) (2 ∷ 3 ∷ 3 ∷ []);
    } ∷
    record {
      runs = run 0 0 0 0 3 0 ∷ ends 1 1 ∷ [];
      count = 2;
      says = says (run 0 0 0 0 3 0 ∷ ends 1 1 ∷ []) (2 ∷ 1 ∷ 1 ∷ 0 ∷ 3 ∷ []) (1 ∷ 3 ∷ 3 ∷ []);
    } ∷
    -- 'also past 64 bits': all lost or turned away, beside a half; modulo 2^64 the products come the other way round
    record {
      runs = half ∷ whole ∷ half ∷ [];
      count = 3;
      says =
          says
          (half ∷ whole ∷ half ∷ [])
          (12_884_901_885 ∷ 8_589_934_590 ∷ 4_294_967_295 ∷ 0 ∷ 12_884_901_885 ∷ [])
          (2 ∷ 8_589_934_590 ∷ 8_589_934_590 ∷ []);
    } ∷
    record {
      runs = whole ∷ half ∷ [];
      count = 2;
      says =
          says
          (whole ∷ half ∷ [])
          (8_589_934_590 ∷ 4_294_967_295 ∷ 4_294_967_295 ∷ 0 ∷ 8_589_934_590 ∷ [])
          (1 ∷ 8_589_934_590 ∷ 8_589_934_590 ∷ []);
    } ∷
    -- and products that differ by 2^64, so that their low words are equal
    record {
      runs = run 4_294_967_295 4_294_967_295 0 0 4_294_967_294 1 ∷ run 4 1 3 0 4_294_967_295 1 ∷ [];
      count = 2;
      says =
          says
          (run 4_294_967_295 4_294_967_295 0 0 4_294_967_294 1 ∷ run 4 1 3 0 4_294_967_295 1 ∷ [])
          (4_294_967_299 ∷ 4_294_967_296 ∷ 3 ∷ 0 ∷ 8_589_934_589 ∷ [])
          (2 ∷ 4_294_967_298 ∷ 4_294_967_299 ∷ []);
    } ∷
    -- and by 1: 8,589,934,588 over 8,589,934,589 is below 8,589,934,589 over 8,589,934,590
    record {
      runs = turns 4_294_967_294 ∷ turns 4_294_967_295 ∷ turns 4_294_967_294 ∷ [];
      count = 3;
      says =
          says
          (turns 4_294_967_294 ∷ turns 4_294_967_295 ∷ turns 4_294_967_294 ∷ [])
          (12_884_901_885 ∷ 3 ∷ 12_884_901_882 ∷ 0 ∷ 12_884_901_883 ∷ [])
          (2 ∷ 8_589_934_589 ∷ 8_589_934_590 ∷ []);
    } ∷
    -- 'equal ones go to the earlier run' there too: 4,294,967,294 over 4,294,967,295, and both twice
    record {
      runs = ends 4_294_967_294 1 ∷ run 4_294_967_295 2 4_294_967_293 0 4_294_967_295 1 ∷ [];
      count = 2;
      says =
          says
          (ends 4_294_967_294 1 ∷ run 4_294_967_295 2 4_294_967_293 0 4_294_967_295 1 ∷ [])
          (8_589_934_590 ∷ 3 ∷ 8_589_934_587 ∷ 0 ∷ 4_294_967_295 ∷ [])
          (1 ∷ 4_294_967_294 ∷ 4_294_967_295 ∷ []);
    } ∷
    record {
      runs = run 4_294_967_295 2 4_294_967_293 0 4_294_967_295 1 ∷ ends 4_294_967_294 1 ∷ [];
      count = 2;
      says =
          says
          (run 4_294_967_295 2 4_294_967_293 0 4_294_967_295 1 ∷ ends 4_294_967_294 1 ∷ [])
          (8_589_934_590 ∷ 3 ∷ 8_589_934_587 ∷ 0 ∷ 4_294_967_295 ∷ [])
          (1 ∷ 8_589_934_588 ∷ 8_589_934_590 ∷ []);
    } ∷
    -- 'the longest wait (0 if none was sent)'
    record {
      runs = run 1 0 1 0 0 7 ∷ run 1 1 0 0 0 7 ∷ [];
      count = 2;
      says = says (run 1 0 1 0 0 0 ∷ run 1 1 0 0 0 7 ∷ []) (2 ∷ 1 ∷ 1 ∷ 0 ∷ 0 ∷ []) (1 ∷ 1 ∷ 1 ∷ []);
    } ∷
    -- 24: one too few and one too many; the first of two; 4,294,967,296 is not 0; what stands past the count is unread
    record { runs = ends 1 1 ∷ run 2 1 1 1 0 0 ∷ run 4 1 1 1 0 0 ∷ []; count = 3; says = refuses 24 1 } ∷
    record { runs = run 4 1 1 1 0 0 ∷ ends 1 1 ∷ []; count = 2; says = refuses 24 0 } ∷
    record { runs = run 0 4_294_967_295 1 0 0 0 ∷ []; count = 1; says = refuses 24 0 } ∷
    record { runs = ends 1 1 ∷ run 4 1 1 1 0 0 ∷ []; count = 1; says = says (ends 1 1 ∷ []) (2 ∷ 1 ∷ 1 ∷ 0 ∷ 0 ∷ []) (1 ∷ 1 ∷ 2 ∷ []) } ∷
    -- packets turned away were not admitted
    record { runs = run 7 1 1 0 5 1 ∷ []; count = 1; says = refuses 24 0 } ∷
    record { runs = run 2 1 1 0 5 1 ∷ []; count = 1; says = says (run 2 1 1 0 5 1 ∷ []) (2 ∷ 1 ∷ 1 ∷ 0 ∷ 5 ∷ []) (1 ∷ 6 ∷ 7 ∷ []) } ∷
    -- '23 first': 257 runs, none of which balances; and 256 that do
    record { runs = replicate 257 (run 4 1 1 1 0 0); count = 257; says = refuses 23 0 } ∷
    record {
      runs = replicate 255 (ends 1 1) ++ (run 1 0 1 0 0 0 ∷ []);
      count = 256;
      says = says (replicate 255 (ends 1 1) ++ (run 1 0 1 0 0 0 ∷ [])) (511 ∷ 255 ∷ 256 ∷ 0 ∷ 0 ∷ []) (256 ∷ 1 ∷ 1 ∷ []);
    } ∷
    []
