-- The arrivals that a layout says, in the order of its lines; and those of one time. Assumes nothing.
use Rattle.std.specs.Prelude.{ℕ, suc, ◌||◌, List, [], ◌∷◌, ◌++◌, eqb, get_or}
use Rattle.rules.specs.Lists.{first_of, keep}
use Rattle.state.specs.declared.Arrival.{Arrival}
use Rattle.words.specs.Words.{lines_of, first_word, after_word}
use Rattle.layout.specs.Layout.{arrival_line, arrivals_line, attempt_line, kind_of, labels_of, fields_in, arrival_of, repeated, later, value_at}

-- the arrivals that the numbers of a line say, by its kind and the discipline: one, as many as are repeated, or none
abbrev pub arrivals_by : ℕ → ℕ → List ℕ → List Arrival
arrivals_by kind discipline values =
    let n : ℕ → ℕ = λ i. get_or values i 0 in
    first_of
    []
    ((arrival_of (n 0) (n 1) (n 2) (n 3) ∷ [], eqb kind arrival_line || eqb kind attempt_line)
    ∷ (repeated (suc (later (n 0) (n 1) (n 2))) (n 1) (n 0) (λ time. arrival_of time (n 3) (value_at discipline (n 4) time) (n 5)), eqb kind arrivals_line)
    ∷ [])

-- those of a line
abbrev pub arrivals_of : ℕ → List ℕ → List Arrival
arrivals_of discipline line =
    let kind : ℕ = kind_of (first_word line) in
    arrivals_by kind discipline (fields_in (labels_of kind discipline) (after_word line)).values

-- those of lines, one after the other
abbrev pub arrivals_in : ℕ → List (List ℕ) → List Arrival
arrivals_in discipline [] = []
arrivals_in discipline (line ∷ rest) = arrivals_of discipline line ++ arrivals_in discipline rest

abbrev pub arrivals_said : ℕ → List ℕ → List Arrival
arrivals_said discipline text = arrivals_in discipline (lines_of text)

-- of arrivals, those of one time
abbrev pub at_time : ℕ → List Arrival → List Arrival
at_time t arrivals = keep (λ x. eqb x.time.0 t) arrivals
