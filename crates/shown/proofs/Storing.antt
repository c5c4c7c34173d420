-- Lines in room that is lent, put together from what the calls store. Assumes nothing.
use Prim.Native.Nat.{ℕ, ◌+◌, ◌≤◌, ◌<◌}
use mathlib.Core.Path.{◌≡◌, refl, sym, ap, subst}
use mathlib.Core.Bool.{cond}
use mathlib.Core.List.{List, [], ◌∷◌, ◌++◌}
use native.Mathlib.Omega.{arith}
use lib.Dec.{eqb}
use lib.ListN.{drop}
use borrow.Author.Tests.{ne_eqb}
use Rattle.std.specs.Prelude.{Ok, Option, Some, None}
use Rattle.state.specs.declared.Settings.{Settings}
use Rattle.scenario.specs.declared.Record.TheVariants as Is
use Rattle.scenario.specs.Format.{set_up_kind, Said, said, read_record}
use Rattle.scenario.specs.Reading.{settings_from}
use Rattle.text.specs.Text.{newline}
use Rattle.text.specs.Parts.{Wrote, Stores}
use Rattle.text.specs.declared.Writer.{Writer}
use Rattle.text.proofs.Stores.{told_none, wrote, wrote_then, wrote_within}
use Rattle.shown.specs.Shown.{Line, line_then, line_of, shown_at, next_of}
use Rattle.shown.specs.Parts.{most_line, LineWrote}

-- nothing
pub wrote_none : (a : Writer) → Wrote a a [] 0
wrote_none a = record { told = λ h. told_none a.room.now a.at 0; same = refl }

-- words with the newline after them are a line
pub closed :
    {a b c : Writer} {x : List ℕ} {p : ℕ} → Wrote a b x p → p + 1 ≤ most_line → Stores b c (newline ∷ [])
    → Wrote a c (x ++ (newline ∷ [])) most_line
closed words h end = wrote_within (wrote_then words (wrote 1 end (omega arith))) h

-- an offset that is not 0 is a next record's
pub next_some : (n : ℕ) → 0 < n → Some n ≡ next_of n
next_some n h = ap (λ t. cond t None (Some n)) (sym (ne_eqb n 0 (λ z. omega arith)))

-- the line of what was found is that of what the record says
pub line_said :
    {before after : Writer} {next : Option ℕ} (g : Settings) (at : ℕ) {x y : Said} → x ≡ y → LineWrote before after next (line_of g at x)
    → LineWrote before after next (line_of g at y)
line_said {before} {after} {next} g at e line = subst (λ (z : Said). LineWrote before after next (line_of g at z)) e line

-- what is shown, by what the input's first record says: nothing where it is no set-up, and else the line by its numbers
abbrev shown_by : Said → List ℕ → ℕ → Line
shown_by x input at =
    cond (eqb x.kind set_up_kind.kind) (line_of (settings_from x.values) at (read_record (drop at input))) (line_then [] 0)

pub first_set_up :
    {before after : Writer} {next : Option ℕ} (input : List ℕ) (at : ℕ) (g : Settings) → said (Ok (Is.SetUp g)) ≡ read_record input
    → LineWrote before after next (line_of g at (read_record (drop at input))) → LineWrote before after next (shown_at input at)
first_set_up {before} {after} {next} input at g e line = subst (λ (x : Said). LineWrote before after next (shown_by x input at)) e line
