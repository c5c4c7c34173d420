-- What the private functions of src/ are held to; for readers of those alone. Assumes nothing.
use Rattle.std.specs.Prelude.{ℕ, ◌≡◌, Option}
use Rattle.text.specs.Parts.{Wrote}
use Rattle.text.specs.declared.Writer.{Writer}
use Rattle.shown.specs.Shown.{Line, next_of}

-- a line has 128 bytes at the most
abbrev pub most_line : ℕ
most_line = 128

-- a line was written, and the answer is the next offset
pub record LineWrote (before after : Writer) (at : Option ℕ) (l : Line) : Type 0 where
  pub next : at ≡ next_of l.next
  pub wrote : Wrote before after l.text most_line
