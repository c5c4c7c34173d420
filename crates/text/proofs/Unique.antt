-- Each contract says all of the result and of the room: two that meet it are equal, whatever the arguments. A line for each, by what the
-- function's own contract says. The room is the first parameter. Assumes nothing.
use Prim.Native.Nat.{ℕ}
use mathlib.Core.Path.{◌≡◌}
use mathlib.Core.List.{List}
use Rattle.window.specs.Determined.{Determines, DeterminesBytes}
use Rattle.window.proofs.Unique.{unique}
use Rattle.text.specs.Parts.{Stores}
use Rattle.text.specs.declared.Writer.{Writer}
use Rattle.text.proofs.put.Reads as put
use Rattle.text.proofs.letters.Reads as letters
use Rattle.text.proofs.spaces.Reads as spaces
use Rattle.text.proofs.digits_of.Reads as digits_of
use Rattle.text.proofs.number.Reads as number
use Rattle.text.proofs.Writer.put.Reads as writer_put
use Rattle.text.proofs.Writer.letters.Reads as writer_letters
use Rattle.text.proofs.Writer.spaces.Reads as writer_spaces
use Rattle.text.proofs.Writer.number.Reads as writer_number

pub put_determined : Determines put.Learnt
put_determined κs args r r' end end' p q = unique p.0 q.0

pub put_room_determined : DeterminesBytes put.Learnt (λ κs end. end.0.now)
put_room_determined κs args r r' end end' p q = unique p.1 q.1

pub letters_determined : Determines letters.Learnt
letters_determined κs args r r' end end' p q = unique p.0 q.0

pub letters_room_determined : DeterminesBytes letters.Learnt (λ κs end. end.0.now)
letters_room_determined κs args r r' end end' p q = unique p.1 q.1

pub spaces_determined : Determines spaces.Learnt
spaces_determined κs args r r' end end' p q = unique p.0 q.0

pub spaces_room_determined : DeterminesBytes spaces.Learnt (λ κs end. end.0.now)
spaces_room_determined κs args r r' end end' p q = unique p.1 q.1

pub digits_of_determined : Determines digits_of.Learnt
digits_of_determined κs args r r' end end' = unique

pub number_determined : Determines number.Learnt
number_determined κs args r r' end end' p q = unique p.0 q.0

pub number_room_determined : DeterminesBytes number.Learnt (λ κs end. end.0.now)
number_room_determined κs args r r' end end' p q = unique p.1 q.1

-- ---- the methods of a writer: the bytes of its room, and its offset

-- two writers that have stored one text, from one writer on, hold the same bytes and stand at the same offset
abbrev pub SameWriter : (a b : Writer) → Type 0
SameWriter a b = (a.room.now ≡ b.room.now) × (a.at ≡ b.at)

stored_same : {before a b : Writer} {text : List ℕ} → Stores before a text → Stores before b text → SameWriter a b
stored_same p q = (unique p.room q.room, unique p.past q.past)

module _ {Lifetimes : Type 0} {Args Result End : Lifetimes → Type 0} where
  -- any two writers as they are at the end
  abbrev pub DeterminesWriter : ((κs : Lifetimes) → Args κs → Result κs → End κs → Type 0) → ((κs : Lifetimes) → End κs → Writer) → Type 0
  DeterminesWriter says writer =
      (κs : Lifetimes) (args : Args κs) (r r' : Result κs) (end end' : End κs) → says κs args r end → says κs args r' end'
      → SameWriter (writer κs end) (writer κs end')

pub writer_put_determined : DeterminesWriter writer_put.Learnt (λ κs end. end.0.now)
writer_put_determined κs args r r' end end' = stored_same

pub writer_letters_determined : DeterminesWriter writer_letters.Learnt (λ κs end. end.0.now)
writer_letters_determined κs args r r' end end' = stored_same

pub writer_spaces_determined : DeterminesWriter writer_spaces.Learnt (λ κs end. end.0.now)
writer_spaces_determined κs args r r' end end' = stored_same

pub writer_number_determined : DeterminesWriter writer_number.Learnt (λ κs end. end.0.now)
writer_number_determined κs args r r' end end' = stored_same
