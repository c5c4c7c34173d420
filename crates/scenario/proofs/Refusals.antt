-- Refusals and their numbers: each has one of its own, and none has 0. Assumes nothing.
use Prim.Native.Nat.{ℕ}
use mathlib.Core.Path.{◌≡◌, refl, sym, ap, ◌∙◌}
use mathlib.Core.List.{[], ◌∷◌}
use native.Mathlib.Omega.{arith}
use lib.ListN.{get_or}
use Rattle.std.specs.Prelude.{Result, Ok, Err}
use Rattle.rules.specs.declared.Refusal.{Refusal}
use Rattle.rules.specs.declared.Refusal.TheVariants.{Standing, Discipline, ParameterSpace, AddressSpace, LaxityStep, StationCount, AddressRange, AddressTaken, CapabilityRange, CapabilityTaken, NoStation, ValueRange, LengthRange, Late, Filled, AllNumbered, ClockEnd, CutShort, UnknownKind, OutOfPlace, TimeBefore, TooLong, UnderWay, NoneUnderWay}
use Rattle.rules.specs.Refusals.{number_of}
use Rattle.scenario.specs.Reading.{Refused, Numbered, by_number}

-- the refusal with a number; where no refusal has it, any
abbrev pub refusal_of : ℕ → Refusal
refusal_of n =
    get_or
    (Standing
    ∷ Standing ∷ Discipline ∷ ParameterSpace ∷ AddressSpace ∷ LaxityStep ∷ StationCount ∷ AddressRange ∷ AddressTaken
    ∷ CapabilityRange ∷ CapabilityTaken ∷ NoStation ∷ ValueRange ∷ LengthRange ∷ Late ∷ Filled ∷ AllNumbered ∷ ClockEnd
    ∷ CutShort ∷ UnknownKind ∷ OutOfPlace ∷ TimeBefore ∷ TooLong ∷ Standing ∷ Standing ∷ UnderWay ∷ NoneUnderWay ∷ [])
    n
    Standing

-- each refusal is the one with its number
pub refusal_number : (x : Refusal) → refusal_of (number_of x) ≡ x
refusal_number Standing = refl
refusal_number Discipline = refl
refusal_number ParameterSpace = refl
refusal_number AddressSpace = refl
refusal_number LaxityStep = refl
refusal_number StationCount = refl
refusal_number AddressRange = refl
refusal_number AddressTaken = refl
refusal_number CapabilityRange = refl
refusal_number CapabilityTaken = refl
refusal_number NoStation = refl
refusal_number ValueRange = refl
refusal_number LengthRange = refl
refusal_number Late = refl
refusal_number Filled = refl
refusal_number AllNumbered = refl
refusal_number ClockEnd = refl
refusal_number CutShort = refl
refusal_number UnknownKind = refl
refusal_number OutOfPlace = refl
refusal_number TimeBefore = refl
refusal_number TooLong = refl
refusal_number UnderWay = refl
refusal_number NoneUnderWay = refl

-- and its number is not 0
pub numbered_above : (x : Refusal) → ¬ (number_of x ≡ 0)
numbered_above Standing = λ e. omega arith
numbered_above Discipline = λ e. omega arith
numbered_above ParameterSpace = λ e. omega arith
numbered_above AddressSpace = λ e. omega arith
numbered_above LaxityStep = λ e. omega arith
numbered_above StationCount = λ e. omega arith
numbered_above AddressRange = λ e. omega arith
numbered_above AddressTaken = λ e. omega arith
numbered_above CapabilityRange = λ e. omega arith
numbered_above CapabilityTaken = λ e. omega arith
numbered_above NoStation = λ e. omega arith
numbered_above ValueRange = λ e. omega arith
numbered_above LengthRange = λ e. omega arith
numbered_above Late = λ e. omega arith
numbered_above Filled = λ e. omega arith
numbered_above AllNumbered = λ e. omega arith
numbered_above ClockEnd = λ e. omega arith
numbered_above CutShort = λ e. omega arith
numbered_above UnknownKind = λ e. omega arith
numbered_above OutOfPlace = λ e. omega arith
numbered_above TimeBefore = λ e. omega arith
numbered_above TooLong = λ e. omega arith
numbered_above UnderWay = λ e. omega arith
numbered_above NoneUnderWay = λ e. omega arith

-- ---- answers by their numbers

module _ {X : Type 0} where
  -- the answer that has these numbers
  abbrev refusing : Result X Numbered → Result X Refused
  refusing (Ok x) = Ok x
  refusing (Err e) = Err (record { refusal = refusal_of e.number; offset = e.offset })

  refusing_by : (r : Result X Refused) → refusing (by_number r) ≡ r
  refusing_by (Ok x) = refl
  refusing_by (Err e) = ap (λ (x : Refusal). Err (record { refusal = x; offset = e.offset })) (refusal_number e.refusal)

  -- two answers with the same numbers are equal
  pub by_number_injective : (r r' : Result X Refused) → by_number r ≡ by_number r' → r ≡ r'
  by_number_injective r r' e = sym (refusing_by r) ∙ ap refusing e ∙ refusing_by r'
