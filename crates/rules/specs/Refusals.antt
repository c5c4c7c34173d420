-- The table of refusal numbers: the number of each, and that of a call's outcome. Assumes nothing.
use Rattle.std.specs.Prelude.{ℕ, Result, Ok, Err}
use Rattle.rules.specs.declared.Refusal.{Refusal}
use Rattle.rules.specs.declared.Refusal.TheVariants.{Standing, Discipline, ParameterSpace, AddressSpace, LaxityStep, StationCount, AddressRange, AddressTaken, CapabilityRange, CapabilityTaken, NoStation, ValueRange, LengthRange, Late, Filled, AllNumbered, ClockEnd, CutShort, UnknownKind, OutOfPlace, TimeBefore, TooLong, UnderWay, NoneUnderWay}

abbrev pub number_of : Refusal → ℕ
number_of Standing = 1
number_of Discipline = 2
number_of ParameterSpace = 3
number_of AddressSpace = 4
number_of LaxityStep = 5
number_of StationCount = 6
number_of AddressRange = 7
number_of AddressTaken = 8
number_of CapabilityRange = 9
number_of CapabilityTaken = 10
number_of NoStation = 11
number_of ValueRange = 12
number_of LengthRange = 13
number_of Late = 14
number_of Filled = 15
number_of AllNumbered = 16
number_of ClockEnd = 17
number_of CutShort = 18
number_of UnknownKind = 19
number_of OutOfPlace = 20
number_of TimeBefore = 21
number_of TooLong = 22
number_of UnderWay = 25
number_of NoneUnderWay = 26

-- the number in an answer: that of the refusal, or 0
abbrev pub answered : {X : Type 0} → Result X Refusal → ℕ
answered (Ok x) = 0
answered (Err refusal) = number_of refusal
