-- The examples measured, by computation. Assumes nothing.
use mathlib.Core.Path.{◌≡◌, refl}
use lib.ListN.{take}
use Rattle.window.specs.Splitting.{exponent_of, is_power}
use Rattle.listing.specs.Worked.{worked_input, turned_input}
use Rattle.measure.specs.Measured.{longer, measured}
use Rattle.measure.specs.Examples.{finished_with, refused_with, later_input}

pub worked : measured worked_input ≡ finished_with 3 3 0 0 0 14
unfolding exponent_of is_power longer
worked = refl

pub longest_before_the_last : measured later_input ≡ finished_with 4 3 0 1 0 2
unfolding exponent_of is_power longer
longest_before_the_last = refl

pub one_turned_away : measured turned_input ≡ finished_with 1 1 0 0 1 0
unfolding exponent_of is_power longer
one_turned_away = refl

pub cut_short : measured (take 20 worked_input) ≡ refused_with 18 16
cut_short = refl
