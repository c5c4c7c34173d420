-- The table of refused scenarios holds. Assumes nothing.
use mathlib.Core.Path.{◌≡◌, refl}
use mathlib.Core.Option.{none}
use Rattle.text.specs.Text.{decimal}
use Rattle.meanings.specs.Meanings.{other_meaning, call_meaning, meaning_of}
use Rattle.meanings.specs.Refused.{place_of, kind_words, record_words}
use Rattle.meanings.specs.Examples.{examples, first_wrong}

pub all_said : first_wrong 1 examples ≡ none
unfolding decimal other_meaning call_meaning meaning_of place_of kind_words record_words
all_said = refl
