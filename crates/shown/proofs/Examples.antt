-- The scenarios of the examples are shown as their lines, and the bytes of the third, call by call. Assumes nothing.
use mathlib.Core.Path.{◌≡◌, refl}
use Rattle.scenario.specs.Writing.{written}
use Rattle.text.specs.Text.{decimal}
use Rattle.shown.specs.Shown.{layout_of, shown_from}
use Rattle.shown.specs.Examples.{lines_text, pri_request, pri_arrivals, pri_lines, rtdg_request, rtdg_arrivals, rtdg_lines}
use Rattle.shown.specs.Examples.{rtvc_request, rtvc_arrivals, rtvc_lines}

pub pri_holds : layout_of pri_request pri_arrivals 40 ≡ lines_text pri_lines
unfolding decimal
pri_holds = refl

pub rtdg_holds : layout_of rtdg_request rtdg_arrivals 1_000 ≡ lines_text rtdg_lines
unfolding decimal
rtdg_holds = refl

pub rtvc_holds : layout_of rtvc_request rtvc_arrivals 0 ≡ lines_text rtvc_lines
unfolding decimal
rtvc_holds = refl

pub rtvc_turns : shown_from 8 (written rtvc_request rtvc_arrivals 0) 0 ≡ lines_text rtvc_lines
unfolding decimal
rtvc_turns = refl
