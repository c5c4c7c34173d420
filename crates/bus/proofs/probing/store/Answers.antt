-- `store` meets its contract: by whether the contention has ended and any is recorded; a word of zero and rows of zeros are no contenders.
use Rattle.std.proofs.Common.{◌≡◌, refl, sym, ap, ◌∙◌, ap₂, Bool, cond}
use Rattle.bus.specs.Types.{Segment}
use Rattle.state.specs.State.{Recorded, recorded_in}
use Rattle.state.specs.Parts.{no_contenders}
use Rattle.bus.specs.Parts.{Moved, segment_with, with_moved}
use Rattle.state.proofs.Contenders.{none_recorded}
use Rattle.bus.proofs.probing.store.Goals as goal
use Rattle.bus.proofs.probing.store.Goals.{else-answer-via-then-answer+else-g-ne0, else-answer-via-else-answer}

-- what is stored, with these contenders
abbrev stored : Segment → Moved → Recorded → Segment
stored g m = segment_with g m.progress.clock.0 m.progress.sent m.progress.round m.progress.contention

by_end :
    (g : Segment) (m : Moved) {none : Recorded} {ended : Bool} → none ≡ no_contenders → m.answer.ended ≡ ended
    → stored g m (cond ended none (recorded_in g)) ≡ with_moved g m
by_end g m n e = ap₂ (λ r t. stored g m (cond t r (recorded_in g))) n (sym e)

pub returns-then-g-ne0 : goal.returns-then-g-ne0
returns-then-g-ne0 c = let args = c.args in by_end args.g.now args.m none_recorded c.if-answer.true

pub returns-else-answer : goal.returns-else-answer
returns-else-answer c =
    let g = c.args.g.now in
    let m = c.args.m in
    elim c.else-answer.branch [
      | else-answer-via-then-answer+else-g-ne0 w ↦
          ap (stored g m) (c.requires w.if-g-ne0.false) ∙ by_end g m refl w.if-answer.true
      | else-answer-via-else-answer w ↦ by_end g m refl w.if-answer.false
    ]
