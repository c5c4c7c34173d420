-- `fields::parted` meets its contract.
use Rattle.layout.proofs.InLine.{spanned}
use Rattle.layout.proofs.fields.parted.Goals as goal

pub slice_bounds-result-end : goal.slice_bounds-result-end
slice_bounds-result-end c = (spanned c.args.line.now _ c.word_at-word.ensures).within

pub slice_bounds-result-count-2 : goal.slice_bounds-result-count-2
slice_bounds-result-count-2 c = (spanned c.args.line.now _ c.word_at-word.ensures).within

pub slice_bounds-result-start-2 : goal.slice_bounds-result-start-2
slice_bounds-result-start-2 c = (spanned c.args.line.now _ c.word_at-word.ensures).within

pub returns-clause-word : goal.returns-clause-word
returns-clause-word c = (spanned c.args.line.now _ c.word_at-word.ensures).word
