-- `layout_space` hands out as many zeros as it says. Assumes nothing.
use Rattle.std.proofs.Common.{ℕ}
use Rattle.std.proofs.Math.Path.{sym}
use Rattle.std.proofs.lemmas.List.{length-replicate}
use Rattle.buslayout.proofs.layout_space.Goals as goal

pub returns : goal.returns
returns c = sym (length-replicate {0} {A = ℕ} 524289 0)
