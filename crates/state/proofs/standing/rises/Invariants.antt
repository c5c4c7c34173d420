-- The loop's invariant: the numbers rise if those that are left do, from the number before them.
use Rattle.std.proofs.Common.{◌≡◌, drop}
use Rattle.rules.specs.Standing.{rising}
use Rattle.state.proofs.standing.rises.Given as goal

abbrev pub invariant-loop-p : goal.invariant-loop-p
invariant-loop-p l = rising 0 l.admitted l.packets ≡ rising l.before l.admitted (drop l.p-index l.packets)
