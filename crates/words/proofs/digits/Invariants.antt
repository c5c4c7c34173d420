-- The loop's invariant: the number is that which the digits from here on go on to.
use Rattle.std.proofs.Common.{◌<◌, ◌≡◌, drop}
use Rattle.words.specs.Words.{number_end, number_from}
use Rattle.words.proofs.digits.Given as goal

abbrev pub invariant-loop-byte : goal.invariant-loop-byte
invariant-loop-byte l = (l.n < number_end) × (number_from l.base 0 l.word ≡ number_from l.base l.n (drop l.byte-index l.word))
