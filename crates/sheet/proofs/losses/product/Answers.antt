-- The product is the number that multiplication in halves makes: by the law of halves, at 32 bits, and that of two words.
use Rattle.std.proofs.Common.{arith, sym, ap, ◌∙◌, ◌*◌}
use Rattle.sheet.specs.Words.{word, half, number}
use Rattle.sheet.proofs.Halves.{in_halves_exact, words_number}
use Rattle.sheet.proofs.losses.product.Goals as goal

pub returns-clause-in_halves : goal.returns-clause-in_halves
returns-clause-in_halves c =
    ap (λ n. n * c.from-2.result) c.from.ensures
    ∙ ap (λ n. c.args.a * n) c.from-2.ensures
    ∙ sym (ap (number word) (in_halves_exact half c.args.a c.args.b (omega arith)) ∙ words_number word (c.args.a * c.args.b))
