-- `standing::waiting_in` meets its contract.
use Rattle.std.proofs.Common.{◌≡◌, ap, ◌∙◌, arith, rules, length, take}
use lib.ListN.{drop_of_length-le}
use Rattle.rules.specs.Lists.{total}
use Rattle.state.proofs.StandingParts.{first_few}
use Rattle.state.proofs.standing.waiting_in.Invariants.{held}
use Rattle.state.proofs.standing.waiting_in.Goals as goal

pub returns : goal.returns
returns c =
    let some-of-them = take c.min.result c.args.lengths in
    let over = ap (total held) (drop_of_length-le some-of-them c.loop-length-test.false) in
    let full : length c.args.lengths ≡ 64 = search rules in
    let whole = ap (λ k. total held (take k c.args.lengths)) c.min.ensures ∙ ap (total held) (first_few c.args.lengths c.args.n 64 full) in
    omega (arith, c.loop-length.invariant.1, over, whole)
