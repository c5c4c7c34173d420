-- `rows::sums` meets its contract: each sum is that of its count. A search reads the facts of four; the fifth goes along its chain.
use Rattle.std.proofs.Common.{rules, tests, ◌≡◌}
use Rattle.std.specs.Prelude.{sum_by}
use Rattle.std.proofs.lemmas.Iterator.{YieldsList-from_map, YieldsList-from_slice}
use Rattle.std.proofs.lemmas.Iterator.Consumers.{sum_by_from_yields_List}
use Rattle.sheet.specs.Sheet.{Run}
use Rattle.sheet.proofs.rows.sums.Goals as goal

pub returns : goal.returns
returns c =
    let runs = c.args.runs.now in
    let admitted : c.sum.result ≡ sum_by (λ (r : Run). r.admitted) runs = search rules in
    let sent : c.sum-2.result ≡ sum_by (λ (r : Run). r.sent) runs = search rules in
    let lost : c.sum-3.result ≡ sum_by (λ (r : Run). r.lost) runs = search rules in
    let waiting : c.sum-4.result ≡ sum_by (λ (r : Run). r.waiting) runs = search rules in
    let turned : c.sum-5.result ≡ sum_by (λ (r : Run). r.turned) runs =
    sum_by_from_yields_List (λ (r : Run). r.turned) runs c.map-5.result c.sum-5.result c.sum-5.ensures.ran
    (YieldsList-from_map _ (λ (r : Run). r.turned) (YieldsList-from_slice runs cc) c.map-5.ensures.closure (λ x r q k. search (rules, tests))) in
    cc
