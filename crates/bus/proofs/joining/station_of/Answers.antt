-- `station_of` meets its contract.
use Rattle.std.proofs.Common.{suc, ◌-◌, ◌≡◌, sym, ap, ◌∙◌, cond, add-one, arith, rules}
use Rattle.bus.specs.Parts.{first_place}
use Rattle.bus.proofs.FirstPlace.{first_place_turn, first_place_end}
use Rattle.bus.proofs.joining.station_of.Invariants.{has_it}
use Rattle.bus.proofs.joining.station_of.Invariants.{has_it}
use Rattle.bus.proofs.joining.station_of.Goals as goal

pub loop-i-init : goal.loop-i-init
loop-i-init c =
    let e : c.args.n ≡ c.args.n - 0 = omega arith in
    (search rules, ap (first_place (has_it c.args.address c.args.listed.now) 0) e)

pub returns-then-same_address : goal.returns-then-same_address
returns-then-same_address c =
    let i = c.loop-i.i in
    let n = c.args.n in
    let test = has_it c.args.address c.args.listed.now in
    sym
    (c.loop-i.invariant.1
    ∙ first_place_turn test i n (omega arith)
    ∙ ap (λ t. cond t i (first_place test (suc i) (n - suc i))) (sym c.same_address.ensures ∙ c.if-same_address.true))

pub loop-i-preserved : goal.loop-i-preserved
loop-i-preserved c =
    let i = c.loop-i.i in
    let n = c.args.n in
    let test = has_it c.args.address c.args.listed.now in (
      search rules,
      c.loop-i.invariant.1
          ∙ first_place_turn test i n (omega arith)
          ∙ ap (λ t. cond t i (first_place test (suc i) (n - suc i))) (sym c.same_address.ensures ∙ c.if-same_address.false)
          ∙ ap (λ k. first_place test k (n - k)) (sym (add-one i)),
    )

pub returns : goal.returns
returns c =
    let i = c.loop-i.i in
    let n = c.args.n in
    let e : n ≡ i = omega arith in
    e ∙ sym (c.loop-i.invariant.1 ∙ first_place_end (has_it c.args.address c.args.listed.now) i n (omega arith))
