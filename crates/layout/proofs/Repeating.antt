-- Repeated arrivals, inserted one after the other. Assumes nothing.
use Prim.Native.Nat.{ℕ, suc, ◌+◌, ◌*◌, ◌-◌, ◌≤◌, ◌<◌}
use mathlib.Core.Path.{◌≡◌, sym, ap, ◌∙◌}
use mathlib.Core.List.{[], ◌∷◌}
use native.Mathlib.Numerals.{add-one}
use native.Mathlib.Nat.{suc-mul}
use native.Mathlib.Omega.{arith}
use Rattle.state.specs.declared.Arrival.{Arrival}
use Rattle.layout.specs.declared.arrivals.Repeated.{Repeated}
use Rattle.layout.specs.declared.plan.Plan as Coded
use Rattle.layout.specs.Layout.{Plan, value_at, arrival_of, repeated, later, with_arrivals, in_arrivals}
use Rattle.layout.specs.Faults.{stage_number}
use Rattle.layout.specs.Parts.{plan_of}

-- the one at a time, of those that a line says
abbrev pub said_at : Plan → Repeated → ℕ → Arrival
said_at p said time = arrival_of time said.address (value_at p.settings.discipline said.value time) said.length

-- the plan with so many of them, from a time on
abbrev pub with_more : Plan → Plan → Repeated → ℕ → ℕ → Plan
with_more p q said n time = with_arrivals q (repeated n time said.every (said_at p said))

-- before a turn: so many have been inserted, and the others are left
pub record Going (said : Repeated) (before now : Coded.Plan) (turn end : ℕ) : Type 0 where
  pub ends : end ≡ suc (later said.every said.from said.to)
  pub within : turn ≤ end
  pub settings : now.settings ≡ before.settings
  pub counted : now.count ≡ before.count + turn
  pub staged : 0 < turn → stage_number now.stage ≡ in_arrivals
  pub left :
      with_more (plan_of before) (plan_of now) said (end - turn) (said.from + turn * said.every)
      ≡ with_more (plan_of before) (plan_of before) said end said.from

-- one of them inserted: those after it are left
pub turned :
    (p q next : Plan) (said : Repeated) (a : Arrival) (turn end : ℕ) → turn < end → next ≡ with_arrivals q (a ∷ [])
    → a ≡ said_at p said (said.from + turn * said.every)
    → with_more p next said (end - (turn + 1)) (said.from + (turn + 1) * said.every)
    ≡ with_more p q said (end - turn) (said.from + turn * said.every)
turned p q next said a turn end h e f =
    let time = said.from + turn * said.every in
    let n = end - (turn + 1) in
    let one_more : (turn + 1) * said.every ≡ turn * said.every + said.every = ap (λ k. k * said.every) (add-one turn) ∙ suc-mul turn said.every in
    let later : said.from + (turn + 1) * said.every ≡ time + said.every = omega (arith, one_more) in
    let left : end - turn ≡ suc n = omega arith in
    ap (λ t. with_more p next said n t) later
    ∙ ap (λ q. with_more p q said n (time + said.every)) e
    ∙ ap (λ a. with_arrivals q (a ∷ repeated n (time + said.every) said.every (said_at p said))) f
    ∙ ap (λ n. with_more p q said n time) (sym left)
