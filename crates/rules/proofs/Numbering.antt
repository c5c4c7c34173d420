-- Accepted packets are numbered 1, 2, 3 and so on, and the number is the answer. Assumes nothing.
use Prim.Native.Nat.{ℕ, suc, ◌+◌}
use mathlib.Core.Path.{◌≡◌, refl, sym, ap, ◌∙◌, subst}
use mathlib.Core.List.{List, [], ◌∷◌}
use native.Mathlib.Omega.{arith}
use borrow.Author.Tests.{ne_eqb}
use Rattle.rules.specs.Lists.{total, count_up}
use Rattle.rules.specs.Bus.{Bus}
use Rattle.rules.specs.SetUp.{set_up}
use Rattle.rules.specs.Probe.{refused_answer, probe}
use Rattle.rules.specs.Step.{refused_begun, begun_answer, opened}
use Rattle.rules.specs.Engine.{Engine, machine, Call, Reply, admitted, begun, probed, reply, next, replies}
use Rattle.rules.specs.Demands.{Demand2, adds_admitted, numbers_answered, NumbersAreAnswers, QueuedAsAnswered}
use Rattle.rules.proofs.Standing.{accepted_admission, admit_is}
use Rattle.rules.proofs.Reach.{outcome, replies_agree}
use Rattle.rules.proofs.Counts.{step_rise, fresh_zero}

-- the numbers answered from a bus on: one more than it has admitted, and so on
abbrev pub Counting : ℕ → List Reply → Type 0
Counting n rs = numbers_answered rs ≡ count_up (suc n) (total adds_admitted rs)

-- a reply that is no accepted admission, and the replies after it
not_counted :
    {n m : ℕ} (r : Reply) (rs : List Reply) → adds_admitted r ≡ 0 → numbers_answered (r ∷ rs) ≡ numbers_answered rs → m ≡ n → Counting m rs
    → Counting n (r ∷ rs)
not_counted {n} r rs none same e h =
    let sum : total adds_admitted rs ≡ adds_admitted r + total adds_admitted rs = omega arith in
    same ∙ h ∙ ap (λ k. count_up (suc k) (total adds_admitted rs)) e ∙ ap (count_up (suc n)) sum

-- an accepted admission, and the replies after it
counted_on : (n : ℕ) (rs : List Reply) → Counting (suc n) rs → Counting n (admitted (record { refusal = 0; number = suc n }) ∷ rs)
counted_on n rs h =
    let sum : suc (total adds_admitted rs) ≡ 1 + total adds_admitted rs = omega arith in
    ap (λ ns. suc n ∷ ns) h ∙ ap (count_up (suc n)) sum

-- one call, and the replies after it
call_counted : (b : Bus) (c : Call) (rs : List Reply) → Counting (next machine b c).admitted rs → Counting b.admitted (reply machine b c ∷ rs)
call_counted b c rs =
    outcome b (λ r b'. Counting b'.admitted rs → Counting b.admitted (r ∷ rs))
    (record {
      refuses = λ n z e. not_counted (admitted (record { refusal = n; number = 0 })) rs (rw (ne_eqb n 0 z)) (rw (ne_eqb n 0 z)) refl;
      turns = λ n z e. not_counted (admitted (record { refusal = n; number = 0 })) rs (rw (ne_eqb n 0 z)) (rw (ne_eqb n 0 z)) refl;
      admits = λ a z. counted_on b.admitted rs;
      refuses_begin = λ n z. not_counted (begun (refused_begun n)) rs refl refl refl;
      begins = λ z. not_counted (begun (begun_answer b)) rs refl refl refl;
      refuses_probe = λ n z. not_counted (probed (refused_answer n)) rs refl refl refl;
      probes_one = λ z. let same = (step_rise b).in_admitted in not_counted (probed (probe (opened b)).0) rs refl refl (omega arith);
    })
    c

pub calls_counted : (b : Bus) (calls : List Call) → Counting b.admitted (replies machine b calls)
calls_counted b [] = refl
calls_counted b (c ∷ calls) = call_counted b c (replies machine (next machine b c) calls) (calls_counted (next machine b c) calls)

-- counted from set-up on, where none has been admitted
machine_numbers : NumbersAreAnswers machine
machine_numbers r calls =
    subst (λ n. Counting n (replies machine (set_up r).1 calls)) (fresh_zero (λ (b : Bus). b.admitted) r refl) (calls_counted (set_up r).1 calls)

pub numbers_are_answers : (E : Engine) → Demand2 E → NumbersAreAnswers E
numbers_are_answers E meets r calls =
    subst (λ rs. numbers_answered rs ≡ count_up 1 (total adds_admitted rs)) (sym (replies_agree E meets r [] calls)) (machine_numbers r calls)

-- the packet queued bears the number answered
pub queued_as_answered : QueuedAsAnswered
queued_as_answered b a z = rw (admit_is b a (accepted_admission b a z))
