-- `beginning::contender_for` meets its contract.
use Rattle.std.proofs.Common.{ℕ, true, sym, ap, ◌∙◌}
use Rattle.rules.specs.SetUp.{discipline_of}
use Rattle.rules.specs.Begin.{choice}
use Rattle.bus.specs.Types.{Packet, Contender}
use Rattle.bus.specs.Parts.{chosen_form}
use Rattle.bus.proofs.BeginningLaws.{contender_found}
use Rattle.bus.proofs.beginning.contender_for.Goals as goal

abbrev contending : Packet → ℕ → Contender
contending p parameter = record { contends = true; parameter = parameter; packet = p }

pub returns : goal.returns
returns c =
    let args = c.args in
    let p = c.in-Some.packet in
    ap (contending p) c.parameter-parameter.ensures
    ∙ contender_found args.settings args.clock args.round args.l (choice (discipline_of args.settings.discipline) args.queue.now) p
    (sym (c.chosen.ensures ∙ ap (λ d. chosen_form (choice d args.queue.now)) c.from.ensures) ∙ c.in-Some.is) c.requires.takes_part
