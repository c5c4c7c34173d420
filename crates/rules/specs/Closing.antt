-- What a listing closes with (paper 01: 'Last: END clock admitted sent lost waiting'; P4: 'END gains the count as its last field'). Assumes nothing.
use Rattle.std.specs.Prelude.{ℕ, cond}
use Rattle.rules.specs.Bus.{Bus, waiting}
use Rattle.rules.specs.Standing.{stands}

-- the counts and the clock at the end of a run; `turned` are the packets turned away. `refusal` is 0 where the state stands.
pub record Totals : Type 0 where
  pub refusal : ℕ
  pub clock : ℕ
  pub admitted : ℕ
  pub sent : ℕ
  pub lost : ℕ
  pub waiting : ℕ
  pub turned : ℕ

-- the totals of a bus
abbrev pub totals : Bus → Totals
totals b =
    record {
      refusal = 0;
      clock = b.clock;
      admitted = b.admitted;
      sent = b.sent;
      lost = b.lost;
      waiting = waiting b.stations;
      turned = b.turned;
    }

-- 'zero in the answer's other fields'
abbrev pub refused_totals : ℕ → Totals
refused_totals n = record { refusal = n; clock = 0; admitted = 0; sent = 0; lost = 0; waiting = 0; turned = 0 }

-- of a state that stands; any other is refused with 1
abbrev pub closing_call : Bus → Totals
closing_call b = cond (stands b) (totals b) (refused_totals 1)
