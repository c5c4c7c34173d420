-- The contenders of a segment (specs/State.antt): what is recorded at each place is read back there, and a word with its rows is what
-- stands at its places. Assumes nothing.
use Prim.Native.Nat.{ℕ, ◌<◌}
use mathlib.Core.Path.{◌≡◌, sym, ap, ◌∙◌}
use lib.ListN.{replicate}
use Rattle.word.specs.Word.{bit_at}
use Rattle.word.proofs.Laws.{word_lt, bit_word, word_bits, word_same, word_none}
use Rattle.rules.specs.Bus.{most_stations}
use Rattle.state.specs.State.{Contender, Recorded, RecordedHeld, place_in, recorded}
use Rattle.state.specs.Parts.{no_contenders}
use Rattle.state.proofs.Rows.{row_length, row_at, row_ext, row_replicate}

module _ (at : ℕ → Contender) where
  pub recorded_held : RecordedHeld (recorded at)
  recorded_held =
      record {
        word = word_lt (λ i. (at i).contends) most_stations;
        parameters = row_length most_stations (λ i. (at i).parameter);
        numbers = row_length most_stations (λ i. (at i).packet.number);
        values = row_length most_stations (λ i. (at i).packet.value);
        lengths = row_length most_stations (λ i. (at i).packet.length);
        admissions = row_length most_stations (λ i. (at i).packet.admission);
      }

  pub place_recorded : (i : ℕ) → i < most_stations → place_in (recorded at) i ≡ at i
  place_recorded i l =
      λ k.
      record {
        contends = bit_word (λ j. (at j).contends) most_stations i l k;
        parameter = row_at most_stations (λ j. (at j).parameter) i 0 l k;
        packet =
            record {
              number = row_at most_stations (λ j. (at j).packet.number) i 0 l k;
              value = row_at most_stations (λ j. (at j).packet.value) i 0 l k;
              length = row_at most_stations (λ j. (at j).packet.length) i 0 l k;
              admission = row_at most_stations (λ j. (at j).packet.admission) i (record { 0 = 0 }) l k;
            };
      }

  pub recorded_ext : (r : Recorded) → RecordedHeld r → ((i : ℕ) → i < most_stations → place_in r i ≡ at i) → r ≡ recorded at
  recorded_ext r h same =
      λ k.
      record {
        word = (sym (word_bits most_stations r.word h.word) ∙ word_same (bit_at r.word) (λ i. (at i).contends) most_stations (λ i l. ap (λ c. c.contends) (same i l))) k;
        parameters = row_ext most_stations (λ i. (at i).parameter) r.parameters 0 h.parameters (λ i l. ap (λ c. c.parameter) (same i l)) k;
        numbers = row_ext most_stations (λ i. (at i).packet.number) r.numbers 0 h.numbers (λ i l. ap (λ c. c.packet.number) (same i l)) k;
        values = row_ext most_stations (λ i. (at i).packet.value) r.values 0 h.values (λ i l. ap (λ c. c.packet.value) (same i l)) k;
        lengths = row_ext most_stations (λ i. (at i).packet.length) r.lengths 0 h.lengths (λ i l. ap (λ c. c.packet.length) (same i l)) k;
        admissions =
            row_ext most_stations (λ i. (at i).packet.admission) r.admissions (record { 0 = 0 }) h.admissions (λ i l. ap (λ c. c.packet.admission) (same i l)) k;
      }

-- places that agree are recorded alike
pub recorded_same : (f g : ℕ → Contender) → ((i : ℕ) → i < most_stations → f i ≡ g i) → recorded f ≡ recorded g
recorded_same f g same = recorded_ext g (recorded f) (recorded_held f) (λ i l. place_recorded f i l ∙ same i l)

-- no contenders: no bit, and arrays of zeros
abbrev pub zeroed : Recorded
zeroed =
    record {
      word = 0;
      parameters = replicate 64 0;
      numbers = replicate 64 0;
      values = replicate 64 0;
      lengths = replicate 64 0;
      admissions = replicate 64 (record { 0 = 0 });
    }

pub none_recorded : zeroed ≡ no_contenders
none_recorded =
    λ k.
    record {
      word = sym (word_none 64) k;
      parameters = row_replicate 64 0 k;
      numbers = row_replicate 64 0 k;
      values = row_replicate 64 0 k;
      lengths = row_replicate 64 0 k;
      admissions = row_replicate 64 (record { 0 = 0 }) k;
    }
