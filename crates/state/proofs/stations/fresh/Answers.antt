-- `fresh` meets its contract: an array of one value is a row of it.
use Rattle.state.specs.State.{no_packet, no_contention, no_round}
use Rattle.state.proofs.Contenders.{none_recorded}
use Rattle.state.proofs.Rows.{row_replicate}
use Rattle.state.proofs.stations.fresh.Goals as goal

pub returns : goal.returns
returns c =
    λ i.
    record {
      segment = record {
        settings = c.args.settings;
        listed = c.args.listed;
        clock = record { 0 = 0 };
        admitted = 0;
        sent = 0;
        lost = 0;
        turned = 0;
        round = no_round;
        contention = no_contention;
        contenders = (none_recorded i).word;
        parameters = (none_recorded i).parameters;
        numbers = (none_recorded i).numbers;
        values = (none_recorded i).values;
        lengths = (none_recorded i).lengths;
        admissions = (none_recorded i).admissions;
      };
      queues = record { lengths = row_replicate 64 0 i; packets = row_replicate 1024 no_packet i };
    }
