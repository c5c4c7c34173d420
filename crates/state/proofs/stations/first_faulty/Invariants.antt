-- The loop's invariant: the verdict on the row is the verdict on the stations from i on.
use Rattle.std.proofs.Common.{◌≡◌, []}
use Rattle.state.specs.SetUp.{request_with}
use Rattle.state.proofs.SettingUp.{fault_from}
use Rattle.state.proofs.stations.first_faulty.Given as goal

abbrev pub invariant-loop-i : goal.invariant-loop-i
invariant-loop-i l = fault_from (request_with l.settings []) l.stations 0 ≡ fault_from (request_with l.settings []) l.stations l.i
