-- `Plan::value_fits` meets its contract.
use Rattle.std.proofs.Common.{arith, sym}
use Rattle.layout.proofs.Inserting.{large_unfit}
use Rattle.layout.proofs.plan.Plan.value_fits.Goals as goal

pub returns-in-Err : goal.returns-in-Err
returns-in-Err c = sym (large_unfit _ _ c.args.value (omega arith) (omega (arith, c.in-Err.ensures)))
