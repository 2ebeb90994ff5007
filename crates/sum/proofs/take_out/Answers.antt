-- `sum::take_out` takes the term at a place out, by a shift down. Assumes nothing.
use Rattle.std.proofs.Common.{arith, refl}
use lib.ListN.{length-set}
use Rattle.sum.specs.Packed.{zero_term}
use Rattle.sum.proofs.Lists.{close_step}
use Rattle.sum.proofs.take_out.Goals as goal

pub loop-j-preserved : goal.loop-j-preserved
loop-j-preserved c = (close_step _ _ _ _ _ zero_term _ c.loop-j.invariant.0 (omega (arith, c.loop-j-test.true)) refl, rw length-set c.loop-j.invariant.1)
