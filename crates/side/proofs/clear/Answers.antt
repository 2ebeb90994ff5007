-- `side::clear`: no sums are written to any port any more. Assumes nothing.
use Rattle.std.proofs.Common.{refl, arith}
use Rattle.side.proofs.Moving.{cleared_more, cleared_all}
use Rattle.side.proofs.clear.Goals as goal

pub loop-port-init : goal.loop-port-init
loop-port-init c = refl

pub loop-port-preserved : goal.loop-port-preserved
loop-port-preserved c = cleared_more _ _ _ c.loop-port.invariant (omega (arith, c.told-writes, c.loop-port-test.true)) c.clear.ensures

pub returns : goal.returns
returns c = cleared_all _ _ _ c.loop-port.invariant c.told-writes c.loop-port-test.false
