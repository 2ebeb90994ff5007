-- `run::is_input` meets its contract. The loop's invariant is `Checking`: the ports from this couple on are right where all are. Assumes
-- nothing.
use native.Mathlib.Omega.{arith}
use Rattle.run.proofs.Input.{ports_step, ports_broken, ports_odd, ports_end}
use Rattle.run.proofs.is_input.Goals as goal

pub returns-then-input-ne0 : goal.returns-then-input-ne0
returns-then-input-ne0 c = ports_odd _ c.if-input-ne0.true

pub returns-then-input-i-gt3 : goal.returns-then-input-i-gt3
returns-then-input-i-gt3 c = ports_broken c.loop-i.invariant (omega arith) (omega arith)

pub loop-i-preserved : goal.loop-i-preserved
loop-i-preserved c = ports_step c.loop-i.invariant (omega arith) (omega arith)

pub returns : goal.returns
returns c = ports_end c.loop-i.invariant (omega arith) c.if-input-ne0.false
