-- `run::given` meets its contract. The loop's invariant is `Counting`: what is counted before this couple and what is left from it on are
-- all words of a port; and `Checking`, for the ports. Assumes nothing.
use native.Mathlib.Omega.{arith}
use Rattle.run.proofs.Input.{count_end, tally_at, tally_step}
use Rattle.run.proofs.given.Goals as goal

pub bounds-counts-port : goal.bounds-counts-port
bounds-counts-port c = omega (arith, tally_at c.loop-i.invariant c.loop-i-test.true c.requires)

pub overflow_add-counts : goal.overflow_add-counts
overflow_add-counts c = omega (arith, tally_at c.loop-i.invariant c.loop-i-test.true c.requires)

pub bounds-counts-port-in-loop-i : goal.bounds-counts-port-in-loop-i
bounds-counts-port-in-loop-i c = omega (arith, tally_at c.loop-i.invariant c.loop-i-test.true c.requires)

pub loop-i-preserved : goal.loop-i-preserved
loop-i-preserved c = tally_step c.loop-i.invariant c.loop-i-test.true c.requires

pub returns : goal.returns
returns c = count_end c.loop-i.invariant.0 (omega arith)
