-- `run::needs` meets its contract. The loop's invariant is `Spending`: what the actions need from here on is what all of them need.
-- Assumes nothing.
use mathlib.Core.Path.{refl}
use native.Mathlib.Omega.{arith}
use Rattle.table.proofs.Decoding.{counts}
use Rattle.run.proofs.Spending.{port_fits, spending_start, spending_step, needed_none, needed_all}
use Rattle.run.proofs.needs.Goals as goal

pub overflow_add-i-end : goal.overflow_add-i-end
overflow_add-i-end c = omega (arith, (counts _ c.args.table.now.passed).1.1)

pub loop-i-init : goal.loop-i-init
loop-i-init c = spending_start _ _ _ refl c.requires.1

pub spent-requires-clause-ports : goal.spent-requires-clause-ports
spent-requires-clause-ports c p v e = port_fits _ c.action.ensures.fits e

pub returns-in_err-writes : goal.returns-in_err-writes
returns-in_err-writes c =
    rw c.from_residual.ensures (record { need = needed_none c.loop-i.invariant c.loop-i-test.true c.action.ensures.meant (c.spent.ensures.count _) _ c.in_err-writes.was; few = tt })

pub loop-i-preserved : goal.loop-i-preserved
loop-i-preserved c = spending_step c.loop-i.invariant c.loop-i-test.true c.action.ensures.meant (c.spent.ensures.count _) c.in_ok-writes.was (c.spent.ensures.left_after _)

pub returns : goal.returns
returns c = record { need = needed_all c.loop-i.invariant c.loop-i-test.false; few = omega (arith, c.loop-i.invariant.few) }
