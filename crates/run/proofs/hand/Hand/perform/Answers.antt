-- `run::hand::Hand::perform` meets its contract. The loop's invariant is `Performing`: what the actions do from here on is what all of them
-- do. Assumes nothing.
use native.Mathlib.Omega.{arith}
use Rattle.table.proofs.Decoding.{counts}
use Rattle.run.proofs.Acting.{perform_room, perform_step, perform_end}
use Rattle.run.proofs.hand.Hand.perform.Goals as goal

pub overflow_add-i-end : goal.overflow_add-i-end
overflow_add-i-end c = omega (arith, (counts _ c.args.table.now.passed).1.1)

pub act-requires-clause-room : goal.act-requires-clause-room
act-requires-clause-room c = perform_room c.loop-i.invariant c.loop-i-test.true c.action.ensures.meant

pub loop-i-preserved : goal.loop-i-preserved
loop-i-preserved c = perform_step c.loop-i.invariant c.loop-i-test.true c.action.ensures.meant _ _ c.act.ensures

pub returns : goal.returns
returns c = perform_end c.loop-i.invariant c.loop-i-test.false
