-- `run::hand::Hand::perform` meets its contract. The loop's invariant is `Performing`: what the actions do from here on is what all of them
-- do. Assumes nothing.
use Rattle.run.proofs.Acting.{Performing}
use Rattle.run.proofs.hand.Hand.perform.Given as goal

abbrev pub invariant-loop-i : goal.invariant-loop-i
invariant-loop-i l = Performing l.table.image.now l.input l.initial.self.variables l.initial.self l.initial.out l.fn.edge l.self l.out l.i
