-- `run::walk` meets its contract. The loop's invariant is `Walking`: the run from here on ends as the run from reset does. Assumes nothing.
use Rattle.run.proofs.Walking.{Walking}
use Rattle.run.proofs.walk.Given as goal

abbrev pub invariant-loop-done : goal.invariant-loop-done
invariant-loop-done l = Walking l.table.image.now l.input l.fn.limit l.initial.out l.out l.hand l.left l.state l.done
