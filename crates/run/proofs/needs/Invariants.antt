-- `run::needs` meets its contract. The loop's invariant is `Spending`: what the actions need from here on is what all of them need.
-- Assumes nothing.
use Rattle.run.specs.Held.{needing}
use Rattle.run.proofs.Spending.{Spending}
use Rattle.run.proofs.needs.Given as goal

abbrev pub invariant-loop-i : goal.invariant-loop-i
invariant-loop-i l = Spending l.table.image.now (needing l.initial.left 0) l.fn.edge (needing l.left l.writes) l.i
