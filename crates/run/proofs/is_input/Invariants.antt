-- `run::is_input` meets its contract. The loop's invariant is `Checking`: the ports from this couple on are right where all are. Assumes
-- nothing.
use Rattle.run.proofs.Input.{Checking}
use Rattle.run.proofs.is_input.Given as goal

abbrev pub invariant-loop-i : goal.invariant-loop-i
invariant-loop-i l = Checking l.input l.i
