-- `run::given` meets its contract. The loop's invariant is `Counting`: what is counted before this couple and what is left from it on are
-- all words of a port; and `Checking`, for the ports. Assumes nothing.
use Rattle.run.proofs.Input.{Counting, Checking}
use Rattle.run.proofs.given.Given as goal

abbrev pub invariant-loop-i : goal.invariant-loop-i
invariant-loop-i l = Counting l.input l.counts l.i × Checking l.input l.i
