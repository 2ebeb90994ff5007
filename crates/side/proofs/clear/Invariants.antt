-- `side::clear`: no sums are written to any port any more. Assumes nothing.
use Rattle.side.proofs.Moving.{Cleared}
use Rattle.side.proofs.clear.Given as goal

abbrev pub invariant-loop-port : goal.invariant-loop-port
invariant-loop-port l = Cleared l.initial.port-items l.port-items l.port-index
