-- `side::Side::walk` follows choices in turn. Assumes nothing.
use Rattle.side.proofs.Following.{Following}
use Rattle.side.proofs.Side.walk.Given as goal

abbrev pub invariant-loop-k : goal.invariant-loop-k
invariant-loop-k l = Following l.image l.initial.self l.steps l.choices l.self l.k
