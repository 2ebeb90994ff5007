-- `side::Side::act` does the actions of an edge in turn. Assumes nothing.
use Rattle.side.proofs.Moving.{Moving}
use Rattle.side.proofs.Side.act.Given as goal

abbrev pub invariant-loop-i : goal.invariant-loop-i
invariant-loop-i l = Moving l.image l.code l.at l.fn.edge.first l.fn.edge.count l.fn.self l.self l.i
