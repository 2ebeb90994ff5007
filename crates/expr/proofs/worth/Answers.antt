-- `expr::worth` is the value of the expression at a start. Assumes nothing.
use Rattle.expr.proofs.Standing.{stands_there, worth_read}
use Rattle.expr.proofs.worth.Goals as goal

pub operand-requires : goal.operand-requires
operand-requires c = stands_there _ _ c.requires

pub returns : goal.returns
returns c = worth_read _ _ _ c.requires c.operand.ensures.0
