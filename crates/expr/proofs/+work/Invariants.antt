-- `expr::operand` and `expr::applied` call each other: the measure is how many words are left of the code, and an operand comes before
-- its operation. Assumes nothing.
use Prim.Native.Nat.{◌+◌, ◌-◌, ◌*◌}
use lib.ListN.{length}
use Rattle.expr.proofs.+work.Given as goal

abbrev pub decreases-operand : goal.decreases-operand
decreases-operand l = 2 * (length l.code.now - l.at.now) + 1

abbrev pub decreases-applied : goal.decreases-applied
decreases-applied l = 2 * (length l.code.now - l.at.now)
