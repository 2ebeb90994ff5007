-- `expr::form` is the normal sum of an expression that stands at a place. Its cycle of calls is itself; the measure is how many words
-- are left of the code. Assumes nothing.
use Prim.Native.Nat.{◌-◌}
use lib.ListN.{length}
use Rattle.expr.proofs.+form.Given as goal

abbrev pub decreases-form : goal.decreases-form
decreases-form l = length l.code.now - l.at.now
