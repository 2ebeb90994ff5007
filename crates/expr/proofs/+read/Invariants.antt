-- `expr::read` is the extent of the model's reading. Its cycle of calls is itself; the measure is the number of words. Assumes nothing.
use lib.ListN.{length}
use Rattle.expr.proofs.+read.Given as goal

abbrev pub decreases-read : goal.decreases-read
decreases-read l = length l.words.now
