-- `expr::sum_at` is the normal sum of the expression at a start. Assumes nothing.
use Rattle.expr.proofs.Standing.{stands_there}
use Rattle.expr.proofs.Summed.{summed_read}
use Rattle.expr.proofs.sum_at.Goals as goal

pub form-requires : goal.form-requires
form-requires c = stands_there _ _ c.requires

pub returns : goal.returns
returns c = summed_read _ _ _ c.requires c.form.ensures.0
