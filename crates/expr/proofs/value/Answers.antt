-- `expr::value` is the value of the model's reading at the front of the words. Assumes nothing.
use Rattle.expr.proofs.Extents.{extent_malformed, extent_uses, is_expression_lem}
use Rattle.expr.proofs.Values.{malformed_is, tree_is}
use Rattle.expr.proofs.value.Goals as goal

pub worth-requires : goal.worth-requires
worth-requires c = is_expression_lem _ c.extent.ensures c.in_ok-used.was

pub returns-in_err-used : goal.returns-in_err-used
returns-in_err-used c = rw c.from_residual.ensures (malformed_is _ (extent_malformed _ c.extent.ensures c.in_err-used.was))

pub returns : goal.returns
returns c = tree_is _ (extent_uses _ c.extent.ensures c.in_ok-used.was).1 c.worth.ensures
