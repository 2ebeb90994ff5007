-- `expr::normal_sum` is the normal sum of the model's reading at the front of the words. Assumes nothing.
use Rattle.expr.proofs.Extents.{extent_malformed, extent_uses, is_expression_lem}
use Rattle.expr.proofs.Normals.{none_formed, large_formed, fits_formed}
use Rattle.expr.proofs.normal_sum.Goals as goal

pub sum_at-requires : goal.sum_at-requires
sum_at-requires c = is_expression_lem _ c.extent.ensures c.in-Some.is

pub returns-in_default : goal.returns-in_default
returns-in_default c = none_formed _ (extent_malformed _ c.extent.ensures c.in_default.is)

pub returns-in-Err : goal.returns-in-Err
returns-in-Err c = large_formed _ (extent_uses _ c.extent.ensures c.in-Some.is).1 c.sum_at.ensures c.in-Err.is

pub returns-in-Ok : goal.returns-in-Ok
returns-in-Ok c = fits_formed _ (extent_uses _ c.extent.ensures c.in-Some.is).1 c.sum_at.ensures c.in-Ok.is
