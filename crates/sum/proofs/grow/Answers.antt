-- `sum::grow` collects the product of two terms. Assumes nothing.
use Rattle.model.specs.Word.{base}
use Rattle.sum.proofs.Product.{product_one}
use Rattle.sum.proofs.grow.Goals as goal

pub returns-clause-ok : goal.returns-clause-ok
returns-clause-ok g c =
    product_one base c.args.t c.args.u _ _ _ _ _ c.times-product.ensures c.if-product-eq0.false c.merge.ensures c.in-Some.is c.insert.ensures
