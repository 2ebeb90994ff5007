-- `sum::grow_row` collects the products of a term with each of others. Assumes nothing.
use Rattle.std.proofs.Common.{◌∙◌, sym, arith}
use Rattle.std.proofs.lemmas.Result.{err_from_is_err_and}
use Rattle.model.specs.Word.{base}
use Rattle.sum.specs.Packed.{term_product_k}
use Rattle.sum.proofs.Product.{multiply_step, multiply_stop, multiply_end}
use Rattle.sum.proofs.grow_row.Goals as goal

pub returns-in_err-grow-clause-err : goal.returns-in_err-grow-clause-err
returns-in_err-grow-clause-err g c =
    rw (err_from_is_err_and c.from_residual.result c.from_residual.ensures.1).1
    (multiply_stop base (term_product_k base c.args.t) c.args.us.now c.loop-u.ts.items c.loop-u.u-index c.loop-u-test.true c.in_err-grow.ensures.err
    ∙ c.loop-u.invariant.rest)

pub loop-u-preserved : goal.loop-u-preserved
loop-u-preserved g c = record {
  rest = multiply_step base (term_product_k base c.args.t) c.args.us.now c.loop-u.ts.items c.loop-u.u-index _ c.loop-u-test.true c.in_ok-grow.ensures.ok
      ∙ c.loop-u.invariant.rest;
  few = omega (arith, c.in_ok-grow.ensures.few);
}

pub returns-clause-ok : goal.returns-clause-ok
returns-clause-ok g c =
    sym (multiply_end base (term_product_k base c.args.t) c.args.us.now c.loop-u.ts.items c.loop-u.u-index c.loop-u-test.false) ∙ c.loop-u.invariant.rest
