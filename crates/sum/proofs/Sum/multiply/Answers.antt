-- `sum::Sum::multiply` is the product of two sums. Assumes nothing.
use Rattle.std.proofs.Common.{◌∙◌, sym, ap, ◌*◌, ◌≤◌, length, arith}
use native.Mathlib.Nat.{mul-le-mul}
use Rattle.std.proofs.lemmas.Result.{err_from_is_err_and}
use Rattle.model.specs.Word.{base}
use Rattle.sum.specs.Packed.{added_of}
use Rattle.sum.proofs.Held.{terms_most}
use Rattle.sum.proofs.Product.{Row, multiply_step, multiply_stop, multiply_end, multiplied_many, multiplied_large, multiplied_fits, row_more}
use Rattle.sum.proofs.Sum.multiply.Goals as goal

pub overflow_mul-ts : goal.overflow_mul-ts
overflow_mul-ts c =
    let h : length c.terms-ts.result.now ≤ 16 = rw c.terms-ts.ensures (terms_most c.args.self) in
    let k : length c.terms-us.result.now ≤ 16 = rw c.terms-us.ensures (terms_most c.args.other) in
    let p : length c.terms-ts.result.now * length c.terms-us.result.now ≤ 16 * 16 = mul-le-mul h k in
    omega arith

pub returns-then-ts-us-gt-PRODUCTS : goal.returns-then-ts-us-gt-PRODUCTS
unfolding added_of
returns-then-ts-us-gt-PRODUCTS c =
    rw (← c.terms-ts.ensures, ← c.terms-us.ensures) (ap added_of (multiplied_many base _ _ c.if-ts-us-gt-PRODUCTS.true))

pub returns-in_err-grow_row : goal.returns-in_err-grow_row
unfolding added_of
returns-in_err-grow_row c =
    rw ((err_from_is_err_and c.from_residual.result c.from_residual.ensures.1).1, ← c.terms-ts.ensures, ← c.terms-us.ensures)
    (ap added_of (multiplied_large base _ _ c.if-ts-us-gt-PRODUCTS.false
    (multiply_stop base (Row base c.terms-us.result.now) _ _ _ c.loop-t-test.true c.in_err-grow_row.ensures.err ∙ c.loop-t.invariant.rest)))

pub loop-t-preserved : goal.loop-t-preserved
loop-t-preserved c = record {
  rest = multiply_step base (Row base c.terms-us.result.now) _ _ _ _ c.loop-t-test.true c.in_ok-grow_row.ensures.ok ∙ c.loop-t.invariant.rest;
  few = rw (row_more c.loop-t.t-index (length c.terms-us.result.now)) (omega (arith, c.in_ok-grow_row.ensures.few));
}

pub returns : goal.returns
returns c =
    c.try_from.ensures ∙ rw (c.as_slice.ensures.value, ← c.terms-ts.ensures, ← c.terms-us.ensures)
    (ap added_of (multiplied_fits base _ _ _ c.if-ts-us-gt-PRODUCTS.false
    (sym (multiply_end base (Row base c.terms-us.result.now) _ _ _ c.loop-t-test.false) ∙ c.loop-t.invariant.rest)))
