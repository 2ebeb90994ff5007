-- `expr::form` is the normal sum of an expression that stands at a place. Its cycle of calls is itself; the measure is how many words
-- are left of the code. Assumes nothing.
use native.Mathlib.Omega.{arith}
use Rattle.std.proofs.lemmas.Grind.{common_steps}
use Rattle.std.proofs.lemmas.Result.{err_from_is_err_and}
use Rattle.env.proofs.Stored.{sums_few}
use Rattle.expr.proofs.Standing.{stands_within, first_stands}
use Rattle.expr.proofs.Summed.{constant_summed, variable_summed, negation_summed, second_summed, left_large, right_refused, both_fit, where_fits, not_both, fits_or_not}
use Rattle.expr.proofs.+form.Goals as goal

pub returns-then-kind-eq-CONSTANT : goal.returns-then-kind-eq-CONSTANT
returns-then-kind-eq-CONSTANT t c = constant_summed _ _ _ c.requires c.if-kind-eq-CONSTANT.true c.constant.ensures

pub returns-then-kind-eq-VARIABLE : goal.returns-then-kind-eq-VARIABLE
returns-then-kind-eq-VARIABLE t c = variable_summed _ _ _ c.requires c.if-kind-eq-VARIABLE.true c.get.ensures.value

pub form-requires : goal.form-requires
form-requires t c = (omega (arith, stands_within _ _ c.requires), first_stands _ _ c.requires (omega arith))

pub returns-in_err-left : goal.returns-in_err-left
returns-in_err-left t c =
    let p = err_from_is_err_and c.from_residual.result c.from_residual.ensures.1 in
    rw p.1 (left_large _ _ _ c.requires (omega arith) c.form.ensures.0 c.in_err-left.was, tt)

pub returns-then-kind-eq-NEGATION : goal.returns-then-kind-eq-NEGATION
returns-then-kind-eq-NEGATION t c =
    let left = where_fits c.form.ensures c.in_ok-left.was in
    negation_summed _ _ _ c.requires (omega arith) left (sums_few _) c.in_ok-left.was c.if-kind-eq-NEGATION.true c.negate.ensures

pub form-requires-2 : goal.form-requires-2
form-requires-2 t c =
    let left = where_fits c.form.ensures c.in_ok-left.was in
    let second = second_summed _ _ _ c.requires (omega arith) left c.if-kind-eq-NEGATION.false in
    (omega (arith, left.1, stands_within _ _ second), second)

pub returns-in_err-right : goal.returns-in_err-right
returns-in_err-right t c =
    let p = err_from_is_err_and c.from_residual-in_err-right.result c.from_residual-in_err-right.ensures.1 in
    let left = where_fits c.form.ensures c.in_ok-left.was in
    rw p.1 (right_refused _ _ _ c.requires (omega arith) left c.if-kind-eq-NEGATION.false _ c.form-2.ensures.0 (λ s h. not_both {s = s} (grind (arith, common_steps)) c.in_err-right.was), tt)

pub returns : goal.returns
returns t c =
    let left = where_fits c.form.ensures c.in_ok-left.was in
    let right = where_fits {x = c.form-2.result} {s = c.in_ok-right.right} c.form-2.ensures (grind (arith, common_steps)) in
    fits_or_not c.combined.result (both_fit _ _ _ c.requires (omega arith) left (sums_few _) c.if-kind-eq-NEGATION.false c.in_ok-left.was right (grind (arith, common_steps)) c.combined.ensures)
