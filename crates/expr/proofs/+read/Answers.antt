-- `expr::read` is the extent of the model's reading. Its cycle of calls is itself; the measure is the number of words. Assumes nothing.
use Prim.Native.Nat.{◌+◌}
use lib.ListN.{get_or}
use native.Mathlib.Omega.{arith}
use Rattle.model.specs.Expr.{negation}
use Rattle.expr.proofs.Reading.{reads_nothing, reads_short, reads_constant, reads_variable, reads_beyond, reads_unknown, one_malformed, one_parsed, left_malformed, right_malformed, two_parsed, code_one, code_two}
use Rattle.expr.proofs.Extents.{malformed_is, uses_is, extent_malformed, extent_uses, operand_within}
use Rattle.expr.proofs.+read.Goals as goal

pub returns-then-words-eq0 : goal.returns-then-words-eq0
returns-then-words-eq0 t c = malformed_is (reads_nothing _ c.if-words-eq0.true)

pub returns-then-words-lt2 : goal.returns-then-words-lt2
returns-then-words-lt2 t c = malformed_is (reads_short _ c.if-words-lt2.true (omega (arith, c.in-0.is)))

pub returns-then-words-lt2-2 : goal.returns-then-words-lt2-2
returns-then-words-lt2-2 t c = malformed_is (reads_short _ c.if-words-lt2-2.true (omega (arith, c.in-1.is)))

pub returns-then-words-le-LAST_VARIABLE : goal.returns-then-words-le-LAST_VARIABLE
returns-then-words-le-LAST_VARIABLE t c = uses_is (reads_variable _ c.if-words-lt2-2.false c.in-1.is c.if-words-le-LAST_VARIABLE.true)

pub returns-else-words-lt2 : goal.returns-else-words-lt2
returns-else-words-lt2 t c = uses_is (reads_constant _ c.if-words-lt2.false c.in-0.is)

pub returns-else-words-le-LAST_VARIABLE : goal.returns-else-words-le-LAST_VARIABLE
returns-else-words-le-LAST_VARIABLE t c = malformed_is (reads_beyond _ c.if-words-lt2-2.false c.in-1.is c.if-words-le-LAST_VARIABLE.false)

pub overflow_add-result : goal.overflow_add-result
overflow_add-result t c = omega (arith, operand_within 1 c.args.words.now c.read.ensures c.in_ok-read-in-5.was)

pub returns-in_err-read-in-5 : goal.returns-in_err-read-in-5
returns-in_err-read-in-5 t c = rw c.from_residual.ensures (malformed_is (one_malformed _ negation (omega arith) (code_one _ c.in-5.is) (extent_malformed _ c.read.ensures c.in_err-read-in-5.was)))

pub returns-in_ok-read-in-5 : goal.returns-in_ok-read-in-5
returns-in_ok-read-in-5 t c = uses_is (one_parsed _ negation (omega arith) (code_one _ c.in-5.is) (extent_uses _ c.read.ensures c.in_ok-read-in-5.was).1)

pub overflow_add-left : goal.overflow_add-left
overflow_add-left t c = omega (arith, operand_within 1 c.args.words.now c.read-in-2.ensures c.in_ok-left-in-2.was)

pub offset_bounds-words-left : goal.offset_bounds-words-left
offset_bounds-words-left t c = omega (arith, operand_within 1 c.args.words.now c.read-in-2.ensures c.in_ok-left-in-2.was)

pub slice_bounds-read-count-in-2-2 : goal.slice_bounds-read-count-in-2-2
slice_bounds-read-count-in-2-2 t c = omega (arith, operand_within 1 c.args.words.now c.read-in-2.ensures c.in_ok-left-in-2.was)

pub slice_bounds-read-start-in-2-2 : goal.slice_bounds-read-start-in-2-2
slice_bounds-read-start-in-2-2 t c = omega (arith, operand_within 1 c.args.words.now c.read-in-2.ensures c.in_ok-left-in-2.was)

pub overflow_add-result-in-2 : goal.overflow_add-result-in-2
overflow_add-result-in-2 t c = omega (arith, operand_within 1 c.args.words.now c.read-in-2.ensures c.in_ok-left-in-2.was)

pub overflow_add-result-in-2-2 : goal.overflow_add-result-in-2-2
overflow_add-result-in-2-2 t c =
    let at = 1 + c.in_ok-left-in-2.left in
    omega (arith, operand_within 1 c.args.words.now c.read-in-2.ensures c.in_ok-left-in-2.was, operand_within at c.args.words.now c.read-in-2-2.ensures c.in_ok-right-in-2.was)

pub returns-in_err-left-in-2 : goal.returns-in_err-left-in-2
returns-in_err-left-in-2 t c =
    let two = code_two (get_or c.args.words.now 0 0) (omega arith) (omega arith) in
    rw c.from_residual-in_err-left-in-2.ensures (malformed_is (left_malformed _ two.op (omega arith) two.is (extent_malformed _ c.read-in-2.ensures c.in_err-left-in-2.was)))

pub returns-in_err-right-in-2 : goal.returns-in_err-right-in-2
returns-in_err-right-in-2 t c =
    let two = code_two (get_or c.args.words.now 0 0) (omega arith) (omega arith) in
    rw c.from_residual-in_err-right-in-2.ensures (malformed_is (right_malformed _ two.op (omega arith) two.is (extent_uses _ c.read-in-2.ensures c.in_ok-left-in-2.was).1 (extent_malformed _ c.read-in-2-2.ensures c.in_err-right-in-2.was)))

pub returns-in_ok-right-in-2 : goal.returns-in_ok-right-in-2
returns-in_ok-right-in-2 t c =
    let two = code_two (get_or c.args.words.now 0 0) (omega arith) (omega arith) in
    uses_is (two_parsed _ two.op (omega arith) two.is (extent_uses _ c.read-in-2.ensures c.in_ok-left-in-2.was).1 (extent_uses _ c.read-in-2-2.ensures c.in_ok-right-in-2.was).1)

pub returns-in_default : goal.returns-in_default
returns-in_default t c = malformed_is (reads_unknown _ (omega arith))
