-- `expr::operand` is the value of an expression that stands at a place, and `expr::applied` that of an operation. Assumes nothing.
use native.Mathlib.Omega.{arith}
use Rattle.expr.proofs.Standing.{stands_within, first_stands, uses_two, leaf_stood, negation_stood, second_below, operation_stood}
use Rattle.expr.proofs.+work.Goals as goal

pub operand-leaf-requires : goal.operand-leaf-requires
operand-leaf-requires t c = (c.requires, omega arith)

pub operand-returns : goal.operand-returns
operand-returns t c = leaf_stood _ _ _ c.requires (omega arith) c.leaf.ensures

pub applied-operand-left-requires : goal.applied-operand-left-requires
applied-operand-left-requires t c =
    let first = first_stands _ _ c.requires.0 c.requires.1 in
    (omega (arith, stands_within _ _ first), first)

pub applied-returns-then-kind-eq-NEGATION : goal.applied-returns-then-kind-eq-NEGATION
applied-returns-then-kind-eq-NEGATION t c =
    negation_stood _ _ _ c.requires.0 c.requires.1 (c.operand-left.ensures.0, omega (arith, c.operand-left.ensures.1, uses_two _ _ (first_stands _ _ c.requires.0 c.requires.1))) c.if-kind-eq-NEGATION.true c.negated.ensures

pub applied-operand-right-requires : goal.applied-operand-right-requires
applied-operand-right-requires t c =
    second_below _ _ _ c.requires.0 c.requires.1 (c.operand-left.ensures.0, omega (arith, c.operand-left.ensures.1, uses_two _ _ (first_stands _ _ c.requires.0 c.requires.1))) (omega arith) c.if-kind-eq-NEGATION.false

pub applied-returns : goal.applied-returns
applied-returns t c =
    operation_stood _ _ _ c.requires.0 c.requires.1 (c.operand-left.ensures.0, omega (arith, c.operand-left.ensures.1, uses_two _ _ (first_stands _ _ c.requires.0 c.requires.1))) c.if-kind-eq-NEGATION.false c.operand-right.ensures c.joined.ensures
