-- `expr::leaf` is the value of a constant or a variable. Assumes nothing.
use Prim.Native.Nat.{◌+◌}
use native.Mathlib.Omega.{arith}
use Rattle.expr.proofs.Standing.{variable_below, constant_stood, variable_stood}
use Rattle.expr.proofs.leaf.Goals as goal

pub returns-then-code-at-eq-CONSTANT : goal.returns-then-code-at-eq-CONSTANT
returns-then-code-at-eq-CONSTANT c = (constant_stood _ _ _ c.requires.0 c.if-code-at-eq-CONSTANT.true (omega (arith, c.type_inv.code (c.args.at + 1)))).0

pub bounds-variables-word : goal.bounds-variables-word
bounds-variables-word c = omega (arith, variable_below _ _ c.requires.0 (omega arith))

pub returns : goal.returns
returns c = (variable_stood _ _ _ c.requires.0 (omega arith)).0
