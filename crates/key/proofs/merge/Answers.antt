-- `key::merge` meets its contract. The loop's invariant is `Turn`, what holds between two turns of a merge; each turn takes a digit
-- from one of the two numbers, so their sum falls. Assumes nothing.
use Prim.Native.Nat.{◌%◌}
use native.Mathlib.Omega.{arith}
use Rattle.key.proofs.Digits.{turn_fits, turn_end, merged_fits}
use Rattle.key.proofs.merge.Goals as goal

pub overflow_mul-merged : goal.overflow_mul-merged
overflow_mul-merged c = omega (arith, turn_fits (c.loop-first.second % 128) c.loop-first.invariant (omega arith) (omega arith))

pub overflow_add-merged : goal.overflow_add-merged
overflow_add-merged c = omega (arith, turn_fits (c.loop-first.second % 128) c.loop-first.invariant (omega arith) (omega arith))

pub overflow_mul-merged-else-x-y : goal.overflow_mul-merged-else-x-y
overflow_mul-merged-else-x-y c = omega (arith, turn_fits (c.loop-first.first % 128) c.loop-first.invariant (omega arith) (omega arith))

pub overflow_add-merged-else-x-y : goal.overflow_add-merged-else-x-y
overflow_add-merged-else-x-y c = omega (arith, turn_fits (c.loop-first.first % 128) c.loop-first.invariant (omega arith) (omega arith))

pub overflow_mul-scale : goal.overflow_mul-scale
overflow_mul-scale c = omega (arith, turn_fits 0 c.loop-first.invariant (omega arith) (omega arith))

pub overflow_mul-result : goal.overflow_mul-result
overflow_mul-result c = omega (arith, turn_end c.loop-first.invariant (omega arith))

pub overflow_add-result : goal.overflow_add-result
overflow_add-result c = omega (arith, turn_end c.loop-first.invariant (omega arith))

pub returns : goal.returns
returns c =
    merged_fits c.args.a c.args.b (omega arith)
    (turn_end c.loop-first.invariant (omega arith)).1
