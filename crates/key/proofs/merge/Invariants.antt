-- `key::merge` meets its contract. The loop's invariant is `Turn`, what holds between two turns of a merge; each turn takes a digit
-- from one of the two numbers, so their sum falls. Assumes nothing.
use Prim.Native.Nat.{◌+◌}
use Rattle.key.proofs.Digits.{Turn}
use Rattle.key.proofs.merge.Given as goal

abbrev pub invariant-loop-first : goal.invariant-loop-first
invariant-loop-first l = Turn l.a l.b l.first l.second l.scale l.merged

abbrev pub decreases-loop-first : goal.decreases-loop-first
decreases-loop-first l = l.first + l.second
