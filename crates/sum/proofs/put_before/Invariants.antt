-- `sum::put_before` puts a term before a place, by a shift up. Assumes nothing.
use Rattle.std.proofs.Common.{◌≡◌, length}
use Rattle.sum.proofs.Lists.{Opened}
use Rattle.sum.proofs.put_before.Given as goal

abbrev pub invariant-loop-j : goal.invariant-loop-j
invariant-loop-j l = Opened l.fn.i l.last l.fn.t l.initial.ts l.ts l.carry l.j × (length l.ts ≡ length l.initial.ts)
