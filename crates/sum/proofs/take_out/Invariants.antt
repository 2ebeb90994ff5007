-- `sum::take_out` takes the term at a place out, by a shift down. Assumes nothing.
use Rattle.std.proofs.Common.{◌≡◌, length}
use Rattle.sum.proofs.Lists.{Closed}
use Rattle.sum.proofs.take_out.Given as goal

abbrev pub invariant-loop-j : goal.invariant-loop-j
invariant-loop-j l = Closed l.fn.i (length l.initial.ts) l.initial.ts l.ts l.j × (length l.ts ≡ length l.initial.ts)
