-- `fault::are_distinct` is whether records have different numbers: those from a record on do where all do. Assumes nothing.
use Prim.Native.Nat.{ℕ}
use mathlib.Core.Path.{◌≡◌}
use Rattle.std.specs.Prelude.{Option}
use Rattle.model.specs.Table.{distinct}
use Rattle.fault.specs.Fault.{Gives}
use Rattle.fault.proofs.Search.{Numbers}
use Rattle.fault.proofs.are_distinct.Given as goal

abbrev pub invariant-loop-i : goal.invariant-loop-i
invariant-loop-i g l = (f : ℕ → Option ℕ) → Gives (goal.F-post g l.number) f → distinct (Numbers f l.i l.end) ≡ distinct (Numbers f l.first l.end)
