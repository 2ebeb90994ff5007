-- `fault::first_fault` is the first finding along an area: what is found from a record on is what is found in all. Assumes nothing.
use Prim.Native.Nat.{ℕ}
use Rattle.model.specs.Answer.{Fault}
use Rattle.fault.specs.Fault.{Answers}
use Rattle.fault.proofs.Along.{Along}
use Rattle.fault.proofs.first_fault.Given as goal

abbrev pub invariant-loop-i : goal.invariant-loop-i
invariant-loop-i g l = (f : ℕ → Fault) → Answers (goal.F-post g l.check) f l.n → Along f l.n l.i
