-- The action that a record holds, by its kind. Assumes nothing.
use mathlib.Core.Path.{refl, sym, ap}
use native.Mathlib.Omega.{arith}
use Rattle.table.specs.Decoded.{action_by, action_as}
use Rattle.table.proofs.Decoding.{from_two}
use Rattle.table.proofs.decoded.ActionFromActionRecord.from.Goals as goal

pub returns-in-0 : goal.returns-in-0
unfolding action_as action_by
returns-in-0 c = rw c.in-0.is refl

pub returns-in-1 : goal.returns-in-1
unfolding action_as action_by
returns-in-1 c = rw c.in-1.is refl

pub returns-in_default : goal.returns-in_default
unfolding action_as action_by
returns-in_default c = sym (ap (λ k. action_by k c.args.a) (from_two c.args.a.kind (omega arith)))
