-- The state that a record holds, by its kind. Assumes nothing.
use mathlib.Core.Path.{refl, sym, ap, ◌∙◌}
use native.Mathlib.Omega.{arith}
use Rattle.table.specs.Decoded.{state_by, state_as}
use Rattle.table.specs.declared.decoded.State.TheVariants.{Test}
use Rattle.table.proofs.Decoding.{from_two}
use Rattle.table.proofs.decoded.StateFromStateRecord.from.Goals as goal

pub returns-in-0 : goal.returns-in-0
unfolding state_as state_by
returns-in-0 c = rw c.in-0.is refl

pub returns-in-1 : goal.returns-in-1
unfolding state_as state_by
returns-in-1 c = rw c.in-1.is refl

pub returns-in_default : goal.returns-in_default
unfolding state_as state_by
returns-in_default c =
    let s = c.args.s in
    ap (λ q. Test q s.left s.right s.on_true s.on_false) c.from.ensures ∙ sym (ap (λ k. state_by k s) (from_two s.kind (omega arith)))
