-- `sum::insert` collects a term. Assumes nothing.
use Rattle.std.proofs.Common.{arith}
use Rattle.model.specs.Word.{base}
use Rattle.sum.proofs.Insertion.{inserted_kept, inserted_joined}
use Rattle.sum.proofs.insert.Goals as goal
use Rattle.sum.proofs.insert.Goals.{else-i-len-via-then-i-len+else-deref-i, else-i-len-via-else-i-len}

pub returns-then-deref-i : goal.returns-then-deref-i
returns-then-deref-i g c =
    inserted_joined base c.args.t _ _ _ (rw c.deref.ensures.0 at c.place-i.ensures.at) (omega arith) (rw c.deref-then-i-len.ensures.0 at c.if-deref-i.true) c.join.ensures

pub returns-else-i-len : goal.returns-else-i-len
returns-else-i-len g c =
    inserted_kept base c.args.t _ _ _ (rw c.deref.ensures.0 at c.place-i.ensures.at)
    (λ h e. elim c.else-i-len.branch [
      | else-i-len-via-then-i-len+else-deref-i w ↦ w.if-deref-i.false (rw (w.deref-then-i-len.ensures.0) e)
      | else-i-len-via-else-i-len w ↦ omega arith
    ])
    c.keep.ensures
