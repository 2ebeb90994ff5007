-- `sum::Sum::negate` is the negation, term by term. Assumes nothing.
use Rattle.std.proofs.Common.{◌∙◌, arith}
use Rattle.std.proofs.lemmas.List.{length-map}
use Rattle.model.specs.Word.{base}
use Rattle.sum.specs.Packed.{negate_term_k, zero_term}
use Rattle.sum.proofs.Lists.{copy_start, copy_step, copy_next, copy_end, copied_all}
use Rattle.sum.proofs.Held.{terms_most, as_full, negated_at, negated_as}
use Rattle.sum.proofs.Sum.negate.Goals as goal

pub loop-t-init : goal.loop-t-init
loop-t-init c =
    let f = as_full _ c.holding-s.result (rw c.terms.ensures (terms_most c.args.self)) c.holding-s.ensures in
    copy_start 16 _ _ (simp length-map (omega arith)) (omega arith)

pub loop-t-preserved : goal.loop-t-preserved
loop-t-preserved c =
    copy_step 16 _ _ _ _ (negate_term_k base zero_term) _ c.loop-t.invariant c.loop-t-test.true
    (negated_at base _ c.loop-t.t-index _ _ (copy_next 16 _ _ _ _ zero_term c.loop-t.invariant c.loop-t-test.true) c.negated-t.ensures)

pub returns : goal.returns
returns c =
    let f = as_full _ c.holding-s.result (rw c.terms.ensures (terms_most c.args.self)) c.holding-s.ensures in
    let e = copy_end 16 _ _ _ _ c.loop-t.invariant c.loop-t-test.false in
    rw (← c.terms.ensures) (negated_as _ _ _ c.holding-s.ensures (e ∙ copied_all 16 _ _ (simp length-map f) f))
