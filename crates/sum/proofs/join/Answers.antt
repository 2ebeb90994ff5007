-- `sum::join` joins a term with the one at a place. Assumes nothing.
use Rattle.std.proofs.Common.{◌∙◌, ap, length}
use Rattle.arrayvec.proofs.ArrayVecLemmas.{items-with_items}
use Rattle.model.specs.Word.{base}
use Rattle.sum.proofs.Insertion.{left_out, joined_zero, joined_some}
use Rattle.sum.proofs.join.Goals as goal

pub returns-else-joined-eq0 : goal.returns-else-joined-eq0
returns-else-joined-eq0 g c =
    rw c.deref_mut.ensures.value
    (items-with_items c.args.ts.now _ (simp lib.ListN.length-set)
    ∙ joined_some base c.args.t c.args.ts.now.items c.args.i _ c.requires (rw c.deref.ensures.0 at c.plus-joined.ensures) c.if-joined-eq0.false)

pub returns-then-joined-eq0 : goal.returns-then-joined-eq0
returns-then-joined-eq0 g c =
    let long = c.take_out.ensures.length ∙ ap length c.as_mut_slice.ensures.value in
    joined_zero base c.args.t c.args.ts.now.items _ c.args.i _ (rw c.deref.ensures.0 at c.plus-joined.ensures) c.if-joined-eq0.true
    (c.pop.ensures.rest
    ∙ left_out c.args.ts.now.items c.as_mut_slice.result.now c.take_out.new.ts _ c.args.i c.as_mut_slice.ensures.value
    (items-with_items c.args.ts.now c.take_out.new.ts long) c.take_out.ensures.length c.take_out.ensures.moved)
