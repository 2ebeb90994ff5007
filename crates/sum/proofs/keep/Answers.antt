-- `sum::keep` puts a term before a place, unless its coefficient is zero. Assumes nothing.
use Rattle.std.proofs.Common.{◌∙◌, ap, length}
use Rattle.arrayvec.proofs.ArrayVecLemmas.{items-with_items}
use Rattle.sum.proofs.Insertion.{put_in}
use Rattle.sum.proofs.keep.Goals as goal

pub returns-then-t-ne0 : goal.returns-then-t-ne0
returns-then-t-ne0 g c =
    items-with_items c.push.new.self c.put_before.new.ts (c.put_before.auto.ts ∙ ap length c.as_mut_slice.ensures.value)
    ∙ put_in c.args.ts.now.items c.as_mut_slice.result.now _ c.args.t c.args.i c.requires.within (c.as_mut_slice.ensures.value ∙ c.push.ensures.items) c.if-t-ne0.true c.put_before.ensures
