-- `table::words_at` is words of the model, one after another. Assumes nothing.
use Rattle.std.proofs.Common.{◌∙◌}
use native.Mathlib.Omega.{arith}
use Rattle.std.proofs.lemmas.List.{length-replicate}
use Rattle.std.proofs.lemmas.List.FromFn.{fill_by_all}
use Rattle.table.proofs.Words.{words_copied, words_more}
use Rattle.table.proofs.words_at.Goals as goal

pub returns-then-end-image : goal.returns-then-end-image
returns-then-end-image g c = c.copy_from_slice.ensures.after ∙ words_copied c.args.image.now c.args.at g.row.N c.if-end-image.true

pub loop-k-init : goal.loop-k-init
loop-k-init g c = (length-replicate _ _, λ i h. absurd (omega arith))

pub loop-k-preserved : goal.loop-k-preserved
loop-k-preserved g c = words_more c.args.image.now c.args.at c.loop-k.words c.loop-k.k c.loop-k.invariant c.loop-k-test.true c.word_at.ensures

pub returns : goal.returns
returns g c = fill_by_all _ _ _ 0 c.loop-k.invariant.0 (λ k h. c.loop-k.invariant.1 k (omega (arith, c.loop-k-test.false)))
