-- `judge::judge_pairs` meets its contract. The loop's invariant is `Along`: what is found from this pair on is what is found from the first
-- on. Assumes nothing.
use mathlib.Core.Path.{◌∙◌}
use native.Mathlib.Omega.{arith}
use Rattle.std.proofs.lemmas.Result.{err_from_is_err_and}
use Rattle.fault.proofs.Along.{along_fine, along_broken, along_end}
use Rattle.judge.proofs.Pairs.{pair_count, along_pairs}
use Rattle.judge.proofs.judge_pairs.Goals as goal

pub invariant_of-pair : goal.invariant_of-pair
invariant_of-pair c = record { inside = pair_count _ _ c.word_at-n.ensures c.loop-i-test.true }

pub returns-in_err-judge_pair : goal.returns-in_err-judge_pair
returns-in_err-judge_pair c =
    let p = err_from_is_err_and c.from_residual.result c.from_residual.ensures.1 in
    rw (p.1, p.2) (along_broken _ _ _ c.loop-i.invariant c.loop-i-test.true c.judge_pair.ensures c.in_err-judge_pair.was ∙ along_pairs _ _ _
    c.word_at-n.ensures)

pub loop-i-preserved : goal.loop-i-preserved
loop-i-preserved c = along_fine _ _ _ c.loop-i.invariant c.loop-i-test.true c.judge_pair.ensures c.in_ok-judge_pair.was

pub returns : goal.returns
returns c = along_end _ _ _ c.loop-i.invariant (omega arith) ∙ along_pairs _ _ _ c.word_at-n.ensures
