-- `judge::judge_pairs` meets its contract. The loop's invariant is `Along`: what is found from this pair on is what is found from the first
-- on. Assumes nothing.
use Rattle.model.specs.Word.{base}
use Rattle.model.specs.Table.{table_of}
use Rattle.model.specs.Correspondence.{pair_at}
use Rattle.model.specs.Judgement.{judge_pair}
use Rattle.fault.proofs.Along.{Along}
use Rattle.judge.proofs.judge_pairs.Given as goal

abbrev pub invariant-loop-i : goal.invariant-loop-i
invariant-loop-i l = Along (judge_pair base (table_of l.images.first.now) (table_of l.images.second.now) (pair_at l.images.list.now)) l.n l.i
