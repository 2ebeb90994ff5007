-- `judge::judge_paths` meets its contract. The loop's invariant is `Along`: what is found from this path on is what is found from the
-- first on. Assumes nothing.
use Prim.Native.Nat.{◌+◌}
use Rattle.model.specs.Word.{base}
use Rattle.model.specs.Table.{table_of}
use Rattle.model.specs.Correspondence.{path_at, pair_at}
use Rattle.model.specs.Judgement.{judge_path}
use Rattle.fault.proofs.Along.{Along}
use Rattle.judge.proofs.judge_paths.Given as goal

abbrev pub invariant-loop-k : goal.invariant-loop-k
invariant-loop-k l =
    let images = l.pair.images in
    let list = images.list.now in
    Along
    (λ x. judge_path base (table_of images.first.now) (table_of images.second.now) (pair_at list) (pair_at list l.pair.i) (path_at list (l.begin + x)))
    l.n
    l.k
