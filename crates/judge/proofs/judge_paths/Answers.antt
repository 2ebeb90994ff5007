-- `judge::judge_paths` meets its contract. The loop's invariant is `Along`: what is found from this path on is what is found from the
-- first on. Assumes nothing.
use mathlib.Core.Path.{◌∙◌, ap}
use native.Mathlib.Omega.{arith}
use Rattle.std.proofs.lemmas.Result.{err_from_is_err_and}
use Rattle.fault.specs.Fault.{checked_of}
use Rattle.fault.proofs.Along.{along_fine, along_broken, along_end}
use Rattle.judge.proofs.Pairs.{paths_along, path_among, path_walked, link_room, linked_is}
use Rattle.judge.proofs.judge_paths.Goals as goal

pub partners-symbols-requires : goal.partners-symbols-requires
partners-symbols-requires c = link_room c.args.pair.now c.pair-record.ensures c.word_at.ensures

pub overflow_add-path : goal.overflow_add-path
overflow_add-path c = omega (arith, (path_among c.args.pair.now c.pair-record.ensures _ c.loop-k-test.true).1)

pub invariant_of-path : goal.invariant_of-path
invariant_of-path c =
    record {
      partner_symbols = linked_is c.args.pair.now c.pair-record.ensures c.partners-symbols.ensures c.symbols-linked.ensures;
      among = (path_among c.args.pair.now c.pair-record.ensures _ c.loop-k-test.true).0;
      walked = path_walked c.args.pair.now c.pair-record.ensures c.requires _ c.loop-k-test.true;
    }

pub returns-in_err-judge_path : goal.returns-in_err-judge_path
returns-in_err-judge_path c =
    let p = err_from_is_err_and c.from_residual.result c.from_residual.ensures.1 in
    rw (p.1, p.2) (along_broken _ _ _ c.loop-k.invariant c.loop-k-test.true c.judge_path.ensures c.in_err-judge_path.was ∙ ap checked_of
    (paths_along c.args.pair.now c.pair-record.ensures))

pub loop-k-preserved : goal.loop-k-preserved
loop-k-preserved c = along_fine _ _ _ c.loop-k.invariant c.loop-k-test.true c.judge_path.ensures c.in_ok-judge_path.was

pub returns : goal.returns
returns c = along_end _ _ _ c.loop-k.invariant (omega arith) ∙ ap checked_of (paths_along c.args.pair.now c.pair-record.ensures)
