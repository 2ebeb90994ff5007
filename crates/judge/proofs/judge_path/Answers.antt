-- `judge::judge_path` meets its contract. Assumes nothing.
use mathlib.Core.Path.{refl}
use borrow.Author.Tests.{eq-eqb, ne_eqb}
use Rattle.judge.proofs.Decoded.{path_mark}
use Rattle.judge.proofs.judge_path.Goals as goal

pub judge_marked-requires : goal.judge_marked-requires
judge_marked-requires c =
    path_mark c.args.path.now.pair refl _ c.args.path.now.among c.word_at.ensures c.path-record.ensures (eq-eqb _ _ c.if-record-eq1.true)

pub judge_unmarked-requires : goal.judge_unmarked-requires
judge_unmarked-requires c =
    path_mark c.args.path.now.pair refl _ c.args.path.now.among c.word_at.ensures c.path-record.ensures (ne_eqb _ _ c.if-record-eq1.false)
