-- `judge::judge` meets its contract. Assumes nothing.
use Rattle.std.proofs.Common.{◌∙◌, rules}
use Rattle.judge.proofs.Verdicts.{verdict_first, verdict_second, verdict_list, three_sound, verdict_broken, verdict_accepted}
use Rattle.judge.proofs.Pairs.{own_is}
use Rattle.judge.proofs.judge.Goals as goal

pub returns-in-Err : goal.returns-in-Err
returns-in-Err c = c.refused.ensures ∙ verdict_first _ _ _ c.check.ensures c.in-Err.is

pub returns-in-Err-check : goal.returns-in-Err-check
returns-in-Err-check c = c.refused-in-Err-check.ensures ∙ verdict_second _ _ _ c.check.ensures c.in_default.is c.check-2.ensures c.in-Err-check.is

pub returns-in-Err-check-2 : goal.returns-in-Err-check-2
returns-in-Err-check-2 c =
    c.refused-in-Err-check-2.ensures ∙ verdict_list _ _ _ c.check.ensures c.in_default.is c.check-2.ensures c.in_default-check.is
    c.word_at.ensures c.word_at-2.ensures c.check-3.ensures c.in-Err-check-2.is

pub invariant_of-images : goal.invariant_of-images
invariant_of-images c =
    record {
      checks = three_sound _ _ _ c.check.ensures c.in_default.is c.check-2.ensures c.in_default-check.is c.word_at.ensures
          c.word_at-2.ensures c.check-3.ensures c.in_default-check-2.is;
      own_symbols = own_is c.own_symbols.ensures c.symbols-own.ensures;
    }

pub returns-in-Err-judge_pairs : goal.returns-in-Err-judge_pairs
returns-in-Err-judge_pairs c =
    search rules ∙ verdict_broken _ _ _ c.check.ensures c.in_default.is c.check-2.ensures c.in_default-check.is c.word_at.ensures
    c.word_at-2.ensures c.check-3.ensures c.in_default-check-2.is c.judge_pairs.ensures c.in-Err-judge_pairs.is

pub returns-in-Ok : goal.returns-in-Ok
returns-in-Ok c =
    c.said.ensures ∙ verdict_accepted _ _ _ c.check.ensures c.in_default.is c.check-2.ensures c.in_default-check.is c.word_at.ensures
    c.word_at-2.ensures c.check-3.ensures c.in_default-check-2.is c.judge_pairs.ensures c.in-Ok.is
