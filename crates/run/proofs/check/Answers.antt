-- `run::check` is the model's finding of a table and its input. Assumes nothing.
use Rattle.std.proofs.lemmas.Result.{err_from_is_err_and}
use Rattle.run.proofs.Answering.{found_table, found_none, found_input}
use Rattle.run.proofs.check.Goals as goal

pub returns-in_err-check : goal.returns-in_err-check
returns-in_err-check c =
    let p = err_from_is_err_and c.from_residual.result c.from_residual.ensures.1 in
    rw (p.1, p.2) (found_table _ _ c.check.ensures c.in_err-check.was)

pub returns-then-is_input : goal.returns-then-is_input
returns-then-is_input c = found_none _ _ c.check.ensures c.in_ok-check.was c.is_input.ensures c.if-is_input.true

pub returns : goal.returns
returns c = found_input _ _ c.check.ensures c.in_ok-check.was c.is_input.ensures c.if-is_input.false
