-- `table::areas::Areas::check_state` is the model's finding of a state. Assumes nothing.
use Rattle.std.proofs.lemmas.Result.{err_from_is_err_and}
use Rattle.table.proofs.Records.{state_found, state_refused, state_plain, state_left, state_right}
use Rattle.table.proofs.areas.Areas.check_state.Goals as goal

pub returns-then-not-state_fits : goal.returns-then-not-state_fits
returns-then-not-state_fits c =
    let found = state_found _ _ c.args.self.now.codes c.word_at-edges.ensures c.state-s.ensures in
    state_refused _ _ _ _ c.state_fits.ensures found c.if-not-state_fits.true

pub returns-in_default : goal.returns-in_default
returns-in_default c =
    let found = state_found _ _ c.args.self.now.codes c.word_at-edges.ensures c.state-s.ensures in
    state_plain _ _ _ _ c.state_fits.ensures found c.from.ensures c.if-not-state_fits.false c.in_default.not-Test

pub returns-in_err-check_start : goal.returns-in_err-check_start
returns-in_err-check_start c =
    let found = state_found _ _ c.args.self.now.codes c.word_at-edges.ensures c.state-s.ensures in
    let p = err_from_is_err_and c.from_residual.result c.from_residual.ensures.1 in
    let tests = state_left _ _ _ _ c.state_fits.ensures found c.from.ensures c.if-not-state_fits.false c.in-Test.is in
    rw (p.1, p.2) (tests c.check_start.ensures c.in_err-check_start.was)

pub returns : goal.returns
returns c =
    let found = state_found _ _ c.args.self.now.codes c.word_at-edges.ensures c.state-s.ensures in
    let tests = state_right _ _ _ _ c.state_fits.ensures found c.from.ensures c.if-not-state_fits.false c.in-Test.is in
    tests c.check_start.ensures c.in_ok-check_start.was c.check_start-2.ensures
