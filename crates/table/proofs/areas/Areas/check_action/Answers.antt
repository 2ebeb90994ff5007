-- `table::areas::Areas::check_action` is the model's finding of an action. Assumes nothing.
use mathlib.Core.Path.{ap}
use Rattle.table.proofs.Records.{starts_in, has_start, action_found, action_refused, action_plain, action_value}
use Rattle.table.proofs.areas.Areas.check_action.Goals as goal

pub returns-then-not-action_fits : goal.returns-then-not-action_fits
returns-then-not-action_fits c =
    let found = action_found _ _ c.args.self.now.codes c.args.self.now.actions_begin c.action-a.ensures in
    action_refused _ _ _ c.action_fits.ensures found c.if-not-action_fits.true

pub returns-in-Read : goal.returns-in-Read
returns-in-Read c =
    let found = action_found _ _ c.args.self.now.codes c.args.self.now.actions_begin c.action-a.ensures in
    action_plain _ _ _ c.action_fits.ensures found c.from.ensures c.if-not-action_fits.false (ap starts_in c.in-Read.is)

pub returns-in-Assign : goal.returns-in-Assign
returns-in-Assign c =
    let found = action_found _ _ c.args.self.now.codes c.args.self.now.actions_begin c.action-a.ensures in
    action_value _ _ _ c.action_fits.ensures found c.from.ensures c.if-not-action_fits.false (has_start c.in-Assign.is) c.check_start.ensures
