-- `table::areas::Areas::set_by` is the variable that the model's action sets. Assumes nothing.
use native.Mathlib.Omega.{arith}
use Rattle.model.specs.Table.{code_area}
use Rattle.table.proofs.Decoding.{action_decoded}
use Rattle.table.proofs.Setting.{set_assign, set_read, set_nothing}
use Rattle.table.proofs.areas.Areas.set_by.Goals as goal

pub returns-in-0 : goal.returns-in-0
returns-in-0 c = set_assign (code_area c.args.self.now.image.now) _ _ (action_decoded _ _ c.args.self.now.actions_begin c.action-a.ensures) c.in-0.is

pub returns-in-1 : goal.returns-in-1
returns-in-1 c = set_read (code_area c.args.self.now.image.now) _ _ (action_decoded _ _ c.args.self.now.actions_begin c.action-a.ensures) c.in-1.is

pub returns-in_default : goal.returns-in_default
returns-in_default c =
    set_nothing (code_area c.args.self.now.image.now) _ _ (action_decoded _ _ c.args.self.now.actions_begin c.action-a.ensures) (λ e. omega arith) (λ e. omega arith)
