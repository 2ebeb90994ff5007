-- `cover::reach` is where a path leads: what is left to walk leads where the whole path does. Assumes nothing.
use mathlib.Core.Path.{◌∙◌}
use Rattle.cover.proofs.Reaching.{reaching_start, reaching_stuck, reaching_step, reaching_end}
use Rattle.cover.proofs.reach.Goals as goal

pub loop-init : goal.loop-init
loop-init c = reaching_start _ _ _ _

pub returns-in_err-here : goal.returns-in_err-here
returns-in_err-here c = c.from_residual.ensures ∙ reaching_stuck _ _ _ _ _ _ _ c.loop.invariant c.loop-test.true c.leave.ensures c.in_err-here.was

pub loop-preserved : goal.loop-preserved
loop-preserved c = reaching_step _ _ _ _ _ _ _ c.loop.invariant c.loop-test.true c.leave.ensures c.in_ok-here.was

pub returns : goal.returns
returns c = reaching_end _ _ _ _ _ _ _ c.loop.invariant c.loop-test.false
