-- `side::Side::act` does the actions of an edge in turn. Assumes nothing.
use mathlib.Core.Path.{◌∙◌}
use Rattle.side.specs.Following.{followed_as}
use Rattle.side.proofs.Forming.{err_stuck}
use Rattle.side.proofs.Moving.{move_start, move_step, move_stuck, move_end}
use Rattle.side.proofs.Side.act.Goals as goal

pub loop-i-init : goal.loop-i-init
loop-i-init c = move_start _ _ _ _ _ _

pub returns-in_err-perform : goal.returns-in_err-perform
unfolding followed_as
returns-in_err-perform c =
    err_stuck _ c.from_residual.ensures.0
    ∙ move_stuck _ _ _ _ _ _ _ _ c.loop-i.invariant c.loop-i-test.true c.action.ensures c.from.ensures c.in_err-perform.ensures

pub loop-i-preserved : goal.loop-i-preserved
unfolding followed_as
loop-i-preserved c = move_step _ _ _ _ _ _ _ _ c.loop-i.invariant c.loop-i-test.true c.action.ensures c.from.ensures c.in_ok-perform.ensures

pub returns : goal.returns
unfolding followed_as
returns c = move_end _ _ _ _ _ _ _ _ c.loop-i.invariant c.loop-i-test.false
