-- `side::Side::ask` adds the condition of a test. Assumes nothing.
use mathlib.Core.Path.{◌∙◌}
use Rattle.side.specs.Following.{followed_as}
use Rattle.side.proofs.Forming.{err_stuck, none_asked, test_formed, ask_left, ask_right, ask_pushed}
use Rattle.side.proofs.Side.ask.Goals as goal

pub returns-in_default : goal.returns-in_default
unfolding followed_as
returns-in_default c = none_asked _ _ _ _ c.in_default.not-Test

pub sum_at-requires : goal.sum_at-requires
sum_at-requires c = (test_formed _ c.in-Test.is c.requires.1).0

pub returns-in_err-first : goal.returns-in_err-first
returns-in_err-first c = err_stuck _ c.from_residual.ensures.0 ∙ ask_left _ c.in-Test.is _ _ c.sum_at.ensures c.in_err-first.was

pub sum_at-requires-2 : goal.sum_at-requires-2
sum_at-requires-2 c = (test_formed _ c.in-Test.is c.requires.1).1

pub returns-in_err-second : goal.returns-in_err-second
returns-in_err-second c =
    err_stuck _ c.from_residual-in_err-second.ensures.0
    ∙ ask_right _ c.in-Test.is _ _ c.sum_at.ensures c.in_ok-first.was c.sum_at-2.ensures c.in_err-second.was

pub returns : goal.returns
unfolding followed_as
returns c = ask_pushed _ c.in-Test.is _ _ c.sum_at.ensures c.in_ok-first.was c.sum_at-2.ensures c.in_ok-second.was c.requires.0 c.push.ensures
