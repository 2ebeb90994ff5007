-- `side::Side::walk` follows choices in turn. Assumes nothing.
use mathlib.Core.Path.{refl, ◌∙◌}
use Rattle.side.specs.Following.{followed_as}
use Rattle.side.specs.Parts.{at_state}
use Rattle.side.proofs.Forming.{err_stuck}
use Rattle.side.proofs.Following.{follow_start, follow_end, ask_fits, follow_asked, act_fits, follow_moved, follow_step}
use Rattle.side.proofs.Side.walk.Goals as goal

pub loop-k-init : goal.loop-k-init
loop-k-init c = follow_start _ c.requires.0 _ _ refl c.requires.1.0 c.requires.1.1.0 c.requires.1.1.1

pub ask-requires : goal.ask-requires
ask-requires c = ask_fits _ c.requires.0 _ _ _ _ _ c.loop-k.invariant c.loop-k-test.true c.state.ensures c.from-state.ensures c.code_area-code.ensures

pub returns-in_err-ask : goal.returns-in_err-ask
unfolding followed_as
returns-in_err-ask c =
    err_stuck _ c.from_residual.ensures.0
    ∙ follow_asked _ c.requires.0 _ _ _ _ _ c.loop-k.invariant c.loop-k-test.true c.state.ensures c.from-state.ensures c.code_area-code.ensures
    c.in_err-ask.ensures

pub act-requires : goal.act-requires
act-requires c =
    act_fits _ c.requires.0 _ _ _ _ _ c.loop-k.invariant c.loop-k-test.true c.state.ensures c.from-state.ensures c.code_area-code.ensures
    c.word_at-edges.ensures c.word_at-actions.ensures c.edge_on-edge.ensures

pub returns-in_err-act : goal.returns-in_err-act
unfolding followed_as
returns-in_err-act c =
    err_stuck _ c.from_residual-in_err-act.ensures.0
    ∙ follow_moved _ c.requires.0 _ _ _ _ _ c.loop-k.invariant c.loop-k-test.true c.state.ensures c.from-state.ensures c.code_area-code.ensures
    c.word_at-edges.ensures c.word_at-actions.ensures c.edge_on-edge.ensures c.in_ok-ask.ensures c.in_err-act.ensures

pub loop-k-preserved : goal.loop-k-preserved
unfolding followed_as at_state
loop-k-preserved c =
    follow_step _ c.requires.0 _ _ _ _ _ c.loop-k.invariant c.loop-k-test.true c.state.ensures c.from-state.ensures c.code_area-code.ensures
    c.word_at-edges.ensures c.word_at-actions.ensures c.edge_on-edge.ensures c.in_ok-ask.ensures c.in_ok-act.ensures

pub returns : goal.returns
unfolding followed_as
returns c =
    follow_end _ c.requires.0 _ _ _ _ _ c.loop-k.invariant c.loop-k-test.false
