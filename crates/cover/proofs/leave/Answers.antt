-- `cover::leave` is where a choice leads from a state. Assumes nothing.
use mathlib.Core.Path.{sym, ap, ◌∙◌}
use Rattle.std.proofs.Common.{Some}
use Rattle.cover.proofs.Reaching.{leaves_stop, leaves_barred, leaves_step, leaves_true, leaves_false}
use Rattle.cover.proofs.Stepping.{edge_target}
use Rattle.cover.proofs.leave.Goals as goal
use Rattle.cover.proofs.leave.Goals.{in-Step-2, in-Test, in-Test-2}

pub returns-in-Stop : goal.returns-in-Stop
returns-in-Stop c = leaves_stop _ _ _ c.state.ensures c.in-Stop.ensures

pub returns-in-Step : goal.returns-in-Step
returns-in-Step c = leaves_barred _ _ _ c.state.ensures c.in-Step.ensures c.if-taken.true

pub returns : goal.returns
returns c =
    ap Some (sym (edge_target _ _ c.requires c.edge.ensures))
    ∙ (elim c.match-from.branch [
      | in-Step-2 w ↦ leaves_step _ _ _ c.state.ensures w.in-Step.ensures w.if-taken.false w.edge-is
      | in-Test w ↦ leaves_true _ _ _ c.state.ensures w.in-Test.ensures w.if-taken-2.true w.edge-is
      | in-Test-2 w ↦ leaves_false _ _ _ c.state.ensures w.in-Test.ensures w.if-taken-2.false w.edge-is
    ])
