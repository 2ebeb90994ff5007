-- `cover::covers` is the model's test of rule 11. Assumes nothing.
use mathlib.Core.Path.{◌∙◌}
use Rattle.cover.proofs.Ruling.{stop_ruled, walk_ruled}
use Rattle.cover.proofs.covers.Goals as goal

pub returns-in-Stop : goal.returns-in-Stop
returns-in-Stop c = stop_ruled _ _ _ _ _ c.state.ensures c.in-Stop.ensures

pub returns : goal.returns
returns c = c.eq.ensures ∙ walk_ruled _ _ _ _ _ c.state.ensures c.from.ensures c.in_default.not-Stop c.visit.ensures
