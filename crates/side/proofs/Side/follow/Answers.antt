-- `side::Side::follow` starts a side, on which nothing is asked then, and walks. Assumes nothing.
use Rattle.std.proofs.Common.{refl}
use Rattle.condition.specs.Conditions.{no_conditions}
use Rattle.side.specs.Parts.{start_as}
use Rattle.side.proofs.Side.follow.Goals as goal

pub walk-requires : goal.walk-requires
unfolding start_as no_conditions
walk-requires c = (c.requires.0, rw c.start.ensures (c.requires.1.0, (refl, c.requires.1.1)))
