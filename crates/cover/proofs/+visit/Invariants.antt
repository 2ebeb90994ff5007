-- The measure of `cover::visit` is how many edges of a walk are left. Assumes nothing.
use Prim.Native.Nat.{◌-◌}
use Rattle.cover.proofs.+visit.Given as goal

abbrev pub decreases-visit : goal.decreases-visit
decreases-visit l = 32 - l.node.depth
