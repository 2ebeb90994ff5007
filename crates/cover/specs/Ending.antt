-- Where choices lead from a state, as the code answers it. 01: "A path is walkable if its choices lead from the pair's state edge by
-- edge, with bit 0 at each step state and no stop before its end." Assumes nothing.
use Rattle.std.specs.Prelude.{ℕ, Bool, true, false, Option, Some, None}

-- The end of choices where they can be walked; none where some state on the way cannot be left so.
unfoldable pub reached_of : Bool → ℕ → Option ℕ
reached_of false s = None
reached_of true s = Some s
