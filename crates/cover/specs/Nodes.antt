-- The walk of the tree of choices as the code does it: the paths that it consumes, and its answers. Assumes nothing.
use Rattle.std.specs.Prelude.{ℕ, ◌-◌, ◌≡◌, Bool, List, map, length, Option, Some, None}
use Rattle.model.specs.Answer.{up_to, word}
use Rattle.model.specs.Table.{edges_at}
use Rattle.model.specs.Correspondence.{paths_at, path_at}

-- The paths of a correspondence from one number up to another, by their choices in the first table.
unfoldable pub paths_in : List ℕ → ℕ → ℕ → List (List Bool)
paths_in list next end = map (λ p. p.first) (map (path_at list) (up_to next (end - next)))

-- The paths left over, as the code answers them: the number of the first of them.
unfoldable pub visited_of : ℕ → Option (List (List Bool)) → Option ℕ
visited_of end None = None
visited_of end (Some ps) = Some (end - length ps)

-- The header's offsets of the edges and of the paths are right; so they are where nothing is found in either image.
pub record Offset (table list : List ℕ) : Type 0 where
  pub edges : word table 5 ≡ edges_at table
  pub paths : word list 7 ≡ paths_at list
