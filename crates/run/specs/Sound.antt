-- What the records of a table in which nothing is found keep to, as its states, edges and actions are handed over; and the edge by which a
-- state is left. 01, "The table image". Assumes nothing.
use Rattle.std.specs.Prelude.{ℕ, ◌≡◌, ◌+◌, ◌≤◌, ◌<◌, Bool, true, false, List, ⊤}
use Rattle.model.specs.Word.{base, holds}
use Rattle.model.specs.Expr.{value, read_at, is_parsed, tree_of}
use Rattle.model.specs.Table.{states, actions, table_of}
use Rattle.model.specs.Run.{is_stop, side_at, edge_on}
use Rattle.word.specs.Kinds.{kind_of}
use Rattle.table.specs.declared.EdgeRecord.{EdgeRecord}
use Rattle.table.specs.declared.decoded.State.{State}
use Rattle.table.specs.declared.decoded.State.TheVariants.{Stop, Step, Test}
use Rattle.table.specs.declared.decoded.Action.{Action}
use Rattle.table.specs.declared.decoded.Action.TheVariants.{Assign, Read, Write}
use Rattle.run.specs.Held.{edge_of}

-- That an expression is read at a start of the code area.
abbrev pub IsRead : List ℕ → ℕ → Type 0
IsRead code start = is_parsed (read_at code start) ≡ true

-- A state's edges are among so many, and a test's expressions are read.
unfoldable pub StateFits : ℕ → List ℕ → State → Type 0
StateFits n code Stop = ⊤
StateFits n code (Step e) = e < n
StateFits n code (Test k l r t f) = (t < n) × (f < n) × IsRead code l × IsRead code r

-- An action's variable is below 16 and its port below 4, and its expression is read.
unfoldable pub ActionFits : List ℕ → Action → Type 0
ActionFits code (Assign v e) = (v < 16) × IsRead code e
ActionFits code (Read p v) = (p < 4) × (v < 16)
ActionFits code (Write p e) = (p < 4) × IsRead code e

-- An edge's target is a state, and its actions, at most 16, are among the table's.
pub record EdgeFits (image : List ℕ) (e : EdgeRecord) : Type 0 where
  pub target : e.target < states image
  pub count : e.count ≤ 16
  pub range : e.first + e.count ≤ actions image

-- Whether the test of a state is true at the variables; what is no test counts as false.
unfoldable pub test_of : List ℕ → List ℕ → State → Bool
test_of code vs Stop = false
test_of code vs (Step e) = false
test_of code vs (Test k l r t f) = holds base (kind_of k) (value base vs (tree_of (read_at code l))) (value base vs (tree_of (read_at code r)))

-- The edge by which state s is left at the variables.
pub record Leaves (image : List ℕ) (s : ℕ) (vs : List ℕ) (e : EdgeRecord) : Type 0 where
  pub goes : is_stop (table_of image s) ≡ false
  pub edge : edge_on (table_of image s) (side_at base vs (table_of image s)) ≡ edge_of image e
  pub fits : EdgeFits image e
