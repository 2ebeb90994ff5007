-- The state and the action that a record's fields say, by its kind, as the code hands them over; and what they stand for in the model. 01, "The
-- table image". Assumes nothing.
use Rattle.std.specs.Prelude.{ℕ, zero, suc, Bool, cond, List, Option, Some, None}
use Rattle.model.specs.Expr.{tree_of, read_at}
use Rattle.model.specs.Table as Model
use Rattle.model.specs.Table.{code_area, edge_at, stop, step, test, assign, read, write}
use Rattle.word.specs.Kinds.{kind_of, kind_as}
use Rattle.table.specs.declared.StateRecord.{StateRecord}
use Rattle.table.specs.declared.ActionRecord.{ActionRecord}
use Rattle.table.specs.declared.decoded.State.{State}
use Rattle.table.specs.declared.decoded.State.TheVariants.{Stop, Step, Test}
use Rattle.table.specs.declared.decoded.Action.{Action}
use Rattle.table.specs.declared.decoded.Action.TheVariants.{Assign, Read, Write}

-- The state of a kind and the record's other fields.
unfoldable pub state_by : ℕ → StateRecord → State
state_by zero r = Stop
state_by (suc zero) r = Step r.on_true
state_by (suc (suc k)) r = Test (kind_as (Model.kind_of k)) r.left r.right r.on_true r.on_false

-- The state that a record holds.
unfoldable pub state_as : StateRecord → State
state_as r = state_by r.kind r

-- The edge by which a state is left on a side.
unfoldable pub edge_taken : State → Bool → Option ℕ
edge_taken Stop b = None
edge_taken (Step e) b = Some e
edge_taken (Test k l r t f) b = Some (cond b t f)

-- What a state stands for in an image.
unfoldable pub state_meant : List ℕ → State → Model.State
state_meant image Stop = stop
state_meant image (Step e) = step (edge_at image e)
state_meant image (Test k l r t f) =
    test (kind_of k) (tree_of (read_at (code_area image) l)) (tree_of (read_at (code_area image) r)) (edge_at image t) (edge_at image f)

-- The action of a kind and the record's other fields.
unfoldable pub action_by : ℕ → ActionRecord → Action
action_by zero r = Assign r.a r.b
action_by (suc zero) r = Read r.a r.b
action_by (suc (suc k)) r = Write r.a r.b

-- The action that a record holds.
unfoldable pub action_as : ActionRecord → Action
action_as r = action_by r.kind r

-- What an action stands for, its expression read from the code words.
unfoldable pub action_meant : List ℕ → Action → Model.Action
action_meant code (Assign v e) = assign v (tree_of (read_at code e))
action_meant code (Read p v) = read p v
action_meant code (Write p e) = write p (tree_of (read_at code e))
