-- What the answers of this crate stand for: what the model finds in the records of an area, and the fields of records, as the code
-- hands them over. Assumes nothing.
use Rattle.std.specs.Prelude.{ℕ, ◌+◌, ◌*◌, List, [], ◌∷◌, Option, Some, None}
use Rattle.model.specs.Answer.{Rule, le, lt, word}
use Rattle.model.specs.Table.{Action, assign, read, write, state_word}
use Rattle.table.specs.declared.StateRecord.{StateRecord}
use Rattle.table.specs.declared.EdgeRecord.{EdgeRecord}
use Rattle.table.specs.declared.ActionRecord.{ActionRecord}

-- The rules of an edge's own fields, where there are so many states and actions.
unfoldable pub edge_rules : ℕ → ℕ → ℕ → ℕ → ℕ → List Rule
edge_rules s a t f n = lt t s ∷ le n 16 ∷ le (f + n) a ∷ []

-- The variable that an action sets, if it sets one.
unfoldable pub set_of : Action → Option ℕ
set_of (assign v e) = Some v
set_of (read p v) = Some v
set_of (write p e) = None

-- The fields of state i.
unfoldable pub state_record : List ℕ → ℕ → StateRecord
state_record image i =
    record {
      kind = state_word image i 0;
      left = state_word image i 1;
      right = state_word image i 2;
      on_true = state_word image i 3;
      on_false = state_word image i 4;
    }

-- The fields of edge i, where the edges begin at a place.
unfoldable pub edge_record : List ℕ → ℕ → ℕ → EdgeRecord
edge_record image at i =
    record { target = word image (at + 3 * i); first = word image (at + 3 * i + 1); count = word image (at + 3 * i + 2) }

-- The fields of action i, where the actions begin at a place.
unfoldable pub action_record : List ℕ → ℕ → ℕ → ActionRecord
action_record image at i =
    record { kind = word image (at + 3 * i); a = word image (at + 3 * i + 1); b = word image (at + 3 * i + 2) }
