-- Following choices through a table with symbols, on the sides of the code, step for step as `model` (Path: follow_action,
-- follow_actions, follow_edge, asked, follow) does on the paper's sums. Where a sum is too large, or a port is full, following is stuck with
-- the side that is held there. proofs/Paper says that both keep in step. Assumes nothing.
use Rattle.std.specs.Prelude.{ℕ, ◌+◌, ◌≤◌, ◌<◌, ◌≡◌, Bool, true, cond, List, [], ◌∷◌, map, Option, Some, None, Result, Ok, Err}
use Rattle.model.specs.Answer.{up_to}
use Rattle.model.specs.Word.{base}
use Rattle.model.specs.Expr.{Expr, read_at, is_parsed, tree_of}
use Rattle.model.specs.Table as Model
use Rattle.model.specs.Table.{assign, read, write, stop, step, test, Table}
use Rattle.model.specs.Run.{edge_on}
use Rattle.model.specs.Sum.{Outcome, too_large, fits}
use Rattle.model.specs.Path.{room_on}
use Rattle.word.specs.Kinds.{kind_as}
use Rattle.sum.specs.declared.Term.{Term}
use Rattle.sum.specs.declared.Sum.{Sum}
use Rattle.sum.specs.declared.TooLarge.{TooLarge}
use Rattle.sum.specs.Packed.{as_sum}
use Rattle.env.specs.declared.Env.{Env}
use Rattle.env.specs.Env.{sums_of}
use Rattle.expr.specs.Normals.{sum_of_k}
use Rattle.table.specs.declared.decoded.State.{State}
use Rattle.table.specs.declared.decoded.State.TheVariants.{Stop, Step, Test}
use Rattle.table.specs.declared.decoded.Action.{Action}
use Rattle.table.specs.declared.decoded.Action.TheVariants.{Assign, Read, Write}
use Rattle.table.specs.declared.EdgeRecord.{EdgeRecord}
use Rattle.table.specs.Checks.{edge_record, action_record}
use Rattle.table.specs.Decoded.{edge_taken, action_as, action_meant}
use Rattle.side.specs.declared.Side.{Side}
use Rattle.side.specs.Parts.{count_on, wrote_on, at_state, with_asked, with_sum_of, with_read, with_given}

-- What following comes to: done whole, or stuck, each with what is held there.
pub data Reached (A : Type 0) : Type 0 where
  whole : A → Reached A
  stuck : A → Reached A

-- What comes after a sum; where that is too large, following is stuck.
unfoldable pub after_sum : {A : Type 0} → Outcome (List Term) → A → (Sum → Reached A) → Reached A
after_sum too_large a k = stuck a
after_sum (fits l) a k = k (as_sum l)

-- What comes after a part, unless that is stuck.
unfoldable pub after : {A : Type 0} → Reached A → (A → Reached A) → Reached A
after (stuck a) k = stuck a
after (whole a) k = k a

-- The sum of an expression in an environment.
abbrev pub formed_on : Env → Expr → Outcome (List Term)
formed_on env e = sum_of_k base (sums_of env) e

-- One action, its expressions on the sums before the edge.
unfoldable pub action_k : Env → Model.Action → Side → Reached Side
action_k before (assign v e) d = after_sum (formed_on before e) d (λ s. whole (with_sum_of d v s))
action_k before (read p v) d = cond (room_on p (count_on d.reads p)) (whole (with_read d p v)) (stuck d)
action_k before (write p e) d =
    after_sum (formed_on before e) d (λ s. cond (room_on p (wrote_on d.writes p)) (whole (with_given d p s)) (stuck d))

-- Actions in listed order.
unfoldable pub actions_k : Env → List Model.Action → Side → Reached Side
actions_k before [] d = whole d
actions_k before (a ∷ rest) d = after (action_k before a d) (actions_k before rest)

-- The side with the condition that a test adds for the side taken; other states add none.
unfoldable pub asked_k : Model.State → Bool → Side → Reached Side
asked_k stop b d = whole d
asked_k (step e) b d = whole d
asked_k (test k l r e f) b d =
    after_sum (formed_on d.env l) d (λ s. after_sum (formed_on d.env r) d (λ t. whole (with_asked d (kind_as k) s t b)))

-- Following choices.
unfoldable pub follow_k : Table → List Bool → Side → Reached Side
follow_k t [] d = whole d
follow_k t (b ∷ bs) d =
    after
    (asked_k (t d.state) b d)
    (λ c. after
    (actions_k c.env (edge_on (t d.state) b).actions c)
    (λ g. follow_k t bs (at_state (edge_on (t d.state) b).target g)))

-- What an answer says of what is held.
unfoldable pub followed_as : {A : Type 0} → Result (Unit {0}) TooLarge → A → Reached A
followed_as (Ok u) a = whole a
followed_as (Err e) a = stuck a

-- What states and actions as the code decodes them say of these.

-- The condition that a state adds, its expressions read from the code words.
unfoldable pub asked_in : List ℕ → State → Bool → Side → Reached Side
asked_in code Stop b d = whole d
asked_in code (Step e) b d = whole d
asked_in code (Test k l r t f) b d =
    after_sum
    (formed_on d.env (tree_of (read_at code l)))
    d
    (λ s. after_sum (formed_on d.env (tree_of (read_at code r))) d (λ u. whole (with_asked d k s u b)))

-- The edge that a record holds, where the edges begin at a place; the empty edge where there is none.
unfoldable pub edge_of : List ℕ → ℕ → Option ℕ → EdgeRecord
edge_of image at None = record { target = 0; first = 0; count = 0 }
edge_of image at (Some e) = edge_record image at e

-- The edge of a state on a side; a stop has the empty edge.
unfoldable pub edge_by : List ℕ → ℕ → State → Bool → EdgeRecord
edge_by image at s b = edge_of image at (edge_taken s b)

-- The expressions of a state are whole.
unfoldable pub Formed : List ℕ → State → Type 0
Formed code Stop = Unit {0}
Formed code (Step e) = Unit {0}
Formed code (Test k l r t f) = (is_parsed (read_at code l) ≡ true) × (is_parsed (read_at code r) ≡ true)

-- The expression of an action is whole, where it has one.
unfoldable pub Parsed : List ℕ → Action → Type 0
Parsed code (Assign v e) = is_parsed (read_at code e) ≡ true
Parsed code (Read p v) = Unit {0}
Parsed code (Write p e) = is_parsed (read_at code e) ≡ true

-- n actions from number i on, where the actions begin at a place.
unfoldable pub actions_in : List ℕ → List ℕ → ℕ → ℕ → ℕ → List Model.Action
actions_in image code at i n = map (λ j. action_meant code (action_as (action_record image at j))) (up_to i n)

-- The expressions of n actions from number i on are whole.
abbrev pub AllParsed : List ℕ → List ℕ → ℕ → ℕ → ℕ → Type 0
AllParsed image code at i n = (j : ℕ) → i ≤ j → j < i + n → Parsed code (action_as (action_record image at j))
