-- The table image: its rules 1 to 5 in order, and the table that it holds.
-- 01, "The table image". An image is the list of its words. The decoding is total, so that a run is defined for every image;
-- what it says of an image that is refused is of no account. Assumes nothing.
use Rattle.std.specs.Prelude.{ℕ, zero, suc, ◌+◌, ◌*◌, Bool, true, false, cond, not, ◌&&◌, ◌||◌, List, [], ◌∷◌, map, eqb, length, take, drop}
use Rattle.model.specs.Answer.{Fault, sound, broken, ◌then◌, first_of, up_to, Rule, le, lt, is, so, check, word, wrong_table, wrong_state, wrong_action, wrong_edge, wrong_expression}
use Rattle.model.specs.Word.{Kind, equal, signed_less, unsigned_less}
use Rattle.model.specs.Expr.{Expr, read_at, is_parsed, tree_of}

-- An action: a variable set to an expression, a word read from a port into a variable, an expression written to a port.
pub data Action : Type 0 where
  assign : ℕ → Expr → Action
  read : ℕ → ℕ → Action
  write : ℕ → Expr → Action

-- An edge: the state it leads to, and its actions in order.
pub record Edge : Type 0 where
  pub target : ℕ
  pub actions : List Action

-- A state: a stop, a step with its only edge, or a test with its true and its false edge.
pub data State : Type 0 where
  stop : State
  step : Edge → State
  test : Kind → Expr → Expr → Edge → Edge → State

-- A table gives its state for a number. State 0 is reset.
abbrev pub Table : Type 0
Table = ℕ → State

-- The header's counts, and the offsets that they fix: "the areas follow it without gaps".

-- How many states the header counts.
unfoldable pub states : List ℕ → ℕ
states image = word image 2

-- How many edges.
unfoldable pub edges : List ℕ → ℕ
edges image = word image 4

-- How many actions.
unfoldable pub actions : List ℕ → ℕ
actions image = word image 6

-- How many code words.
unfoldable pub codes : List ℕ → ℕ
codes image = word image 8

-- Where the edges begin.
unfoldable pub edges_at : List ℕ → ℕ
edges_at image = 10 + 5 * states image

-- Where the actions begin.
unfoldable pub actions_at : List ℕ → ℕ
actions_at image = edges_at image + 3 * edges image

-- Where the code words begin.
unfoldable pub codes_at : List ℕ → ℕ
codes_at image = actions_at image + 3 * actions image

-- The code words.
unfoldable pub code_area : List ℕ → List ℕ
code_area image = take (codes image) (drop (codes_at image) image)

-- The header's rules.
unfoldable pub header_rules : List ℕ → List Rule
header_rules image =
    is (word image 0) 1 ∷ is (word image 1) (length image)
    ∷ le 1 (states image) ∷ le (states image) 64 ∷ is (word image 3) 10
    ∷ le (edges image) 128 ∷ is (word image 5) (edges_at image)
    ∷ le (actions image) 512 ∷ is (word image 7) (actions_at image)
    ∷ le (codes image) 2048 ∷ is (word image 9) (codes_at image)
    ∷ is (length image) (codes_at image + codes image) ∷ []

-- What is found at an expression start; the record of a 5 is the start as it stands.
unfoldable pub start_fault : List ℕ → ℕ → Fault
start_fault code start = cond (is_parsed (read_at code start)) sound (broken wrong_expression start)

-- States: kind, left, right, edge when true, edge when false.

-- Word k of state i.
unfoldable pub state_word : List ℕ → ℕ → ℕ → ℕ
state_word image i k = word image (10 + 5 * i + k)

-- The rules of a state's own fields, by its kind, where there are e edges.
unfoldable pub state_rules : ℕ → ℕ → ℕ → ℕ → ℕ → ℕ → List Rule
state_rules e zero l r t f = is l 0 ∷ is r 0 ∷ is t 0 ∷ is f 0 ∷ []
state_rules e (suc zero) l r t f = is l 0 ∷ is r 0 ∷ lt t e ∷ is f 0 ∷ []
state_rules e (suc (suc k)) l r t f = lt k 3 ∷ lt t e ∷ lt f e ∷ []

-- The expression starts of a state: a test's left, then its right.
unfoldable pub state_starts : ℕ → ℕ → ℕ → List ℕ
state_starts zero l r = []
state_starts (suc zero) l r = []
state_starts (suc (suc k)) l r = l ∷ r ∷ []

-- A record's own fields before its expressions.
unfoldable pub state_fault : List ℕ → ℕ → Fault
state_fault image i =
    let own = state_rules (edges image) (state_word image i 0) (state_word image i 1) (state_word image i 2) in
    check wrong_state i (own (state_word image i 3) (state_word image i 4))
    then first_of (start_fault (code_area image)) (state_starts (state_word image i 0) (state_word image i 1) (state_word image i 2))

-- Actions: 0, variable, expression start; 1, port, variable; 2, port, expression start.

-- Word k of action i.
unfoldable pub action_word : List ℕ → ℕ → ℕ → ℕ
action_word image i k = word image (actions_at image + 3 * i + k)

-- The rules of an action's own fields, by its kind.
unfoldable pub action_rules : ℕ → ℕ → ℕ → List Rule
action_rules zero a b = le a 15 ∷ []
action_rules (suc zero) a b = le a 3 ∷ le b 15 ∷ []
action_rules (suc (suc k)) a b = is k 0 ∷ le a 3 ∷ []

-- The expression starts of an action.
unfoldable pub action_starts : ℕ → ℕ → List ℕ
action_starts zero b = b ∷ []
action_starts (suc zero) b = []
action_starts (suc (suc k)) b = b ∷ []

-- An action's own fields, then its expression.
unfoldable pub action_fault : List ℕ → ℕ → Fault
action_fault image i =
    check wrong_action i (action_rules (action_word image i 0) (action_word image i 1) (action_word image i 2))
    then first_of (start_fault (code_area image)) (action_starts (action_word image i 0) (action_word image i 2))

-- The action that a record holds.
unfoldable pub action_of : List ℕ → ℕ → ℕ → ℕ → Action
action_of code zero a b = assign a (tree_of (read_at code b))
action_of code (suc zero) a b = read a b
action_of code (suc (suc k)) a b = write a (tree_of (read_at code b))

-- The action that a record holds, by its number.
unfoldable pub action_at : List ℕ → ℕ → Action
action_at image i = action_of (code_area image) (action_word image i 0) (action_word image i 1) (action_word image i 2)

-- Edges: target state, first action, action count.

-- Word k of edge i.
unfoldable pub edge_word : List ℕ → ℕ → ℕ → ℕ
edge_word image i k = word image (edges_at image + 3 * i + k)

-- The edge that a record holds.
unfoldable pub edge_at : List ℕ → ℕ → Edge
edge_at image i =
    record { target = edge_word image i 0; actions = map (action_at image) (up_to (edge_word image i 1) (edge_word image i 2)) }

-- The variables that actions set: "an assign and a read both set their variable".
unfoldable pub variables_set : List Action → List ℕ
variables_set [] = []
variables_set (assign v e ∷ rest) = v ∷ variables_set rest
variables_set (read p v ∷ rest) = v ∷ variables_set rest
variables_set (write p e ∷ rest) = variables_set rest

-- Whether a number stands in a list.
unfoldable pub member : ℕ → List ℕ → Bool
member x [] = false
member x (y ∷ ys) = eqb x y || member x ys

-- Whether no number stands twice in a list.
unfoldable pub distinct : List ℕ → Bool
distinct [] = true
distinct (x ∷ xs) = not (member x xs) && distinct xs

-- The rules of an edge; the variables are looked at where its range is right.
unfoldable pub edge_fault : List ℕ → ℕ → Fault
edge_fault image i =
    let once = check wrong_edge i (so (distinct (variables_set (edge_at image i).actions)) ∷ []) in
    check wrong_edge i
    (lt (edge_word image i 0) (states image)
    ∷ le (edge_word image i 2) 16
    ∷ le (edge_word image i 1 + edge_word image i 2) (actions image) ∷ [])
    then once

-- The first fault of an image, "in a table: header, states, actions, edges".
unfoldable pub table_fault : List ℕ → Fault
table_fault image =
    check wrong_table 0 (header_rules image)
    then first_of (state_fault image) (up_to 0 (states image))
    then first_of (action_fault image) (up_to 0 (actions image))
    then first_of (edge_fault image) (up_to 0 (edges image))

-- The kind of a test: 2 equal, 3 signed less, 4 unsigned less; here less 2.
unfoldable pub kind_of : ℕ → Kind
kind_of zero = equal
kind_of (suc zero) = signed_less
kind_of (suc (suc k)) = unsigned_less

-- The state that a record holds.
unfoldable pub state_of : List ℕ → ℕ → ℕ → ℕ → ℕ → ℕ → State
state_of image zero l r t f = stop
state_of image (suc zero) l r t f = step (edge_at image t)
state_of image (suc (suc k)) l r t f =
    test (kind_of k) (tree_of (read_at (code_area image) l)) (tree_of (read_at (code_area image) r)) (edge_at image t) (edge_at image f)

-- The table that an image holds.
unfoldable pub table_of : List ℕ → Table
table_of image i =
    state_of image (state_word image i 0) (state_word image i 1) (state_word image i 2) (state_word image i 3) (state_word image i 4)
