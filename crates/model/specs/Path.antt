-- Paths of a table: choices, walking by choices, all walks and what it means that paths cover them, and following a path with
-- symbols. 01: "A path is walkable if its choices lead from the pair's state edge by edge, with bit 0 at each step state and no
-- stop before its end." Assumes nothing.
use Rattle.std.specs.Prelude.{ℕ, zero, suc, ◌+◌, ◌*◌, ◌/◌, ◌%◌, ◌≡◌, ◌⊎◌, Bool, true, false, cond, not, ◌&&◌, ltb, eqb, length, set}
use Rattle.std.specs.Bool.{beq}
use mathlib.Core.List.{List, [], ◌∷◌, ◌++◌, map, tail, Memᴰ}
use Rattle.model.specs.Word.{Kind}
use Rattle.model.specs.Table.{Action, assign, read, write, Edge, State, stop, step, test, Table}
use Rattle.model.specs.Run.{Event, took, gave, reads, writes, tick, is_stop, edge_on}
use Rattle.model.specs.Sum.{Sum, symbol_sum, Outcome, too_large, fits, and_then, sum_of}

-- The n choices of a word: bit k, from the lowest, is the choice at the k-th state.
unfoldable pub choices : ℕ → ℕ → List Bool
choices zero x = []
choices (suc n) x = eqb (x % 2) 1 ∷ choices n (x / 2)

-- Whether a state can be left on a side: a stop on none, a step by bit 0, a test on both.
unfoldable pub allows : State → Bool → Bool
allows stop b = false
allows (step e) b = not b
allows (test k l r e f) b = true

-- Whether choices can be walked from a state.
unfoldable pub walkable : Table → ℕ → List Bool → Bool
walkable t s [] = true
walkable t s (b ∷ bs) = allows (t s) b && walkable t (edge_on (t s) b).target bs

-- The state in which choices end.
unfoldable pub end_state : Table → ℕ → List Bool → ℕ
end_state t s [] = s
end_state t s (b ∷ bs) = end_state t (edge_on (t s) b).target bs

-- All walks from a state of n edges, or shorter into a stop.
unfoldable pub walks_of : State → (ℕ → List (List Bool)) → List (List Bool)
walks_of stop on = [] ∷ []
walks_of (step e) on = map (λ walk. false ∷ walk) (on e.target)
walks_of (test k l r e f) on = map (λ walk. true ∷ walk) (on e.target) ++ map (λ walk. false ∷ walk) (on f.target)

-- All walks from state s of n edges, or shorter into a stop.
unfoldable pub walks : Table → ℕ → ℕ → List (List Bool)
walks t zero s = [] ∷ []
walks t (suc n) s = walks_of (t s) (walks t n)

-- A walk begins with a path, compared by choices.
unfoldable pub begins : List Bool → List Bool → Bool
begins [] walk = true
begins (b ∷ path) [] = false
begins (b ∷ path) (c ∷ walk) = beq b c && begins path walk

-- How many of the paths a walk begins with.
unfoldable pub beginnings : List Bool → List (List Bool) → ℕ
beginnings walk [] = 0
beginnings walk (p ∷ ps) = tick (begins p walk) (beginnings walk ps)

-- Where two paths first differ, the first of them has the true choice.
unfoldable pub true_first : List Bool → List Bool → Bool
true_first [] q = true
true_first (b ∷ p) [] = true
true_first (true ∷ p) (true ∷ q) = true_first p q
true_first (true ∷ p) (false ∷ q) = true
true_first (false ∷ p) (true ∷ q) = false
true_first (false ∷ p) (false ∷ q) = true_first p q

-- Each path of a list against all later ones.
unfoldable pub TrueEarlier : List (List Bool) → Type 0
TrueEarlier [] = Unit {0}
TrueEarlier (p ∷ ps) = ((q : List Bool) → Memᴰ q ps → true_first p q ≡ true) × TrueEarlier ps

-- Rule 11 in 01's words: "the pair's paths are walkable in the first table; where two first differ, the true one is listed
-- earlier; and every walk of 32 edges, or shorter into a stop, begins with exactly one of them, compared by choices" (n is 32).
pub record Covered (t : Table) (n s : ℕ) (paths : List (List Bool)) : Type 0 where
  pub walked : (p : List Bool) → Memᴰ p paths → walkable t s p ≡ true
  pub ordered : TrueEarlier paths
  pub once : (walk : List Bool) → Memᴰ walk (walks t n s) → beginnings walk paths ≡ 1

-- "A pair of two stops must have no path, and is then covered."
unfoldable pub Rule11 : Table → ℕ → ℕ → List (List Bool) → Type 0
Rule11 t n s paths = ((is_stop (t s) ≡ true) × (paths ≡ [])) ⊎ ((is_stop (t s) ≡ false) × Covered t n s paths)

-- The quicker test of rule 11: down the tree of choices, the paths in their order are shared out between the true and the
-- false side, until exactly one path is left and ends there.

-- Whether a list is empty.
unfoldable pub is_none : {A : Type 0} → List A → Bool
is_none [] = true
is_none (a ∷ l) = false

-- The paths at the front that go on by true, less that choice.
unfoldable pub true_side : List (List Bool) → List (List Bool)
true_side [] = []
true_side ([] ∷ ps) = []
true_side ((true ∷ p) ∷ ps) = p ∷ true_side ps
true_side ((false ∷ p) ∷ ps) = []

-- The paths behind them.
unfoldable pub behind : List (List Bool) → List (List Bool)
behind [] = []
behind ([] ∷ ps) = [] ∷ ps
behind ((true ∷ p) ∷ ps) = behind ps
behind ((false ∷ p) ∷ ps) = (false ∷ p) ∷ ps

-- Whether all paths go on by false.
unfoldable pub all_false : List (List Bool) → Bool
all_false [] = true
all_false ([] ∷ ps) = false
all_false ((true ∷ p) ∷ ps) = false
all_false ((false ∷ p) ∷ ps) = all_false ps

-- The test below a state, by what its edges lead to.
unfoldable pub covers_of : State → (ℕ → List (List Bool) → Bool) → List (List Bool) → Bool
covers_of stop on ps = false
covers_of (step e) on ps = all_false ps && on e.target (map tail ps)
covers_of (test k l r e f) on ps =
    on e.target (true_side ps) && (all_false (behind ps) && on f.target (map tail (behind ps)))

-- The test at state s with n edges left.
unfoldable pub covers : Table → ℕ → ℕ → List (List Bool) → Bool
covers t zero s [] = false
covers t zero s ([] ∷ ps) = is_none ps
covers t zero s ((b ∷ p) ∷ ps) = false
covers t (suc n) s [] = false
covers t (suc n) s ([] ∷ ps) = is_none ps
covers t (suc n) s ((b ∷ p) ∷ ps) = covers_of (t s) (covers t n) ((b ∷ p) ∷ ps)

-- Rule 11 as the verdict computes it.
unfoldable pub rule11 : Table → ℕ → ℕ → List (List Bool) → Bool
rule11 t n s paths = cond (is_stop (t s)) (is_none paths) (covers t n s paths)

-- "A condition is a kind, two normal sums as written, and the side taken."
pub record Condition : Type 0 where
  pub kind : Kind
  pub left : Sum
  pub right : Sum
  pub taken : Bool

-- One side of a path, followed with symbols: the state reached, a sum for each variable, the conditions, and the reads and writes
-- in order.
pub record Side : Type 0 where
  pub state : ℕ
  pub environment : List Sum
  pub conditions : List Condition
  pub events : List (Event Sum)

-- A side from its parts.
unfoldable pub side : ℕ → List Sum → List Condition → List (Event Sum) → Side
side s env cs events = record { state = s; environment = env; conditions = cs; events = events }

-- The symbol of read k (from 0) on port p of a path.
unfoldable pub read_symbol : ℕ → ℕ → ℕ
read_symbol p k = 32 + 16 * p + k

-- Whether port p, of the four, has had fewer than 16 of something.
unfoldable pub room_on : ℕ → ℕ → Bool
room_on p n = ltb p 4 && ltb n 16

-- One action with symbols, its expressions on the sums before the edge.
unfoldable pub follow_action : ℕ → List Sum → Action → Side → Outcome Side
follow_action w before (assign v e) d =
    and_then (sum_of w before e) (λ s. fits (side d.state (set d.environment v s) d.conditions d.events))
follow_action w before (read p v) d =
    let x = symbol_sum (read_symbol p (reads p d.events)) in
    let d' = side d.state (set d.environment v x) d.conditions (d.events ++ (took p ∷ [])) in
    cond (room_on p (reads p d.events)) (fits d') too_large
follow_action w before (write p e) d =
    let room = room_on p (length (writes p d.events)) in
    and_then
    (sum_of w before e)
    (λ s. cond room (fits (side d.state d.environment d.conditions (d.events ++ (gave p s ∷ [])))) too_large)

-- Actions with symbols, in listed order.
unfoldable pub follow_actions : ℕ → List Sum → List Action → Side → Outcome Side
follow_actions w before [] d = fits d
follow_actions w before (a ∷ rest) d = and_then (follow_action w before a d) (follow_actions w before rest)

-- An edge with symbols: its actions, then its target.
unfoldable pub follow_edge : ℕ → Edge → Side → Outcome Side
follow_edge w e d =
    and_then
    (follow_actions w d.environment e.actions d)
    (λ d'. fits (side e.target d'.environment d'.conditions d'.events))

-- The condition that a test adds for the side taken; other states add none.
unfoldable pub asked : ℕ → State → Bool → Side → Outcome (List Condition)
asked w stop b d = fits []
asked w (step e) b d = fits []
asked w (test k l r e f) b d =
    and_then
    (sum_of w d.environment l)
    (λ s. and_then (sum_of w d.environment r) (λ s'. fits (record { kind = k; left = s; right = s'; taken = b } ∷ [])))

-- Following choices: "a path's tests are those of the states its edges leave".
unfoldable pub follow : ℕ → Table → List Bool → Side → Outcome Side
follow w t [] d = fits d
follow w t (b ∷ bs) d =
    and_then
    (asked w (t d.state) b d)
    (λ cs. and_then
    (follow_edge w (edge_on (t d.state) b) (side d.state d.environment (d.conditions ++ cs) d.events))
    (follow w t bs))
