-- The variables that the actions of an edge set, action by action. Assumes nothing.
use Prim.Native.Nat.{ℕ, zero, suc, ◌+◌, ◌-◌}
use mathlib.Core.Path.{◌≡◌, refl, ◌∙◌, ap}
use mathlib.Core.Bool.{Bool}
use mathlib.Core.List.{List, [], ◌∷◌, map}
use native.Mathlib.Omega.{arith}
use Rattle.std.specs.Prelude.{Some, None}
use Rattle.std.specs.List.{filter_map, cons_option}
use Rattle.model.specs.Answer.{up_to}
use Rattle.model.specs.Table.{Action, assign, read, write, action_of, action_at, variables_set, distinct}
use Rattle.table.specs.Checks.{set_of}

-- An action's variable before others.
set_before : (a : Action) (l : List Action) (m : List ℕ) → m ≡ variables_set l → cons_option (set_of a) m ≡ variables_set (a ∷ l)
unfolding set_of variables_set
set_before (assign v e) l m p = ap (λ k. v ∷ k) p
set_before (read p v) l m q = ap (λ k. v ∷ k) q
set_before (write p e) l m q = q

-- The variables that actions set are those that each of them sets.
set_by_each : (f : ℕ → Action) (l : List ℕ) → filter_map (λ j. set_of (f j)) l ≡ variables_set (map f l)
unfolding variables_set
set_by_each f [] = refl
set_by_each f (i ∷ l) = set_before (f i) (map f l) _ (set_by_each f l)

-- What the search along a range of actions finds is whether they set distinct variables.
pub sets_distinct : (image : List ℕ) (first count : ℕ) {end : ℕ} {b : Bool} → end ≡ first + count
    → b ≡ distinct (filter_map (λ j. set_of (action_at image j)) (up_to first (end - first)))
    → b ≡ distinct (variables_set (map (action_at image) (up_to first count)))
sets_distinct image first count {end} z e =
    let k : end - first ≡ count = omega arith in
    e ∙ ap distinct (set_by_each (action_at image) (up_to first (end - first)) ∙ ap (λ n. variables_set (map (action_at image) (up_to first n))) k)

-- The variable that the fields of an action set.

module _ (code : List ℕ) {k : ℕ} (a b : ℕ) {x : Action} (is-action : x ≡ action_of code k a b) where
  pub set_assign : k ≡ 0 → Some a ≡ set_of x
  unfolding action_of set_of
  set_assign z = rw (is-action, z) refl

  pub set_read : k ≡ 1 → Some b ≡ set_of x
  unfolding action_of set_of
  set_read z = rw (is-action, z) refl

nothing_by : (code : List ℕ) (k a b : ℕ) → (k ≡ 0 → ⊥) → (k ≡ 1 → ⊥) → None ≡ set_of (action_of code k a b)
unfolding action_of set_of
nothing_by code zero a b y z = absurd (y refl)
nothing_by code (suc zero) a b y z = absurd (z refl)
nothing_by code (suc (suc k)) a b y z = refl

pub set_nothing : (code : List ℕ) {k : ℕ} (a b : ℕ) {x : Action} → x ≡ action_of code k a b → (k ≡ 0 → ⊥) → (k ≡ 1 → ⊥) → None ≡ set_of x
set_nothing code {k} a b e y z = rw e (nothing_by code k a b y z)
