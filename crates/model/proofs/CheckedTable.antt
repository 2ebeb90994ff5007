-- What a table image that passes its checks holds: its edges lead to its own states, and read only from the four ports.
-- 01, "The table image": "Edge, 3 words: target state, first action, action count", "1, port, variable (read)", "4 ports each way".
-- Assumes nothing.
use Prim.Native.Nat.{ℕ, zero, suc, ◌<◌}
use mathlib.Core.Path.{◌≡◌}
use mathlib.Core.Bool.{Bool, true, false}
use mathlib.Core.List.Memᴰ
use mathlib.Core.List.{List, Memᴰ}
use native.Mathlib.Omega.{arith}
use Rattle.model.specs.Answer.{sound}
use Rattle.model.specs.Table.{Action, assign, read, write, Edge, states, edges, actions, header_rules, state_rules, state_fault, action_rules, action_fault, action_of, action_at, edge_at, edge_fault, table_fault, state_of, table_of}
use Rattle.model.specs.Run.{edge_on}
use Rattle.model.proofs.Basics.{up_to_bounds, then_first, then_second, record_sound, Facts, check_facts}

-- The action reads from one of the four ports, or reads nothing.
abbrev pub ReadsPort : Action → Type 0
ReadsPort (assign v e) = Unit {0}
ReadsPort (read p v) = p < 4
ReadsPort (write p e) = Unit {0}

-- The edge leads to one of n states, and each of its actions reads from one of the four ports or reads nothing.
pub record Within (n : ℕ) (e : Edge) : Type 0 where
  pub target : e.target < n
  pub ports : (a : Action) → Memᴰ a e.actions → ReadsPort a

-- An action whose rules are kept reads from one of the four ports, or reads nothing.
action_port : (code : List ℕ) (kind a b : ℕ) → Facts (action_rules kind a b) → ReadsPort (action_of code kind a b)
unfolding action_rules action_of
action_port code zero a b f = tt
action_port code (suc zero) a b f = omega arith
action_port code (suc (suc k)) a b f = tt

-- An edge of a state whose rules are kept is one of the table's edges, or the empty edge of a stop.
state_edge : (image : List ℕ) (n kind l r t f : ℕ) → 0 < n → ((j : ℕ) → j < edges image → Within n (edge_at image j)) → Facts (state_rules (edges image) kind l r t f) → (b : Bool) → Within n (edge_on (state_of image kind l r t f) b)
unfolding state_rules state_of edge_on
state_edge image n zero l r t f h each facts b = record { target = h; ports = λ a m. absurd (Memᴰ.not-nil m) }
state_edge image n (suc zero) l r t f h each facts b = each t facts.1.1.0
state_edge image n (suc (suc k)) l r t f h each facts true = each t facts.1.0
state_edge image n (suc (suc k)) l r t f h each facts false = each f facts.1.1.0

module _ (image : List ℕ) (passed : table_fault image ≡ sound) where
  -- Nothing is found in a state, an action or an edge of a checked table.

  pub state_sound : (i : ℕ) → i < states image → state_fault image i ≡ sound
  unfolding table_fault
  state_sound = record_sound (state_fault image) (states image) (then_first _ _ (then_second _ _ passed))

  pub action_sound : (i : ℕ) → i < actions image → action_fault image i ≡ sound
  unfolding table_fault
  action_sound = record_sound (action_fault image) (actions image) (then_first _ _ (then_second _ _ (then_second _ _ passed)))

  pub edge_sound : (i : ℕ) → i < edges image → edge_fault image i ≡ sound
  unfolding table_fault
  edge_sound = record_sound (edge_fault image) (edges image) (then_second _ _ (then_second _ _ (then_second _ _ passed)))

  -- A checked table has its reset state.
  pub checked_reset : 0 < states image
  unfolding table_fault header_rules
  checked_reset = (check_facts _ _ (header_rules image) (then_first _ _ passed)).1.1.0

  -- Each action of a checked table reads from one of the four ports, or reads nothing.
  pub checked_action : (i : ℕ) → i < actions image → ReadsPort (action_at image i)
  unfolding action_fault action_at
  checked_action i h = action_port _ _ _ _ (check_facts _ _ _ (then_first _ _ (action_sound i h)))

  -- Each edge of a checked table leads to one of its states and reads only from the four ports.
  pub checked_edge : (i : ℕ) → i < edges image → Within (states image) (edge_at image i)
  unfolding edge_fault edge_at
  checked_edge i h =
      let facts = check_facts _ _ _ (then_first _ _ (edge_sound i h)) in
      record {
        target = facts.0;
        ports = λ a m.
            let (j, among, e) = Memᴰ.of_map (action_at image) _ m in
            let bounds = up_to_bounds _ _ among in
            rw (← e) (checked_action j (omega arith));
      }

  -- So does the edge that a state of a checked table has on a side.
  pub checked_state : (i : ℕ) → i < states image → (b : Bool) → Within (states image) (edge_on (table_of image i) b)
  unfolding state_fault table_of
  checked_state i h =
      state_edge image _ _ _ _ _ _ checked_reset checked_edge (check_facts _ _ _ (then_first _ _ (state_sound i h)))
