-- What a visit of a node answers, from what was read and tested there: the next path against the choices that led to the node, the
-- state, and the visits of the nodes below. Assumes nothing.
use Prim.Native.Nat.{ℕ, zero, suc, ◌+◌, ◌-◌, ◌%◌, ◌^◌, ◌≤◌, ◌<◌}
use mathlib.Core.Path.{◌≡◌, refl, sym, ◌∙◌, ap}
use mathlib.Core.Logic.{◌⊎◌, inl, inr}
use mathlib.Core.Bool.{Bool, true, false, cond}
use mathlib.Core.List.{List, [], ◌∷◌, ◌++◌, map, cons≢nil}
use Rattle.std.specs.Prelude.{Option, Some, None}
use native.Mathlib.Omega.{arith}
use lib.ListN.{length}
use Rattle.model.specs.Answer.{word}
use Rattle.model.specs.Table.{State, Table, Edge, edge_at, edges_at, table_of}
use Rattle.model.specs.Path.{choices}
use Rattle.model.specs.Correspondence.{paths_at, path_at}
use Rattle.word.specs.declared.Kind.{Kind}
use Rattle.fault.proofs.Along.{up_to_cons, up_to_none}
use Rattle.table.specs.Checks.{state_record, edge_record}
use Rattle.table.specs.Decoded.{state_as, state_meant}
use Rattle.table.specs.declared.StateRecord.{StateRecord}
use Rattle.table.specs.declared.EdgeRecord.{EdgeRecord}
use Rattle.table.specs.declared.decoded.State as declared
use Rattle.table.specs.declared.decoded.State.TheVariants.{Stop, Step, Test}
use Rattle.table.proofs.Decoding.{edge_decoded, state_meant_lem}
use Rattle.list.specs.Checks.{path_record}
use Rattle.list.specs.declared.PathRecord.{PathRecord}
use Rattle.list.proofs.Decoding.{path_decoded}
use Rattle.cover.specs.Visit.{after, away, ends, goes_on, stands_by, standing, visit_by, onward, visit_of, visit}
use Rattle.cover.specs.Nodes.{paths_in, visited_of, Offset}
use Rattle.cover.specs.declared.Node.{Node}
use Rattle.cover.proofs.Choosing.{choices_on, after_same, after_other}
use Rattle.cover.proofs.Visiting.{visit_covers}

-- A walk by what the first path does at the node, and by the state.

module _ (t : Table) (n s : ℕ) (led : List Bool) (ps : List (List Bool)) where
  visit_away : standing led ps ≡ away → visit t n s led ps ≡ None
  unfolding visit visit_by
  visit_away e = by n
    where
      by : (n : ℕ) → visit t n s led ps ≡ None
      by zero = rw e
      by (suc n) = rw e

  visit_ends : {rest : List (List Bool)} → standing led ps ≡ ends rest → visit t n s led ps ≡ Some rest
  unfolding visit visit_by
  visit_ends {rest} e = by n
    where
      by : (n : ℕ) → visit t n s led ps ≡ Some rest
      by zero = rw e
      by (suc n) = rw e

  visit_spent : standing led ps ≡ goes_on → n ≡ 0 → visit t n s led ps ≡ None
  unfolding visit visit_by
  visit_spent e z = rw (z, e)

  visit_below : {m : ℕ} {x : State} → standing led ps ≡ goes_on → n ≡ suc m → t s ≡ x → visit t n s led ps ≡ visit_of x (visit t m) led ps
  unfolding visit visit_by
  visit_below e z h = rw (z, e, h)

-- The paths from a number on: none, or the path read and those behind it.

pub paths_none : (list : List ℕ) (next end : ℕ) → end ≤ next → paths_in list next end ≡ []
unfolding paths_in
paths_none list next end h = ap (λ l. map (λ p. p.first) (map (path_at list) l)) (up_to_none next (end - next) (omega arith))

pub paths_cons : (list : List ℕ) (next end : ℕ) → next < end → paths_in list next end ≡ (path_at list next).first ∷ paths_in list (next + 1) end
unfolding paths_in
paths_cons list next end h =
    ap (λ l. map (λ p. p.first) (map (path_at list) l)) (up_to_cons next (end - next) (end - (next + 1)) (omega arith))

paths_read : (list : List ℕ) (next end : ℕ) {at : ℕ} {r : PathRecord} → at ≡ paths_at list → r ≡ path_record list at next → next < end
    → paths_in list next end ≡ choices r.length r.choices ∷ paths_in list (next + 1) end
paths_read list next end {at} {r} p e h =
    paths_cons list next end h ∙ ap (λ (q : _). q.first ∷ paths_in list (next + 1) end) (path_decoded list next p e)

paths_length : (list : List ℕ) (k next end : ℕ) → end - next ≡ k → length (paths_in list next end) ≡ k
paths_length list zero next end h = ap length (paths_none list next end (omega arith))
paths_length list (suc k) next end h =
    ap length (paths_cons list next end (omega arith)) ∙ ap suc (paths_length list k (next + 1) end (omega arith))

-- What is left over behind some of the paths is the paths from a later number on.
left_over : (list : List ℕ) (front rest : List (List Bool)) (k next end : ℕ) → end - next ≡ k → next ≤ end → paths_in list next end ≡ front ++ rest
    → (rest ≡ paths_in list (end - length rest) end) × (length rest ≤ end - next)
left_over list [] rest k next end d h e =
    let l : length rest ≡ k = sym (ap length e) ∙ paths_length list k next end d in
    let z : next ≡ end - length rest = omega arith in
    (sym e ∙ ap (λ x. paths_in list x end) z, omega arith)
left_over list (p ∷ front) rest zero next end d h e =
    absurd (cons≢nil (sym e ∙ paths_none list next end (omega arith)))
left_over list (p ∷ front) rest (suc k) next end d h e =
    let turn : ((path_at list next).first ∷ paths_in list (next + 1) end) ≡ (p ∷ (front ++ rest)) = sym (paths_cons list next end (omega arith)) ∙ e in
    let later : paths_in list (next + 1) end ≡ front ++ rest = cc in
    let r = left_over list front rest k (next + 1) end (omega arith) (omega arith) later in
    (r.0, omega (arith, r.1))

-- What the answer of a visit says: it failed, or some paths are left over.

pub visited_failed : {v : Option ℕ} (end : ℕ) (o : Option (List (List Bool))) → v ≡ visited_of end o → v ≡ None → o ≡ None
unfolding visited_of
visited_failed end None e k = refl
visited_failed end (Some ps) e k = absurd (let z : ◌≡◌ {A = ℕ} 0 1 = cc in omega arith)

visited_next : {v : Option ℕ} {left : ℕ} (end : ℕ) (o : Option (List (List Bool))) → v ≡ visited_of end o → v ≡ Some left
    → (ps : List (List Bool)) × (o ≡ Some ps) × (left ≡ end - length ps)
unfolding visited_of
visited_next end None e k = absurd (let z : ◌≡◌ {A = ℕ} 0 1 = cc in omega arith)
visited_next end (Some ps) e k = (ps, refl, cc)

-- The first path left over is at most the end.
pub left_within : {v : Option ℕ} {left : ℕ} (end : ℕ) (o : Option (List (List Bool))) → v ≡ visited_of end o → v ≡ Some left → left ≤ end
left_within end o e k = let r = visited_next end o e k in omega (arith, r.2)

-- Where a visit leaves paths over, they are those from the number that it answers on.
pub visited_left : (t : Table) (n s : ℕ) (led : List Bool) (list : List ℕ) (next end : ℕ) {v : Option ℕ} {left : ℕ} → next ≤ end
    → v ≡ visited_of end (visit t n s led (paths_in list next end))
    → v ≡ Some left
    → (visit t n s led (paths_in list next end) ≡ Some (paths_in list left end)) × ((next ≤ left) × (left ≤ end))
visited_left t n s led list next end h e k =
    let r = visited_next end (visit t n s led (paths_in list next end)) e k in
    let c = visit_covers t n s led (paths_in list next end) r.0 r.1 in
    let o = left_over list (map (λ q. led ++ q) c.paths) r.0 (end - next) next end refl h c.whole in
    (r.1 ∙ ap Some (o.0 ∙ ap (λ x. paths_in list x end) (sym r.2)), (omega (arith, r.2, o.1), omega (arith, r.2)))

-- The target of an edge, read from where the edges begin.
pub edge_target : (table : List ℕ) (i : ℕ) {at : ℕ} {edge : EdgeRecord} → at ≡ edges_at table → edge ≡ edge_record table at i → (edge_at table i).target ≡ edge.target
edge_target table i p e = ap (λ (x : Edge). x.target) (edge_decoded table i p e)

-- The nodes below a node: the choices that led there, and the walk, which is the walk at the state to which the side leads.

module _ (node below : Node) (taken : Bool) {s : ℕ} (state : below.state ≡ s) (depth : below.depth ≡ node.depth + 1)
    (led : below.led ≡ node.led + cond taken (2 ^ node.depth) 0) where
  led_below : choices below.depth below.led ≡ choices node.depth node.led ++ (taken ∷ [])
  led_below =
      let z : below.depth ≡ suc node.depth = omega arith in
      (λ i. choices (z i) (led i)) ∙ choices_on node.depth node.led taken node.short

  walked : (t : Table) (ps : List (List Bool))
      → visit t (32 - below.depth) below.state (choices below.depth below.led) ps
      ≡ visit t (32 - (node.depth + 1)) s (choices node.depth node.led ++ (taken ∷ [])) ps
  walked t ps = λ i. visit t (32 - depth i) (state i) (led_below i) ps

-- A visit.

module _ (table list : List ℕ) (node : Node) (next end : ℕ) where
  -- The walk from the node with the paths that are left.
  abbrev pub Walked : Option (List (List Bool))
  Walked = visit (table_of table) (32 - node.depth) node.state (choices node.depth node.led) (paths_in list next end)

  fails : Walked ≡ None → None ≡ visited_of end Walked
  unfolding visited_of
  fails e = rw e

  pub none_left : end ≤ next → None ≡ visited_of end Walked
  unfolding standing
  none_left h =
      fails
      (visit_away (table_of table) _ _ (choices node.depth node.led) (paths_in list next end)
      (ap (standing (choices node.depth node.led)) (paths_none list next end h)))

  module _ {at : ℕ} {path : PathRecord} (offset : Offset table list) (begins : at ≡ word list 7) (read : path ≡ path_record list at next) (more : next < end) where
    -- What the path does at the node, by its choices.
    stands : {o : Option (List Bool)} → after (choices node.depth node.led) (choices path.length path.choices) ≡ o
        → standing (choices node.depth node.led) (paths_in list next end) ≡ stands_by o (paths_in list (next + 1) end)
    unfolding standing
    stands e =
        ap (standing (choices node.depth node.led)) (paths_read list next end (begins ∙ offset.paths) read more)
        ∙ ap (λ o. stands_by o (paths_in list (next + 1) end)) e

    strays : (path.length < node.depth) ⊎ (path.choices % 2 ^ node.depth ≡ node.led → ⊥) → None ≡ visited_of end Walked
    unfolding stands_by
    strays o =
        fails
        (visit_away (table_of table) _ _ _ (paths_in list next end)
        (stands (after_other node.depth path.length node.led path.choices node.short o)))

    pub too_short : path.length < node.depth → None ≡ visited_of end Walked
    too_short h = strays (inl h)

    -- The path's lowest choices, as many as led to the node.
    module _ {low : ℕ} (bits : low ≡ path.choices % 2 ^ node.depth) where
      pub other_choices : (low ≡ node.led → ⊥) → None ≡ visited_of end Walked
      other_choices h = strays (inr (λ e. h (bits ∙ e)))

      module _ (same : low ≡ node.led) where
        same_power : path.choices % 2 ^ node.depth ≡ node.led
        same_power = sym bits ∙ same

        pub ends_here : path.length ≡ node.depth → Some (next + 1) ≡ visited_of end Walked
        unfolding visited_of stands_by choices
        ends_here h =
            let r = after_same node.depth path.length 0 node.led path.choices (omega arith) same_power in
            let w : Walked ≡ Some (paths_in list (next + 1) end) = visit_ends (table_of table) _ _ _ (paths_in list next end) (stands r.1) in
            let l : length (paths_in list (next + 1) end) ≡ end - (next + 1) = paths_length list _ (next + 1) end refl in
            let z : next + 1 ≡ end - length (paths_in list (next + 1) end) = omega arith in
            ap Some z ∙ sym (ap (visited_of end) w)

        -- The path goes on below the node.
        module _ (reaches : node.depth ≤ path.length) (longer : path.length ≡ node.depth → ⊥) where
          goes_on_lem : standing (choices node.depth node.led) (paths_in list next end) ≡ goes_on
          unfolding stands_by choices
          goes_on_lem =
              let d : node.depth ≤ path.length = reaches in
              let r = after_same node.depth path.length (suc (path.length - node.depth - 1)) node.led path.choices (gap path.length node.depth d longer) same_power in
              stands r.1
            where
              gap : (l d : ℕ) → d ≤ l → (l ≡ d → ⊥) → l ≡ d + suc (l - d - 1)
              gap l d h k = omega arith

          pub too_deep : node.depth ≡ 32 → None ≡ visited_of end Walked
          too_deep h = fails (visit_spent (table_of table) _ _ _ (paths_in list next end) goes_on_lem (omega arith))

          -- The state, where the node is not too deep.
          module _ {r : StateRecord} (higher : node.depth ≡ 32 → ⊥) (state : r ≡ state_record table node.state) where
            -- The walk below the node.
            abbrev On : ℕ → List Bool → List (List Bool) → Option (List (List Bool))
            On = visit (table_of table) (32 - (node.depth + 1))

            below : {x : declared.State} → x ≡ state_as r → Walked ≡ visit_of (state_meant table x) On (choices node.depth node.led) (paths_in list next end)
            below means =
                visit_below (table_of table) _ _ _ (paths_in list next end) goes_on_lem (omega (arith, node.shallow))
                (state_meant_lem table node.state state means)

            pub at_stop : Stop ≡ state_as r → None ≡ visited_of end Walked
            unfolding state_meant visit_of
            at_stop means = fails (below means)

            module _ {from : ℕ} (edges : from ≡ word table 5) where
              -- Where an edge that was read leads.
              leads : {edge : EdgeRecord} (i : ℕ) → edge ≡ edge_record table from i → (edge_at table i).target ≡ edge.target
              leads i e = edge_target table i (edges ∙ offset.edges) e

              pub at_step : {i : ℕ} {edge : EdgeRecord} (child : Node) {v : Option ℕ} → Step i ≡ state_as r → edge ≡ edge_record table from i
                  → child.state ≡ edge.target
                  → child.depth ≡ node.depth + 1
                  → child.led ≡ node.led + 0
                  → v ≡ visited_of end (visit (table_of table) (32 - child.depth) child.state (choices child.depth child.led) (paths_in list next end))
                  → v ≡ visited_of end Walked
              unfolding state_meant visit_of
              at_step {i} child means g a d l e =
                  e
                  ∙ ap (visited_of end)
                  (walked node child false a d l (table_of table) (paths_in list next end)
                  ∙ sym (below means ∙ ap (λ x. On x (choices node.depth node.led ++ (false ∷ [])) (paths_in list next end)) (leads i g)))

              -- At a test the true side is walked first.
              module _ {q : Kind} {left right t f : ℕ} {edge : EdgeRecord} (child : Node) {v : Option ℕ} (means : Test q left right t f ≡ state_as r)
                  (g : edge ≡ edge_record table from t) (a : child.state ≡ edge.target) (d : child.depth ≡ node.depth + 1) (l : child.led ≡ node.led + 2 ^ node.depth)
                  (e : v ≡ visited_of end (visit (table_of table) (32 - child.depth) child.state (choices child.depth child.led) (paths_in list next end))) where
                sides : Walked
                    ≡ onward (visit (table_of table) (32 - child.depth) child.state (choices child.depth child.led) (paths_in list next end))
                    (On (edge_at table f).target (choices node.depth node.led ++ (false ∷ [])))
                unfolding state_meant visit_of
                sides =
                    below means
                    ∙ ap (λ o. onward o (On (edge_at table f).target (choices node.depth node.led ++ (false ∷ []))))
                    (ap (λ x. On x (choices node.depth node.led ++ (true ∷ [])) (paths_in list next end)) (leads t g)
                    ∙ sym (walked node child true a d l (table_of table) (paths_in list next end)))

                pub true_fails : v ≡ None → None ≡ visited_of end Walked
                unfolding onward
                true_fails k =
                    fails
                    (sides ∙ ap (λ o. onward o (On (edge_at table f).target (choices node.depth node.led ++ (false ∷ [])))) (visited_failed end _ e k))

                pub true_leaves : {u : Option ℕ} {later : ℕ} {second : EdgeRecord} (other : Node) → v ≡ Some later
                    → second ≡ edge_record table from f
                    → other.state ≡ second.target
                    → other.depth ≡ node.depth + 1
                    → other.led ≡ node.led + 0
                    → u ≡ visited_of end (visit (table_of table) (32 - other.depth) other.state (choices other.depth other.led) (paths_in list later end))
                    → u ≡ visited_of end Walked
                unfolding onward
                true_leaves {later = later} other k h b c m p =
                    let w = visited_left (table_of table) _ _ _ list next end (omega arith) e k in
                    p
                    ∙ ap (visited_of end)
                    (walked node other false b c m (table_of table) (paths_in list later end)
                    ∙ sym
                    (sides
                    ∙ ap (λ o. onward o (On (edge_at table f).target (choices node.depth node.led ++ (false ∷ [])))) w.0
                    ∙ ap (λ x. On x (choices node.depth node.led ++ (false ∷ [])) (paths_in list later end)) (leads f h)))
