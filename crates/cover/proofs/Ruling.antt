-- Rule 11 at a pair, from the walk at the root of the tree of choices: all paths of the pair are consumed. 01: "a pair of two stops
-- must have no path, and is then covered". Assumes nothing.
use Prim.Native.Nat.{ℕ, zero, suc, ◌+◌, ◌-◌, ◌≤◌}
use mathlib.Core.Path.{◌≡◌, refl, sym, ◌∙◌, ap}
use mathlib.Core.Bool.{Bool, false}
use mathlib.Core.List.{List, [], map}
use native.Mathlib.Omega.{arith}
use Rattle.std.specs.Prelude.{Option, Some, None}
use lib.Dec.{eqb}
use borrow.Author.Tests.{eq-eqb, ne_eqb}
use Rattle.model.specs.Answer.{sound, up_to}
use Rattle.model.specs.Table.{table_of, table_fault}
use Rattle.model.specs.Path.{choices, is_none, rule11}
use Rattle.model.specs.Correspondence.{path_at, list_fault}
use Rattle.table.specs.Checks.{state_record}
use Rattle.table.specs.declared.StateRecord.{StateRecord}
use Rattle.table.specs.Decoded.{state_as, state_meant}
use Rattle.table.specs.declared.decoded.State as declared
use Rattle.table.specs.declared.decoded.State.TheVariants.{Stop, Step, Test}
use Rattle.table.proofs.Decoding.{state_meant_lem, edges_begin}
use Rattle.model.specs.Run.{is_stop}
use Rattle.std.specs.Option.{option_eq}
use Rattle.list.proofs.Decoding.{paths_begin}
use Rattle.cover.specs.Visit.{visit, consumed, covered_by}
use Rattle.cover.specs.Nodes.{paths_in, visited_of, Offset}
use Rattle.cover.proofs.Visiting.{rule11_walk}
use Rattle.cover.proofs.Stepping.{paths_none, paths_cons, visited_failed, visited_left}

-- No path is left exactly where the next one is the end.
none_left : (list : List ℕ) (next end : ℕ) → next ≤ end → eqb next end ≡ is_none (paths_in list next end)
unfolding is_none
none_left list next end h = by (end - next) refl
  where
    by : (k : ℕ) → end - next ≡ k → eqb next end ≡ is_none (paths_in list next end)
    by zero e = eq-eqb next end (omega arith) ∙ sym (ap is_none (paths_none list next end (omega arith)))
    by (suc k) e = ne_eqb next end (λ q. omega arith) ∙ sym (ap is_none (paths_cons list next end (omega arith)))

-- No path is listed exactly where they are counted as none.
none_listed : (list : List ℕ) (first count : ℕ) → eqb count 0 ≡ is_none (map (λ p. p.first) (map (path_at list) (up_to first count)))
unfolding is_none up_to
none_listed list first zero = refl
none_listed list first (suc count) = ne_eqb (suc count) 0 (λ q. omega arith)

module _ (table list : List ℕ) (s first count : ℕ) where
  -- The paths of a range, as the walk counts them.
  range : paths_in list first (first + count) ≡ map (λ p. p.first) (map (path_at list) (up_to first count))
  unfolding paths_in
  range = let z : first + count - first ≡ count = omega arith in rw z

  -- Rule 11 as the verdict computes it, for the pair's paths.
  abbrev Ruled : Bool
  Ruled = rule11 (table_of table) 32 s (map (λ p. p.first) (map (path_at list) (up_to first count)))

  by_walk : Ruled ≡ covered_by (table_of table) 32 s (paths_in list first (first + count))
  by_walk = rule11_walk (table_of table) 32 s _ ∙ ap (covered_by (table_of table) 32 s) (sym range)

  module _ {r : StateRecord} (state : r ≡ state_record table s) where
    stops_by : {x : declared.State} → x ≡ state_as r → is_stop (table_of table s) ≡ is_stop (state_meant table x)
    stops_by means = ap is_stop (state_meant_lem table s state means)

    pub stop_ruled : Stop ≡ state_as r → eqb count 0 ≡ Ruled
    unfolding rule11 state_meant is_stop
    stop_ruled means = rw (stops_by means) (none_listed list first count)

    -- From any other state the paths are those that the walk consumes.
    pub walk_ruled : {x : declared.State} {v : Option ℕ} → x ≡ state_as r → (x ≡ Stop → ⊥)
        → v ≡ visited_of (first + count) (visit (table_of table) (32 - 0) s (choices 0 0) (paths_in list first (first + count)))
        → option_eq eqb v (Some (first + count)) ≡ Ruled
    unfolding covered_by choices state_meant is_stop consumed
    walk_ruled {x} {v} means other e = by v e
      where
        goes : (x : declared.State) → (x ≡ Stop → ⊥) → is_stop (state_meant table x) ≡ false
        goes Stop h = absurd (h refl)
        goes (Step i) h = refl
        goes (Test k l t f g) h = refl

        ruled : Ruled ≡ consumed (visit (table_of table) 32 s [] (paths_in list first (first + count)))
        ruled = by_walk ∙ rw (stops_by means, goes x other)

        by : (v : Option ℕ) → v ≡ visited_of (first + count) (visit (table_of table) 32 s [] (paths_in list first (first + count)))
            → option_eq eqb v (Some (first + count)) ≡ Ruled
        by None e = sym (ruled ∙ ap consumed (visited_failed (first + count) _ e refl))
        by (Some left) e =
            let w = visited_left (table_of table) _ _ _ list first (first + count) (omega arith) e refl in
            none_left list left (first + count) w.1.1 ∙ sym (ruled ∙ ap consumed w.0)

-- Where nothing is found in the table and in the correspondence, the offsets are right.
pub offset_sound : (m n : ℕ) (table list : List ℕ) → table_fault table ≡ sound → list_fault m n list ≡ sound → Offset table list
offset_sound m n table list t l = record { edges = edges_begin table t; paths = paths_begin m n list l }
