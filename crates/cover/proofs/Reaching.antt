-- Where choices lead from a state, edge by edge; and for rule 12, that a path of a covered pair is walkable. 01: "the target's first
-- state ends the first path, and the second path is walkable to the target's second state". Assumes nothing.
use Prim.Native.Nat.{ℕ, suc, ◌+◌, ◌-◌, ◌/◌, ◌%◌, ◌≤◌, ◌<◌}
use mathlib.Core.Path.{◌≡◌, refl, sym, ◌∙◌, ap}
use mathlib.Core.Logic.{◌↔◌}
use mathlib.Core.Bool.{Bool, true, false, cond, ◌&&◌}
use mathlib.Core.List.Memᴰ
use mathlib.Core.List.{List, [], ◌∷◌, Memᴰ}
use native.Mathlib.Omega.{arith}
use Rattle.std.specs.Prelude.{Option, Some, None}
use lib.Dec.{eqb}
use Rattle.model.specs.Table.{State, Table, edge_at, table_of}
use Rattle.model.specs.Run.{is_stop, edge_on}
use Rattle.model.specs.Path.{choices, allows, walkable, end_state, is_none, covers, rule11}
use Rattle.model.proofs.Basics.{clash}
use Rattle.model.proofs.Coverage.{covers_covered}
use Rattle.table.specs.Checks.{state_record}
use Rattle.table.specs.declared.StateRecord.{StateRecord}
use Rattle.table.specs.Decoded.{state_as, state_meant}
use Rattle.table.specs.declared.decoded.State as declared
use Rattle.table.specs.declared.decoded.State.TheVariants.{Stop, Step, Test}
use Rattle.table.proofs.Decoding.{state_meant_lem}
use Rattle.word.specs.declared.Kind.{Kind}
use Rattle.cover.specs.Ending.{reached_of}

-- What the answer says: some state on the way cannot be left so, or all can and the end is known.

pub reached_stuck : {v : Option ℕ} (b : Bool) (s : ℕ) → v ≡ reached_of b s → v ≡ None → b ≡ false
unfolding reached_of
reached_stuck false s e k = refl
reached_stuck true s e k = absurd (let z : ◌≡◌ {A = ℕ} 0 1 = cc in omega arith)

pub reached_at : {v : Option ℕ} {u : ℕ} (b : Bool) (s : ℕ) → v ≡ reached_of b s → v ≡ Some u → (b ≡ true) × (s ≡ u)
unfolding reached_of
reached_at false s e k = absurd (let z : ◌≡◌ {A = ℕ} 0 1 = cc in omega arith)
reached_at true s e k = (refl, cc)

-- Where choices can be walked, the answer is their end.
pub walked_ends : {v : Option ℕ} (t : Table) (s u : ℕ) (p : List Bool) → v ≡ reached_of (walkable t s p) (end_state t s p) → walkable t s p ≡ true
    → (v ≡ Some u) ↔ (end_state t s p ≡ u)
unfolding reached_of
walked_ends t s u p e h = (
  λ k. (reached_at (walkable t s p) (end_state t s p) e k).1,
  λ k. e ∙ (λ i. reached_of (h i) (k i)),
)

-- A path of a covered pair is walkable.

no_member : {A : Type 0} (l : List A) → is_none l ≡ true → (a : A) → Memᴰ a l → ⊥
unfolding is_none
no_member [] h a m = Memᴰ.not-nil m
no_member (b ∷ l) h a m = clash h refl

pub covered_walkable : (t : Table) (n s : ℕ) (ps : List (List Bool)) → rule11 t n s ps ≡ true
    → (p : List Bool) → Memᴰ p ps → walkable t s p ≡ true
unfolding rule11
covered_walkable t n s ps h p m = by (is_stop (t s)) h
  where
    by : (b : Bool) → cond b (is_none ps) (covers t n s ps) ≡ true → walkable t s p ≡ true
    by true h = absurd (no_member ps h p m)
    by false h = (covers_covered t n s ps h).walked p m

-- One choice from a state that was read.

-- Where a choice leads from a state.
abbrev Left : State → Bool → Option ℕ
Left x b = reached_of (allows x b) (edge_on x b).target

module _ (table : List ℕ) (s : ℕ) (b : Bool) {r : StateRecord} (state : r ≡ state_record table s) where
  decoded : {x : declared.State} {v : Option ℕ} → x ≡ state_as r → v ≡ Left (state_meant table x) b → v ≡ Left (table_of table s) b
  decoded means e = e ∙ ap (λ (y : State). Left y b) (sym (state_meant_lem table s state means))

  pub leaves_stop : Stop ≡ state_as r → None ≡ Left (table_of table s) b
  unfolding reached_of state_meant allows edge_on
  leaves_stop means = decoded means refl

  pub leaves_barred : {i : ℕ} → Step i ≡ state_as r → b ≡ true → None ≡ Left (table_of table s) b
  unfolding reached_of state_meant allows edge_on
  leaves_barred means h = decoded means (rw h)

  -- By which edge, of a step on its side 0, and of a test on each side.

  pub leaves_step : {i e : ℕ} → Step e ≡ state_as r → b ≡ false → i ≡ e → Some (edge_at table i).target ≡ Left (table_of table s) b
  unfolding reached_of state_meant allows edge_on
  leaves_step means h z = ap (λ j. Some (edge_at table j).target) z ∙ decoded means (rw h)

  module _ {q : Kind} {left right t f i : ℕ} (means : Test q left right t f ≡ state_as r) where
    pub leaves_true : b ≡ true → i ≡ t → Some (edge_at table i).target ≡ Left (table_of table s) b
    unfolding reached_of state_meant allows edge_on
    leaves_true h z = ap (λ j. Some (edge_at table j).target) z ∙ decoded means (rw h)

    pub leaves_false : b ≡ false → i ≡ f → Some (edge_at table i).target ≡ Left (table_of table s) b
    unfolding reached_of state_meant allows edge_on
    leaves_false h z = ap (λ j. Some (edge_at table j).target) z ∙ decoded means (rw h)

-- A path, edge by edge.

-- Where the n choices of a word lead from a state.
abbrev Led : Table → ℕ → ℕ → ℕ → Option ℕ
Led t s n x = reached_of (walkable t s (choices n x)) (end_state t s (choices n x))

led_stuck : (t : Table) (s n x : ℕ) → allows (t s) (eqb (x % 2) 1) ≡ false → Led t s (suc n) x ≡ None
unfolding reached_of choices walkable
led_stuck t s n x h = rw h

led_more : (t : Table) (s n x u : ℕ) → allows (t s) (eqb (x % 2) 1) ≡ true → (edge_on (t s) (eqb (x % 2) 1)).target ≡ u
    → Led t s (suc n) x ≡ Led t u n (x / 2)
unfolding choices walkable end_state
led_more t s n x u h e =
    let walked : walkable t s (choices (suc n) x) ≡ walkable t u (choices n (x / 2)) =
    (λ i. h i && walkable t (e i) (choices n (x / 2)))
    in
    let ends : end_state t s (choices (suc n) x) ≡ end_state t u (choices n (x / 2)) = ap (λ y. end_state t y (choices n (x / 2))) e in
    λ i. reached_of (walked i) (ends i)

-- What is left to walk behind some edges leads where the whole path does.
pub record Reaching (t : Table) (s n x here walked rest : ℕ) : Type 0 where
  pub same : reached_of (walkable t here (choices (n - walked) rest)) (end_state t here (choices (n - walked) rest)) ≡ reached_of (walkable t s (choices n x)) (end_state t s (choices n x))

module _ (t : Table) (s n x : ℕ) where
  pub reaching_start : Reaching t s n x s 0 x
  reaching_start = let z : n - 0 ≡ n = omega arith in record { same = ap (λ m. Led t s m x) z }

  module _ (here walked rest : ℕ) (reaching : Reaching t s n x here walked rest) where
    pub reaching_end : n ≤ walked → Some here ≡ Led t s n x
    unfolding reached_of choices walkable end_state
    reaching_end h = let z : 0 ≡ n - walked = omega arith in ap (λ m. Led t here m rest) z ∙ reaching.same

    module _ {v : Option ℕ} (more : walked < n) (leaves : v ≡ Left (t here) (eqb (rest % 2) 1)) where
      again : Led t here (suc (n - (walked + 1))) rest ≡ Led t s n x
      again = let z : suc (n - (walked + 1)) ≡ n - walked = omega arith in ap (λ m. Led t here m rest) z ∙ reaching.same

      pub reaching_stuck : v ≡ None → None ≡ Led t s n x
      reaching_stuck k = sym (led_stuck t here (n - (walked + 1)) rest (reached_stuck _ _ leaves k)) ∙ again

      pub reaching_step : {u : ℕ} → v ≡ Some u → Reaching t s n x u (walked + 1) (rest / 2)
      reaching_step {u} k =
          let r = reached_at _ _ leaves k in
          record { same = sym (led_more t here (n - (walked + 1)) rest u r.0 r.1) ∙ again }
