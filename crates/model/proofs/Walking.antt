-- A run's sides are a walk of its table, so exactly one path of a covered list begins it, and the run takes that path.
-- Assumes nothing.
use Prim.Native.Nat.{ℕ, zero, suc}
use mathlib.Core.Path.{◌≡◌, refl, sym, ◌∙◌, ap, subst}
use mathlib.Core.Bool.{Bool, true, false, cond, beq}
use mathlib.Core.List.Memᴰ
use mathlib.Core.List.{List, [], ◌∷◌, ◌++◌, map, Memᴰ}
use Rattle.model.specs.Table.{Edge, State, stop, step, test, Table}
use Rattle.model.specs.Run.{Input, Config, at, fire, is_stop, side_at, edge_on, next}
use Rattle.model.specs.Path.{walks_of, walks, begins, beginnings, Covered}
use Rattle.model.proofs.Basics.{clash, and_left, and_right, beq_true}
use Rattle.model.proofs.Following.{Takes, next_taken}

module _ (w : ℕ) (input : Input) (t : Table) where
  -- The sides that a run takes along n edges, or fewer into a stop.
  unfoldable pub sides : ℕ → Config → List Bool
  sides zero c = []
  sides (suc n) c =
      let later = sides n (next w input t c) in
      cond (is_stop (t c.state)) [] (side_at w c.variables (t c.state) ∷ later)

  fire_state : (e : Edge) (c : Config) → (fire w input e c).state ≡ e.target
  unfolding fire at
  fire_state e c = refl

  -- One side and a walk behind its edge are a walk.
  side_walk : (x : State) (vs : List ℕ) (on : ℕ → List (List Bool)) (walk : List Bool) → is_stop x ≡ false → Memᴰ walk (on (edge_on x (side_at w vs x)).target) → Memᴰ (side_at w vs x ∷ walk) (walks_of x on)
  unfolding walks_of side_at edge_on is_stop
  side_walk stop vs on walk s m = clash refl s
  side_walk (step e) vs on walk s m = Memᴰ.map (λ r. false ∷ r) m
  side_walk (test k l r e f) vs on walk s m = by (side_at w vs (test k l r e f)) m
    where
      by : (b : Bool) → Memᴰ walk (on (cond b e f).target) → Memᴰ (b ∷ walk) (map (λ r. true ∷ r) (on e.target) ++ map (λ r. false ∷ r) (on f.target))
      by true m = Memᴰ.append_left _ (Memᴰ.map (λ r. true ∷ r) m)
      by false m = Memᴰ.append_right (map (λ r. true ∷ r) (on e.target)) (Memᴰ.map (λ r. false ∷ r) m)

  stop_walk : (x : State) (on : ℕ → List (List Bool)) → is_stop x ≡ true → Memᴰ [] (walks_of x on)
  unfolding walks_of is_stop
  stop_walk stop on s = Memᴰ.head refl
  stop_walk (step e) on s = clash s refl
  stop_walk (test k l r e f) on s = clash s refl

  -- The sides that a run takes are a walk from where it stands.
  pub sides_walk : (n : ℕ) (c : Config) → Memᴰ (sides n c) (walks t n c.state)
  unfolding sides walks
  sides_walk zero c = Memᴰ.head refl
  sides_walk (suc n) c = by (is_stop (t c.state)) refl (sides_walk n (next w input t c))
    where
      by : (b : Bool) → is_stop (t c.state) ≡ b → Memᴰ (sides n (next w input t c)) (walks t n (next w input t c).state) → Memᴰ (cond b [] (side_at w c.variables (t c.state) ∷ sides n (next w input t c))) (walks_of (t c.state) (walks t n))
      by true s m = stop_walk (t c.state) (walks t n) s
      by false s m =
          let e = ap (λ (d : Config). d.state) (next_taken w input t c (side_at w c.variables (t c.state)) s refl) in
          let there = subst (λ (x : ℕ). Memᴰ (sides n (next w input t c)) (walks t n x)) (e ∙ fire_state _ c) m in
          side_walk (t c.state) c.variables (walks t n) _ s there

  -- A run takes each path that begins its sides.
  pub begins_taken : (n : ℕ) (path : List Bool) (c : Config) → begins path (sides n c) ≡ true → Takes w input t path c
  unfolding sides begins Takes
  begins_taken n [] c e = tt
  begins_taken zero (b ∷ path) c e = clash e refl
  begins_taken (suc n) (b ∷ path) c e = by (is_stop (t c.state)) refl e (begins_taken n path (next w input t c))
    where
      by : (s : Bool) → is_stop (t c.state) ≡ s → begins (b ∷ path) (cond s [] (side_at w c.variables (t c.state) ∷ sides n (next w input t c))) ≡ true → (begins path (sides n (next w input t c)) ≡ true → Takes w input t path (next w input t c)) → Takes w input t (b ∷ path) c
      by true s e h = clash e refl
      by false s e h =
          let on = side_at w c.variables (t c.state) in
          (s, sym (beq_true b on (and_left (beq b on) _ e)), h (and_right (beq b on) _ e))

  -- Exactly one listed path begins a covered pair's run.
  pub run_begins_once : (n : ℕ) (paths : List (List Bool)) (c : Config) → Covered t n c.state paths → beginnings (sides n c) paths ≡ 1
  run_begins_once n paths c covered = covered.once (sides n c) (sides_walk n c)
