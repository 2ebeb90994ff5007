-- Following a path with symbols is sound, both ways round: a run that takes the path has its conditions true and its variables, reads
-- and writes as the sums say; and where the conditions are true, the run takes the path. Assumes nothing.
use Prim.Native.Nat.{ℕ, zero, suc, ◌+◌, ◌^◌, ◌<◌}
use mathlib.Core.Path.{◌≡◌, refl, sym, ◌∙◌, ap}
use mathlib.Core.Logic.{⊎_elim}
use mathlib.Core.Bool.{Bool, true, false}
use mathlib.Core.List.Memᴰ
use mathlib.Core.List.{List, [], ◌∷◌, ◌++◌, map, map-append, append_assoc, Memᴰ}
use lib.Dec.{ltb, eqb}
use lib.ListN.{length, set}
use borrow.Author.Tests.{ltb-true}
use Rattle.model.specs.Word.{Kind, holds}
use Rattle.model.specs.Expr.{Expr}
use Rattle.model.specs.Table.{Action, assign, read, write, Edge, State, stop, step, test, Table}
use Rattle.model.specs.Run.{Event, took, gave, tick, keep_if, reads, writes, Input, Config, at, act, act_all, fire, is_stop, side_at, edge_on, next, after}
use Rattle.model.specs.Sum.{Sum, fits, sum_of, symbol_sum, worth}
use Rattle.model.specs.Path.{allows, walkable, end_state, Condition, Side, side, read_symbol, room_on, follow_action, follow_actions, follow_edge, asked, follow}
use Rattle.model.proofs.Basics.{clash, and_left, and_right, and_then_fits, cond_fits, fits_same}
use Rattle.model.proofs.Runs.{reads_append}
use Rattle.model.proofs.Worth.{symbol_worth, sum_of_worth}

-- The event that an event with sums stands for.
unfoldable pub event_worth : ℕ → (ℕ → ℕ) → Event Sum → Event ℕ
event_worth w ρ (took p) = took p
event_worth w ρ (gave p s) = gave p (worth w ρ s)

pub reads_worth : (w : ℕ) (ρ : ℕ → ℕ) (p : ℕ) (l : List (Event Sum)) → reads p (map (event_worth w ρ) l) ≡ reads p l
unfolding reads event_worth
reads_worth w ρ p [] = refl
reads_worth w ρ p (took q ∷ l) = ap (tick (eqb p q)) (reads_worth w ρ p l)
reads_worth w ρ p (gave q s ∷ l) = reads_worth w ρ p l

pub writes_worth : (w : ℕ) (ρ : ℕ → ℕ) (p : ℕ) (l : List (Event Sum)) → writes p (map (event_worth w ρ) l) ≡ map (worth w ρ) (writes p l)
unfolding writes event_worth keep_if
writes_worth w ρ p [] = refl
writes_worth w ρ p (took q ∷ l) = writes_worth w ρ p l
writes_worth w ρ p (gave q s ∷ l) = by (eqb p q) (writes_worth w ρ p l)
  where
    by : (b : Bool) {m : List ℕ} → m ≡ map (worth w ρ) (writes p l) → keep_if b (worth w ρ s) m ≡ map (worth w ρ) (keep_if b s (writes p l))
    by true e = ap (λ (r : List ℕ). worth w ρ s ∷ r) e
    by false e = e

pub map_set : {A B : Type 0} (f : A → B) (l : List A) (i : ℕ) (a : A) → map f (set l i a) ≡ set (map f l) i (f a)
map_set f [] i a = refl
map_set f (x ∷ l) zero a = refl
map_set {B = B} f (x ∷ l) (suc i) a = ap (λ (r : List B). f x ∷ r) (map_set f l i a)

-- Where a run stands as a side of a path says, when the symbols have the values ρ and the path began with the log `before`.
pub record Matches (w : ℕ) (ρ : ℕ → ℕ) (before : List (Event ℕ)) (c : Config) (d : Side) : Type 0 where
  pub state : c.state ≡ d.state
  pub variables : c.variables ≡ map (worth w ρ) d.environment
  pub log : c.log ≡ before ++ map (event_worth w ρ) d.events

-- A condition is true where its test comes to the side taken.
unfoldable pub Holds : ℕ → (ℕ → ℕ) → Condition → Type 0
Holds w ρ c = holds w c.kind (worth w ρ c.left) (worth w ρ c.right) ≡ c.taken

unfoldable pub AllHold : ℕ → (ℕ → ℕ) → List Condition → Type 0
AllHold w ρ cs = (c : Condition) → Memᴰ c cs → Holds w ρ c

-- The symbols have word values, and those of reads the words that the input ports deliver from here on.
pub record Values (w : ℕ) (ρ : ℕ → ℕ) (input : Input) (before : List (Event ℕ)) : Type 0 where
  pub words : (x : ℕ) → ρ x < 2 ^ w
  pub delivered : (p k : ℕ) → p < 4 → k < 16 → ρ (read_symbol p k) ≡ input p (reads p before + k)

-- A run takes a path's choices: no stop before its end, and at each state the side chosen.
unfoldable pub Takes : ℕ → Input → Table → List Bool → Config → Type 0
Takes w input t [] c = Unit {0}
Takes w input t (b ∷ bs) c =
    (is_stop (t c.state) ≡ false) × (side_at w c.variables (t c.state) ≡ b) × Takes w input t bs (next w input t c)

pub room_facts : (p n : ℕ) → room_on p n ≡ true → (p < 4) × (n < 16)
unfolding room_on
room_facts p n e = (ltb-true p 4 (and_left (ltb p 4) _ e), ltb-true n 16 (and_right (ltb p 4) _ e))

lone : {A : Type 0} (l : List A) (a : A) → l ≡ a ∷ [] → Memᴰ a l
lone l a e = rw e (Memᴰ.head refl)

pub hold_append : (w : ℕ) (ρ : ℕ → ℕ) (l m : List Condition) → AllHold w ρ l → AllHold w ρ m → AllHold w ρ (l ++ m)
unfolding AllHold
hold_append w ρ l m h k = λ c i. ⊎_elim (h c) (k c) (Memᴰ.append_cases l i)

-- The run's next configuration where it takes a side.
pub next_taken : (w : ℕ) (input : Input) (t : Table) (c : Config) (b : Bool) → is_stop (t c.state) ≡ false → side_at w c.variables (t c.state) ≡ b → next w input t c ≡ fire w input (edge_on (t c.state) b) c
unfolding next
next_taken w input t c b s e = rw (s, e) refl

-- A state that allows a choice is no stop.
pub allows_goes : (x : State) (b : Bool) → allows x b ≡ true → is_stop x ≡ false
unfolding allows is_stop
allows_goes stop b e = clash e refl
allows_goes (step e') b e = refl
allows_goes (test k l r e' f') b e = refl

module _ (w : ℕ) (ρ : ℕ → ℕ) (input : Input) (before : List (Event ℕ)) (good : Values w ρ input before) where
  appended : (c : Config) (d : Side) (x : Event Sum) → Matches w ρ before c d → c.log ++ (event_worth w ρ x ∷ []) ≡ before ++ map (event_worth w ρ) (d.events ++ (x ∷ []))
  appended c d x m = rw (m.log, append_assoc, map-append) refl

  -- A read delivers the word that its symbol stands for.
  read_worth : (p : ℕ) (c : Config) (d : Side) → Matches w ρ before c d → p < 4 → reads p d.events < 16 → input p (reads p c.log) ≡ worth w ρ (symbol_sum (read_symbol p (reads p d.events)))
  read_worth p c d m h k =
      rw (m.log, reads_append, reads_worth, symbol_worth w ρ _ (good.words _)) (sym (good.delivered p _ h k))

  action_matches : (env : List Sum) (a : Action) (c : Config) (d d' : Side) → Matches w ρ before c d → follow_action w env a d ≡ fits d' → Matches w ρ before (act w input (map (worth w ρ) env) a c) d'
  unfolding act follow_action at side event_worth
  action_matches env (assign v e) c d d' m f =
      let (s, es, f') = and_then_fits (sum_of w env e) _ f in
      rw (← (fits_same f'))
      (record {
        state = m.state;
        variables = rw (m.variables, map_set, sum_of_worth w ρ env e s es) refl;
        log = m.log;
      })
  action_matches env (read p v) c d d' m f =
      let h = cond_fits (room_on p (reads p d.events)) _ f in
      let r = room_facts p (reads p d.events) h.0 in
      rw (← (fits_same h.1))
      (record {
        state = m.state;
        variables = rw (read_worth p c d m r.0 r.1, m.variables, map_set) refl;
        log = appended c d (took p) m;
      })
  action_matches env (write p e) c d d' m f =
      let (s, es, f') = and_then_fits (sum_of w env e) _ f in
      let h = cond_fits (room_on p (length (writes p d.events))) _ f' in
      rw (← (fits_same h.1))
      (record {
        state = m.state;
        variables = m.variables;
        log = rw (← (sum_of_worth w ρ env e s es)) (appended c d (gave p s) m);
      })

  actions_match : (env : List Sum) (as' : List Action) (c : Config) (d d' : Side) → Matches w ρ before c d → follow_actions w env as' d ≡ fits d' → Matches w ρ before (act_all w input (map (worth w ρ) env) as' c) d'
  unfolding act_all follow_actions
  actions_match env [] c d d' m f = rw (← (fits_same f)) m
  actions_match env (a ∷ rest) c d d' m f =
      let (x, ex, f') = and_then_fits (follow_action w env a d) _ f in
      actions_match env rest _ x d' (action_matches env a c d x m ex) f'

  -- An edge fired and an edge followed keep in step.
  pub edge_matches : (e : Edge) (c : Config) (d d' : Side) → Matches w ρ before c d → follow_edge w e d ≡ fits d' → Matches w ρ before (fire w input e c) d'
  unfolding fire follow_edge at side
  edge_matches e c d d' m f =
      let (x, ex, f') = and_then_fits (follow_actions w d.environment e.actions d) _ f in
      let n = actions_match d.environment e.actions c d x m ex in
      let q = ap (λ (vs : List ℕ). act_all w input vs e.actions c) m.variables in
      rw (← (fits_same f'))
      (record {
        state = refl;
        variables = ap (λ (r : Config). r.variables) q ∙ n.variables;
        log = ap (λ (r : Config). r.log) q ∙ n.log;
      })

  -- What a test asks: true on the side that is taken, and only there.

  asked_test : (k : Kind) (l r : Expr) (e f : Edge) (b : Bool) (d : Side) (cs : List Condition) → asked w (test k l r e f) b d ≡ fits cs → (c : Condition) × (cs ≡ c ∷ []) × (c.taken ≡ b) × (holds w c.kind (worth w ρ c.left) (worth w ρ c.right) ≡ side_at w (map (worth w ρ) d.environment) (test k l r e f))
  unfolding asked side_at
  asked_test k l r e f b d cs h =
      let (s, es, h₁) = and_then_fits (sum_of w d.environment l) _ h in
      let (s', es', h₂) = and_then_fits (sum_of w d.environment r) _ h₁ in (
        record { kind = k; left = s; right = s'; taken = b },
        sym (fits_same h₂),
        refl,
        rw (sum_of_worth w ρ d.environment l s es, sum_of_worth w ρ d.environment r s' es') refl,
      )

  asked_holds : (x : State) (b : Bool) (d : Side) (cs : List Condition) → asked w x b d ≡ fits cs → side_at w (map (worth w ρ) d.environment) x ≡ b → AllHold w ρ cs
  unfolding asked AllHold Holds
  asked_holds stop b d cs f e = λ c m. absurd (Memᴰ.not-nil (rw (← (fits_same f)) at m))
  asked_holds (step e') b d cs f e = λ c m. absurd (Memᴰ.not-nil (rw (← (fits_same f)) at m))
  asked_holds (test k l r e' f') b d cs f e =
      let (c₀, q, v, z) = asked_test k l r e' f' b d cs f in
      λ c m.
      let y : c ≡ c₀ = Memᴰ.eq_of_singleton (rw q at m) in
      rw y (z ∙ e ∙ sym v)

  asked_taken : (x : State) (b : Bool) (d : Side) (cs : List Condition) → asked w x b d ≡ fits cs → allows x b ≡ true → AllHold w ρ cs → side_at w (map (worth w ρ) d.environment) x ≡ b
  unfolding asked side_at allows AllHold Holds
  asked_taken stop b d cs f a h = clash a refl
  asked_taken (step e') true d cs f a h = clash a refl
  asked_taken (step e') false d cs f a h = refl
  asked_taken (test k l r e' f') b d cs f a h =
      let (c₀, q, v, z) = asked_test k l r e' f' b d cs f in
      sym z ∙ h c₀ (lone cs c₀ q) ∙ v

  -- Following keeps the conditions that were there.

  action_keeps : (env : List Sum) (a : Action) (d d' : Side) → follow_action w env a d ≡ fits d' → d'.conditions ≡ d.conditions
  unfolding follow_action side
  action_keeps env (assign v e) d d' f =
      let (s, es, f') = and_then_fits (sum_of w env e) _ f in
      rw (← (fits_same f')) refl
  action_keeps env (read p v) d d' f = rw (← (fits_same (cond_fits (room_on p (reads p d.events)) _ f).1)) refl
  action_keeps env (write p e) d d' f =
      let (s, es, f') = and_then_fits (sum_of w env e) _ f in
      rw (← (fits_same (cond_fits (room_on p (length (writes p d.events))) _ f').1)) refl

  actions_keep : (env : List Sum) (as' : List Action) (d d' : Side) → follow_actions w env as' d ≡ fits d' → d'.conditions ≡ d.conditions
  unfolding follow_actions
  actions_keep env [] d d' f = rw (← (fits_same f)) refl
  actions_keep env (a ∷ rest) d d' f =
      let (x, ex, f') = and_then_fits (follow_action w env a d) _ f in
      actions_keep env rest x d' f' ∙ action_keeps env a d x ex

  edge_keeps : (e : Edge) (d d' : Side) → follow_edge w e d ≡ fits d' → d'.conditions ≡ d.conditions
  unfolding follow_edge side
  edge_keeps e d d' f =
      let (x, ex, f') = and_then_fits (follow_actions w d.environment e.actions d) _ f in
      rw (← (fits_same f')) (actions_keep d.environment e.actions d x ex)

  -- One choice of a path, followed: what was asked, and the side behind the edge.
  pub record Chosen (t : Table) (b : Bool) (bs : List Bool) (d d' : Side) : Type 0 where
    pub conditions : List Condition
    pub between : Side
    pub asks : asked w (t d.state) b d ≡ fits conditions
    pub keeps : between.conditions ≡ d.conditions ++ conditions
    pub edge : follow_edge w (edge_on (t d.state) b) (side d.state d.environment (d.conditions ++ conditions) d.events) ≡ fits between
    pub rest : follow w t bs between ≡ fits d'

  chosen : (t : Table) (b : Bool) (bs : List Bool) (d d' : Side) → follow w t (b ∷ bs) d ≡ fits d' → Chosen t b bs d d'
  unfolding follow side
  chosen t b bs d d' f =
      let (cs, ec, f₁) = and_then_fits (asked w (t d.state) b d) _ f in
      let (x, ex, f₂) = and_then_fits (follow_edge w (edge_on (t d.state) b) (side d.state d.environment (d.conditions ++ cs) d.events)) _ f₁ in
      record {
        conditions = cs;
        between = x;
        asks = ec;
        keeps = edge_keeps (edge_on (t d.state) b) _ x ex;
        edge = ex;
        rest = f₂;
      }

  edge_state : (e : Edge) (d d' : Side) → follow_edge w e d ≡ fits d' → d'.state ≡ e.target
  unfolding follow_edge side
  edge_state e d d' f =
      let (x, ex, f') = and_then_fits (follow_actions w d.environment e.actions d) _ f in
      rw (← (fits_same f')) refl

  -- A followed path ends in the state that its choices lead to.
  pub follow_end : (t : Table) (bs : List Bool) (d d' : Side) → follow w t bs d ≡ fits d' → d'.state ≡ end_state t d.state bs
  unfolding follow end_state
  follow_end t [] d d' f = rw (← (fits_same f)) refl
  follow_end t (b ∷ bs) d d' f =
      let h = chosen t b bs d d' f in
      follow_end t bs h.between d' h.rest
      ∙ ap (λ (s : ℕ). end_state t s bs) (edge_state (edge_on (t d.state) b) _ h.between h.edge)

  -- What holds at the end held on the way.
  follow_held : (t : Table) (bs : List Bool) (d d' : Side) → follow w t bs d ≡ fits d' → AllHold w ρ d'.conditions → AllHold w ρ d.conditions
  unfolding follow AllHold
  follow_held t [] d d' f h = rw (fits_same f) h
  follow_held t (b ∷ bs) d d' f h =
      let k = chosen t b bs d d' f in
      let i = follow_held t bs k.between d' k.rest h in
      λ c m. i c (rw k.keeps (Memᴰ.append_left k.conditions m))

  asked_held : (t : Table) (b : Bool) (bs : List Bool) (d d' : Side) (k : Chosen t b bs d d') → AllHold w ρ d'.conditions → AllHold w ρ k.conditions
  unfolding AllHold
  asked_held t b bs d d' k h =
      let i = follow_held t bs k.between d' k.rest h in
      λ c m. i c (rw k.keeps (Memᴰ.append_right d.conditions m))

  -- A run that takes a choice stands behind its edge as the side there says.
  step_matches : (t : Table) (b : Bool) (bs : List Bool) (c : Config) (d d' : Side) (k : Chosen t b bs d d') → Matches w ρ before c d → is_stop (t c.state) ≡ false → side_at w c.variables (t c.state) ≡ b → Matches w ρ before (next w input t c) k.between
  unfolding side
  step_matches t b bs c d d' k m s e =
      rw (next_taken w input t c b s e)
      (edge_matches
      (edge_on (t c.state) b)
      c
      (side d.state d.environment (d.conditions ++ k.conditions) d.events)
      k.between
      (record { state = m.state; variables = m.variables; log = m.log })
      (rw m.state k.edge))

  -- A run that takes the path has its conditions true, and its variables, reads and writes as the sums say.
  pub follow_taken : (t : Table) (bs : List Bool) (c : Config) (d d' : Side) → Matches w ρ before c d → follow w t bs d ≡ fits d' → AllHold w ρ d.conditions → Takes w input t bs c → Matches w ρ before (after w input t (length bs) c) d' × AllHold w ρ d'.conditions
  unfolding follow Takes after
  follow_taken t [] c d d' m f h k = rw (← (fits_same f)) (m, h)
  follow_taken t (b ∷ bs) c d d' m f h k =
      let x = chosen t b bs d d' f in
      let side_taken : side_at w (map (worth w ρ) d.environment) (t d.state) ≡ b = rw (← m.variables, ← m.state) k.1 in
      let asked-true = asked_holds (t d.state) b d x.conditions x.asks side_taken in
      follow_taken
      t
      bs
      (next w input t c)
      x.between
      d'
      (step_matches t b bs c d d' x m k.0 k.1)
      x.rest
      (rw x.keeps (hold_append w ρ d.conditions x.conditions h asked-true))
      k.2

  -- Where the conditions are true, the run takes the path.
  pub follow_true : (t : Table) (bs : List Bool) (c : Config) (d d' : Side) → Matches w ρ before c d → walkable t d.state bs ≡ true → follow w t bs d ≡ fits d' → AllHold w ρ d'.conditions → Takes w input t bs c
  unfolding follow Takes walkable
  follow_true t [] c d d' m v f h = tt
  follow_true t (b ∷ bs) c d d' m v f h =
      let x = chosen t b bs d d' f in
      let a : allows (t d.state) b ≡ true = and_left (allows (t d.state) b) _ v in
      let goes : is_stop (t c.state) ≡ false = rw m.state (allows_goes (t d.state) b a) in
      let on : side_at w c.variables (t c.state) ≡ b =
      rw (m.variables, m.state)
      (asked_taken (t d.state) b d x.conditions x.asks a (asked_held t b bs d d' x h)) in
      let here : x.between.state ≡ (edge_on (t d.state) b).target =
      edge_state (edge_on (t d.state) b) _ x.between x.edge in (
        goes,
        on,
        follow_true
            t
            bs
            (next w input t c)
            x.between
            d'
            (step_matches t b bs c d d' x m goes on)
            (rw here (and_right (allows (t d.state) b) _ v))
            x.rest
            h,
      )
