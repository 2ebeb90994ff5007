-- Along the choices of a path: what is left of them makes of the side reached what all make of the side at the start. In a table in
-- which nothing is found, records hold the model's states, edges and actions, and keep to their ranges. Assumes nothing.
use Prim.Native.Nat.{ℕ, zero, suc, ◌+◌, ◌-◌, ◌/◌, ◌%◌, ◌≤◌, ◌<◌, ◌^◌}
use mathlib.Core.Path.{◌≡◌, refl, sym, ◌∙◌, ap}
use mathlib.Core.Bool.{Bool, true, false, cond}
use mathlib.Core.List.{List, [], ◌∷◌, map}
use native.Mathlib.Nat.{div-div-eq-div-mul, pow-suc}
use native.Mathlib.Numerals.{add-one}
use native.Mathlib.Omega.{arith}
use lib.Dec.{eqb}
use lib.ListN.{length, length-append}
use Rattle.model.specs.Answer.{sound, up_to, word}
use Rattle.model.specs.Expr.{read_at, is_parsed, tree_of}
use Rattle.model.specs.Table.{Edge, states, edges, code_area, edge_at, table_of, table_fault}
use Rattle.model.specs.Table as Model
use Rattle.model.specs.Run.{edge_on}
use Rattle.model.specs.Sum.{Outcome, too_large, fits}
use Rattle.model.specs.Path.{choices, room_on}
use Rattle.model.proofs.CheckedTable.{checked_reset}
use Rattle.word.specs.declared.Kind.{Kind}
use Rattle.word.specs.declared.Kind.TheVariants.{Equal, SignedLess, UnsignedLess}
use Rattle.word.specs.Kinds.{kind_of, kind_as}
use Rattle.sum.specs.declared.Term.{Term}
use Rattle.sum.specs.declared.Sum.{Sum}
use Rattle.env.specs.declared.Env.{Env}
use Rattle.table.specs.declared.StateRecord.{StateRecord}
use Rattle.table.specs.declared.EdgeRecord.{EdgeRecord}
use Rattle.table.specs.declared.ActionRecord.{ActionRecord}
use Rattle.table.specs.declared.decoded.State.{State}
use Rattle.table.specs.declared.decoded.State.TheVariants.{Stop, Step, Test}
use Rattle.table.specs.Checks.{state_record, edge_record, action_record}
use Rattle.table.specs.Decoded.{state_by, state_as, edge_taken, state_meant, action_by, action_as}
use Rattle.table.proofs.Decoding.{state_meant_lem, action_meant_lem, actions_begin, sound_state, sound_edge, sound_action, edge_is, counts}
use Rattle.condition.specs.Conditions.{with_condition, conditions_of}
use Rattle.side.specs.declared.Side.{Side}
use Rattle.side.specs.Parts.{count_on, wrote_on, at_state, with_asked, with_sum_of, with_read, with_given}
use Rattle.side.specs.Following.{Reached, whole, stuck, after_sum, after, formed_on, action_k, actions_k, asked_k, follow_k, asked_in, edge_of, edge_by, actions_in, Parsed, Formed, AllParsed}

-- What is whole was whole part by part.

whole_same : {A : Type 0} {a b : A} → whole a ≡ whole b → a ≡ b
whole_same {A} {a} e = ap held e
  where
    held : Reached A → A
    held (whole x) = x
    held (stuck x) = a

sum_whole : {A : Type 0} (o : Outcome (List Term)) (a : A) (k : Sum → Reached A) {x : A} → after_sum o a k ≡ whole x → (s : Sum) × (k s ≡ whole x)
unfolding after_sum
sum_whole too_large a k e = absurd (let z : ◌≡◌ {A = ℕ} 0 1 = cc in omega arith)
sum_whole (fits l) a k e = (_, e)

after_whole : {A : Type 0} (o : Reached A) (k : A → Reached A) {x : A} → after o k ≡ whole x → (a : A) × (o ≡ whole a) × (k a ≡ whole x)
unfolding after
after_whole (stuck a) k e = absurd (let z : ◌≡◌ {A = ℕ} 0 1 = cc in omega arith)
after_whole (whole a) k e = (a, refl, e)

if_whole : {A : Type 0} (b : Bool) (a c : A) {x : A} → cond b (whole a) (stuck c) ≡ whole x → a ≡ x
if_whole true a c e = whole_same e
if_whole false a c e = absurd (let z : ◌≡◌ {A = ℕ} 0 1 = cc in omega arith)

-- Actions keep the conditions.

action_keeps : (before : Env) (a : Model.Action) (d : Side) {g : Side} → action_k before a d ≡ whole g → d.conditions ≡ g.conditions
unfolding action_k with_sum_of with_read with_given
action_keeps before (Model.assign v e) d h =
    let (s, k) = sum_whole (formed_on before e) d _ h in
    ap (λ (x : Side). x.conditions) (whole_same k)
action_keeps before (Model.read p v) d h = ap (λ (x : Side). x.conditions) (if_whole (room_on p (count_on d.reads p)) _ _ h)
action_keeps before (Model.write p e) d h =
    let (s, k) = sum_whole (formed_on before e) d _ h in
    ap (λ (x : Side). x.conditions) (if_whole (room_on p (wrote_on d.writes p)) _ _ k)

actions_keep : (before : Env) (l : List Model.Action) (d : Side) {g : Side} → actions_k before l d ≡ whole g → d.conditions ≡ g.conditions
unfolding actions_k
actions_keep before [] d h = ap (λ (x : Side). x.conditions) (whole_same h)
actions_keep before (a ∷ l) d h =
    let (c, e, k) = after_whole (action_k before a d) (actions_k before l) h in
    action_keeps before a d e ∙ actions_keep before l c k

-- A state adds one condition at most.
asked_count : (code : List ℕ) (s : State) (b : Bool) (d : Side) {c : Side} → asked_in code s b d ≡ whole c → length (conditions_of c.conditions) ≤ length (conditions_of d.conditions) + 1
unfolding asked_in with_asked with_condition
asked_count code Stop b d e =
    let n = ap (λ (x : Side). length (conditions_of x.conditions)) (whole_same e) in
    omega (arith, n)
asked_count code (Step j) b d e =
    let n = ap (λ (x : Side). length (conditions_of x.conditions)) (whole_same e) in
    omega (arith, n)
asked_count code (Test k l r t f) b d e =
    let (s, p) = sum_whole (formed_on d.env (tree_of (read_at code l))) d _ e in
    let (u, q) = sum_whole (formed_on d.env (tree_of (read_at code r))) d _ p in
    let n = ap (λ (x : Side). length (conditions_of x.conditions)) (whole_same q) in
    omega (arith, n, length-append (conditions_of d.conditions) (record { kind = k; left = s; right = u; taken = b } ∷ []))

-- The condition of a state is what the model asks of it.

kind_same : (k : Kind) → kind_as (kind_of k) ≡ k
unfolding kind_as kind_of
kind_same Equal = refl
kind_same SignedLess = refl
kind_same UnsignedLess = refl

asked_meant : (image : List ℕ) (s : State) (b : Bool) (d : Side) → asked_k (state_meant image s) b d ≡ asked_in (code_area image) s b d
unfolding asked_k state_meant asked_in
asked_meant image Stop b d = refl
asked_meant image (Step e) b d = refl
asked_meant image (Test k l r t f) b d = rw (kind_same k) refl

-- The edge of a state, by its record.

map_same : {A B : Type 0} (f g : A → B) → ((a : A) → f a ≡ g a) → (l : List A) → map f l ≡ map g l
map_same f g h [] = refl
map_same f g h (a ∷ l) = λ i. h a i ∷ map_same f g h l i

-- The edge that a record holds.
unfoldable edge_in : List ℕ → EdgeRecord → Edge
edge_in image r = record { target = r.target; actions = actions_in image (code_area image) (word image 7) r.first r.count }

-- An edge leads to a state of the table, its actions have numbers that are words, and their expressions are whole.
record Reach (image : List ℕ) (e : EdgeRecord) : Type 0 where
  target : e.target < states image
  range : e.first + e.count < 2 ^ 32
  formed : AllParsed image (code_area image) (word image 7) e.first e.count

-- The choices from choice k on, as a number.
abbrev from_choice : ℕ → ℕ → ℕ
from_choice x k = x / 2 ^ k

one_further : (x k : ℕ) → from_choice x k / 2 ≡ from_choice x (k + 1)
one_further x k = div-div-eq-div-mul x (2 ^ k) 2 ∙ ap (λ m. x / m) (sym (pow-suc 2 k)) ∙ ap (λ m. x / 2 ^ m) (sym (add-one k))

-- The side reached before choice k.
pub record Following (image : List ℕ) (start : Side) (n x : ℕ) (d : Side) (k : ℕ) : Type 0 where
  pub within : d.state < states image
  pub short : length (conditions_of d.conditions) + (n - k) ≤ 32
  pub same : follow_k (table_of image) (choices (n - k) (from_choice x k)) d ≡ follow_k (table_of image) (choices n x) start

module _ (image : List ℕ) (passed : table_fault image ≡ sound) where
  -- An edge of the table is the one that its record holds.
  edge_held : (j : ℕ) → edge_at image j ≡ edge_in image (edge_record image (word image 5) j)
  unfolding edge_in actions_in
  edge_held j =
      let r = edge_record image (word image 5) j in
      edge_is image passed j refl
      ∙ (λ i.
      record {
        target = r.target;
        actions = map_same _ _ (λ a. action_meant_lem image a (actions_begin image passed) refl refl) (up_to r.first r.count) i;
      })

  edge_meant : (s : State) (b : Bool) → edge_on (state_meant image s) b ≡ edge_in image (edge_by image (word image 5) s b)
  unfolding edge_on state_meant edge_by edge_of edge_taken edge_in actions_in up_to
  edge_meant Stop b = refl
  edge_meant (Step e) b = edge_held e
  edge_meant (Test k l r t f) true = edge_held t
  edge_meant (Test k l r t f) false = edge_held f

  parsed_by : (code : List ℕ) (k : ℕ) (r : ActionRecord) → ((k ≡ 1 → ⊥) → is_parsed (read_at code r.b) ≡ true) → Parsed code (action_by k r)
  unfolding Parsed action_by
  parsed_by code zero r h = h (λ e. absurd (omega arith))
  parsed_by code (suc zero) r h = tt
  parsed_by code (suc (suc k)) r h = h (λ e. absurd (omega arith))

  edge_reach : (j : ℕ) → j < edges image → Reach image (edge_record image (word image 5) j)
  unfolding action_as
  edge_reach j h =
      let s = sound_edge image passed j refl h in
      let n = counts image passed in
      record {
        target = s.target;
        range = omega (arith, s.range, n.1.1);
        formed = λ k low high. parsed_by (code_area image) _ (action_record image (word image 7) k) (sound_action image passed k refl (omega (arith, s.range))).parsed;
      }

  reach_by : (k : ℕ) (r : StateRecord) (b : Bool) → (1 ≤ k → r.on_true < edges image) → (2 ≤ k → r.on_false < edges image)
      → Reach image (edge_by image (word image 5) (state_by k r) b)
  unfolding edge_by edge_of edge_taken state_by
  reach_by zero r b p q = record { target = checked_reset image passed; range = omega arith; formed = λ k low high. absurd (omega arith) }
  reach_by (suc zero) r b p q = edge_reach r.on_true (p (omega arith))
  reach_by (suc (suc k)) r true p q = edge_reach r.on_true (p (omega arith))
  reach_by (suc (suc k)) r false p q = edge_reach r.on_false (q (omega arith))

  formed_by : (code : List ℕ) (k : ℕ) (r : StateRecord) → (2 ≤ k → is_parsed (read_at code r.left) ≡ true) → (2 ≤ k → is_parsed (read_at code r.right) ≡ true)
      → Formed code (state_by k r)
  unfolding Formed state_by
  formed_by code zero r p q = tt
  formed_by code (suc zero) r p q = tt
  formed_by code (suc (suc k)) r p q = (p (omega arith), q (omega arith))

  one : (x : ℕ) → from_choice x 0 ≡ x
  one x = omega arith

  pub follow_start : (n x : ℕ) {start d : Side} → d ≡ start → start.state < states image → length (conditions_of start.conditions) ≡ 0 → n ≤ 32 → Following image start n x d 0
  follow_start n x {start} e w z k =
      let m : n - 0 ≡ n = omega arith in
      rw e (record { within = w; short = omega (arith, z); same = λ i. follow_k (table_of image) (choices (m i) (one x i)) start })

  -- The side d is reached before choice k.
  module _ (start : Side) (n x : ℕ) (d : Side) (k : ℕ) (v : Following image start n x d k) where
    -- The choices that are left.
    abbrev rest : ℕ
    rest = from_choice x k

    -- Nothing is left to choose.
    pub follow_end : n ≤ k → whole d ≡ follow_k (table_of image) (choices n x) start
    unfolding follow_k choices
    follow_end h =
        let e : 0 ≡ n - k = omega arith in
        ap (λ m. follow_k (table_of image) (choices m rest) d) e ∙ v.same

    module _ (more : k < n) {r : StateRecord} {s : State} {code : List ℕ} (er : r ≡ state_record image d.state) (es : s ≡ state_as r) (ec : code ≡ code_area image) where
      -- One choice more.
      b : Bool
      b = eqb (rest % 2) 1

      e : Edge
      e = edge_on (table_of image d.state) b

      turn : follow_k (table_of image) (choices (n - k) rest) d
          ≡ after (asked_k (table_of image d.state) b d)
          (λ c. after (actions_k c.env e.actions c) (λ g. follow_k (table_of image) (choices (n - (k + 1)) (from_choice x (k + 1))) (at_state e.target g)))
      unfolding follow_k choices b e
      turn =
          let m : n - k ≡ suc (n - (k + 1)) = omega arith in
          ap (λ m. follow_k (table_of image) (choices m rest) d) m
          ∙ ap
          (λ y. after (asked_k (table_of image d.state) (eqb (rest % 2) 1) d)
          (λ c. after (actions_k c.env (edge_on (table_of image d.state) (eqb (rest % 2) 1)).actions c)
          (λ g. follow_k (table_of image) (choices (n - (k + 1)) y) (at_state (edge_on (table_of image d.state) (eqb (rest % 2) 1)).target g))))
          (one_further x k)

      -- There is room for a condition, and the expressions of the state are whole.
      pub ask_fits : (length (conditions_of d.conditions) < 32) × Formed code s
      unfolding state_as
      ask_fits =
          let f = sound_state image passed _ er v.within in
          (omega (arith, v.short), rw (ec, es) (formed_by (code_area image) r.kind r f.left f.right))

      asked_is : asked_k (table_of image d.state) b d ≡ asked_in code s b d
      asked_is =
          ap (λ t. asked_k t b d) (state_meant_lem image d.state er es)
          ∙ asked_meant image s b d
          ∙ ap (λ w. asked_in w s b d) (sym ec)

      pub follow_asked : {c : Side} → stuck c ≡ asked_in code s (eqb (rest % 2) 1) d → stuck c ≡ follow_k (table_of image) (choices n x) start
      unfolding after b
      follow_asked f = sym (sym v.same ∙ turn ∙ rw (asked_is ∙ sym f) refl)

      module _ {y w : ℕ} {a : EdgeRecord} (ey : y ≡ word image 5) (ew : w ≡ word image 7) (ea : a ≡ edge_by image y s (eqb (rest % 2) 1)) where
        reached : Reach image a
        unfolding state_as
        reached =
            let f = sound_state image passed _ er v.within in
            rw (ea, ey, es) (reach_by r.kind r (eqb (rest % 2) 1) f.taken f.other)

        -- The actions of the edge have numbers that are words, and whole expressions.
        pub act_fits : (a.first + a.count < 2 ^ 32) × AllParsed image code w a.first a.count
        act_fits = (reached.range, rw (ec, ew) reached.formed)

        module _ {c : Side} (fine : whole c ≡ asked_in code s (eqb (rest % 2) 1) d) where
          edge_held_is : e ≡ edge_in image a
          unfolding e b
          edge_held_is =
              ap (λ t. edge_on t (eqb (rest % 2) 1)) (state_meant_lem image d.state er es)
              ∙ edge_meant s (eqb (rest % 2) 1)
              ∙ ap (edge_in image) (ap (λ j. edge_by image j s (eqb (rest % 2) 1)) (sym ey) ∙ sym ea)

          moved_is : actions_k c.env e.actions c ≡ actions_k c.env (actions_in image code w a.first a.count) c
          unfolding edge_in
          moved_is =
              ap (λ (m : Edge). actions_k c.env m.actions c) edge_held_is
              ∙ (λ i. actions_k c.env (actions_in image (sym ec i) (sym ew i) a.first a.count) c)

          asked_fine : asked_k (table_of image d.state) b d ≡ whole c
          unfolding b
          asked_fine = asked_is ∙ sym fine

          pub follow_moved : {g : Side} → stuck g ≡ actions_k c.env (actions_in image code w a.first a.count) c
              → stuck g ≡ follow_k (table_of image) (choices n x) start
          unfolding after
          follow_moved f = sym (sym v.same ∙ turn ∙ rw (asked_fine, moved_is ∙ sym f) refl)

          pub follow_step : {g : Side} → whole g ≡ actions_k c.env (actions_in image code w a.first a.count) c
              → Following image start n x (at_state a.target g) (k + 1)
          unfolding after edge_in at_state
          follow_step {g} f =
              let p = asked_count code s (eqb (rest % 2) 1) d (sym fine) in
              let q = ap (λ (z : _). length (conditions_of z)) (actions_keep c.env _ c (sym f)) in
              record {
                within = reached.target;
                short = omega (arith, v.short, p, q);
                same = sym (sym v.same ∙ turn ∙ rw (asked_fine, moved_is ∙ sym f) (ap (λ (m : Edge). follow_k (table_of image) (choices (n - (k + 1)) (from_choice x (k + 1))) (at_state m.target g)) edge_held_is));
              }
