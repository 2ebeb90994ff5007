-- The fields of records are what the decoding of an image says: of a state, of an edge and of an action; and what a table in which
-- nothing is found has in its header and in each record. 01, "The table image": "the areas follow it without gaps", "Edge, 3 words:
-- target state, first action, action count". Assumes nothing.
use Prim.Native.Nat.{ℕ, zero, suc, ◌+◌, ◌-◌, ◌*◌, ◌≤◌, ◌<◌}
use mathlib.Core.Path.{◌≡◌, refl, sym, ◌∙◌, ap}
use mathlib.Core.Bool.{Bool, true, false, cond}
use mathlib.Core.List.{List, map}
use native.Mathlib.Omega.{arith}
use Rattle.model.specs.Answer.{sound, broken, wrong_expression, first_of, word, up_to}
use Rattle.model.specs.Expr.{is_parsed, read_at}
use Rattle.model.specs.Table.{Edge, states, edges, actions, edges_at, actions_at, code_area, header_rules, start_fault, state_rules, state_starts, state_fault, state_of, table_of, edge_word, edge_at, edge_fault, action_rules, action_starts, action_fault, action_word, action_of, action_at, variables_set, distinct, table_fault}
use Rattle.model.specs.Run.{is_stop}
use Rattle.model.proofs.Basics.{then_first, then_second, Facts, check_facts}
use Rattle.model.proofs.CheckedTable.{state_sound, action_sound, edge_sound}
use Rattle.table.specs.Checks.{state_record, edge_record, action_record}
use Rattle.model.specs.Word.{Kind, equal, signed_less, unsigned_less}
use Rattle.model.specs.Table as Model
use Rattle.word.specs.Kinds.{kind_of, kind_as}
use Rattle.table.specs.Decoded.{state_by, state_as, state_meant, action_by, action_as, action_meant}
use Rattle.table.specs.declared.StateRecord.{StateRecord}
use Rattle.table.specs.declared.decoded.State.{State}
use Rattle.table.specs.declared.decoded.Action.{Action}
use Rattle.table.specs.declared.EdgeRecord.{EdgeRecord}
use Rattle.table.specs.declared.ActionRecord.{ActionRecord}

-- A record's first word.
pub first_word : (image : List ℕ) (at : ℕ) → word image at ≡ word image (at + 0)
first_word image at = let z : at + 0 ≡ at = omega arith in rw z

-- A kind of 2 or more.
pub from_two : (k : ℕ) → 2 ≤ k → k ≡ suc (suc (k - 2))
from_two k h = omega arith

-- A state.

pub state_decoded : (image : List ℕ) (i : ℕ) {r : StateRecord} → r ≡ state_record image i
    → table_of image i ≡ state_of image r.kind r.left r.right r.on_true r.on_false
unfolding table_of state_record
state_decoded image i e = sym (ap (λ r. state_of image r.kind r.left r.right r.on_true r.on_false) e)

-- Whether a state is a stop, by its kind.

kind_stop : (image : List ℕ) (k l r t f : ℕ) → k ≡ 0 → is_stop (state_of image k l r t f) ≡ true
unfolding state_of is_stop
kind_stop image k l r t f z = rw z

kind_goes : (image : List ℕ) (k l r t f : ℕ) → (k ≡ 0 → ⊥) → is_stop (state_of image k l r t f) ≡ false
unfolding state_of is_stop
kind_goes image zero l r t f z = absurd (z refl)
kind_goes image (suc zero) l r t f z = refl
kind_goes image (suc (suc k)) l r t f z = refl

module _ (image : List ℕ) (i : ℕ) {r : StateRecord} (read : r ≡ state_record image i) where
  pub state_stops : r.kind ≡ 0 → is_stop (table_of image i) ≡ true
  state_stops z = ap is_stop (state_decoded image i read) ∙ kind_stop image _ _ _ _ _ z

  pub state_goes : (r.kind ≡ 0 → ⊥) → is_stop (table_of image i) ≡ false
  state_goes z = ap is_stop (state_decoded image i read) ∙ kind_goes image _ _ _ _ _ z

-- An edge and an action, read from where their area begins.

-- The edge that a record's fields say.
abbrev pub edge_read : List ℕ → EdgeRecord → Edge
edge_read image r = record { target = r.target; actions = map (action_at image) (up_to r.first r.count) }

-- An edge's record by its first word and its others, and an action's.

abbrev edge_words : List ℕ → ℕ → ℕ → EdgeRecord
edge_words image i x = record { target = x; first = edge_word image i 1; count = edge_word image i 2 }

abbrev action_words : List ℕ → ℕ → ℕ → ActionRecord
action_words image i x = record { kind = x; a = action_word image i 1; b = action_word image i 2 }

module _ (image : List ℕ) (i : ℕ) {at : ℕ} where
  pub edge_words_lem : {r : EdgeRecord} → at ≡ edges_at image → r ≡ edge_record image at i → r ≡ edge_words image i (edge_word image i 0)
  unfolding edge_record edge_word
  edge_words_lem p e = e ∙ (λ j. edge_record image (p j) i) ∙ ap (edge_words image i) (first_word image (edges_at image + 3 * i))

  pub action_words_lem : {r : ActionRecord} → at ≡ actions_at image → r ≡ action_record image at i → r ≡ action_words image i (action_word image i 0)
  unfolding action_record action_word
  action_words_lem p e = e ∙ (λ j. action_record image (p j) i) ∙ ap (action_words image i) (first_word image (actions_at image + 3 * i))

  pub edge_decoded : {r : EdgeRecord} → at ≡ edges_at image → r ≡ edge_record image at i → edge_at image i ≡ edge_read image r
  unfolding edge_at
  edge_decoded p e = sym (ap (edge_read image) (edge_words_lem p e))

  pub action_decoded : {r : ActionRecord} → at ≡ actions_at image → r ≡ action_record image at i
      → action_at image i ≡ action_of (code_area image) r.kind r.a r.b
  unfolding action_at
  action_decoded p e =
      sym (ap (λ r. action_of (code_area image) r.kind r.a r.b) (action_words_lem p e))

-- What the fields of a state, an edge and an action keep to, where nothing is found in an image.

pub record SoundState (image : List ℕ) (r : StateRecord) : Type 0 where
  pub kind : r.kind ≤ 4
  pub taken : 1 ≤ r.kind → r.on_true < edges image
  pub other : 2 ≤ r.kind → r.on_false < edges image
  pub left : 2 ≤ r.kind → is_parsed (read_at (code_area image) r.left) ≡ true
  pub right : 2 ≤ r.kind → is_parsed (read_at (code_area image) r.right) ≡ true

pub record SoundEdge (image : List ℕ) (r : EdgeRecord) : Type 0 where
  pub target : r.target < states image
  pub count : r.count ≤ 16
  pub range : r.first + r.count ≤ actions image
  pub once : distinct (variables_set (map (action_at image) (up_to r.first r.count))) ≡ true

pub record SoundAction (image : List ℕ) (r : ActionRecord) : Type 0 where
  pub kind : r.kind ≤ 2
  pub assigned : r.kind ≡ 0 → r.a < 16
  pub port : 1 ≤ r.kind → r.a < 4
  pub read : r.kind ≡ 1 → r.b < 16
  pub parsed : (r.kind ≡ 1 → ⊥) → is_parsed (read_at (code_area image) r.b) ≡ true

-- From the rules that are kept and the expressions that are read.

parsed_if : (b : Bool) (start : ℕ) → cond b sound (broken wrong_expression start) ≡ sound → b ≡ true
parsed_if true start e = refl
parsed_if false start e = absurd (let z : ◌≡◌ {A = ℕ} 0 1 = cc in omega arith)

is_parsed_lem : (code : List ℕ) (start : ℕ) → start_fault code start ≡ sound → is_parsed (read_at code start) ≡ true
unfolding start_fault
is_parsed_lem code start e = parsed_if (is_parsed (read_at code start)) start e

state_kept : (image : List ℕ) (k l r t f : ℕ) → Facts (state_rules (edges image) k l r t f) → first_of (start_fault (code_area image)) (state_starts k l r) ≡ sound
    → SoundState image (record { kind = k; left = l; right = r; on_true = t; on_false = f })
unfolding state_rules state_starts first_of
state_kept image zero l r t f h e =
    record { kind = omega arith; taken = λ u. absurd (omega arith); other = λ u. absurd (omega arith); left = λ u. absurd (omega arith); right = λ u. absurd (omega arith) }
state_kept image (suc zero) l r t f h e =
    record { kind = omega arith; taken = λ u. h.1.1.0; other = λ u. absurd (omega arith); left = λ u. absurd (omega arith); right = λ u. absurd (omega arith) }
state_kept image (suc (suc k)) l r t f h e =
    record {
      kind = omega (arith, h.0);
      taken = λ u. h.1.0;
      other = λ u. h.1.1.0;
      left = λ u. is_parsed_lem (code_area image) l (then_first _ _ e);
      right = λ u. is_parsed_lem (code_area image) r (then_first _ _ (then_second _ _ e));
    }

action_kept : (image : List ℕ) (k a b : ℕ) → Facts (action_rules k a b) → first_of (start_fault (code_area image)) (action_starts k b) ≡ sound
    → SoundAction image (record { kind = k; a = a; b = b })
unfolding action_rules action_starts first_of
action_kept image zero a b h e =
    record {
      kind = omega arith;
      assigned = λ u. omega (arith, h.0);
      port = λ u. absurd (omega arith);
      read = λ u. absurd (omega arith);
      parsed = λ u. is_parsed_lem (code_area image) b (then_first _ _ e);
    }
action_kept image (suc zero) a b h e =
    record {
      kind = omega arith;
      assigned = λ u. absurd (omega arith);
      port = λ u. omega (arith, h.0);
      read = λ u. omega (arith, h.1.0);
      parsed = λ u. absurd (u refl);
    }
action_kept image (suc (suc k)) a b h e =
    record {
      kind = omega (arith, h.0);
      assigned = λ u. absurd (omega arith);
      port = λ u. omega (arith, h.1.0);
      read = λ u. absurd (omega arith);
      parsed = λ u. is_parsed_lem (code_area image) b (then_first _ _ e);
    }

-- A header that keeps to its rules says where the edges and the actions begin.

module _ (image : List ℕ) (header : Facts (header_rules image)) where
  pub edges_from : word image 5 ≡ edges_at image
  unfolding header_rules
  edges_from = header.1.1.1.1.1.1.0

  pub actions_from : word image 7 ≡ actions_at image
  unfolding header_rules
  actions_from = header.1.1.1.1.1.1.1.1.0

-- A table in which nothing is found: the header's words 5 and 7 are where the edges and the actions begin, and each record is as the
-- decoding says and keeps to its rules.

module _ (image : List ℕ) (passed : table_fault image ≡ sound) where
  header_facts : Facts (header_rules image)
  unfolding table_fault
  header_facts = check_facts _ _ (header_rules image) (then_first _ _ passed)

  pub edges_begin : word image 5 ≡ edges_at image
  edges_begin = edges_from image header_facts

  pub actions_begin : word image 7 ≡ actions_at image
  actions_begin = actions_from image header_facts

  -- The counts: at most 64 states, 128 edges and 512 actions.
  pub counts : (states image ≤ 64) × ((edges image ≤ 128) × (actions image ≤ 512))
  unfolding header_rules
  counts = (header_facts.1.1.1.0, (header_facts.1.1.1.1.1.0, header_facts.1.1.1.1.1.1.1.0))

  module _ (i : ℕ) where
    pub sound_state : {r : StateRecord} → r ≡ state_record image i → i < states image → SoundState image r
    unfolding state_record state_fault
    sound_state e h =
        let s = state_sound image passed i h in
        rw e (state_kept image _ _ _ _ _ (check_facts _ _ _ (then_first _ _ s)) (then_second _ _ s))

    pub sound_edge : {r : EdgeRecord} → r ≡ edge_record image (word image 5) i → i < edges image → SoundEdge image r
    unfolding edge_fault edge_at
    sound_edge e h =
        let s = edge_sound image passed i h in
        let facts = check_facts _ _ _ (then_first _ _ s) in
        rw (edge_words_lem image i edges_begin e)
        (record { target = facts.0; count = facts.1.0; range = facts.1.1.0; once = (check_facts _ _ _ (then_second _ _ s)).0 })

    pub sound_action : {r : ActionRecord} → r ≡ action_record image (word image 7) i → i < actions image → SoundAction image r
    unfolding action_fault
    sound_action e h =
        let s = action_sound image passed i h in
        rw (action_words_lem image i actions_begin e)
        (action_kept image _ _ _ (check_facts _ _ _ (then_first _ _ s)) (then_second _ _ s))

    pub edge_is : {r : EdgeRecord} → r ≡ edge_record image (word image 5) i → edge_at image i ≡ edge_read image r
    edge_is e = edge_decoded image i edges_begin e

    pub action_is : {r : ActionRecord} → r ≡ action_record image (word image 7) i
        → action_at image i ≡ action_of (code_area image) r.kind r.a r.b
    action_is e = action_decoded image i actions_begin e

-- A record's state and action stand for what the model decodes.

kind_back : (q : Kind) → kind_of (kind_as q) ≡ q
unfolding kind_of kind_as
kind_back equal = refl
kind_back signed_less = refl
kind_back unsigned_less = refl

meant_by : (image : List ℕ) (k : ℕ) (r : StateRecord) → state_meant image (state_by k r) ≡ state_of image k r.left r.right r.on_true r.on_false
unfolding state_meant state_by state_of
meant_by image zero r = refl
meant_by image (suc zero) r = refl
meant_by image (suc (suc k)) r = rw (kind_back (Model.kind_of k)) refl

pub state_meant_lem : (image : List ℕ) (i : ℕ) {r : StateRecord} {s : State} → r ≡ state_record image i → s ≡ state_as r
    → table_of image i ≡ state_meant image s
unfolding state_as
state_meant_lem image i {r} e p = state_decoded image i e ∙ sym (ap (state_meant image) p ∙ meant_by image r.kind r)

action_meant_by : (code : List ℕ) (k : ℕ) (r : ActionRecord) → action_meant code (action_by k r) ≡ action_of code k r.a r.b
unfolding action_meant action_by action_of
action_meant_by code zero r = refl
action_meant_by code (suc zero) r = refl
action_meant_by code (suc (suc k)) r = refl

pub action_meant_lem : (image : List ℕ) (i : ℕ) {at : ℕ} {r : ActionRecord} {a : Action} → at ≡ actions_at image → r ≡ action_record image at i
    → a ≡ action_as r → action_at image i ≡ action_meant (code_area image) a
unfolding action_as
action_meant_lem image i {at} {r} q e p = action_decoded image i q e ∙ sym (ap (action_meant (code_area image)) p ∙ action_meant_by (code_area image) r.kind r)
