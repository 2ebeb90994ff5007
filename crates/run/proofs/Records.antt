-- The records of a table in which nothing is found: what they keep to, and the edge by which a state is left. Assumes nothing.
use Prim.Native.Nat.{ℕ, zero, suc, ◌+◌, ◌*◌, ◌<◌}
use mathlib.Core.Path.{◌≡◌, refl, ◌∙◌, ap}
use mathlib.Core.Bool.{Bool, true, false, cond}
use mathlib.Core.List.{List}
use native.Mathlib.Omega.{arith}
use lib.ListN.{length}
use Rattle.model.proofs.Basics.{then_first, check_facts}
use Rattle.std.specs.Prelude.{Option, Some, None}
use Rattle.model.specs.Answer.{sound, word}
use Rattle.model.specs.Word.{base}
use Rattle.model.specs.Table.{header_rules, codes, codes_at, states, edges, actions, code_area, edge_at, action_at, table_of, table_fault}
use Rattle.model.specs.Run.{is_stop, side_at, edge_on}
use Rattle.table.specs.Checks.{state_record, edge_record, action_record}
use Rattle.table.specs.Decoded.{state_by, state_as, state_meant, edge_taken, action_by, action_as, action_meant}
use Rattle.table.specs.declared.StateRecord.{StateRecord}
use Rattle.table.specs.declared.EdgeRecord.{EdgeRecord}
use Rattle.table.specs.declared.ActionRecord.{ActionRecord}
use Rattle.table.specs.declared.decoded.State.{State}
use Rattle.table.specs.declared.decoded.State.TheVariants.{Stop, Step, Test}
use Rattle.table.specs.declared.decoded.Action.{Action}
use Rattle.table.proofs.Decoding.{SoundState, SoundAction, sound_state, sound_edge, sound_action, edge_is, actions_begin, action_meant_lem}
use Rattle.word.specs.declared.Kind.{Kind}
use Rattle.run.specs.Held.{edge_of}
use Rattle.run.specs.Sound.{StateFits, ActionFits, EdgeFits, Leaves, test_of}

-- What a state's and an action's fields keep to, by its kind.

state_by_fits : (image : List ℕ) (k : ℕ) (r : StateRecord)
    → SoundState image (record { kind = k; left = r.left; right = r.right; on_true = r.on_true; on_false = r.on_false })
    → StateFits (edges image) (code_area image) (state_by k r)
unfolding state_by StateFits
state_by_fits image zero r own = tt
state_by_fits image (suc zero) r own = own.taken (omega arith)
state_by_fits image (suc (suc k)) r own =
    (own.taken (omega arith), own.other (omega arith), own.left (omega arith), own.right (omega arith))

action_by_fits : (image : List ℕ) (k : ℕ) (r : ActionRecord) → SoundAction image (record { kind = k; a = r.a; b = r.b })
    → ActionFits (code_area image) (action_by k r)
unfolding action_by ActionFits
action_by_fits image zero r own = (own.assigned refl, own.parsed (λ z. absurd (omega arith)))
action_by_fits image (suc zero) r own = (own.port (omega arith), own.read refl)
action_by_fits image (suc (suc k)) r own = (own.port (omega arith), own.parsed (λ z. absurd (omega arith)))

module _ (image code : List ℕ) (passed : table_fault image ≡ sound) (area : code ≡ code_area image) (i : ℕ) where
  pub state_fits : {r : StateRecord} {s : State} → r ≡ state_record image i → s ≡ state_as r → i < states image
      → StateFits (edges image) code s
  unfolding state_as
  state_fits {r} e p h = rw (p, area) (state_by_fits image r.kind r (sound_state image passed i e h))

  module _ {at : ℕ} {e : EdgeRecord} (begins : at ≡ word image 5) (read : e ≡ edge_record image at i) where
    here : e ≡ edge_record image (word image 5) i
    here = read ∙ ap (λ a. edge_record image a i) begins

    pub edge_fits : i < edges image → EdgeFits image e
    edge_fits h = let s = sound_edge image passed i here h in record { target = s.target; count = s.count; range = s.range }

    pub edge_meant : edge_at image i ≡ edge_of image e
    edge_meant = edge_is image passed i here

  module _ {at : ℕ} {r : ActionRecord} {a : Action} (begins : at ≡ word image 7) (read : r ≡ action_record image at i) (which : a ≡ action_as r) where
    pub action_fits : i < actions image → ActionFits code a
    unfolding action_as
    action_fits h =
        rw (which, area)
        (action_by_fits image r.kind r (sound_action image passed i (read ∙ ap (λ b. action_record image b i) begins) h))

    pub action_meant_here : action_at image i ≡ action_meant code a
    action_meant_here = rw area (action_meant_lem image i (begins ∙ actions_begin image passed) read which)

-- The expressions of a test are read; what is no test has no side.

pub test_fits : (n : ℕ) (code : List ℕ) {s : State} {k : Kind} {l r t f : ℕ} → s ≡ Test k l r t f → StateFits n code s → StateFits n code (Test k l r t f)
test_fits n code e h = rw e at h

pub no_test : (code vs : List ℕ) (s : State) → ((k : Kind) (l r t f : ℕ) → s ≡ Test k l r t f → ⊥) → false ≡ test_of code vs s
unfolding test_of
no_test code vs Stop h = refl
no_test code vs (Step e) h = refl
no_test code vs (Test k l r t f) h = absurd (h k l r t f refl)

-- The edge that was found, on the side that was found.
pub taken_is : {o : Option ℕ} (s : State) {b b' : Bool} {p : Option ℕ} → o ≡ edge_taken s b → b ≡ b' → o ≡ p → edge_taken s b' ≡ p
taken_is s e k q = cc

-- The edge by which a state is left.

cond_edge : (image : List ℕ) (b : Bool) (t f : ℕ) → cond b (edge_at image t) (edge_at image f) ≡ edge_at image (cond b t f)
cond_edge image true t f = refl
cond_edge image false t f = refl

cond_below : (b : Bool) (t f n : ℕ) → t < n → f < n → cond b t f < n
cond_below true t f n h k = h
cond_below false t f n h k = k

some_same : {m j : ℕ} → Some m ≡ Some j → m ≡ j
some_same e = cc

pub no_edge : (image vs code : List ℕ) (s : State) → edge_taken s (test_of code vs s) ≡ None → is_stop (state_meant image s) ≡ true
unfolding edge_taken state_meant is_stop
no_edge image vs code Stop e = refl
no_edge image vs code (Step j) e = absurd (let z : ◌≡◌ {A = ℕ} 0 1 = cc in omega arith)
no_edge image vs code (Test k l r t f) e = absurd (let z : ◌≡◌ {A = ℕ} 0 1 = cc in omega arith)

module _ (image vs : List ℕ) (j : ℕ) where
  pub edge_inside : (code : List ℕ) (s : State) → StateFits (edges image) code s → edge_taken s (test_of code vs s) ≡ Some j → j < edges image
  unfolding edge_taken StateFits
  edge_inside code Stop h e = absurd (let z : ◌≡◌ {A = ℕ} 0 1 = cc in omega arith)
  edge_inside code (Step m) h e = rw (← some_same e) h
  edge_inside code (Test k l r t f) h e =
      rw (← some_same e) (cond_below (test_of code vs (Test k l r t f)) t f (edges image) h.0 h.1)

  pub edge_goes : (code : List ℕ) (s : State) → edge_taken s (test_of code vs s) ≡ Some j → is_stop (state_meant image s) ≡ false
  unfolding edge_taken state_meant is_stop
  edge_goes code Stop e = absurd (let z : ◌≡◌ {A = ℕ} 0 1 = cc in omega arith)
  edge_goes code (Step m) e = refl
  edge_goes code (Test k l r t f) e = refl

  named_edge : (s : State) → edge_taken s (test_of (code_area image) vs s) ≡ Some j
      → edge_on (state_meant image s) (side_at base vs (state_meant image s)) ≡ edge_at image j
  unfolding edge_taken state_meant edge_on side_at test_of
  named_edge Stop e = absurd (let z : ◌≡◌ {A = ℕ} 0 1 = cc in omega arith)
  named_edge (Step m) e = ap (edge_at image) (some_same e)
  named_edge (Test k l r t f) e = cond_edge image _ t f ∙ ap (edge_at image) (some_same e)

  pub leaves : (i : ℕ) (code : List ℕ) (s : State) (e : EdgeRecord) → code ≡ code_area image → table_of image i ≡ state_meant image s
      → edge_taken s (test_of code vs s) ≡ Some j → edge_at image j ≡ edge_of image e → EdgeFits image e → Leaves image i vs e
  leaves i code s e area meant taken read fits =
      let here : edge_taken s (test_of (code_area image) vs s) ≡ Some j = rw area at taken in
      record {
        goes = rw meant (edge_goes code s taken);
        edge = rw meant (named_edge s here ∙ read);
        fits = fits;
      }

-- An action's three words are in the image.
pub action_within : (image : List ℕ) → table_fault image ≡ sound → (i : ℕ) {at : ℕ} → at ≡ word image 7 → i < actions image → at + 3 * i + 2 < length image
unfolding table_fault header_rules codes_at
action_within image passed i begins h =
    let facts = check_facts _ _ (header_rules image) (then_first _ _ passed) in
    let long : length image ≡ codes_at image + codes image = facts.1.1.1.1.1.1.1.1.1.1.1.0 in
    omega (arith, begins, actions_begin image passed)
