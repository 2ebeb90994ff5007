-- What the check of each kind of record answers: where the code area is, what an expression's start, a state, an action and an edge
-- give, each from what was read and tested. Assumes nothing.
use Prim.Native.Nat.{ℕ, zero, suc, ◌+◌, ◌-◌, ◌*◌, ◌≤◌, ◌<◌}
use mathlib.Core.Path.{◌≡◌, refl, sym, ◌∙◌, ap}
use mathlib.Core.Logic.{◌⊎◌, inl, inr}
use mathlib.Core.Bool.{Bool, true, false}
use mathlib.Core.List.{List, [], ◌∷◌, map}
use native.Mathlib.Omega.{arith}
use lib.ListN.{length, take, drop, drop_of_length-le, length-drop}
use lib.Seq.{take_all, take-nil}
use Rattle.model.specs.Answer.{Fault, sound, ◌then◌, first_of, up_to, le, lt, so, all_kept, check, word, wrong_state, wrong_action, wrong_edge, wrong_table}
use Rattle.model.specs.Expr.{Reading, malformed, parsed, is_parsed}
use Rattle.model.specs.Table.{states, edges, actions, edges_at, actions_at, code_area, start_fault, state_rules, state_starts, state_fault, action_rules, action_starts, action_fault, action_at, edge_at, edge_fault, variables_set, distinct, header_rules, table_fault}
use Rattle.expr.proofs.Reading.{from, from_drop, length_from}
use Rattle.std.specs.Prelude.{Option, is_some, Ok, Err}
use Rattle.expr.specs.Answers.{extent_of}
use Rattle.fault.specs.Fault.{fault_at, checked_of}
use Rattle.fault.specs.declared.Fault as declared
use Rattle.fault.proofs.Rules.{Checked, refused, passed, first_broken, first_sound, facts_kept, then_sound, so_kept}
use Rattle.table.specs.Checks.{edge_rules, state_record, edge_record, action_record}
use Rattle.word.specs.declared.Kind.{Kind}
use Rattle.table.specs.Decoded.{state_by, state_as, action_by, action_as}
use Rattle.table.specs.declared.decoded.State.{State}
use Rattle.table.specs.declared.decoded.State.TheVariants.{Stop, Step, Test}
use Rattle.table.specs.declared.decoded.Action.{Action}
use Rattle.table.specs.declared.decoded.Action.TheVariants.{Assign, Read, Write}
use Rattle.table.specs.declared.StateRecord.{StateRecord}
use Rattle.table.specs.declared.EdgeRecord.{EdgeRecord}
use Rattle.table.specs.declared.ActionRecord.{ActionRecord}
use Rattle.table.proofs.Decoding.{edges_from, actions_from, edge_words_lem, action_words_lem}

-- Where an area ends, from what was read.

pub sums : {a b x y : ℕ} → x ≡ a → y ≡ b → x + 3 * y ≡ a + 3 * b
sums p q = cc

-- The code area.

pub area_outside : (l : List ℕ) {n at a w : ℕ} → a ≡ at → w ≡ n → length l ≤ a → [] ≡ take n (drop at l)
area_outside l {n} {at} p q h =
    let k : length l ≤ at = omega arith in
    sym (ap (take n) (drop_of_length-le l k) ∙ take-nil n)

pub area_inside : (l : List ℕ) {n at a w : ℕ} → a ≡ at → w ≡ n → take w (from a l) ≡ take n (drop at l)
area_inside l {n} {at} {a} {w} p q = ap (take w) (from_drop a l) ∙ (λ i. take (q i) (drop (p i) l))

pub area_short : (l : List ℕ) {n at a w : ℕ} → a ≡ at → w ≡ n → length (from a l) < w → from a l ≡ take n (drop at l)
area_short l {n} {at} {a} {w} p q h =
    let g : length l - a < w = rw length_from at h in
    let k : length (drop at l) ≤ n = simp length-drop (omega arith) in
    from_drop a l ∙ ap (λ i. drop i l) p ∙ sym (take_all n (drop at l) k)

-- An expression by its start.

pub parsed_extent : (p : Reading) {r : Option ℕ} → r ≡ extent_of p → is_some r ≡ is_parsed p
unfolding is_parsed extent_of
parsed_extent malformed e = rw e refl
parsed_extent (parsed x n) e = rw e refl

-- States.

-- The starts of the expressions that a state has: a test's two.
abbrev pub starts_of : State → List ℕ
starts_of Stop = []
starts_of (Step e) = []
starts_of (Test k l r t f) = l ∷ r ∷ []

starts_by : (k : ℕ) (r : StateRecord) → starts_of (state_by k r) ≡ state_starts k r.left r.right
unfolding state_starts state_by
starts_by zero r = refl
starts_by (suc zero) r = refl
starts_by (suc (suc k)) r = refl

no_starts : (s : State) → ((k : Kind) (l r t f : ℕ) → s ≡ Test k l r t f → ⊥) → starts_of s ≡ []
no_starts Stop h = refl
no_starts (Step e) h = refl
no_starts (Test k l r t f) h = absurd (h k l r t f refl)

-- What is found in a state, by its fields, where there are so many edges.
abbrev pub StateFound : ℕ → List ℕ → ℕ → StateRecord → Fault
StateFound i code e r =
    check wrong_state i (state_rules e r.kind r.left r.right r.on_true r.on_false)
    then first_of (start_fault code) (state_starts r.kind r.left r.right)

pub state_found : (image : List ℕ) (i : ℕ) {code : List ℕ} {e : ℕ} {r : StateRecord} → code ≡ code_area image → e ≡ word image 4
    → r ≡ state_record image i → StateFound i code e r ≡ state_fault image i
unfolding state_fault state_record edges
state_found image i q p s = λ j. StateFound i (q j) (p j) (s j)

module _ (i : ℕ) (code : List ℕ) (e : ℕ) (r : StateRecord) {b : Bool} {g : Fault}
    (own : b ≡ all_kept (state_rules e r.kind r.left r.right r.on_true r.on_false)) (found : StateFound i code e r ≡ g) where
  pub state_refused : b ≡ false → Err (fault_at wrong_state i) ≡ checked_of g
  state_refused h = refused wrong_state i _ (first_of (start_fault code) (state_starts r.kind r.left r.right)) own h ∙ ap checked_of found

  module _ {s : State} (held : s ≡ state_as r) (h : b ≡ true) where
    state_passed : first_of (start_fault code) (starts_of s) ≡ g
    unfolding state_as
    state_passed =
        ap (first_of (start_fault code)) (ap starts_of held ∙ starts_by r.kind r)
        ∙ sym (passed wrong_state i _ (first_of (start_fault code) (state_starts r.kind r.left r.right)) own h)
        ∙ found

    pub state_plain : ((k : Kind) (l r t f : ℕ) → s ≡ Test k l r t f → ⊥) → Ok tt ≡ checked_of g
    unfolding checked_of first_of
    state_plain n = ap checked_of (sym (ap (first_of (start_fault code)) (no_starts s n)) ∙ state_passed)

    module _ {k : Kind} {l x t f : ℕ} (test : s ≡ Test k l x t f) where
      -- A test's findings.
      state_test : (start_fault code l then start_fault code x) ≡ g
      unfolding first_of
      state_test =
          ap (λ f. start_fault code l then f) (sym (then_sound (start_fault code x)))
          ∙ sym (ap (λ s. first_of (start_fault code) (starts_of s)) test)
          ∙ state_passed

      pub state_left : {y : declared.Fault} {c : Checked} → c ≡ checked_of (start_fault code l) → c ≡ Err y → Err y ≡ checked_of g
      state_left p q = first_broken (start_fault code l) (start_fault code x) p q ∙ ap checked_of state_test

      pub state_right : {c d : Checked} → c ≡ checked_of (start_fault code l) → c ≡ Ok tt → d ≡ checked_of (start_fault code x) → d ≡ checked_of g
      state_right p q d = d ∙ ap checked_of (sym (first_sound (start_fault code l) (start_fault code x) p q) ∙ state_test)

-- Actions.

-- The starts of the expressions that an action has: an assign's and a write's one.
abbrev pub starts_in : Action → List ℕ
starts_in (Assign v e) = e ∷ []
starts_in (Read p v) = []
starts_in (Write p e) = e ∷ []

pub has_start : {a : Action} {e : ℕ} → ((x : ℕ) × (a ≡ Assign x e)) ⊎ ((x : ℕ) × (a ≡ Write x e)) → starts_in a ≡ (e ∷ [])
has_start (inl p) = ap starts_in p.1
has_start (inr p) = ap starts_in p.1

starts_in_by : (k : ℕ) (r : ActionRecord) → starts_in (action_by k r) ≡ action_starts k r.b
unfolding action_starts action_by
starts_in_by zero r = refl
starts_in_by (suc zero) r = refl
starts_in_by (suc (suc k)) r = refl

-- What is found in an action, by its fields.
abbrev pub ActionFound : ℕ → List ℕ → ActionRecord → Fault
ActionFound i code r =
    check wrong_action i (action_rules r.kind r.a r.b) then first_of (start_fault code) (action_starts r.kind r.b)

pub action_found : (image : List ℕ) (i : ℕ) {code : List ℕ} {at : ℕ} {r : ActionRecord} → code ≡ code_area image → at ≡ actions_at image
    → r ≡ action_record image at i → ActionFound i code r ≡ action_fault image i
unfolding action_fault
action_found image i q p s = λ j. ActionFound i (q j) (action_words_lem image i p s j)

module _ (i : ℕ) (code : List ℕ) (r : ActionRecord) {b : Bool} {g : Fault} (own : b ≡ all_kept (action_rules r.kind r.a r.b))
    (found : ActionFound i code r ≡ g) where
  pub action_refused : b ≡ false → Err (fault_at wrong_action i) ≡ checked_of g
  action_refused h = refused wrong_action i _ (first_of (start_fault code) (action_starts r.kind r.b)) own h ∙ ap checked_of found

  module _ {a : Action} (held : a ≡ action_as r) (h : b ≡ true) where
    action_passed : first_of (start_fault code) (starts_in a) ≡ g
    unfolding action_as
    action_passed =
        ap (first_of (start_fault code)) (ap starts_in held ∙ starts_in_by r.kind r)
        ∙ sym (passed wrong_action i _ (first_of (start_fault code) (action_starts r.kind r.b)) own h)
        ∙ found

    pub action_plain : starts_in a ≡ [] → Ok tt ≡ checked_of g
    unfolding checked_of first_of
    action_plain n = ap checked_of (sym (ap (first_of (start_fault code)) n) ∙ action_passed)

    pub action_value : {e : ℕ} {c : Checked} → starts_in a ≡ (e ∷ []) → c ≡ checked_of (start_fault code e) → c ≡ checked_of g
    unfolding first_of
    action_value {e} n p =
        p ∙ ap checked_of (sym (then_sound (start_fault code e)) ∙ sym (ap (first_of (start_fault code)) n) ∙ action_passed)

-- Edges.

pub edge_range : (s a t f n : ℕ) {b : Bool} → b ≡ all_kept (edge_rules s a t f n) → b ≡ true → f + n ≤ a
unfolding edge_rules
edge_range s a t f n e h = (facts_kept (lt t s ∷ le n 16 ∷ le (f + n) a ∷ []) e h).1.1.0

-- Whether n actions from action f on set no variable twice.
abbrev pub once_in : List ℕ → ℕ → ℕ → Bool
once_in image f n = distinct (variables_set (map (action_at image) (up_to f n)))

-- What is found in an edge, by its fields, where there are so many states and actions.
abbrev pub EdgeFound : List ℕ → ℕ → ℕ → ℕ → EdgeRecord → Fault
EdgeFound image i s a r =
    check wrong_edge i (edge_rules s a r.target r.first r.count)
    then check wrong_edge i (so (once_in image r.first r.count) ∷ [])

pub edge_found : (image : List ℕ) (i : ℕ) {s a at : ℕ} {r : EdgeRecord} → s ≡ word image 2 → a ≡ word image 6 → at ≡ edges_at image
    → r ≡ edge_record image at i → EdgeFound image i s a r ≡ edge_fault image i
unfolding edge_fault edge_rules edge_at states actions
edge_found image i ps pa p e = λ j. EdgeFound image i (ps j) (pa j) (edge_words_lem image i p e j)

module _ (image : List ℕ) (i s a : ℕ) (r : EdgeRecord) {b : Bool} {g : Fault} (own : b ≡ all_kept (edge_rules s a r.target r.first r.count))
    (found : EdgeFound image i s a r ≡ g) where
  pub edge_refused : b ≡ false → Err (fault_at wrong_edge i) ≡ checked_of g
  edge_refused h = refused wrong_edge i _ (check wrong_edge i (so (once_in image r.first r.count) ∷ [])) own h ∙ ap checked_of found

  edge_passed : b ≡ true → (check wrong_edge i (so (once_in image r.first r.count) ∷ []) then sound) ≡ g
  edge_passed h =
      then_sound (check wrong_edge i (so (once_in image r.first r.count) ∷ []))
      ∙ sym (passed wrong_edge i _ (check wrong_edge i (so (once_in image r.first r.count) ∷ [])) own h)
      ∙ found

  pub edge_twice : {c : Bool} → b ≡ true → c ≡ once_in image r.first r.count → c ≡ false → Err (fault_at wrong_edge i) ≡ checked_of g
  edge_twice h e k = refused wrong_edge i _ sound (e ∙ so_kept (once_in image r.first r.count)) k ∙ ap checked_of (edge_passed h)

  pub edge_once : {c : Bool} → b ≡ true → c ≡ once_in image r.first r.count → c ≡ true → Ok tt ≡ checked_of g
  unfolding checked_of
  edge_once h e k =
      ap checked_of (sym (passed wrong_edge i _ sound (e ∙ so_kept (once_in image r.first r.count)) k) ∙ edge_passed h)

-- The image.

-- What is found along the three areas, by how many records each has.
abbrev pub areas_fault : List ℕ → ℕ → ℕ → ℕ → Fault
areas_fault image s a e =
    first_of (state_fault image) (up_to 0 s)
    then first_of (action_fault image) (up_to 0 a)
    then first_of (edge_fault image) (up_to 0 e)

module _ (image : List ℕ) {b : Bool} (header : b ≡ all_kept (header_rules image)) where
  pub header_refused : b ≡ false → Err (fault_at wrong_table 0) ≡ checked_of (table_fault image)
  unfolding table_fault
  header_refused h = refused wrong_table 0 (header_rules image) _ header h

  -- What is found in the image is what is found along its areas, with the counts as they were read.
  pub areas : {s a e : ℕ} → b ≡ true → s ≡ word image 2 → a ≡ word image 6 → e ≡ word image 4 → table_fault image ≡ areas_fault image s a e
  unfolding table_fault states actions edges
  areas h ps pa pe =
      passed wrong_table 0 (header_rules image) (areas_fault image (word image 2) (word image 6) (word image 4)) header h
      ∙ sym (λ j. areas_fault image (ps j) (pa j) (pe j))

-- The areas are where a right header says.
module _ (image : List ℕ) (h : all_kept (header_rules image) ≡ true) where
  pub edges_here : {at : ℕ} → at ≡ word image 5 → at ≡ edges_at image
  edges_here p = p ∙ edges_from image (facts_kept (header_rules image) refl h)

  pub actions_here : {at : ℕ} → at ≡ word image 7 → at ≡ actions_at image
  actions_here p = p ∙ actions_from image (facts_kept (header_rules image) refl h)
