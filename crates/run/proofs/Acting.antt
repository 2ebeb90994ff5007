-- One action on what the engine holds, and along the actions of an edge. Assumes nothing.
use Prim.Native.Nat.{ℕ, ◌+◌, ◌*◌, ◌≤◌, ◌<◌}
use mathlib.Core.Path.{◌≡◌, refl, sym, ◌∙◌, ap}
use mathlib.Core.List.{List, [], ◌∷◌}
use native.Mathlib.Omega.{arith}
use lib.ListN.{length, get_or, set, drop, length-set}
use lib.Seq.{get_or-set_same, get_or-set_other}
use Rattle.model.specs.Word.{base}
use Rattle.model.specs.Expr.{value, read_at, tree_of}
use Rattle.model.specs.Table as Model
use Rattle.model.specs.Table.{assign, read, write, action_at}
use Rattle.table.specs.Decoded.{action_meant}
use Rattle.table.specs.declared.EdgeRecord.{EdgeRecord}
use Rattle.table.specs.declared.decoded.Action.{Action}
use Rattle.table.specs.declared.decoded.Action.TheVariants.{Assign, Read, Write}
use Rattle.run.specs.declared.hand.Hand.{Hand}
use Rattle.run.specs.Held.{per_port, Held, held, left_from, held_by, held_of, act_h, act_all_h, writes_of, writes_in, actions_of}
use Rattle.run.specs.Sound.{ActionFits}
use Rattle.run.proofs.Ports.{port_get, port_set}
use Rattle.run.proofs.Input.{Found}
use Rattle.run.proofs.Spending.{acts, acts_cons, acts_none}

-- The value of the expression at a start.
abbrev pub Worth : List ℕ → List ℕ → ℕ → ℕ → Type 0
Worth vs code start x = x ≡ value base vs (tree_of (read_at code start))

-- What an action's fields keep to.
pub act_fits : (code : List ℕ) {a b : Action} → a ≡ b → ActionFits code a → ActionFits code b
act_fits code e h = rw e at h

module _ (code input before vs next : List ℕ) (n : ℕ) (out : List ℕ) {a : Action} where
  -- An assign.
  pub assigned : {v e x : ℕ} → a ≡ Assign v e → Worth before code e x
      → held_by input (set vs v x) next n out ≡ act_h base before (action_meant code a) (held_by input vs next n out)
  unfolding held_by held act_h action_meant
  assigned e w = rw (e, ← w) refl

  -- A read.
  pub taken_in : {p v x : ℕ} (m : ℕ) → a ≡ Read p v → p < 4 → length next ≡ 4 → Found input p (get_or next p 0) x m
      → held_by input (set vs v x) (set next p m) n out ≡ act_h base before (action_meant code a) (held_by input vs next n out)
  unfolding held_by held act_h action_meant
  taken_in {p} {v} {x} m e port four f =
      let mine : ℕ → List ℕ = λ q. left_from input q (get_or next q 0) in
      let then : ℕ → List ℕ = λ q. left_from input q (get_or (set next p m) q 0) in
      let get : get_or (per_port mine) p [] ≡ mine p = port_get mine [] p port in
      let own : then p ≡ drop 1 (mine p) = ap (left_from input p) (get_or-set_same next p m 0 (omega arith)) ∙ f.next in
      let all : set (per_port mine) p (then p) ≡ per_port then = port_set mine then p port (λ q d. ap (left_from input q) (sym (get_or-set_other next p q m 0 d))) in
      rw (e, get, ← own, all, ← f.word) refl

  -- A write.
  pub put_out : {p e x : ℕ} → a ≡ Write p e → Worth before code e x
      → held_by input vs next (n + 2) (set (set out n p) (n + 1) x) ≡ act_h base before (action_meant code a) (held_by input vs next n out)
  unfolding held_by held act_h action_meant
  put_out e w = rw (e, ← w) refl

-- A write has room for its couple.
pub put_room : (code : List ℕ) {a : Action} {p e : ℕ} (n m : ℕ) → a ≡ Write p e → n + 2 * writes_of (action_meant code a) ≤ m → n + 2 ≤ m
unfolding writes_of action_meant
put_room code n m e h = rw e at h

-- The place behind the words written, and the buffer's length, after an action.

written_act : (before : List ℕ) (a : Model.Action) (h : Held) → (act_h base before a h).written ≡ h.written + 2 * writes_of a
unfolding act_h held writes_of
written_act before (assign v e) h = omega arith
written_act before (read p v) h = omega arith
written_act before (write p e) h = refl

buffer_act : (before : List ℕ) (a : Model.Action) (h : Held) → length (act_h base before a h).buffer ≡ length h.buffer
unfolding act_h held
buffer_act before (assign v e) h = refl
buffer_act before (read p v) h = refl
buffer_act before (write p e) h =
    length-set (set h.buffer h.written p) (h.written + 1) (value base before e) ∙ length-set h.buffer h.written p

-- Along the actions of an edge, at action i: what they do from here on is what all of them do, and there is room for it.
pub record Performing (image input before : List ℕ) (start : Hand) (begun : List ℕ) (e : EdgeRecord) (h : Hand) (out : List ℕ) (i : ℕ) : Type 0 where
  pub room : h.written + 2 * writes_in (acts image i (e.first + e.count)) ≤ length out
  pub rest : act_all_h base before (acts image i (e.first + e.count)) (held_of input h out)
      ≡ act_all_h base before (actions_of image e) (held_of input start begun)

module _ {image input before : List ℕ} {start : Hand} {begun : List ℕ} {e : EdgeRecord} {h : Hand} {out : List ℕ} {i : ℕ} (s : Performing image input before start begun e h out i) where
  module _ (more : i < e.first + e.count) {a : Model.Action} (is : action_at image i ≡ a) where
    -- The actions from i on are action i and those behind it.
    split : acts image i (e.first + e.count) ≡ a ∷ acts image (i + 1) (e.first + e.count)
    split = rw (← is) (acts_cons image i (e.first + e.count) more)

    room_all : h.written + (2 * writes_of a + 2 * writes_in (acts image (i + 1) (e.first + e.count))) ≤ length out
    unfolding writes_in
    room_all =
        let all : h.written + 2 * writes_in (a ∷ acts image (i + 1) (e.first + e.count)) ≤ length out = rw split at s.room in
        omega arith

    pub perform_room : h.written + 2 * writes_of a ≤ length out
    perform_room = omega (arith, room_all)

    pub perform_step : (h' : Hand) (out' : List ℕ) → held_of input h' out' ≡ act_h base before a (held_of input h out)
        → Performing image input before start begun e h' out' (i + 1)
    unfolding act_all_h held_by held
    perform_step h' out' same =
        let further : h'.written ≡ h.written + 2 * writes_of a = ap (λ z. z.written) same ∙ written_act before a (held_of input h out) in
        let kept : length out' ≡ length out = ap (λ z. length z.buffer) same ∙ buffer_act before a (held_of input h out) in
        record {
          room = omega (arith, room_all);
          rest =
              ap (act_all_h base before (acts image (i + 1) (e.first + e.count))) same
              ∙ sym (ap (λ l. act_all_h base before l (held_of input h out)) split)
              ∙ s.rest;
        }

  pub perform_end : e.first + e.count ≤ i
      → held_of input h out ≡ act_all_h base before (actions_of image e) (held_of input start begun)
  unfolding act_all_h
  perform_end m =
      sym (ap (λ l. act_all_h base before l (held_of input h out)) (acts_none image i (e.first + e.count) m)) ∙ s.rest

-- The same after all actions.

pub written_all : (before : List ℕ) (l : List Model.Action) (h : Held) → (act_all_h base before l h).written ≡ h.written + 2 * writes_in l
unfolding act_all_h writes_in
written_all before [] h = omega arith
written_all before (a ∷ l) h = omega (arith, written_act before a h, written_all before l (act_h base before a h))

pub buffer_all : (before : List ℕ) (l : List Model.Action) (h : Held) → length (act_all_h base before l h).buffer ≡ length h.buffer
unfolding act_all_h
buffer_all before [] h = refl
buffer_all before (a ∷ l) h = buffer_all before l (act_h base before a h) ∙ buffer_act before a h
