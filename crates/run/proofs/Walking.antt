-- The run edge by edge: which states are stops, what an edge needs and leaves, where the run stands at the head of the loop, and what is
-- answered at each of its ends. Assumes nothing.
use Prim.Native.Nat.{ℕ, zero, suc, ◌+◌, ◌*◌, ◌-◌, ◌≤◌, ◌<◌}
use mathlib.Core.Path.{◌≡◌, refl, sym, ◌∙◌, ap}
use mathlib.Core.Bool.{true, false, cond}
use mathlib.Core.List.{List, [], ◌∷◌, map}
use native.Mathlib.Omega.{arith}
use lib.Dec.{leb}
use lib.ListN.{length, get_or, set, drop, replicate, length-drop, length-map, get_or-map}
use borrow.Author.Tests.{le-leb, lt-leb}
use Rattle.std.specs.Prelude.{Option, Some, None}
use Rattle.model.specs.Answer.{up_to, Reason, end_stop, end_limit, end_input, end_room, sound}
use Rattle.model.specs.Word.{base}
use Rattle.model.specs.Table.{Action, assign, read, write, states, table_of, table_fault, action_at}
use Rattle.model.specs.Run.{is_stop, at, reads, couple_words, start, zeros, End, end_of, buffer_of}
use Rattle.model.proofs.Basics.{length_up_to}
use Rattle.model.proofs.CheckedTable.{checked_reset}
use Rattle.fault.specs.Fault.{reason_as}
use Rattle.fault.specs.declared.Reason as declared
use Rattle.table.specs.Decoded.{state_meant}
use Rattle.table.specs.declared.EdgeRecord.{EdgeRecord}
use Rattle.table.specs.declared.decoded.State.{State}
use Rattle.table.specs.declared.decoded.State.TheVariants.{Stop, Step, Test}
use Rattle.run.specs.declared.hand.Hand.{Hand}
use Rattle.run.specs.Held.{Need, needing, Needed, per_port, Held, held, left_from, held_by, held_of, held_at, act_h, act_all_h, actions_of, writes_of, writes_in, spend, spend_all, need_of, ending, taken, run_h}
use Rattle.run.specs.Sound.{Leaves}
use Rattle.run.specs.Answers.{ended_at, end_as, ending_as}
use Rattle.run.proofs.Holding.{ending_at, run_start, all_writes}
use Rattle.run.proofs.Spending.{met, unmet}
use Rattle.run.proofs.Acting.{written_all, buffer_all}

-- Whether a state is a stop.

module _ (image : List ℕ) (i : ℕ) {s : State} (meant : table_of image i ≡ state_meant image s) where
  pub stops : s ≡ Stop → is_stop (table_of image i) ≡ true
  unfolding state_meant is_stop
  stops e = rw (meant, e) refl

  pub goes_on_lem : (s ≡ Stop → ⊥) → is_stop (table_of image i) ≡ false
  unfolding state_meant is_stop
  goes_on_lem h = ap is_stop meant ∙ by s h
    where
      by : (t : State) → (t ≡ Stop → ⊥) → is_stop (state_meant image t) ≡ false
      by Stop h = absurd (h refl)
      by (Step e) h = refl
      by (Test k l r t f) h = refl

-- What actions leave of each port's words, counted.

counted_set : (l : List (List ℕ)) (p : ℕ) (m : List ℕ) → map length (set l p m) ≡ set (map length l) p (length m)
counted_set [] p m = refl
counted_set (x ∷ l) zero m = refl
counted_set (x ∷ l) (suc p) m = ap (λ r. length x ∷ r) (counted_set l p m)

left_act : (before : List ℕ) (a : Action) (h : Held) (n : Need) → n.left ≡ map length h.left → (spend n a).left ≡ map length (act_h base before a h).left
unfolding spend act_h held
left_act before (assign v e) h n same = same
left_act before (read p v) h n same =
    let get : get_or (map length h.left) p 0 ≡ length (get_or h.left p []) = get_or-map length h.left p [] in
    rw (same, get, counted_set h.left p (drop 1 (get_or h.left p [])), length-drop 1 (get_or h.left p [])) refl
left_act before (write p e) h n same = same

pub left_all : (before : List ℕ) (l : List Action) (h : Held) (n : Need) → n.left ≡ map length h.left
    → (spend_all n l).left ≡ map length (act_all_h base before l h).left
unfolding spend_all act_all_h
left_all before [] h n same = same
left_all before (a ∷ l) h n same = left_all before l (act_h base before a h) (spend n a) (left_act before a h n same)

-- What actions write, as a need counts it, behind the words written before.
pub need_writes : (left : List ℕ) (image : List ℕ) (e : EdgeRecord) → (need_of left (actions_of image e)).writes ≡ writes_in (actions_of image e)
unfolding need_of
need_writes left image e = all_writes _ (actions_of image e) ∙ (omega arith)

-- Actions write at most a couple each.

actions_most : (l : List Action) → writes_in l ≤ length l
unfolding writes_in writes_of
actions_most [] = omega arith
actions_most (a ∷ l) = omega (arith, at_most a, actions_most l)
  where
    at_most : (a : Action) → writes_of a ≤ 1
    at_most (assign v e) = omega arith
    at_most (read p v) = omega arith
    at_most (write p e) = omega arith

pub need_few : (left : List ℕ) (image : List ℕ) (e : EdgeRecord) → e.count ≤ 16 → (need_of left (actions_of image e)).writes ≤ 16
need_few left image e few =
    let many : length (actions_of image e) ≡ e.count = length-map (up_to e.first e.count) (action_at image) ∙ length_up_to e.first e.count in
    omega (arith, need_writes left image e, actions_most (actions_of image e))

-- Where the run stands at the head of the loop.
pub record Walking (image input : List ℕ) (limit : ℕ) (begun : List ℕ) (out : List ℕ) (h : Hand) (left : List ℕ) (s done : ℕ) : Type 0 where
  pub passed : table_fault image ≡ sound
  pub inside : s < states image
  pub long : length out ≡ length begun
  pub room : h.written ≤ length out
  pub counts : left ≡ map length (held_of input h out).left
  pub rest : run_h base (table_of image) (limit - done) s (held_of input h out) done ≡ run_h base (table_of image) limit 0 (held_at input begun (start zeros)) 0

pub walk_start : (image input : List ℕ) (limit : ℕ) (out left : List ℕ) (h : Hand) → table_fault image ≡ sound
    → (h.variables ≡ replicate 16 0) × (h.next ≡ replicate 4 0) × (h.written ≡ 0)
    → left ≡ per_port (λ p. length (left_from input p 0)) → Walking image input limit out out h left 0 0
unfolding held_by held held_at per_port left_from start zeros at reads couple_words
walk_start image input limit out left h passed new e =
    let all : limit - 0 ≡ limit = omega arith in
    record {
      passed = passed;
      inside = checked_reset image passed;
      long = refl;
      room = omega (arith, new.2);
      counts = rw (new.1) e;
      rest = rw (all, new.0, new.1, new.2) refl;
    }

-- The end and the buffer of a run that ends, from how the model's run ends.
abbrev pub Answered : List ℕ → List ℕ → ℕ → List ℕ → declared.Reason → ℕ → ℕ → Hand → List ℕ → Type 0
Answered image input limit begun reason s done h out =
    (ended_at h reason s done ≡ end_as (end_of base zeros image input limit begun))
    × (out ≡ buffer_of sound (end_of base zeros image input limit begun) begun)

end_is : (input begun : List ℕ) (e : End) → end_as e ≡ ending_as (ending_at input begun e)
unfolding end_as ending_as ending_at ending held_at held
end_is input begun e = refl

buffer_is : (input begun : List ℕ) (e : End) → buffer_of sound e begun ≡ (ending_at input begun e).all.buffer
unfolding buffer_of ending_at ending held_at held
buffer_is input begun e = refl

ended_is : (input out : List ℕ) (reason : Reason) (s done : ℕ) (h : Hand) → ended_at h (reason_as reason) s done ≡ ending_as (ending reason s (held_of input h out) done)
unfolding ending_as ending held_by held
ended_is input out reason s done h = refl

out_is : (input out : List ℕ) (reason : Reason) (s done : ℕ) (h : Hand) → out ≡ (ending reason s (held_of input h out) done).all.buffer
unfolding ending held_by held
out_is input out reason s done h = refl

module _ {image input : List ℕ} {limit : ℕ} {begun out : List ℕ} {h : Hand} {left : List ℕ} {s done : ℕ} (now : Walking image input limit begun out h left s done) where
  -- What is held there.
  abbrev here : Held
  here = held_of input h out

  finish : (reason : Reason) → run_h base (table_of image) (limit - done) s here done ≡ ending reason s here done → Answered image input limit begun (reason_as reason) s done h out
  finish reason e =
      let final : ending_at input begun (end_of base zeros image input limit begun) ≡ ending reason s here done = run_start base image input begun now.passed limit ∙ sym now.rest ∙ e in (
        ended_is input out reason s done h ∙ sym (end_is input begun _ ∙ ap ending_as final),
        out_is input out reason s done h ∙ sym (buffer_is input begun _ ∙ ap (λ z. z.all.buffer) final),
      )

  -- A stop ends the run, whatever is left of the limit.
  pub ends_stop : is_stop (table_of image s) ≡ true → Answered image input limit begun (reason_as end_stop) s done h out
  unfolding run_h
  ends_stop e = finish end_stop (by (limit - done))
    where
      by : (n : ℕ) → run_h base (table_of image) n s here done ≡ ending end_stop s here done
      by zero = rw e
      by (suc n) = rw e

  -- So does the limit where the state is no stop.
  pub ends_limit : limit ≤ done → is_stop (table_of image s) ≡ false → Answered image input limit begun (reason_as end_limit) s done h out
  unfolding run_h
  ends_limit m e =
      let none : limit - done ≡ 0 = omega arith in
      finish end_limit (rw (none, e) refl)

  -- The run goes on, or input or room is lacking, by the need of the edge that is taken.
  module _ {e : EdgeRecord} (more : done < limit) (edge : Leaves image s h.variables e) {o : Option ℕ} {left' : List ℕ} (need : Needed (need_of left (actions_of image e)) o left') where
    -- What the edge needs.
    abbrev own : Need
    own = need_of left (actions_of image e)

    -- The order at a state that is no stop, with an edge left of the limit.
    turn : run_h base (table_of image) (limit - done) s here done
        ≡ cond own.enough
        (cond (leb (h.written + 2 * own.writes) (length out))
        (run_h base (table_of image) (limit - suc done) e.target (act_all_h base h.variables (actions_of image e) here) (suc done))
        (ending end_room s here done))
        (ending end_input s here done)
    unfolding run_h taken held_by held
    turn =
        let left_of : limit - done ≡ suc (limit - suc done) = omega arith in
        let mine : need_of (map length here.left) (actions_of image e) ≡ own = sym (ap (λ l. need_of l (actions_of image e)) now.counts) in
        rw (left_of, edge.goes, edge.edge, mine) refl

    pub ends_input : o ≡ None → Answered image input limit begun (reason_as end_input) s done h out
    ends_input k = finish end_input (turn ∙ (rw (unmet own need.counts k) refl))

    module _ {writes : ℕ} (k : o ≡ Some writes) where
      pub ends_room : length out - h.written < 2 * writes → Answered image input limit begun (reason_as end_room) s done h out
      ends_room lacks =
          let all = met own need.counts k in
          let short : leb (h.written + 2 * own.writes) (length out) ≡ false = lt-leb (h.written + 2 * own.writes) (length out) (omega (arith, now.room, all.1)) in
          finish end_room (turn ∙ (rw (all.0, short) refl))

      module _ (fit : 2 * writes ≤ length out - h.written) where
        -- The room that the edge's couples have.
        pub roomy : h.written + 2 * writes_in (actions_of image e) ≤ length out
        roomy = omega (arith, now.room, (met own need.counts k).1, need_writes left image e)

        -- The engine goes on where the edge is done.
        turn_on : run_h base (table_of image) (limit - done) s here done ≡ run_h base (table_of image) (limit - suc done) e.target (act_all_h base h.variables (actions_of image e) here) (suc done)
        turn_on =
            let fits : leb (h.written + 2 * own.writes) (length out) ≡ true = le-leb (h.written + 2 * own.writes) (length out) (omega (arith, roomy, need_writes left image e)) in
            turn ∙ (rw ((met own need.counts k).0, fits) refl)

        -- An edge further.
        pub walk_step : (h' : Hand) (out' : List ℕ) → held_of input h' out' ≡ act_all_h base h.variables (actions_of image e) here
            → Walking image input limit begun out' h' left' e.target (done + 1)
        unfolding held_by held need_of
        walk_step h' out' same =
            let one : suc done ≡ done + 1 = omega arith in
            let long : length out' ≡ length out = ap (λ z. length z.buffer) same ∙ buffer_all h.variables (actions_of image e) here in
            let wrote : h'.written ≡ h.written + 2 * writes_in (actions_of image e) = ap (λ z. z.written) same ∙ written_all h.variables (actions_of image e) here in
            record {
              passed = now.passed;
              inside = edge.fits.target;
              long = long ∙ now.long;
              room = omega (arith, roomy);
              counts =
                  need.leaves (met own need.counts k).0
                  ∙ left_all h.variables (actions_of image e) here (needing left 0) now.counts
                  ∙ sym (ap (λ z. map length z.left) same);
              rest = rw (same, ← one) (sym turn_on) ∙ now.rest;
            }
