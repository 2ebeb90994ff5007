-- The trial run is the beginning of the endless run: where it is not refused, its state, variables and couples are those of as many
-- edges on any endless input that begins with the given words. It ends by one of its four ends, within its limit and its buffer.
-- 01, "How a table runs": "a port's k-th read takes its k-th word", "an edge is done whole or not begun", "words behind them stay".
-- Assumes nothing.
use Prim.Native.Nat.{ℕ, zero, suc, ◌+◌, ◌/◌, ◌≤◌, ◌<◌}
use mathlib.Core.Path.{◌≡◌, refl, sym, ◌∙◌, ap}
use mathlib.Core.Bool.{Bool, true, false, cond}
use mathlib.Core.List.{List, [], ◌∷◌, ◌++◌, Memᴰ}
use native.Mathlib.Omega.{arith}
use lib.ListN.{length, drop, length-append, length-drop}
use borrow.Author.Tests.{leb-true, eq-eqb}
use Rattle.model.specs.Answer.{Reason, end_stop, end_limit, end_input, end_room, number_of, sound, broken}
use Rattle.model.specs.Table.{Action, assign, read, write, Edge, Table, states, table_of, table_fault}
use Rattle.model.specs.Run.{Event, took, tick, reads, writes, Input, Config, at, act, act_all, fire, is_stop, next, after, start, couples, couple_words, given, enough_input, enough_room, End, ended, run_on, run_fault, trial_of, buffer_of, end_of, trial, trial_buffer}
use Rattle.model.proofs.Basics.{each_port_lem, then_first}
use Rattle.model.proofs.Runs.{reads_append, after_next}
use Rattle.model.proofs.CheckedTable.{ReadsPort, Within, checked_reset, checked_state}

-- An endless input begins with the given words.
unfoldable pub BeginsWith : List ℕ → Input → Type 0
BeginsWith words input = (p k : ℕ) → p < 4 → k < length (writes p (couples words)) → input p k ≡ given words p k

-- Two inputs agree on every word that a log takes.
unfoldable pub Agree : Input → Input → List (Event ℕ) → Type 0
Agree input other log = (p k : ℕ) → p < 4 → k < reads p log → input p k ≡ other p k

-- What a log takes from a port is never taken back.

module _ (w : ℕ) (input : Input) (before : List ℕ) where
  reads_act : (p : ℕ) (a : Action) (c : Config) → reads p c.log ≤ reads p (act w input before a c).log
  unfolding act at
  reads_act p (assign v e) c = omega arith
  reads_act p (read q v) c = rw reads_append (omega arith)
  reads_act p (write q e) c = rw reads_append (omega arith)

  reads_act_all : (p : ℕ) (l : List Action) (c : Config) → reads p c.log ≤ reads p (act_all w input before l c).log
  unfolding act_all
  reads_act_all p [] c = omega arith
  reads_act_all p (a ∷ l) c = omega (arith, reads_act p a c, reads_act_all p l (act w input before a c))

-- On two inputs that agree on every word taken, actions do the same.

module _ (w : ℕ) (input other : Input) (before : List ℕ) where
  act_agree : (a : Action) (c : Config) → ReadsPort a → Agree input other (act w input before a c).log → act w input before a c ≡ act w other before a c
  unfolding act at Agree reads tick
  act_agree (assign v e) c h agree = refl
  act_agree (read p v) c h agree =
      let one : reads p c.log < reads p (c.log ++ (took p ∷ [])) = rw (reads_append, eq-eqb p p refl) (omega arith) in
      rw (agree p (reads p c.log) h one)
  act_agree (write p e) c h agree = refl

  act_all_agree : (l : List Action) (c : Config) → ((a : Action) → Memᴰ a l → ReadsPort a) → Agree input other (act_all w input before l c).log → act_all w input before l c ≡ act_all w other before l c
  unfolding act_all Agree
  act_all_agree [] c ports agree = refl
  act_all_agree (a ∷ l) c ports agree =
      let d = act w input before a c in
      let same = act_agree a c (ports a (Memᴰ.head refl)) (λ p k h m. agree p k h (omega (arith, reads_act_all w input before p l d))) in
      act_all_agree l d (λ b m. ports b (Memᴰ.tail m)) agree ∙ ap (act_all w other before l) same

-- An edge does the same on two inputs that agree on every word that it and the edges before it take.
pub fire_agree : (w n : ℕ) (input other : Input) (e : Edge) (c : Config) → Within n e → Agree input other (fire w input e c).log → fire w input e c ≡ fire w other e c
unfolding fire at
fire_agree w n input other e c within agree =
    let same = act_all_agree w input other c.variables e.actions c within.ports agree in
    ap (λ d. at e.target d.variables d.log) same

module _ (w : ℕ) (image : List ℕ) (passed : table_fault image ≡ sound) where
  -- So does the edge that a state of a checked table takes.
  pub next_agree : (input other : Input) (c : Config) → c.state < states image → Agree input other (next w input (table_of image) c).log → next w input (table_of image) c ≡ next w other (table_of image) c
  unfolding next
  next_agree input other c h agree = whether (is_stop (table_of image c.state)) refl
    where
      whether : (b : Bool) → is_stop (table_of image c.state) ≡ b → next w input (table_of image) c ≡ next w other (table_of image) c
      whether true e = rw e
      whether false e = rw e (fire_agree w _ input other _ c (checked_state image passed c.state h _) (rw e at agree))

  -- The run of a checked table never leaves its states.
  pub next_state : (input : Input) (c : Config) → c.state < states image → (next w input (table_of image) c).state < states image
  unfolding next fire at
  next_state input c h = whether (is_stop (table_of image c.state)) refl
    where
      whether : (b : Bool) → is_stop (table_of image c.state) ≡ b → (next w input (table_of image) c).state < states image
      whether true e = rw e h
      whether false e = rw e (checked_state image passed c.state h _).target

-- Where the given words suffice for a log, they agree on it with every input that they begin.
enough_agree : (words : List ℕ) (input : Input) (log : List (Event ℕ)) → enough_input words log ≡ true → BeginsWith words input → Agree (given words) input log
unfolding enough_input BeginsWith Agree
enough_agree words input log enough begins p k h m =
    let suffice : reads p log ≤ length (writes p (couples words)) = leb-true _ _ (each_port_lem _ enough p h) in
    sym (begins p k h (omega arith))

-- How a trial run ends: by one of the four ends, and where P holds of the edges left, the configuration and the edges done.
record Ended (P : ℕ → Config → ℕ → Type 0) (e : End) : Type 0 where
  left : ℕ
  holds : P left e.config e.edges
  four : (20 ≤ number_of e.reason) × (number_of e.reason ≤ 23)

-- P is kept by every edge that a trial run does.
abbrev Kept : ℕ → Table → List ℕ → List ℕ → (ℕ → Config → ℕ → Type 0) → Type 0
Kept w t words buffer P = (left : ℕ) (c : Config) (done : ℕ) →
    let d = next w (given words) t c in
    enough_input words d.log ≡ true → enough_room buffer d.log ≡ true → P (suc left) c done → P left d (suc done)

module _ (P : ℕ → Config → ℕ → Type 0) where
  -- An end of the four, where P holds.
  ends : (reason : Reason) {left : ℕ} {c : Config} {done : ℕ} → (20 ≤ number_of reason) × (number_of reason ≤ 23) → P left c done → Ended P (ended reason c done)
  unfolding ended
  ends reason {left} four h = record { left = left; holds = h; four = four }

  -- The order with no edge left: stop, limit reached.
  last : (stops : Bool) {left : ℕ} {c : Config} {done : ℕ} → P left c done → Ended P (cond stops (ended end_stop c done) (ended end_limit c done))
  unfolding number_of
  last true h = ends end_stop (omega arith) h
  last false h = ends end_limit (omega arith) h

  -- The order with an edge left: stop, input lacking, room lacking; else the edge is done.
  order : (stops enough room : Bool) {left : ℕ} {c : Config} {done : ℕ} (further : End) → P left c done → (enough ≡ true → room ≡ true → Ended P further) → Ended P (cond stops (ended end_stop c done) (cond enough (cond room further (ended end_room c done)) (ended end_input c done)))
  unfolding number_of
  order true enough room further h onward = ends end_stop (omega arith) h
  order false false room further h onward = ends end_input (omega arith) h
  order false true false further h onward = ends end_room (omega arith) h
  order false true true further h onward = onward refl refl

  -- What holds where a trial run starts, and is kept by every edge that it does, holds where it ends.
  run_holds : (w : ℕ) (t : Table) (words buffer : List ℕ) → Kept w t words buffer P → (left : ℕ) (c : Config) (done : ℕ) → P left c done → Ended P (run_on w t words buffer left c done)
  unfolding run_on
  run_holds w t words buffer keeps zero c done h = last (is_stop (t c.state)) h
  run_holds w t words buffer keeps (suc left) c done h =
      let d = next w (given words) t c in
      order (is_stop (t c.state)) (enough_input words d.log) (enough_room buffer d.log) _ h λ enough room.
      run_holds w t words buffer keeps left d (suc done) (keeps left c done enough room h)

-- Where the trial run stands after the edges done: at a state of the table, and where the endless run stands.
abbrev Beginning : ℕ → List ℕ → List ℕ → Input → ℕ → Config → ℕ → Type 0
Beginning w registers image input left c done = (c.state < states image) × (c ≡ after w input (table_of image) done (start registers))

-- Every edge that the trial run of a checked table does keeps it there.
beginning_kept : (w : ℕ) (registers image words buffer : List ℕ) (input : Input) → table_fault image ≡ sound → BeginsWith words input → Kept w (table_of image) words buffer (Beginning w registers image input)
beginning_kept w registers image words buffer input passed begins left c done enough room h =
    let same = next_agree w image passed (given words) input c h.0 (enough_agree words input _ enough begins) in
    let onward = same ∙ ap (next w input (table_of image)) h.1 ∙ sym (after_next w input (table_of image) done (start registers)) in
    (next_state w image passed (given words) c h.0, onward)

module _ (w : ℕ) (registers image words : List ℕ) (limit : ℕ) (buffer : List ℕ) where
  -- What holds at reset, and is kept by every edge that the trial run of an image does, holds at its end.
  end_holds : (P : ℕ → Config → ℕ → Type 0) → Kept w (table_of image) words buffer P → P limit (start registers) 0 → Ended P (end_of w registers image words limit buffer)
  unfolding end_of
  end_holds P keeps h = run_holds P w (table_of image) words buffer keeps limit (start registers) 0 h

  -- Where the endless run on an input stands after as many edges as the trial run does.
  abbrev pub endless : Input → Config
  endless input = after w input (table_of image) (end_of w registers image words limit buffer).edges (start registers)

  -- The trial run is the beginning of the endless run on every input that begins with the given words.
  pub trial_begins : (input : Input) → run_fault image words ≡ sound → BeginsWith words input → (end_of w registers image words limit buffer).config ≡ endless input
  unfolding run_fault start at after
  trial_begins input passed begins =
      let table = then_first _ _ passed in
      let kept = beginning_kept w registers image words buffer input table begins in
      (end_holds (Beginning w registers image input) kept (checked_reset image table, refl)).holds.1

  -- The answer of a run that is not refused names the edges that it did.
  pub trial_edges : run_fault image words ≡ sound → (trial w registers image words limit buffer).edges ≡ (end_of w registers image words limit buffer).edges
  unfolding trial trial_of
  trial_edges passed = rw passed

  -- The state of the answer is that of the endless run.
  pub trial_state : (input : Input) → run_fault image words ≡ sound → BeginsWith words input → (trial w registers image words limit buffer).state ≡ (endless input).state
  unfolding trial trial_of
  trial_state input passed begins = rw passed (ap (λ (c : Config). c.state) (trial_begins input passed begins))

  -- The variables of the answer are those of the endless run.
  pub trial_variables : (input : Input) → run_fault image words ≡ sound → BeginsWith words input → (trial w registers image words limit buffer).variables ≡ (endless input).variables
  unfolding trial trial_of
  trial_variables input passed begins = rw passed (ap (λ (c : Config). c.variables) (trial_begins input passed begins))

  -- The answer counts the couples of the endless run.
  pub trial_count : (input : Input) → run_fault image words ≡ sound → BeginsWith words input → (trial w registers image words limit buffer).couple_count ≡ length (couple_words (endless input).log) / 2
  unfolding trial trial_of
  trial_count input passed begins = rw passed (ap (λ (c : Config). length (couple_words c.log) / 2) (trial_begins input passed begins))

  -- The couples in the buffer are those of the endless run, and the words behind them stay.
  pub trial_couples : (input : Input) → run_fault image words ≡ sound → BeginsWith words input → trial_buffer w registers image words limit buffer ≡ couple_words (endless input).log ++ drop (length (couple_words (endless input).log)) buffer
  unfolding trial_buffer buffer_of
  trial_couples input passed begins =
      rw passed (ap (λ (c : Config). couple_words c.log ++ drop (length (couple_words c.log)) buffer) (trial_begins input passed begins))

  -- A refused run writes nothing.
  pub refused_buffer : (n : Reason) (r : ℕ) → run_fault image words ≡ broken n r → trial_buffer w registers image words limit buffer ≡ buffer
  unfolding trial_buffer buffer_of
  refused_buffer n r refused = rw refused

  -- The trial run does at most the edges of its limit.
  pub end_edges : (end_of w registers image words limit buffer).edges ≤ limit
  end_edges =
      let ran = end_holds (λ left c done. done + left ≡ limit) (λ left c done enough room h. omega arith) (omega arith) in
      omega arith

  -- The couples of the trial run have room in the buffer.
  pub end_room_lem : length (couple_words (end_of w registers image words limit buffer).config.log) ≤ length buffer
  unfolding start at couple_words enough_room
  end_room_lem =
      (end_holds
      (λ left c done. length (couple_words c.log) ≤ length buffer)
      (λ left c done enough room h. leb-true _ _ room)
      (omega arith)).holds

  -- The edges that the answer names are at most the limit.
  pub trial_limit : (trial w registers image words limit buffer).edges ≤ limit
  unfolding trial trial_of
  trial_limit =
      elim (run_fault image words) as (λ f. (trial_of f (end_of w registers image words limit buffer)).edges ≤ limit)
      [ sound ↦ end_edges | broken n r ↦ omega arith ]

  -- The final buffer is as long as the lent one.
  pub trial_length : length (trial_buffer w registers image words limit buffer) ≡ length buffer
  unfolding trial_buffer buffer_of
  trial_length =
      elim (run_fault image words) as (λ f. length (buffer_of f (end_of w registers image words limit buffer) buffer) ≡ length buffer)
      [ sound ↦ simp (length-append, length-drop) (omega (arith, end_room_lem)) | broken n r ↦ refl ]

  -- A run that is not refused ends by one of the four ends.
  pub trial_number : run_fault image words ≡ sound → (20 ≤ (trial w registers image words limit buffer).number) × ((trial w registers image words limit buffer).number ≤ 23)
  unfolding trial trial_of
  trial_number passed = rw passed (end_holds (λ left c done. Unit {0}) (λ left c done enough room h. tt) tt).four
