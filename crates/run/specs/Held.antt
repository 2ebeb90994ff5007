-- What the engine holds of a run, in place of the log: the variables, the words that each port has left, and the buffer as written so
-- far; and what actions and edges do to it. proofs/ says that this is the model's run. Assumes nothing.
use Rattle.std.specs.Prelude.{ℕ, zero, suc, ◌+◌, ◌*◌, ◌-◌, ◌≡◌, Bool, true, cond, ◌&&◌, List, [], ◌∷◌, ◌++◌, map, leb, ltb, length, get_or, set, drop, Option, Some, None}
use Rattle.model.specs.Answer.{Reason, end_stop, end_limit, end_input, end_room, up_to}
use Rattle.model.specs.Expr.{value}
use Rattle.model.specs.Table.{Action, assign, read, write, Edge, Table, action_at}
use Rattle.model.specs.Run.{reads, writes, couples, couple_words, Config, is_stop, side_at, edge_on}
use Rattle.table.specs.declared.EdgeRecord.{EdgeRecord}
use Rattle.run.specs.declared.hand.Hand.{Hand}

-- What there is for each of the four ports, as a list.
unfoldable pub per_port : {A : Type 0} → (ℕ → A) → List A
per_port f = f 0 ∷ f 1 ∷ f 2 ∷ f 3 ∷ []

-- The variables, the words that each port has left, how many words of the buffer are written, and the buffer.
pub record Held : Type 0 where
  pub variables : List ℕ
  pub left : List (List ℕ)
  pub written : ℕ
  pub buffer : List ℕ

-- What is held, from its parts.
unfoldable pub held : List ℕ → List (List ℕ) → ℕ → List ℕ → Held
held vs left n buffer = record { variables = vs; left = left; written = n; buffer = buffer }

-- The words of a port from a couple of the input on.
unfoldable pub left_from : List ℕ → ℕ → ℕ → List ℕ
left_from input p i = writes p (couples (drop (2 * i) input))

-- What is held by the variables, for each port the couple of the input from which its next word is looked for, how many words of the
-- buffer are written, and the lent buffer.
unfoldable pub held_by : List ℕ → List ℕ → List ℕ → ℕ → List ℕ → Held
held_by input vs next n out = held vs (per_port (λ p. left_from input p (get_or next p 0))) n out

-- What a hand and the lent buffer hold.
abbrev pub held_of : List ℕ → Hand → List ℕ → Held
held_of input h out = held_by input h.variables h.next h.written out

-- What is held where the model's run stands.
unfoldable pub held_at : List ℕ → List ℕ → Config → Held
held_at input buffer c =
    held
    c.variables
    (per_port (λ p. drop (reads p c.log) (writes p (couples input))))
    (length (couple_words c.log))
    (couple_words c.log ++ drop (length (couple_words c.log)) buffer)

-- One action, with its expression on the variables before the edge.
unfoldable pub act_h : ℕ → List ℕ → Action → Held → Held
act_h w before (assign v e) h = held (set h.variables v (value w before e)) h.left h.written h.buffer
act_h w before (read p v) h =
    held
    (set h.variables v (get_or (get_or h.left p []) 0 0))
    (set h.left p (drop 1 (get_or h.left p [])))
    h.written
    h.buffer
act_h w before (write p e) h =
    held h.variables h.left (h.written + 2) (set (set h.buffer h.written p) (h.written + 1) (value w before e))

-- Actions in listed order.
unfoldable pub act_all_h : ℕ → List ℕ → List Action → Held → Held
act_all_h w before [] h = h
act_all_h w before (a ∷ rest) h = act_all_h w before rest (act_h w before a h)

-- The actions of an edge's record, and the edge.

abbrev pub actions_of : List ℕ → EdgeRecord → List Action
actions_of image e = map (action_at image) (up_to e.first e.count)

abbrev pub edge_of : List ℕ → EdgeRecord → Edge
edge_of image e = record { target = e.target; actions = actions_of image e }

-- How many couples an action writes.
unfoldable pub writes_of : Action → ℕ
writes_of (assign v e) = 0
writes_of (read p v) = 0
writes_of (write p e) = 1

-- How many couples actions write.
unfoldable pub writes_in : List Action → ℕ
writes_in [] = 0
writes_in (a ∷ l) = writes_of a + writes_in l

-- What actions need: whether each port has the words that they read, how many each has left behind them, and how many couples they write.
pub record Need : Type 0 where
  pub enough : Bool
  pub left : List ℕ
  pub writes : ℕ

-- The need so far of actions that lack no word.
abbrev pub needing : List ℕ → ℕ → Need
needing left n = record { enough = true; left = left; writes = n }

-- One action's need, from the words that the ports have left.
unfoldable pub spend : Need → Action → Need
spend n (assign v e) = n
spend n (read p v) =
    record {
      enough = n.enough && ltb 0 (get_or n.left p 0);
      left = set n.left p (get_or n.left p 0 - 1);
      writes = n.writes;
    }
spend n (write p e) = record { enough = n.enough; left = n.left; writes = n.writes + 1 }

-- The need of actions in listed order.
unfoldable pub spend_all : Need → List Action → Need
spend_all n [] = n
spend_all n (a ∷ rest) = spend_all (spend n a) rest

-- The need of an edge where so many words are left on each port.
unfoldable pub need_of : List ℕ → List Action → Need
need_of left l = spend_all (needing left 0) l

-- The couples that a need counts, or none where a word is lacking.
unfoldable pub count_of : Need → Option ℕ
count_of n = cond n.enough (Some n.writes) None

-- A need as the engine has it: that count, and what is left on each port unless a word is lacking.
pub record Needed (n : Need) (count : Option ℕ) (left : List ℕ) : Type 0 where
  pub counts : count ≡ count_of n
  pub leaves : n.enough ≡ true → left ≡ n.left

-- How a run ended: why, in which state, what is held, and after how many edges.
pub record Ending : Type 0 where
  pub reason : Reason
  pub state : ℕ
  pub all : Held
  pub edges : ℕ

-- An ending from its parts.
unfoldable pub ending : Reason → ℕ → Held → ℕ → Ending
ending reason s h done = record { reason = reason; state = s; all = h; edges = done }

-- The edge that a state takes at what is held.
unfoldable pub taken : ℕ → Table → ℕ → Held → Edge
taken w t s h = edge_on (t s) (side_at w h.variables (t s))

-- The run from a state, with the edges left of its limit and the edges done.
unfoldable pub run_h : ℕ → Table → ℕ → ℕ → Held → ℕ → Ending
run_h w t zero s h done = cond (is_stop (t s)) (ending end_stop s h done) (ending end_limit s h done)
run_h w t (suc n) s h done =
    let e = taken w t s h in
    let need = need_of (map length h.left) e.actions in
    let further = run_h w t n e.target (act_all_h w h.variables e.actions h) (suc done) in
    let roomy = cond (leb (h.written + 2 * need.writes) (length h.buffer)) further (ending end_room s h done) in
    cond (is_stop (t s)) (ending end_stop s h done) (cond need.enough roomy (ending end_input s h done))
