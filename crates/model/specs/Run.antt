-- How a table runs: the endless run on endless words, and the trial run on given words, by the same firing of edges.
-- 01, "How a table runs": "Every expression on an edge uses the values before that edge; reads and writes happen in listed order;
-- a port's k-th read takes its k-th word." Assumes nothing.
use Rattle.std.specs.Prelude.{ℕ, zero, suc, ◌/◌, ◌%◌, Bool, true, false, cond, ◌&&◌, List, [], ◌∷◌, ◌++◌, leb, eqb, length, get_or, set, drop, replicate}
use Rattle.model.specs.Answer.{Reason, end_stop, end_limit, end_input, end_room, wrong_input, number_of, Fault, sound, broken, ◌then◌, check, is, so}
use Rattle.model.specs.Word.{holds}
use Rattle.model.specs.Expr.{value}
use Rattle.model.specs.Table.{Action, assign, read, write, Edge, State, stop, step, test, Table, table_fault, table_of}

-- What happens on a port: a word is taken from an input port, or a word (or a sum that stands for it) is given to an output port.
pub data Event (A : Type 0) : Type 0 where
  took : ℕ → Event A
  gave : ℕ → A → Event A

-- One more, where a test is passed.
unfoldable pub tick : Bool → ℕ → ℕ
tick true n = suc n
tick false n = n

-- A member in front of a list, where a test is passed.
unfoldable pub keep_if : {A : Type 0} → Bool → A → List A → List A
keep_if true x l = x ∷ l
keep_if false x l = l

-- How many words a log takes from port p.
unfoldable pub reads : {A : Type 0} → ℕ → List (Event A) → ℕ
reads p [] = 0
reads p (took q ∷ log) = tick (eqb p q) (reads p log)
reads p (gave q x ∷ log) = reads p log

-- What a log gives to port p, in order.
unfoldable pub writes : {A : Type 0} → ℕ → List (Event A) → List A
writes p [] = []
writes p (took q ∷ log) = writes p log
writes p (gave q x ∷ log) = keep_if (eqb p q) x (writes p log)

-- The words of the input ports: for a port and k, its k-th word.
abbrev pub Input : Type 0
Input = ℕ → ℕ → ℕ

-- Where a run stands: its state, its variables, and all that happened on the ports so far, in order.
pub record Config : Type 0 where
  pub state : ℕ
  pub variables : List ℕ
  pub log : List (Event ℕ)

-- A configuration from its parts.
unfoldable pub at : ℕ → List ℕ → List (Event ℕ) → Config
at s vs log = record { state = s; variables = vs; log = log }

-- One action, with its expressions on the values before the edge.
unfoldable pub act : ℕ → Input → List ℕ → Action → Config → Config
act w input before (assign v e) c = at c.state (set c.variables v (value w before e)) c.log
act w input before (read p v) c = at c.state (set c.variables v (input p (reads p c.log))) (c.log ++ (took p ∷ []))
act w input before (write p e) c = at c.state c.variables (c.log ++ (gave p (value w before e) ∷ []))

-- Actions in listed order.
unfoldable pub act_all : ℕ → Input → List ℕ → List Action → Config → Config
act_all w input before [] c = c
act_all w input before (a ∷ rest) c = act_all w input before rest (act w input before a c)

-- An edge is fired: its actions in listed order, then its target.
unfoldable pub fire : ℕ → Input → Edge → Config → Config
fire w input e c =
    let d = act_all w input c.variables e.actions c in
    at e.target d.variables d.log

-- Whether a state is a stop.
unfoldable pub is_stop : State → Bool
is_stop stop = true
is_stop (step e) = false
is_stop (test k l r e f) = false

-- The side that a state takes at the variables: of a test whether it is true; a step has no side and counts as false.
unfoldable pub side_at : ℕ → List ℕ → State → Bool
side_at w vs stop = false
side_at w vs (step e) = false
side_at w vs (test k l r e f) = holds w k (value w vs l) (value w vs r)

-- The edge of a state on a side; a stop has none, and the empty edge stands there.
unfoldable pub edge_on : State → Bool → Edge
edge_on stop b = record { target = 0; actions = [] }
edge_on (step e) b = e
edge_on (test k l r e f) b = cond b e f

-- One edge further, on the side that the state takes; a stop stays put.
unfoldable pub next : ℕ → Input → Table → Config → Config
next w input t c =
    cond (is_stop (t c.state)) c (fire w input (edge_on (t c.state) (side_at w c.variables (t c.state))) c)

-- n edges further.
unfoldable pub after : ℕ → Input → Table → ℕ → Config → Config
after w input t zero c = c
after w input t (suc n) c = after w input t n (next w input t c)

-- Reset, with the registers that a run starts from.
unfoldable pub start : List ℕ → Config
start registers = at 0 registers []

-- "Variables are all 0 at reset."
unfoldable pub zeros : List ℕ
zeros = replicate 16 0

-- A test of each of the four ports.
unfoldable pub each_port : (ℕ → Bool) → Bool
each_port f = f 0 && (f 1 && (f 2 && f 3))

-- The trial run. Input words are (port, word) couples: what each port is given, in order.
unfoldable pub couples : List ℕ → List (Event ℕ)
couples [] = []
couples (p ∷ []) = []
couples (p ∷ x ∷ ws) = gave p x ∷ couples ws

-- The couples that a log gives, as words again.
unfoldable pub couple_words : List (Event ℕ) → List ℕ
couple_words [] = []
couple_words (took p ∷ log) = couple_words log
couple_words (gave p x ∷ log) = p ∷ x ∷ couple_words log

-- Whether every couple has a port of at most 3.
unfoldable pub ports_right : List (Event ℕ) → Bool
ports_right [] = true
ports_right (took p ∷ log) = ports_right log
ports_right (gave p x ∷ log) = leb p 3 && ports_right log

-- The given words as an input: the k-th word of a port, 0 where there is none.
unfoldable pub given : List ℕ → Input
given words p k = get_or (writes p (couples words)) k 0

-- Whether the words suffice for all reads of a log. Asked of the log as it would stand behind the chosen edge, this and the next test
-- say whether that edge can be done whole.
unfoldable pub enough_input : List ℕ → List (Event ℕ) → Bool
enough_input words log = each_port (λ p. leb (reads p log) (length (writes p (couples words))))

-- Whether the buffer has room for all couples of a log.
unfoldable pub enough_room : List ℕ → List (Event ℕ) → Bool
enough_room buffer log = leb (length (couple_words log)) (length buffer)

-- How a trial run ended: why, where, and after how many edges.
pub record End : Type 0 where
  pub reason : Reason
  pub config : Config
  pub edges : ℕ

-- An end from its parts.
unfoldable pub ended : Reason → Config → ℕ → End
ended reason c done = record { reason = reason; config = c; edges = done }

-- The trial run from a configuration, with the edges left of its limit and the edges done.
-- "An edge is done whole or not begun. At each state the order is: stop, limit reached, input lacking, room lacking."
unfoldable pub run_on : ℕ → Table → List ℕ → List ℕ → ℕ → Config → ℕ → End
run_on w t words buffer zero c done = cond (is_stop (t c.state)) (ended end_stop c done) (ended end_limit c done)
run_on w t words buffer (suc left) c done =
    let d = next w (given words) t c in
    let further = run_on w t words buffer left d (suc done) in
    let roomy = cond (enough_room buffer d.log) further (ended end_room c done) in
    cond (is_stop (t c.state)) (ended end_stop c done) (cond (enough_input words d.log) roomy (ended end_input c done))

-- The trial run's answer: number, image, record, state reached, edges done, couples written and the sixteen variables.
pub record Trial : Type 0 where
  pub number : ℕ
  pub image : ℕ
  pub «record» : ℕ
  pub state : ℕ
  pub edges : ℕ
  pub couple_count : ℕ
  pub variables : List ℕ

-- "A run checks its table, then 24."
unfoldable pub run_fault : List ℕ → List ℕ → Fault
run_fault image words = table_fault image then check wrong_input 0 (is (length words % 2) 0 ∷ so (ports_right (couples words)) ∷ [])

-- The image at fault: 24 gives the number only.
unfoldable pub image_of : Reason → ℕ
image_of reason = cond (eqb (number_of reason) 24) 0 1

-- The answer by what the checks find. "An end (20..23) has image and record 0. A refusal has 0 in every field but these: 1..5 give
-- the number, image 1 and the record; 24 gives the number only."
unfoldable pub trial_of : Fault → End → Trial
trial_of sound e =
    record {
      number = number_of e.reason;
      image = 0;
      «record» = 0;
      state = e.config.state;
      edges = e.edges;
      couple_count = length (couple_words e.config.log) / 2;
      variables = e.config.variables;
    }
trial_of (broken n r) e =
    record { number = number_of n; image = image_of n; «record» = r; state = 0; edges = 0; couple_count = 0; variables = zeros }

-- The final buffer: "couples from the front; words behind them stay", and nothing is written by a refusal.
unfoldable pub buffer_of : Fault → End → List ℕ → List ℕ
buffer_of sound e buffer = couple_words e.config.log ++ drop (length (couple_words e.config.log)) buffer
buffer_of (broken n r) e buffer = buffer

-- The trial run of an image from given registers: how it ends, its answer, and the whole final buffer.
unfoldable pub end_of : ℕ → List ℕ → List ℕ → List ℕ → ℕ → List ℕ → End
end_of w registers image words limit buffer = run_on w (table_of image) words buffer limit (start registers) 0

-- The answer of the trial run.
unfoldable pub trial : ℕ → List ℕ → List ℕ → List ℕ → ℕ → List ℕ → Trial
trial w registers image words limit buffer = trial_of (run_fault image words) (end_of w registers image words limit buffer)

-- The whole final buffer of the trial run.
unfoldable pub trial_buffer : ℕ → List ℕ → List ℕ → List ℕ → ℕ → List ℕ → List ℕ
trial_buffer w registers image words limit buffer = buffer_of (run_fault image words) (end_of w registers image words limit buffer) buffer
