-- The parts of a side as the code holds them: the state, the conditions, the sums of the variables, and the reads and writes of each
-- port; one condition, read or write more each time. There is room for 32 conditions, and for 16 sums on each port.
-- 01: "A condition is a kind, two normal sums as written, and the side taken"; "over 16 reads or 16 writes on one port" is too large.
-- Assumes nothing.
use Rattle.std.specs.Prelude.{ℕ, ◌+◌, Bool, List, [], ◌∷◌, ◌++◌, map, length, get_or, set, replicate}
use Rattle.model.specs.Path.{read_symbol}
use Rattle.key.specs.Key.{symbol_of}
use Rattle.arrayvec.specs.ArrayVec.{ArrayVec}
use Rattle.word.specs.declared.Kind.{Kind}
use Rattle.sum.specs.declared.Term.{Term}
use Rattle.sum.specs.declared.Sum.{Sum}
use Rattle.sum.specs.Packed.{symbol_k, terms_of, as_sum}
use Rattle.env.specs.declared.Env.{Env}
use Rattle.env.specs.Env.{with_variable}
use Rattle.condition.specs.Conditions.{no_conditions, with_condition}
use Rattle.side.specs.declared.Side.{Side}

-- How many words are read on port p; none on a port that is not there.
unfoldable pub count_on : List ℕ → ℕ → ℕ
count_on counts p = get_or counts p 0

-- One word more is read on port p.
unfoldable pub one_more : List ℕ → ℕ → List ℕ
one_more counts p = set counts p (count_on counts p + 1)

-- The sums written to a port.
abbrev pub Port : Type 0
Port = ArrayVec Sum

-- A port with no sums; it stands past the end, too.
abbrev pub no_port : Port
no_port = record { items = [] }

-- The sums of a port, in order.
unfoldable pub written_on : Port → List (List Term)
written_on w = map terms_of w.items

-- A port with one sum more.
unfoldable pub with_sum : Port → Sum → Port
with_sum w s = record { items = w.items ++ (s ∷ []) }

-- How many sums are written on port p; none on a port that is not there.
unfoldable pub wrote_on : List Port → ℕ → ℕ
wrote_on ws p = length (get_or ws p no_port).items

-- One sum more is written on port p.
unfoldable pub with_write : List Port → ℕ → Sum → List Port
with_write ws p s = set ws p (with_sum (get_or ws p no_port) s)

-- A side at another state.
unfoldable pub at_state : ℕ → Side → Side
at_state s d = record { state = s; conditions = d.conditions; env = d.env; reads = d.reads; writes = d.writes }

-- A side with one condition more.
unfoldable pub with_asked : Side → Kind → Sum → Sum → Bool → Side
with_asked d k l r b =
    record { state = d.state; conditions = with_condition d.conditions k l r b; env = d.env; reads = d.reads; writes = d.writes }

-- A side with the sum of variable v replaced.
unfoldable pub with_sum_of : Side → ℕ → Sum → Side
with_sum_of d v s =
    record { state = d.state; conditions = d.conditions; env = with_variable d.env v s; reads = d.reads; writes = d.writes }

-- A side with one read more on port p, into variable v.
unfoldable pub with_read : Side → ℕ → ℕ → Side
with_read d p v =
    record {
      state = d.state;
      conditions = d.conditions;
      env = with_variable d.env v (as_sum (symbol_k (symbol_of (read_symbol p (count_on d.reads p)))));
      reads = one_more d.reads p;
      writes = d.writes;
    }

-- A side with one sum more written on port p.
unfoldable pub with_given : Side → ℕ → Sum → Side
with_given d p s =
    record { state = d.state; conditions = d.conditions; env = d.env; reads = d.reads; writes = with_write d.writes p s }

-- A side at the start of a path: no conditions, reads or writes.
unfoldable pub start_as : ℕ → Env → Side
start_as s env =
    record { state = s; conditions = no_conditions; env = env; reads = replicate 4 0; writes = replicate 4 no_port }

-- A side with nothing on it.
unfoldable pub blank : Side
blank = start_as 0 (record { sums = replicate 16 (as_sum []) })
