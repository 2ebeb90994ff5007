-- What a yes is worth: demand 3, for two tables. It cites the run and nothing of the checker. Assumes nothing.
use Rattle.std.specs.Prelude.{ℕ, ◌^◌, ◌≤◌, ◌<◌, ◌≡◌, ◌↔◌, true, List, ◌++◌}
use Rattle.model.specs.Table.{Table}
use Rattle.model.specs.Run.{Input, Config, is_stop, after, start, zeros, reads, writes}

-- Every word of the input is a word of width w.
unfoldable pub Words : ℕ → Input → Type 0
Words w input = (p k : ℕ) → input p k < 2 ^ w

-- A list is the beginning of another.
unfoldable pub Begins : List ℕ → List ℕ → Type 0
Begins l m = (rest : List ℕ) × (m ≡ l ++ rest)

-- The run from reset with registers zero, after n edges.
unfoldable pub runs : ℕ → Input → Table → ℕ → Config
runs w input t n = after w input t n (start zeros)

-- The words written on port p after n edges, and how many were read there.
unfoldable pub written : ℕ → Input → Table → ℕ → ℕ → List ℕ
written w input t n p = writes p (runs w input t n).log

-- How many words were read on port p after n edges.
unfoldable pub read_so_far : ℕ → Input → Table → ℕ → ℕ → ℕ
read_so_far w input t n p = reads p (runs w input t n).log

-- The run has stopped after n edges; it stops.
unfoldable pub Stopped : ℕ → Input → Table → ℕ → Type 0
Stopped w input t n = is_stop (t (runs w input t n).state) ≡ true

-- The run stops.
unfoldable pub Stops : ℕ → Input → Table → Type 0
Stops w input t = (n : ℕ) × Stopped w input t n

-- "At every moment": after n edges of t, what is written on each port is the beginning of what u writes there if run far enough.
unfoldable pub Follows : ℕ → Input → Table → Table → Type 0
Follows w input t u =
    (n : ℕ) → (m : ℕ) × ((k p : ℕ) → m ≤ k → p < 4 → Begins (written w input t n p) (written w input u k p))

-- "Start both tables at reset with registers zero, give each port the same endless words. At every moment of either run, the
-- words written so far on each port are the beginning of what the other writes there if run far enough. One stops exactly when
-- the other does, with equally many words read and the same written on each port."
pub record Promise (w : ℕ) (t u : Table) : Type 0 where
  pub forth : (input : Input) → Words w input → Follows w input t u
  pub back : (input : Input) → Words w input → Follows w input u t
  pub stops : (input : Input) → Words w input → Stops w input t ↔ Stops w input u
  pub read_alike : (input : Input) → Words w input → (n m p : ℕ) → p < 4 → Stopped w input t n → Stopped w input u m → read_so_far w input t n p ≡ read_so_far w input u m p
  pub written_alike : (input : Input) → Words w input → (n m p : ℕ) → p < 4 → Stopped w input t n → Stopped w input u m → written w input t n p ≡ written w input u m p
