-- What holds of three images, a pair and a path that are judged, and of the environments in which its sides begin. Assumes nothing.
use Rattle.std.specs.Prelude.{ℕ, ◌≡◌, true, List, map}
use Rattle.model.specs.Answer.{sound, up_to}
use Rattle.model.specs.Table.{states, table_of, table_fault}
use Rattle.model.specs.Path.{walkable}
use Rattle.model.specs.Correspondence.{path_at, pair_at, list_fault}
use Rattle.model.specs.Judgement.{partner}
use Rattle.env.specs.declared.Env.{Env}
use Rattle.env.specs.Env.{symbols_of}

-- Nothing is found in the three images.
abbrev pub Checks : List ℕ → List ℕ → List ℕ → Type 0
Checks first second list =
    (table_fault first ≡ sound) × (table_fault second ≡ sound) × (list_fault (states first) (states second) list ≡ sound)

-- An environment in which each of the first table's variables is its symbol.
abbrev pub OwnSymbols : Env → Type 0
OwnSymbols env = env ≡ symbols_of (up_to 0 16)

-- An environment in which each of the second table's variables is its partner's symbol at pair i, or its own.
abbrev pub PartnerSymbols : List ℕ → ℕ → Env → Type 0
PartnerSymbols list i env = env ≡ symbols_of (map (partner (pair_at list i).links) (up_to 0 16))

-- A path of pair i can be walked in the first table.
abbrev pub Walked : List ℕ → List ℕ → ℕ → ℕ → Type 0
Walked first list i path = walkable (table_of first) (pair_at list i).first (path_at list path).first ≡ true
