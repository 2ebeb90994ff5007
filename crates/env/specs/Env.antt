-- An environment as the code holds it: sixteen sums, one for each variable. Assumes nothing.
use Rattle.std.specs.Prelude.{ℕ, List, map, set}
use Rattle.key.specs.Key.{symbol_of}
use Rattle.sum.specs.declared.Term.{Term}
use Rattle.sum.specs.declared.Sum.{Sum}
use Rattle.sum.specs.Packed.{symbol_k, terms_of, as_sum}
use Rattle.env.specs.declared.Env.{Env}

-- The terms of the variables' sums in turn.
unfoldable pub sums_of : Env → List (List Term)
sums_of e = map terms_of e.sums

-- An environment with the sum of variable v replaced; a variable of 16 and more has none, and nothing changes.
unfoldable pub with_variable : Env → ℕ → Sum → Env
with_variable e v s = record { sums = set e.sums v s }

-- The environment in which each variable is its symbol of a list.
unfoldable pub symbols_of : List ℕ → Env
symbols_of list = record { sums = map (λ x. as_sum (symbol_k (symbol_of x))) list }
