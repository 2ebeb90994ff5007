-- `env::Env::symbols` makes the sums in order. Assumes nothing.
use Rattle.env.proofs.Symbols.{Made}
use Rattle.env.proofs.Env.symbols.Given as goal

abbrev pub invariant-loop-v : goal.invariant-loop-v
invariant-loop-v l = Made l.fn.list l.initial.sums l.sums l.v
