-- `sum::Sum::negate` is the negation, term by term. Assumes nothing.
use Rattle.std.proofs.Common.{map}
use Rattle.model.specs.Word.{base}
use Rattle.sum.specs.Packed.{negate_term_k}
use Rattle.sum.proofs.Lists.{Copied}
use Rattle.sum.proofs.Sum.negate.Given as goal

-- The first terms are negated.
abbrev pub invariant-loop-t : goal.invariant-loop-t
invariant-loop-t l = Copied 16 (map (negate_term_k base) l.initial.t-items) l.initial.t-items l.t-items l.t-index
