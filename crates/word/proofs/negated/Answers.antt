-- `word::negated` is the definition at width 32. Assumes nothing.
use Rattle.std.proofs.Common.{arith, rules}
use Rattle.model.specs.Word.{wrap, negated}
use Rattle.word.proofs.negated.Goals as goal

pub returns : goal.returns
unfolding wrap negated
returns c = omega arith
