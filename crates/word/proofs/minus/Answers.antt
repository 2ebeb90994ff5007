-- `word::minus` is the definition at width 32. Assumes nothing.
use Rattle.std.proofs.Common.{arith, rules}
use Rattle.model.specs.Word.{wrap, minus}
use Rattle.word.proofs.minus.Goals as goal

pub returns : goal.returns
unfolding wrap minus
returns c = omega arith
