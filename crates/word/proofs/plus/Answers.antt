-- `word::plus` is the definition at width 32. Assumes nothing.
use Rattle.std.proofs.Common.{arith, rules}
use Rattle.model.specs.Word.{wrap, plus}
use Rattle.word.proofs.plus.Goals as goal

pub returns : goal.returns
unfolding wrap plus
returns c = omega arith
