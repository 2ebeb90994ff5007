-- `expr::extent` is the extent of the model's reading at the front of the words. Assumes nothing.
use mathlib.Core.Path.{◌∙◌, ap}
use Rattle.expr.specs.Answers.{extent_of}
use Rattle.expr.proofs.Reading.{shown}
use Rattle.expr.proofs.extent.Goals as goal

pub returns : goal.returns
returns c = rw c.min.ensures at c.read.ensures ∙ ap extent_of (shown _)
