-- `table::is_expression` is whether the model reads an expression there. Assumes nothing.
use mathlib.Core.Path.{sym, ap, ◌∙◌}
use Rattle.model.specs.Expr.{is_parsed}
use Rattle.expr.proofs.Reading.{shown_from, shown_outside}
use Rattle.table.proofs.Records.{parsed_extent}
use Rattle.table.proofs.is_expression.Goals as goal

pub returns-then-code-at : goal.returns-then-code-at
unfolding is_parsed
returns-then-code-at c = sym (ap is_parsed (shown_outside _ _ c.if-code-at.true))

pub returns : goal.returns
returns c = c.is_some.ensures ∙ parsed_extent _ c.extent.ensures ∙ ap is_parsed (shown_from _ _)
