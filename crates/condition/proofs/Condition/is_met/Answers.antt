-- `condition::Condition::is_met` is whether the test is constant on a side, or stands among the conditions with that side. Assumes nothing.
use Rattle.std.proofs.Common.{◌∙◌, ap, rules}
use borrow.Author.Tests.{tests}
use Rattle.std.proofs.lemmas.Iterator.{YieldsList-from_slice}
use Rattle.std.proofs.lemmas.Iterator.Search.{any_from_yields_List}
use Rattle.model.specs.Judgement.{any}
use Rattle.condition.specs.Conditions.{like_in}
use Rattle.condition.proofs.Settling.{as_side}
use Rattle.condition.proofs.Members.{any_members, met_constant, met_among}
use Rattle.condition.proofs.Condition.is_met.Goals as goal

pub returns-then-is_constant_on : goal.returns-then-is_constant_on
returns-then-is_constant_on c = met_constant _ _ _ (as_side _ _ c.settled.ensures c.is_constant_on.ensures) c.if-is_constant_on.true

pub returns : goal.returns
returns c =
    met_among _ _ _ (as_side _ _ c.settled.ensures c.is_constant_on.ensures) c.if-is_constant_on.false
    (any_from_yields_List (like_in c.args.self.now c.args.taken) _ _ _ c.any.ensures.ran (YieldsList-from_slice c.as_slice.result.now cc) (λ x b q k. search (rules, tests))
    ∙ any_members _ _ ∙ ap (any (like_in c.args.self.now c.args.taken)) c.as_slice.ensures.value)
