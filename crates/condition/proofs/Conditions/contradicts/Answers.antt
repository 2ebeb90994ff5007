-- `condition::Conditions::contradicts` is rule 15. Assumes nothing.
use Rattle.std.proofs.Common.{◌∙◌, ap, rules, not}
use borrow.Author.Tests.{tests}
use Rattle.std.proofs.lemmas.Iterator.{YieldsList-from_slice}
use Rattle.std.proofs.lemmas.Iterator.Search.{any_from_yields_List}
use Rattle.model.specs.Judgement.{any}
use Rattle.condition.specs.Conditions.{conditions_of, met_in, contradicts_in}
use Rattle.condition.proofs.Members.{any_members}
use Rattle.condition.proofs.Conditions.contradicts.Goals as goal

pub returns : goal.returns
unfolding contradicts_in
returns c =
    any_from_yields_List (λ d. met_in (conditions_of c.args.self.now) d (not d.taken)) _ _ _ c.any.ensures.ran (YieldsList-from_slice c.as_slice.result.now cc) (λ x b q k. search (rules, tests))
    ∙ any_members _ _ ∙ ap (any (λ d. met_in (conditions_of c.args.self.now) d (not d.taken))) c.as_slice.ensures.value
