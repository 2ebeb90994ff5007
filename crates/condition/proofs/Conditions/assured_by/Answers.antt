-- `condition::Conditions::assured_by` is rule 16. Assumes nothing.
use Rattle.std.proofs.Common.{◌∙◌, ap, rules}
use borrow.Author.Tests.{tests}
use Rattle.std.proofs.lemmas.Iterator.{YieldsList-from_slice}
use Rattle.std.proofs.lemmas.Iterator.Search.{all_from_yields_List}
use Rattle.model.specs.Judgement.{all}
use Rattle.condition.specs.Conditions.{conditions_of, met_in, assured_in}
use Rattle.condition.proofs.Members.{all_members}
use Rattle.condition.proofs.Conditions.assured_by.Goals as goal

pub returns : goal.returns
unfolding assured_in
returns c =
    all_from_yields_List (λ d. met_in (conditions_of c.args.first.now) d d.taken) _ _ _ c.all.ensures.ran (YieldsList-from_slice c.as_slice.result.now cc) (λ x b q k. search (rules, tests))
    ∙ all_members _ _ ∙ ap (all (λ d. met_in (conditions_of c.args.first.now) d d.taken)) c.as_slice.ensures.value
