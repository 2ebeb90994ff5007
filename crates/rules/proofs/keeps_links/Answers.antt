-- `rules::keeps_links` is rule 19 on some links of a correspondence. Assumes nothing.
use Rattle.std.proofs.Common.{◌∙◌, rules, refl}
use native.Mathlib.Omega.{arith}
use borrow.Author.Tests.{tests}
use Rattle.std.proofs.lemmas.Iterator.{YieldsList-from_range}
use Rattle.std.proofs.lemmas.Iterator.Search.{all_from_yields_List}
use Rattle.list.specs.Checks.{link_record}
use Rattle.rules.specs.Rules.{keeps_in, keeps_all_in}
use Rattle.rules.proofs.Members.{all_range}
use Rattle.rules.proofs.keeps_links.Goals as goal

pub returns : goal.returns
unfolding keeps_all_in
returns c =
    all_from_yields_List
    (λ j. keeps_in c.args.first.now (link_record c.args.image.now c.args.at j).first c.args.second.now (link_record c.args.image.now c.args.at j).second) c.all.new.self _ _ c.all.ensures.ran
    (YieldsList-from_range c.args.link _ c.args.links refl (omega arith))
    (λ x b q k. search (rules, tests))
    ∙ all_range _ _ _
