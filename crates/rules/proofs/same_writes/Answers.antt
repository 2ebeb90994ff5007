-- `rules::same_writes` is rule 18. Assumes nothing.
use Rattle.std.proofs.Common.{◌∙◌, rules}
use borrow.Author.Tests.{tests}
use Rattle.std.proofs.lemmas.Iterator.{YieldsList-from_slice, YieldsList-from_zip}
use Rattle.std.proofs.lemmas.Iterator.Search.{all_from_yields_List}
use Rattle.model.specs.Sum.{same}
use Rattle.sum.specs.Packed.{same_k}
use Rattle.side.specs.Parts.{Port, written_on}
use Rattle.rules.proofs.Members.{writes_zip}
use Rattle.rules.proofs.same_writes.Goals as goal

pub returns : goal.returns
returns c =
    all_from_yields_List (λ (p : Port × Port). same same_k (written_on p.0) (written_on p.1)) c.all.new.self _ _ c.all.ensures.ran
    (YieldsList-from_zip (YieldsList-from_slice c.args.first.now cc) (YieldsList-from_slice c.args.second.now cc))
    (λ x b q k. search (rules, tests))
    ∙ writes_zip c.args.first.now c.args.second.now (search) (search)
