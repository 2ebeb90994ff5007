-- `rules::keeps_link` is whether two variables have the same sum. Assumes nothing.
use Rattle.rules.proofs.Members.{keeps_is}
use Rattle.rules.proofs.keeps_link.Goals as goal

pub returns : goal.returns
returns c = keeps_is _ _ _ _ c.get-a.ensures.value c.get-b.ensures.value c.same.ensures
