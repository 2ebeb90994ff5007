-- `rules::same_reads` is rule 17. Assumes nothing.
use Rattle.std.proofs.Common.{◌∙◌}
use Rattle.rules.proofs.Members.{reads_zip}
use Rattle.rules.proofs.same_reads.Goals as goal

pub returns : goal.returns
returns c = c.eq.ensures ∙ reads_zip _ _ c.told-first c.told-second
