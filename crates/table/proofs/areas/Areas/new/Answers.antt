-- `table::areas::Areas::new` finds the areas where they are, since the header is right. Assumes nothing.
use Rattle.table.proofs.Records.{edges_here, actions_here}
use Rattle.table.proofs.areas.Areas.new.Goals as goal

pub invariant_of-result : goal.invariant_of-result
invariant_of-result c =
    record {
      codes = c.code_area.ensures;
      edges_begin = edges_here _ c.requires c.word_at.ensures;
      actions_begin = actions_here _ c.requires c.word_at-2.ensures;
    }
