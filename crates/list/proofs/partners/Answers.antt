-- `list::partners` is the second table's symbols at the start of a pair's paths: those by the links behind, link by link. Assumes nothing.
use Rattle.list.proofs.Linking.{linking_start, linking_step, linking_past}
use Rattle.list.proofs.partners.Goals as goal

pub loop-i-init : goal.loop-i-init
loop-i-init c = linking_start _ _ _

pub loop-i-preserved-then-here-gt15 : goal.loop-i-preserved-then-here-gt15
loop-i-preserved-then-here-gt15 c = linking_past _ _ _ _ _ c.loop-i.invariant c.requires.0 c.loop-i-test.true c.link-here.ensures c.if-here-gt15.true

pub loop-i-preserved : goal.loop-i-preserved
loop-i-preserved c = linking_step _ _ _ _ _ c.loop-i.invariant c.requires.0 c.loop-i-test.true c.link-here.ensures
