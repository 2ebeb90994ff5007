-- `list::partners` is the second table's symbols at the start of a pair's paths: those by the links behind, link by link. Assumes nothing.
use Rattle.list.proofs.Linking.{Linking}
use Rattle.list.proofs.partners.Given as goal

abbrev pub invariant-loop-i : goal.invariant-loop-i
invariant-loop-i l = Linking l.list l.first l.count l.symbols l.i
