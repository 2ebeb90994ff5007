-- For each public function, two answers that meet its contract are equal. Each theorem speaks of the function's own generated
-- contract, `Post`. Assumes nothing.
use mathlib.Core.Path.{◌≡◌}
use Rattle.model.proofs.Basics.{one_answer}
use Rattle.rules.proofs.same_reads.Reads as same_reads
use Rattle.rules.proofs.same_writes.Reads as same_writes
use Rattle.rules.proofs.keeps_link.Reads as keeps_link
use Rattle.rules.proofs.keeps_links.Reads as keeps_links

pub same_reads_unique : (κs : _) (a : _) (r r' : _) (s s' : _) → same_reads.Post κs a r s → same_reads.Post κs a r' s' → r ≡ r'
same_reads_unique κs a r r' s s' p q = one_answer p q

pub same_writes_unique : (κs : _) (a : _) (r r' : _) (s s' : _) → same_writes.Post κs a r s → same_writes.Post κs a r' s' → r ≡ r'
same_writes_unique κs a r r' s s' p q = one_answer p q

pub keeps_link_unique : (κs : _) (a : _) (r r' : _) (s s' : _) → keeps_link.Post κs a r s → keeps_link.Post κs a r' s' → r ≡ r'
keeps_link_unique κs a r r' s s' p q = one_answer p q

pub keeps_links_unique : (κs : _) (a : _) (r r' : _) (s s' : _) → keeps_links.Post κs a r s → keeps_links.Post κs a r' s' → r ≡ r'
keeps_links_unique κs a r r' s s' p q = one_answer p q
