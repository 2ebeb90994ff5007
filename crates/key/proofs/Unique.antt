-- For each public function, two answers that meet its contract are equal. Each theorem speaks of the function's own generated
-- contract, `Post`. Assumes nothing.
use mathlib.Core.Path.{◌≡◌}
use Rattle.model.proofs.Basics.{one_answer}
use Rattle.key.proofs.symbol.Reads as symbol
use Rattle.key.proofs.count.Reads as count
use Rattle.key.proofs.merge.Reads as merge

pub symbol_unique : (κs : _) (a : _) (r r' : _) (s s' : _) → symbol.Post κs a r s → symbol.Post κs a r' s' → r ≡ r'
symbol_unique κs a r r' s s' p q = one_answer p q

pub count_unique : (κs : _) (a : _) (r r' : _) (s s' : _) → count.Post κs a r s → count.Post κs a r' s' → r ≡ r'
count_unique κs a r r' s s' p q = one_answer p q

pub merge_unique : (κs : _) (a : _) (r r' : _) (s s' : _) → merge.Post κs a r s → merge.Post κs a r' s' → r ≡ r'
merge_unique κs a r r' s s' p q = one_answer p q
