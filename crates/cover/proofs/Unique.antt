-- For each public function, two answers that meet its contract are equal. Each theorem speaks of the function's own generated
-- contract, `Post`. Assumes nothing.
use mathlib.Core.Path.{◌≡◌}
use Rattle.model.proofs.Basics.{one_answer}
use Rattle.cover.proofs.covers.Reads as covers
use Rattle.cover.proofs.reach.Reads as reach

pub covers_unique : (κs : _) (a : _) (r r' : _) (s s' : _) → covers.Post κs a r s → covers.Post κs a r' s' → r ≡ r'
covers_unique κs a r r' s s' p q = one_answer p q

pub reach_unique : (κs : _) (a : _) (r r' : _) (s s' : _) → reach.Post κs a r s → reach.Post κs a r' s' → r ≡ r'
reach_unique κs a r r' s s' p q = one_answer p q
