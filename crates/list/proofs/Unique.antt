-- For each public function, two answers that meet its contract are equal. Each theorem speaks of the function's own generated
-- contract, `Post`. Assumes nothing.
use mathlib.Core.Path.{◌≡◌}
use Rattle.model.proofs.Basics.{one_answer}
use Rattle.list.proofs.check.Reads as check
use Rattle.list.proofs.link.Reads as link
use Rattle.list.proofs.path.Reads as path
use Rattle.list.proofs.pair.Reads as pair
use Rattle.list.proofs.own_symbols.Reads as own_symbols
use Rattle.list.proofs.partners.Reads as partners

pub check_unique : (κs : _) (a : _) (r r' : _) (s s' : _) → check.Post κs a r s → check.Post κs a r' s' → r ≡ r'
check_unique κs a r r' s s' p q = one_answer p q

pub link_unique : (κs : _) (a : _) (r r' : _) (s s' : _) → link.Post κs a r s → link.Post κs a r' s' → r ≡ r'
link_unique κs a r r' s s' p q = one_answer p q

pub path_unique : (κs : _) (a : _) (r r' : _) (s s' : _) → path.Post κs a r s → path.Post κs a r' s' → r ≡ r'
path_unique κs a r r' s s' p q = one_answer p q

pub pair_unique : (κs : _) (a : _) (r r' : _) (s s' : _) → pair.Post κs a r s → pair.Post κs a r' s' → r ≡ r'
pair_unique κs a r r' s s' p q = one_answer p q

pub own_symbols_unique : (κs : _) (a : _) (r r' : _) (s s' : _) → own_symbols.Post κs a r s → own_symbols.Post κs a r' s' → r ≡ r'
own_symbols_unique κs a r r' s s' p q = one_answer p q

pub partners_unique : (κs : _) (a : _) (r r' : _) (s s' : _) → partners.Post κs a r s → partners.Post κs a r' s' → r ≡ r'
partners_unique κs a r r' s s' p q = one_answer p q
