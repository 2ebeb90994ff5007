-- For each public function, two answers that meet its contract are equal, and so is what they leave. Each theorem speaks of the function's
-- own generated contract, `Post`. Assumes nothing.
use mathlib.Core.Path.{◌≡◌}
use Rattle.model.proofs.Basics.{one_answer}
use Rattle.condition.proofs.ConditionDefault.default.Reads as default_condition
use Rattle.condition.proofs.Condition.settled.Reads as settled
use Rattle.condition.proofs.Conditions.new.Reads as new
use Rattle.condition.proofs.Conditions.clear.Reads as clear
use Rattle.condition.proofs.Conditions.push.Reads as push
use Rattle.condition.proofs.Conditions.as_slice.Reads as as_slice
use Rattle.condition.proofs.Conditions.contradicts.Reads as contradicts
use Rattle.condition.proofs.Conditions.assured_by.Reads as assured_by

pub default_unique : (κs : _) (a : _) (r r' : _) (s s' : _) → default_condition.Post κs a r s → default_condition.Post κs a r' s' → r ≡ r'
default_unique κs a r r' s s' p q = one_answer p q

pub settled_unique : (κs : _) (a : _) (r r' : _) (s s' : _) → settled.Post κs a r s → settled.Post κs a r' s' → r ≡ r'
settled_unique κs a r r' s s' p q = one_answer p q

pub new_unique : (κs : _) (a : _) (r r' : _) (s s' : _) → new.Post κs a r s → new.Post κs a r' s' → r ≡ r'
new_unique κs a r r' s s' p q = one_answer p q

pub clear_unique : (κs : _) (a : _) (r r' : _) (s s' : _) → clear.Post κs a r s → clear.Post κs a r' s' → s.0.now ≡ s'.0.now
clear_unique κs a r r' s s' p q = one_answer p q

pub push_unique : (κs : _) (a : _) (r r' : _) (s s' : _) → push.Post κs a r s → push.Post κs a r' s' → s.0.now ≡ s'.0.now
push_unique κs a r r' s s' p q = one_answer p q

pub as_slice_unique : (κs : _) (a : _) (r r' : _) (s s' : _) → as_slice.Post κs a r s → as_slice.Post κs a r' s' → r.now ≡ r'.now
as_slice_unique κs a r r' s s' p q = one_answer p.0 q.0

pub contradicts_unique : (κs : _) (a : _) (r r' : _) (s s' : _) → contradicts.Post κs a r s → contradicts.Post κs a r' s' → r ≡ r'
contradicts_unique κs a r r' s s' p q = one_answer p q

pub assured_by_unique : (κs : _) (a : _) (r r' : _) (s s' : _) → assured_by.Post κs a r s → assured_by.Post κs a r' s' → r ≡ r'
assured_by_unique κs a r r' s s' p q = one_answer p q
