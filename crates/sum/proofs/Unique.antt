-- For each public function, two answers that meet its contract are equal. Each theorem speaks of the function's own generated
-- contract, `Post`. Assumes nothing.
use mathlib.Core.Path.{◌≡◌}
use Rattle.model.proofs.Basics.{one_answer}
use Rattle.sum.proofs.Sum.terms.Reads as terms
use Rattle.sum.proofs.SumTryFromRefSliceTerm.try_from.Reads as try_from
use Rattle.sum.proofs.Sum.empty.Reads as empty
use Rattle.sum.proofs.Sum.constant.Reads as constant
use Rattle.sum.proofs.Sum.symbol.Reads as symbol
use Rattle.sum.proofs.Sum.add.Reads as add
use Rattle.sum.proofs.Sum.negate.Reads as negate
use Rattle.sum.proofs.Sum.subtract.Reads as subtract
use Rattle.sum.proofs.Sum.multiply.Reads as multiply
use Rattle.sum.proofs.Sum.same.Reads as same

pub terms_unique : (κs : _) (a : _) (r r' : _) (s s' : _) → terms.Post κs a r s → terms.Post κs a r' s' → r.now ≡ r'.now
terms_unique κs a r r' s s' p q = one_answer p q

pub try_from_unique : (κs : _) (a : _) (r r' : _) (s s' : _) → try_from.Post κs a r s → try_from.Post κs a r' s' → r ≡ r'
try_from_unique κs a r r' s s' p q = one_answer p q

pub empty_unique : (κs : _) (a : _) (r r' : _) (s s' : _) → empty.Post κs a r s → empty.Post κs a r' s' → r ≡ r'
empty_unique κs a r r' s s' p q = one_answer p q

pub constant_unique : (κs : _) (a : _) (r r' : _) (s s' : _) → constant.Post κs a r s → constant.Post κs a r' s' → r ≡ r'
constant_unique κs a r r' s s' p q = one_answer p q

pub symbol_unique : (κs : _) (a : _) (r r' : _) (s s' : _) → symbol.Post κs a r s → symbol.Post κs a r' s' → r ≡ r'
symbol_unique κs a r r' s s' p q = one_answer p q

pub add_unique : (κs : _) (a : _) (r r' : _) (s s' : _) → add.Post κs a r s → add.Post κs a r' s' → r ≡ r'
add_unique κs a r r' s s' p q = one_answer p q

pub negate_unique : (κs : _) (a : _) (r r' : _) (s s' : _) → negate.Post κs a r s → negate.Post κs a r' s' → r ≡ r'
negate_unique κs a r r' s s' p q = one_answer p q

pub subtract_unique : (κs : _) (a : _) (r r' : _) (s s' : _) → subtract.Post κs a r s → subtract.Post κs a r' s' → r ≡ r'
subtract_unique κs a r r' s s' p q = one_answer p q

pub multiply_unique : (κs : _) (a : _) (r r' : _) (s s' : _) → multiply.Post κs a r s → multiply.Post κs a r' s' → r ≡ r'
multiply_unique κs a r r' s s' p q = one_answer p q

pub same_unique : (κs : _) (a : _) (r r' : _) (s s' : _) → same.Post κs a r s → same.Post κs a r' s' → r ≡ r'
same_unique κs a r r' s s' p q = one_answer p q
