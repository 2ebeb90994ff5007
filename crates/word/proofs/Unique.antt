-- For each public function, two answers that meet its contract are equal. Each theorem speaks of the function's own generated
-- contract, `Post`. Assumes nothing.
use Rattle.std.proofs.Common.{◌≡◌}
use Rattle.model.proofs.Basics.{one_answer}
use Rattle.word.proofs.plus.Reads as plus
use Rattle.word.proofs.minus.Reads as minus
use Rattle.word.proofs.times.Reads as times
use Rattle.word.proofs.negated.Reads as negated
use Rattle.word.proofs.signed.Reads as signed
use Rattle.word.proofs.KindFromU32.from.Reads as kind_from
use Rattle.word.proofs.holds.Reads as holds

pub plus_unique : (κs : _) (a : _) (r r' : _) (s s' : _) → plus.Post κs a r s → plus.Post κs a r' s' → r ≡ r'
plus_unique κs a r r' s s' p q = one_answer p q

pub minus_unique : (κs : _) (a : _) (r r' : _) (s s' : _) → minus.Post κs a r s → minus.Post κs a r' s' → r ≡ r'
minus_unique κs a r r' s s' p q = one_answer p q

pub times_unique : (κs : _) (a : _) (r r' : _) (s s' : _) → times.Post κs a r s → times.Post κs a r' s' → r ≡ r'
times_unique κs a r r' s s' p q = one_answer p q

pub negated_unique : (κs : _) (a : _) (r r' : _) (s s' : _) → negated.Post κs a r s → negated.Post κs a r' s' → r ≡ r'
negated_unique κs a r r' s s' p q = one_answer p q

pub signed_unique : (κs : _) (a : _) (r r' : _) (s s' : _) → signed.Post κs a r s → signed.Post κs a r' s' → r ≡ r'
signed_unique κs a r r' s s' p q = one_answer p q

pub kind_from_unique : (κs : _) (a : _) (r r' : _) (s s' : _) → kind_from.Post κs a r s → kind_from.Post κs a r' s' → r ≡ r'
kind_from_unique κs a r r' s s' p q = one_answer p q

pub holds_unique : (κs : _) (a : _) (r r' : _) (s s' : _) → holds.Post κs a r s → holds.Post κs a r' s' → r ≡ r'
holds_unique κs a r r' s s' p q = one_answer p q
