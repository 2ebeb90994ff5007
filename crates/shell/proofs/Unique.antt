-- Two arrays of zeros that meet one contract are equal, of whatever length. What is read, taken or printed no contract can say. Assumes
-- nothing.
use Rattle.std.proofs.Common.{◌≡◌, sym, ◌∙◌}
use Rattle.shell.proofs.zeros.Reads as zeros

pub zeros_unique : (g : _) (k : _) (κs : _) (a : _) (r r' : _) (s s' : _) → zeros.Post g k κs a r s → zeros.Post g k κs a r' s' → r ≡ r'
zeros_unique g k κs a r r' s s' p q = p.1 ∙ sym q.1
