-- Two answers of the trial run that meet its contract are equal, and so are the final buffers. The theorem speaks of the function's own
-- generated contract, `Post`; `s.1.1.1.0` is the buffer as the function returns. Assumes nothing.
use mathlib.Core.Path.{◌≡◌}
use Rattle.model.proofs.Basics.{one_answer}
use Rattle.run.proofs.run.Reads as run
use Rattle.run.proofs.TrialFromFault.from.Reads as refused

pub run_unique : (κs : _) (a : _) (r r' : _) (s s' : _) → run.Post κs a r s → run.Post κs a r' s'
    → (r ≡ r') × (s.1.1.1.0.now ≡ s'.1.1.1.0.now)
run_unique κs a r r' s s' p q = (one_answer p.0 q.0, one_answer p.1 q.1)

pub refused_unique : (κs : _) (a : _) (r r' : _) (s s' : _) → refused.Post κs a r s → refused.Post κs a r' s' → r ≡ r'
refused_unique κs a r r' s s' p q = one_answer p q
