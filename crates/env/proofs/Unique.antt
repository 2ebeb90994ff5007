-- Each function's contract leaves one answer: two answers that meet it for the same arguments are equal, and so are two environments that
-- `set` leaves. `Post` is the contract as the toolchain reads it off the source; `now s.0` is the environment as the function returns.
-- Assumes nothing.
use mathlib.Core.Path.{◌≡◌}
use Rattle.model.proofs.Basics.{one_answer}
use Rattle.env.proofs.Env.set.Reads as set
use Rattle.env.proofs.Env.symbols.Reads as symbols
use Rattle.env.proofs.Env.get.Reads as get

-- A variable's sum is replaced in one way.
pub set_unique : (κs : _) (a : _) (r r' : _) (s s' : _) → set.Post κs a r s → set.Post κs a r' s' → s.0.now ≡ s'.0.now
set_unique κs a r r' s s' p q = one_answer p.0 q.0

-- A list of symbols makes one environment.
pub symbols_unique : (κs : _) (a : _) (r r' : _) (s s' : _) → symbols.Post κs a r s → symbols.Post κs a r' s' → r ≡ r'
symbols_unique κs a r r' s s' p q = one_answer p q

-- A variable has one sum.
pub get_unique : (κs : _) (a : _) (r r' : _) (s s' : _) → get.Post κs a r s → get.Post κs a r' s' → r ≡ r'
get_unique κs a r r' s s' p q = one_answer p.0 q.0
