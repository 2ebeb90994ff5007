-- Two answers of the judgement that meet its contract are equal. The theorem speaks of the function's own generated contract, `Post`.
-- Assumes nothing.
use mathlib.Core.Path.{◌≡◌}
use Rattle.model.proofs.Basics.{one_answer}
use Rattle.judge.proofs.judge.Reads as judge

pub judge_unique : (κs : _) (a : _) (r r' : _) (s s' : _) → judge.Post κs a r s → judge.Post κs a r' s' → r ≡ r'
judge_unique κs a r r' s s' p q = one_answer p q
