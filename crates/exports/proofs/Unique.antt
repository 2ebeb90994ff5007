-- The exported run's contract leaves one final buffer and one answer, and the exported judgement's one answer: two that meet it for the
-- same arguments are equal. `Post` is the contract as the toolchain reads it off the source. Assumes nothing.
use mathlib.Core.Path.{◌≡◌}
use Rattle.model.proofs.Basics.{one_answer}
use Rattle.exports.proofs.sandulipaw_run.Reads as sandulipaw_run
use Rattle.exports.proofs.sandulipaw_judge.Reads as sandulipaw_judge

pub sandulipaw_run_unique : (κs : _) (a : _) (r r' : _) (s s' : _)
    → sandulipaw_run.Post κs a r s
    → sandulipaw_run.Post κs a r' s'
    → (s.1.1.1.0.now ≡ s'.1.1.1.0.now) × (s.1.1.1.1.0.now ≡ s'.1.1.1.1.0.now)
sandulipaw_run_unique κs a r r' s s' p q = (one_answer p.0 q.0, one_answer p.1 q.1)

pub sandulipaw_judge_unique : (κs : _) (a : _) (r r' : _) (s s' : _)
    → sandulipaw_judge.Post κs a r s
    → sandulipaw_judge.Post κs a r' s'
    → s.1.1.1.0.now ≡ s'.1.1.1.0.now
sandulipaw_judge_unique κs a r r' s s' p q = one_answer p q
