-- The answer of a run that ended is what it should be. Assumes nothing.
use Rattle.run.specs.Answers.{ended_of}
use Rattle.run.proofs.TrialFromEnded.from.Goals as goal

pub returns : goal.returns
unfolding ended_of
returns c = rw c.from.ensures
