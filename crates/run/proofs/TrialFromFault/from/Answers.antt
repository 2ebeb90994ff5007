-- The answer of a refusal is what it should be. Assumes nothing.
use Rattle.model.specs.Run.{zeros}
use Rattle.run.specs.Answers.{refused_of}
use Rattle.run.proofs.Answering.{names_none, names_first}
use Rattle.run.proofs.TrialFromFault.from.Goals as goal

pub returns-in-WrongInput : goal.returns-in-WrongInput
unfolding refused_of zeros
returns-in-WrongInput c = rw (c.from.ensures, ← names_none c.in-WrongInput.is)

pub returns-in_default : goal.returns-in_default
unfolding refused_of zeros
returns-in_default c = rw (c.from.ensures, ← names_first _ c.in_default.not-WrongInput)
