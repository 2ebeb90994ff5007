-- `run::sound::Sound::side` meets its contract. Assumes nothing.
use Rattle.run.specs.Sound.{StateFits, test_of}
use Rattle.run.proofs.Records.{test_fits, no_test}
use Rattle.run.proofs.sound.Sound.side.Goals as goal

pub worth-left-requires : goal.worth-left-requires
unfolding StateFits
worth-left-requires c = (test_fits _ _ c.in-Test.is c.requires).2

pub worth-right-requires : goal.worth-right-requires
unfolding StateFits
worth-right-requires c = (test_fits _ _ c.in-Test.is c.requires).3

pub returns-in-Test : goal.returns-in-Test
unfolding test_of
returns-in-Test c = rw (c.in-Test.is, ← c.worth-left.ensures, ← c.worth-right.ensures) c.holds.ensures

pub returns-in_default : goal.returns-in_default
returns-in_default c = no_test _ _ _ c.in_default.not-Test
