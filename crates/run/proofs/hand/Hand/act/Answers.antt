-- `run::hand::Hand::act` meets its contract. Assumes nothing.
use Prim.Native.Nat.{ℕ}
use native.Mathlib.Omega.{arith}
use lib.ListN.{length-set}
use Rattle.run.specs.Sound.{ActionFits}
use Rattle.run.proofs.Acting.{act_fits, assigned, taken_in, put_out, put_room}
use Rattle.run.proofs.hand.Hand.act.Goals as goal

pub worth-requires : goal.worth-requires
unfolding ActionFits
worth-requires c = (act_fits _ c.in-Assign.is c.requires.fits).1

pub bounds-self-variable : goal.bounds-self-variable
unfolding ActionFits
bounds-self-variable c = (act_fits _ c.in-Assign.is c.requires.fits).0

pub bounds-self-port : goal.bounds-self-port
unfolding ActionFits
bounds-self-port c = (act_fits _ c.in-Read.is c.requires.fits).0

pub bounds-self-variable-in-Read : goal.bounds-self-variable-in-Read
unfolding ActionFits
bounds-self-variable-in-Read c = (act_fits _ c.in-Read.is c.requires.fits).1

pub bounds-self-port-in-Read : goal.bounds-self-port-in-Read
unfolding ActionFits
bounds-self-port-in-Read c = (act_fits _ c.in-Read.is c.requires.fits).0

pub bounds-out-self : goal.bounds-out-self
bounds-out-self c = omega (arith, put_room _ _ _ c.in-Write.is c.requires.room)

pub worth-requires-in-Write : goal.worth-requires-in-Write
unfolding ActionFits
worth-requires-in-Write c = (act_fits _ c.in-Write.is c.requires.fits).1

pub bounds-out-self-in-Write : goal.bounds-out-self-in-Write
bounds-out-self-in-Write c = omega (arith, put_room _ _ _ c.in-Write.is c.requires.room, length-set {A = ℕ})

pub returns-in-Assign : goal.returns-in-Assign
returns-in-Assign c = assigned _ _ _ _ _ _ _ c.in-Assign.is c.worth.ensures

pub returns-in-Read : goal.returns-in-Read
unfolding ActionFits
returns-in-Read c = taken_in _ _ _ _ _ _ _ _ c.in-Read.is (act_fits _ c.in-Read.is c.requires.fits).0 c.args.self.now.four c.next_word-taken.ensures

pub returns-in-Write : goal.returns-in-Write
returns-in-Write c = put_out _ _ _ _ _ _ _ c.in-Write.is c.worth-in-Write.ensures
