-- `run::next_word` meets its contract. The loop's invariant is `Looking`: what is left of the port's words from here on is what was left
-- from the start on. Assumes nothing.
use Rattle.run.proofs.Input.{Looking}
use Rattle.run.proofs.next_word.Given as goal

abbrev pub invariant-loop-i : goal.invariant-loop-i
invariant-loop-i l = Looking l.input l.port l.from l.i
