-- `run::next_word` meets its contract. The loop's invariant is `Looking`: what is left of the port's words from here on is what was left
-- from the start on. Assumes nothing.
use native.Mathlib.Omega.{arith}
use Rattle.run.proofs.Input.{look_step, look_found, look_none}
use Rattle.run.proofs.next_word.Goals as goal

pub returns-then-input-i : goal.returns-then-input-i
returns-then-input-i c = look_found c.loop-i.invariant (omega arith) c.if-input-i.true

pub loop-i-preserved : goal.loop-i-preserved
loop-i-preserved c = look_step c.loop-i.invariant (omega arith) c.if-input-i.false

pub returns : goal.returns
returns c = look_none c.loop-i.invariant (omega arith)
