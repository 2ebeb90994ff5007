-- `run_table::couple_lines` meets its contract. The loop's invariant is `Forming`, a text with the lines of the couples that were seen.
-- Assumes nothing.
use Rattle.run_table.proofs.Forming.{Forming}
use Rattle.run_table.proofs.couple_lines.Given as goal

abbrev pub invariant-loop-couple : goal.invariant-loop-couple
invariant-loop-couple l = Forming l.words l.initial.text l.text l.at l.couple-index
