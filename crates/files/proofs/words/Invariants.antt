-- `files::words` meets its contract. The loop's invariant: the first i words are stored, and those behind them are as they were. Assumes
-- nothing.
use Rattle.std.proofs.Common.{◌≡◌, ◌++◌, take, drop}
use Rattle.files.specs.Files.{words_of}
use Rattle.files.proofs.words.Given as goal

abbrev pub invariant-loop-i : goal.invariant-loop-i
invariant-loop-i l = l.out ≡ take l.i (words_of l.bytes) ++ drop l.i l.initial.out
