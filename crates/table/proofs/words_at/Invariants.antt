-- `table::words_at` is words of the model, one after another: those that are written so far. Assumes nothing.
use Prim.Native.Nat.{ℕ, ◌+◌, ◌<◌}
use mathlib.Core.Path.{◌≡◌}
use lib.ListN.{get_or, length}
use Rattle.model.specs.Answer.{word}
use Rattle.table.proofs.words_at.Given as goal

abbrev pub invariant-loop-k : goal.invariant-loop-k
invariant-loop-k g l = (length l.words ≡ g.row.N) × ((i : ℕ) → i < l.k → get_or l.words i 0 ≡ word l.image (l.at + i))
