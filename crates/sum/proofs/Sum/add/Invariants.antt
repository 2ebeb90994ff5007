-- `sum::Sum::add` is the sum of two sums. Assumes nothing.
use Rattle.std.proofs.Common.{◌≡◌, ◌+◌, ◌≤◌, length, drop}
use Rattle.model.specs.Word.{base}
use Rattle.sum.specs.Packed.{collect_k}
use Rattle.sum.proofs.Sum.add.Given as goal

-- What is left to collect gives the whole, and each term made one more at most.
abbrev pub invariant-loop-t : goal.invariant-loop-t
invariant-loop-t l = record {
  rest : collect_k base (drop l.t-index l.t-items) l.ts.items ≡ collect_k base l.t-items l.initial.ts.items;
  few : length l.ts.items ≤ length l.initial.ts.items + l.t-index;
}
