-- `sum::Sum::multiply` is the product of two sums. Assumes nothing.
use Rattle.std.proofs.Common.{◌≡◌, ◌*◌, ◌≤◌, [], length, drop}
use Rattle.model.specs.Word.{base}
use Rattle.sum.specs.Packed.{products_k, gather_k}
use Rattle.sum.proofs.Product.{Row}
use Rattle.sum.proofs.Sum.multiply.Given as goal

-- What is left gives the whole, and each row was as long as the second sum at most.
abbrev pub invariant-loop-t : goal.invariant-loop-t
invariant-loop-t l = record {
  rest : gather_k base (products_k (Row base l.us) (drop l.t-index l.ts)) l.all.items ≡ gather_k base (products_k (Row base l.us) l.ts) [];
  few : length l.all.items ≤ l.t-index * length l.us;
}
