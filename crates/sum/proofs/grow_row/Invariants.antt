-- `sum::grow_row` collects the products of a term with each of others. Assumes nothing.
use Rattle.std.proofs.Common.{◌≡◌, ◌+◌, ◌≤◌, length, drop}
use Rattle.model.specs.Word.{base}
use Rattle.sum.specs.Packed.{term_product_k, products_k, gather_k}
use Rattle.sum.proofs.grow_row.Given as goal

-- What is left gives the whole, and each product was one term at most.
abbrev pub invariant-loop-u : goal.invariant-loop-u
invariant-loop-u g l = record {
  rest : gather_k base (products_k (term_product_k base l.t) (drop l.u-index l.us)) l.ts.items
      ≡ gather_k base (products_k (term_product_k base l.t) l.us) l.initial.ts.items;
  few : length l.ts.items ≤ length l.initial.ts.items + l.u-index;
}
