-- `sum::holding` is the struct of at most 16 terms: they are copied over zero terms. Assumes nothing.
use Rattle.std.proofs.Common.{◌≡◌, ◌∙◌, ap, ◌-◌, ◌++◌, length, drop, replicate}
use Rattle.std.proofs.lemmas.List.{drop-replicate}
use Rattle.sum.specs.Packed.{as_sum, zero_term}
use Rattle.sum.proofs.holding.Goals as goal

pub returns : goal.returns
unfolding as_sum
returns c =
    let n = length c.args.ts.now in
    let z : c.default-terms.result ≡ zero_term = λ i. record { coef = c.default-terms.ensures.0 i; mono = c.default-terms.ensures.1 i } in
    let p : drop n (replicate 16 c.default-terms.result) ≡ replicate (16 - n) zero_term = ap (λ t. drop n (replicate 16 t)) z ∙ drop-replicate n 16 zero_term in
    λ i. record { n = n; terms = c.copy_from_slice.ensures.after i ++ p i }
