-- `env::read` is a sum with zeros behind its terms. Assumes nothing.
use mathlib.Core.Path.{◌∙◌, ap}
use mathlib.Core.List.{◌++◌}
use native.Mathlib.Omega.{arith}
use lib.ListN.{length, take, drop, replicate, length-take}
use Rattle.sum.specs.Packed.{zero_term, terms_of, as_sum}
use Rattle.sum.proofs.Held.{copied_as}
use Rattle.env.proofs.read.Goals as goal

pub returns : goal.returns
unfolding terms_of
returns c =
    let n = c.min-n.result in
    let s = c.args.s.now.terms in
    let after = c.copy_from_slice.ensures.after in
    copied_as n s _ (omega (arith, c.min-n.ensures))
    (omega (arith, c.min-n.ensures, ap length after, c.copy_from_slice.ensures.len, length-take n s, length-take n (replicate 16 zero_term)))
    (ap (λ x. x ++ drop n (replicate 16 zero_term)) after)
    ∙ ap (λ k. as_sum (take k s)) c.min-n.ensures
