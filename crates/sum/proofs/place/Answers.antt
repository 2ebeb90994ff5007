-- `sum::place` is the first place whose symbols do not precede the given ones. Assumes nothing.
use Rattle.std.proofs.Common.{◌≡◌, ◌∙◌, ltb, true, false, rules}
use borrow.Author.Tests.{tests}
use Rattle.std.proofs.lemmas.Iterator.{IsFirst-from_position, YieldsList-from_slice}
use Rattle.sum.proofs.Insertion.{place_found}
use Rattle.sum.proofs.place.Goals as goal

pub returns-clause-at : goal.returns-clause-at
returns-clause-at c =
    c.unwrap_or.ensures
    ∙ place_found c.args.mono c.args.ts.now c.position.result
    (IsFirst-from_position _ _ _ (λ t. ltb t.mono c.args.mono ≡ false) (λ t. ltb t.mono c.args.mono ≡ true) c.position.ensures.ran (YieldsList-from_slice c.args.ts.now c.iter.ensures.rest)
    (λ x q k. search (rules, tests)) (λ x q k. search (rules, tests)))
