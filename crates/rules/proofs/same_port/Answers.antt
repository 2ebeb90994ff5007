-- `rules::same_port` is whether the sums written to a port are the same, in order. Assumes nothing.
use Rattle.std.proofs.Common.{◌∙◌, map, rules}
use native.Mathlib.Omega.{arith}
use borrow.Author.Tests.{tests, ne_eqb}
use Rattle.std.proofs.lemmas.Iterator.{YieldsList-from_slice, YieldsList-from_zip}
use Rattle.std.proofs.lemmas.Iterator.Search.{all_from_yields_List}
use Rattle.model.specs.Sum.{same}
use Rattle.sum.specs.declared.Sum.{Sum}
use Rattle.sum.specs.Packed.{same_k, terms_of}
use Rattle.side.specs.Parts.{written_on}
use Rattle.rules.proofs.Members.{same_zip, same_lengths}
use Rattle.rules.proofs.same_port.Goals as goal

pub returns-then-n-m : goal.returns-then-n-m
unfolding written_on
returns-then-n-m c =
    all_from_yields_List (λ (p : Sum × Sum). same_k (terms_of p.0) (terms_of p.1)) c.all.new.self _ _ c.all.ensures.ran
    (YieldsList-from_zip (YieldsList-from_slice c.as_slice-one.result.now cc) (YieldsList-from_slice c.as_slice-other.result.now cc))
    (λ x b q k. search (rules, tests))
    ∙ same_zip _ _ (omega arith) ∙ (λ i. same same_k (map terms_of (c.as_slice-one.ensures.value i)) (map terms_of (c.as_slice-other.ensures.value i)))

pub returns-else-n-m : goal.returns-else-n-m
unfolding written_on
returns-else-n-m c = ne_eqb _ _ c.if-n-m.false ∙ same_lengths _ _ _ _ (λ e. omega arith) ∙ (λ i. same same_k (map terms_of (c.as_slice-one.ensures.value i)) (map terms_of (c.as_slice-other.ensures.value i)))
