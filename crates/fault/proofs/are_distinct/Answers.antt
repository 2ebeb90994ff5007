-- `fault::are_distinct` is whether records have different numbers: those from a record on do where all do. Assumes nothing.
use Rattle.std.proofs.Common.{rules, tests, refl, sym, ◌∙◌, nat_eq, Some}
use Rattle.std.specs.Option.{option_eq}
use Rattle.std.proofs.lemmas.Iterator.{YieldsList-from_range}
use Rattle.std.proofs.lemmas.Iterator.Search.{any_from_yields_List}
use Rattle.fault.proofs.Search.{passes, twice, once, all_differ}
use Rattle.fault.proofs.are_distinct.Goals as goal

pub loop-i-init : goal.loop-i-init
loop-i-init g c f a = refl

pub loop-i-preserved-in_default : goal.loop-i-preserved-in_default
loop-i-preserved-in_default g c f a = passes f _ _ c.loop-i-test.true (sym (a _ _ c.in_default.ensures)) ∙ c.loop-i.invariant f a

pub returns-then-any : goal.returns-then-any
returns-then-any g c f a =
    let r = any_from_yields_List (λ j. option_eq nat_eq (f j) (Some c.in-Some.x)) _ _ c.any.result c.any.ensures.ran (YieldsList-from_range _ _ _ refl refl) (λ x b q k. search (rules, tests)) in
    twice f _ _ c.loop-i-test.true (sym (a _ _ c.in-Some.ensures)) r c.if-any.true ∙ c.loop-i.invariant f a

pub loop-i-preserved : goal.loop-i-preserved
loop-i-preserved g c f a =
    let r = any_from_yields_List (λ j. option_eq nat_eq (f j) (Some c.in-Some.x)) _ _ c.any.result c.any.ensures.ran (YieldsList-from_range _ _ _ refl refl) (λ x b q k. search (rules, tests)) in
    once f _ _ c.loop-i-test.true (sym (a _ _ c.in-Some.ensures)) r c.if-any.false ∙ c.loop-i.invariant f a

pub returns : goal.returns
returns g c f a = sym (all_differ f _ _ c.loop-i-test.false) ∙ c.loop-i.invariant f a
