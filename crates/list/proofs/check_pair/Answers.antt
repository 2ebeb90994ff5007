-- `list::check_pair` is the finding of a pair. Assumes nothing.
use Rattle.std.proofs.Common.{rules, refl, Some}
use native.Mathlib.Omega.{arith}
use Rattle.list.specs.Checks.{link_record}
use Rattle.list.proofs.Findings.{pair_broken, pair_range, pair_once, pair_twice}
use Rattle.list.proofs.Seconds.{seconds_distinct}
use Rattle.list.proofs.check_pair.Goals as goal

pub returns-then-not-pair_fits : goal.returns-then-not-pair_fits
returns-then-not-pair_fits c = pair_broken _ _ _ c.pair-here.ensures c.pair_fits.ensures c.if-not-pair_fits.true

pub overflow_add-end : goal.overflow_add-end
overflow_add-end c = omega (arith, pair_range _ _ _ c.pair-here.ensures c.pair_fits.ensures c.if-not-pair_fits.false)

pub returns-then-not-are_distinct : goal.returns-then-not-are_distinct
returns-then-not-are_distinct c =
    let e = c.are_distinct.ensures (λ j. Some (link_record c.args.list.now c.args.limits.links_at j).second) (λ j r q. search rules) in
    pair_twice _ _ _ c.pair-here.ensures c.pair_fits.ensures c.if-not-pair_fits.false (seconds_distinct _ _ _ _ refl e) c.if-not-are_distinct.true

pub returns : goal.returns
returns c =
    let e = c.are_distinct.ensures (λ j. Some (link_record c.args.list.now c.args.limits.links_at j).second) (λ j r q. search rules) in
    pair_once _ _ _ c.pair-here.ensures c.pair_fits.ensures c.if-not-pair_fits.false (seconds_distinct _ _ _ _ refl e) c.if-not-are_distinct.false
