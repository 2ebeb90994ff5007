-- `sum::put_before` puts a term before a place, by a shift up. Assumes nothing.
use Rattle.std.proofs.Common.{◌∙◌, sym, arith, ap, length, take, drop, ◌+◌, ◌-◌, ◌∷◌, ◌++◌}
use lib.ListN.{length-set}
use lib.Seq.{take-take}
use Rattle.std.proofs.lemmas.List.{take_all}
use Rattle.sum.specs.Packed.{zero_term}
use Rattle.sum.proofs.Lists.{open_step, open_end}
use Rattle.sum.proofs.put_before.Goals as goal

pub loop-j-preserved : goal.loop-j-preserved
loop-j-preserved c = (open_step _ _ _ _ _ _ _ zero_term c.loop-j.invariant.0 c.loop-j-test.true, rw length-set c.loop-j.invariant.1)

pub returns : goal.returns
returns c =
    let n = c.loop-j.invariant.1 in
    sym (take_all (length c.args.ts.now - 1 + 1) _ (simp length-set (omega (arith, n, c.requires))))
    ∙ open_end c.args.i (length c.args.ts.now - 1) c.args.t c.args.ts.now c.loop-j.ts c.loop-j.carry c.loop-j.j c.loop-j.invariant.0 c.loop-j-test.false
    ∙ ap (λ r. r ++ c.args.t ∷ drop c.args.i (take (length c.args.ts.now - 1) c.args.ts.now)) (take-take c.args.i (length c.args.ts.now - 1) c.args.ts.now (omega (arith, c.requires)))
