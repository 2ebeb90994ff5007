-- `fault::first_fault` is the first finding along an area: what is found from a record on is what is found in all. Assumes nothing.
use mathlib.Core.Path.{refl}
use Rattle.std.proofs.lemmas.Result.{err_from_is_err_and}
use Rattle.fault.proofs.Along.{along_start, along_fine, along_broken, along_end}
use Rattle.fault.proofs.first_fault.Goals as goal

pub loop-i-init : goal.loop-i-init
loop-i-init g c f a = along_start f _

pub returns-in_err-check : goal.returns-in_err-check
returns-in_err-check g c f a =
    let p = err_from_is_err_and c.from_residual.result c.from_residual.ensures.1 in
    rw (p.1, p.2) (along_broken f _ _ (c.loop-i.invariant f a) c.loop-i-test.true (a _ _ c.loop-i-test.true c.in_err-check.ensures) refl)

pub loop-i-preserved : goal.loop-i-preserved
loop-i-preserved g c f a = along_fine f _ _ (c.loop-i.invariant f a) c.loop-i-test.true (a _ _ c.loop-i-test.true c.in_ok-check.ensures) refl

pub returns : goal.returns
returns g c f a = along_end f _ _ (c.loop-i.invariant f a) c.loop-i-test.false
