-- `files::append` meets its contract. Assumes nothing.
use native.Mathlib.Omega.{arith}
use Prim.Native.Nat.{◌+◌, ◌-◌}
use mathlib.Core.Path.{◌≡◌}
use lib.ListN.{length}
use lib.Seq.{drop-drop}
use Rattle.files.proofs.Storing.{roomy}
use Rattle.files.proofs.append.Goals as goal

pub returns-clause-out_after : goal.returns-clause-out_after
returns-clause-out_after c =
    let h = roomy c.args.at c.args.text.now c.args.out.now (omega arith) in
    let n : c.args.at + length c.args.text.now - c.args.at ≡ length c.args.text.now = omega arith in
    rw (c.copy_from_slice.ensures.after, n, drop-drop) h
