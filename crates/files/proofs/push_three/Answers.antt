-- `files::push_three` meets its contract: a number takes at most ten bytes. Assumes nothing.
use native.Mathlib.Omega.{arith}
use mathlib.Core.Path.{ap}
use Prim.Native.Nat.{ℕ}
use lib.ListN.{length, length-append}
use Rattle.std.proofs.lemmas.Fmt.{length-decimal-le}
use Rattle.files.proofs.Lined.{three_pushed}
use Rattle.files.proofs.push_three.Goals as goal

pub push-requires : goal.push-requires
push-requires c = omega (arith, length-decimal-le 10)

pub push-requires-2 : goal.push-requires-2
push-requires-2 c = omega (arith, length-decimal-le 10, length-append {A = ℕ}, ap length c.push.ensures)

pub push-requires-3 : goal.push-requires-3
push-requires-3 c = omega (arith, length-decimal-le 10, length-append {A = ℕ}, ap length c.push.ensures, ap length c.push-2.ensures)

pub returns : goal.returns
returns c = three_pushed c.args.a c.args.b c.args.c c.args.line.now.bytes c.push.ensures c.push-2.ensures c.push-3.ensures (omega arith) (omega arith) (omega arith)
