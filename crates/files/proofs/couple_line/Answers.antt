-- `files::couple_line` meets its contract: a port takes at most ten bytes, and a signed number eleven. Assumes nothing.
use native.Mathlib.Omega.{arith}
use mathlib.Core.Path.{◌≡◌, ◌∙◌, ap}
use mir.Syntax.{w64}
use borrow.Author.Rules.{rules}
use Prim.Native.Nat.{ℕ}
use lib.ListN.{length, length-append}
use Rattle.std.proofs.lemmas.Fmt.{length-decimal-le}
use Rattle.std.proofs.lemmas.Int.{to_z-of_z}
use Rattle.files.specs.Lines.{couple_line}
use Rattle.files.proofs.Print.{signed_own, printed_length}
use Rattle.files.proofs.Lined.{couple_pushed}
use Rattle.files.proofs.couple_line.Goals as goal

pub push-requires : goal.push-requires
push-requires c = omega (arith, length-decimal-le 10, ap length c.new-line.ensures)

-- What std writes of the signed number.

pub push-requires-2 : goal.push-requires-2
push-requires-2 c =
    let e = to_z-of_z w64 c.signed.result (search rules) in
    let n = printed_length c.args.x (omega arith) in
    let m = ap length c.push.ensures in
    rw (e, c.signed.ensures, signed_own c.args.x (omega arith))
    (omega (arith, length-decimal-le 10, length-append {A = ℕ}, m, ap length c.new-line.ensures))

pub returns : goal.returns
returns c =
    let e = to_z-of_z w64 c.signed.result (search rules) in
    let f = rw (e, c.signed.ensures, signed_own c.args.x (omega arith)) at c.push-2.ensures in
    let g = couple_pushed c.args.port c.args.x c.new-line.ensures c.push.ensures f (omega arith) in
    let h : c.as_bytes.result.now ≡ couple_line c.args.port c.args.x = c.as_bytes.ensures.value ∙ c.as_str.ensures.value ∙ g in
    record { value = rw h at c.append.ensures.value; text_after = rw h at c.append.ensures.out_after }
