-- `files::words` meets its contract. Assumes nothing.
use mathlib.Core.Path.{◌≡◌, sym, ◌∙◌}
use native.Mathlib.Omega.{arith}
use Prim.Native.Nat.{◌/◌}
use lib.ListN.{length}
use lib.Seq.{take_all}
use Rattle.std.proofs.lemmas.Bool.Decides.{nat_tests}
use Rattle.files.specs.Files.{words_of, by_fit, filled_of}
use Rattle.files.proofs.Bytes.{word_at, front_store, length_words}
use Rattle.files.proofs.words.Goals as goal

pub loop-i-preserved : goal.loop-i-preserved
loop-i-preserved c =
    let n : length (words_of c.args.bytes.now) ≡ length c.as_chunks.result.0.now = omega (arith, length_words c.args.bytes.now) in
    let w = rw (← c.as_chunks.ensures.front) at (word_at c.args.bytes.now (length c.args.bytes.now / 4) c.loop-i.i (omega arith) (omega arith)) in
    rw (c.loop-i.invariant, c.from_le_bytes.ensures ∙ sym w) (front_store (words_of c.args.bytes.now) c.args.out.now c.loop-i.i (omega arith) (omega arith))

pub returns-clause-out_after : goal.returns-clause-out_after
unfolding filled_of by_fit
returns-clause-out_after c =
    let n : c.loop-i.i ≡ length c.args.bytes.now / 4 = omega arith in
    let all = take_all c.loop-i.i (words_of c.args.bytes.now) (omega (arith, length_words c.args.bytes.now)) in
    rw (c.loop-i.invariant, all, n) (grind (arith, nat_tests))
