-- `run_table::couple_lines` meets its contract, by the laws of `Forming`. Assumes nothing.
use Prim.Native.Nat.{◌/◌}
use native.Mathlib.Omega.{arith}
use borrow.Author.Rules.{rules}
use lib.ListN.{length}
use Rattle.run_table.proofs.Forming.{forming_start, forming_step, forming_end, pair_at}
use Rattle.run_table.proofs.couple_lines.Goals as goal

pub loop-couple-init : goal.loop-couple-init
loop-couple-init c = forming_start c.args.words.now c.args.text.now

pub loop-couple-preserved : goal.loop-couple-preserved
loop-couple-preserved c =
    let i = c.loop-couple.couple-index in
    let line = c.couple_line-at.ensures in
    let p = pair_at c.args.words.now (length c.args.words.now / 2) i (omega arith) (omega arith) in
    let q = rw (c.as_chunks.ensures.front, p.0, p.1) at line.value in
    let s = rw (c.as_chunks.ensures.front, p.0, p.1) at line.text_after in
    forming_step c.loop-couple.invariant (omega arith) (search rules) (search rules) c.requires (q, s)

pub returns : goal.returns
returns c =
    let h = forming_end c.loop-couple.invariant (omega arith) (omega arith) in
    record { value = h.0; text_after = h.1.0; upper_bound = h.1.1 }
