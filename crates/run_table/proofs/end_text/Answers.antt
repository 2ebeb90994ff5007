-- `run_table::end_text` meets its contract: the end takes at most 37 bytes. Assumes nothing.
use native.Mathlib.Omega.{arith}
use Rattle.files.proofs.Lined.{length_end}
use Rattle.run_table.proofs.Forming.{end_formed}
use Rattle.run_table.proofs.end_text.Goals as goal

pub returns : goal.returns
returns c =
    let number = c.args.number in
    let state = c.args.state in
    let edges = c.args.edges in
    let couples = c.couple_lines-at.ensures in
    let line = c.end_line.ensures in
    let long = length_end number state edges (omega arith) (omega arith) (omega arith) in
    let h = end_formed number state edges c.args.words.now c.args.text.now (couples.value, (couples.text_after, couples.upper_bound)) (line.value, line.text_after) c.requires long in
    record { value = h.0; text_after = h.1.0; front = h.1.1 }
