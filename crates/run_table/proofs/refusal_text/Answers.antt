-- `run_table::refusal_text` meets its contract: the line of an answer takes at most 33 bytes. Assumes nothing.
use native.Mathlib.Omega.{arith}
use Rattle.files.proofs.Lined.{answer_text}
use Rattle.run_table.proofs.refusal_text.Goals as goal

pub returns : goal.returns
returns c =
    let line = c.answer_line.ensures in
    let h = answer_text c.args.number c.args.image c.args.«record» c.args.text.now (line.value, line.text_after) (omega arith) (omega arith) (omega arith) (omega (arith, c.requires)) in
    record { value = h.0; text_after = h.1.0; front = h.1.1 }
