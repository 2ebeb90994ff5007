-- `check_tables::verdict_text` meets its contract: the line of an answer takes at most 33 bytes. Assumes nothing.
use native.Mathlib.Omega.{arith}
use Rattle.files.proofs.Lined.{answer_text}
use Rattle.check_tables.specs.Text.{verdict_text}
use Rattle.check_tables.proofs.verdict_text.Goals as goal

pub returns : goal.returns
unfolding verdict_text
returns c =
    let a = c.judge-answer.result in
    let written = c.answer_line.ensures in
    let h = answer_text a.number a.image a.«record» c.args.text.now (written.value, written.text_after) (omega arith) (omega arith) (omega arith) c.requires in
    rw (← c.judge-answer.ensures) (record { value = h.0; text_after = h.1.0; front = h.1.1 })
