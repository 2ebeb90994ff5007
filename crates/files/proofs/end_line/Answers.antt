-- `files::end_line` meets its contract: the three numbers stand behind four bytes. Assumes nothing.
use mathlib.Core.Path.{◌≡◌, refl, ◌∙◌}
use Rattle.files.specs.Lines.{end_line}
use Rattle.files.proofs.end_line.Goals as goal

pub returns : goal.returns
unfolding end_line
returns c =
    let h : c.as_bytes.result.now ≡ end_line c.args.number c.args.state c.args.edges =
    c.as_bytes.ensures.value ∙ c.as_str.ensures.value ∙ c.push_three.ensures ∙ rw (c.push_str.ensures.bytes, c.new-line.ensures) refl in
    record { value = rw h at c.append.ensures.value; text_after = rw h at c.append.ensures.out_after }
