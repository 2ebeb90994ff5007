-- `files::image` meets its contract, by what `words` answers. Assumes nothing.
use mathlib.Core.Path.{◌∙◌, ap}
use native.Mathlib.Omega.{arith}
use Rattle.std.specs.Result.{result_unwrap_or}
use Rattle.files.proofs.Bytes.{lent_other}
use Rattle.files.proofs.image.Goals as goal

pub returns : goal.returns
returns c =
    let h = lent_other 0 c.args.bytes.now c.args.out.now c.words.ensures.value c.words.ensures.out_after (c.unwrap_or.ensures ∙ ap (result_unwrap_or c.words.result) (omega arith)) (omega arith) in
    record { value = h.0; out_after = h.1; front = h.2 }
