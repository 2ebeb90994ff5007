-- What the program prints for three images. 01, "Bench examples": "The checking program on M, M, K prints the line `0 0 0` (number, image,
-- record)". Assumes nothing.
use Rattle.std.specs.Prelude.{ℕ, List}
use Rattle.files.specs.Lines.{three_of}
use Rattle.model.specs.Judgement.{verdict}
use Rattle.judge.specs.Judging.{answer_of}

-- The line of the model's verdict on two tables and a correspondence: its number, image and record.
unfoldable pub verdict_text : List ℕ → List ℕ → List ℕ → List ℕ
verdict_text first second list =
    let answer = answer_of (verdict first second list) in
    three_of answer.number answer.image answer.«record»
